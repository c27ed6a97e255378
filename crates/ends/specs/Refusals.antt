-- What each fault of an end tells.
use Rattle.refusals.specs.Table.{alone, first_number, ticket_out, used_up, wrong_ticket, too_old, accepted_earlier}
use Rattle.refusals.specs.declared.Refusal.{Refusal}
use Rattle.sealing.specs.Refusals as sealing
use Rattle.ends.specs.declared.fault.ReceiverFault.{ReceiverFault}
use Rattle.ends.specs.declared.fault.ReceiverFault.TheVariants as receiver
use Rattle.ends.specs.declared.fault.WindowFault.TheVariants.{TooOld, AcceptedEarlier}
use Rattle.ends.specs.declared.fault.SenderFault.{SenderFault}
use Rattle.ends.specs.declared.fault.SenderFault.TheVariants.{Sealing, FirstNumber, TicketOut, UsedUp, WrongTicket}

abbrev pub told : SenderFault → Refusal
told (Sealing f) = sealing.told f
told (FirstNumber n) = alone (first_number n)
told (TicketOut n) = alone (ticket_out n)
told UsedUp = alone used_up
told (WrongTicket n) = alone (wrong_ticket n)

abbrev pub told_receiver : ReceiverFault → Refusal
told_receiver (receiver.Sealing f) = sealing.told f
told_receiver (receiver.Window (TooOld n)) = alone (too_old n)
told_receiver (receiver.Window (AcceptedEarlier n)) = alone (accepted_earlier n)
