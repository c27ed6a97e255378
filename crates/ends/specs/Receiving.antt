-- What a receiver answers, and where it is left.
use Rattle.std.specs.Prelude.{◌≡◌, ℕ, List, length, Ok, Err, Result}
use Rattle.ciphers.specs.declared.wide.WideCipher.{Ghosts as Cipher}
use Rattle.hashes.specs.declared.keyed.KeyedHash.{Ghosts as Hash}
use Rattle.sealing.specs.Calls.{examining, opening}
use Rattle.sealing.specs.Meaning as line
use Rattle.sealing.specs.Meaning.{Meaning}
use Rattle.sealing.specs.declared.fault.SealingFault.{SealingFault}
use Rattle.sealing.specs.declared.plain_open.Opened.{Opened}
use Rattle.ends.specs.Sending.{Parts, parts}
use Rattle.ends.specs.Window.{window_of, judging, Accepts}
use Rattle.ends.specs.declared.fault.ReceiverFault.{ReceiverFault}
use Rattle.ends.specs.declared.fault.ReceiverFault.TheVariants.{Sealing, Window}
use Rattle.ends.specs.declared.fault.WindowFault.{WindowFault}
use Rattle.ends.specs.declared.receiver.Receiver.{Receiver}
use Rattle.ends.specs.declared.window.Marks.{Marks}

abbrev pub parts_of : {C J : Type 0} → Receiver C J → Parts C J
parts_of r = parts r.line

abbrev pub marks_of : {C J : Type 0} → Receiver C J → Marks
marks_of r = window_of r.window

-- what its line means
abbrev pub meaning_of : {C J : Type 0} → Cipher C → Hash J → Receiver C J → Meaning
meaning_of c j r = line.meaning_of c j r.line

-- first the sizes and the number, then the window, then the tag
abbrev pub opened : Result Opened SealingFault → Result Opened ReceiverFault
opened (Ok o) = Ok o
opened (Err f) = Err (Sealing f)

abbrev pub windowed : Result (Unit {0}) WindowFault → Result Opened SealingFault → Result Opened ReceiverFault
windowed (Ok x) next = opened next
windowed (Err f) next = Err (Window f)

abbrev pub examined_by : Marks → Result ℕ SealingFault → Result Opened SealingFault → Result Opened ReceiverFault
examined_by w (Ok n) next = windowed (judging w n) next
examined_by w (Err f) next = Err (Sealing f)

abbrev pub receiving : Meaning → Marks → List ℕ → List ℕ → ℕ → ℕ → Result Opened ReceiverFault
receiving m w header r work text =
    examined_by w (examining m.lowest m.highest m.carried (length header) r work text) (opening m header r work text)

-- the number of an accepted record joins those accepted; a refusal leaves all as it was
abbrev pub Marking : Result Opened ReceiverFault → Marks → Marks → Type 0
Marking (Ok o) w w' = Accepts w o.number w'
Marking (Err f) w w' = w' ≡ w
