-- Every refusal by its number, with its place, its detail and what it carries.
use Rattle.std.specs.Prelude.{ℕ, ◌^◌, Some, None}
use Rattle.refusals.specs.declared.Place.{Place}
use Rattle.refusals.specs.declared.Place.TheVariants.{Part, Sender, Expander, Cipher, Sealing, Receiver}
use Rattle.refusals.specs.declared.Reason.{Reason}
use Rattle.refusals.specs.declared.Refusal.{Refusal}

abbrev pub because : ℕ → Place → ℕ → Reason
because number place detail = record { number = number; place = place; detail = detail }

-- a refusal that carries none
abbrev pub alone : Reason → Refusal
alone r = record { reason = r; carried = None }

-- a refusal that carries another
abbrev pub carrying : Reason → Reason → Refusal
carrying r inner = record { reason = r; carried = Some inner }

-- 1: a key has a wrong length, which this is
abbrev pub key_length : ℕ → Reason
key_length n = because 1 Part n

-- 2: the first number of a sender is 0 or above 2^40; it is this
abbrev pub first_number : ℕ → Reason
first_number n = because 2 Sender n

-- 3: the domain, which this is, is not 1 or 2
abbrev pub domain : ℕ → Reason
domain n = because 3 Expander n

-- 4: the stretch ends past the reach, which this is
abbrev pub past_reach : ℕ → Reason
past_reach n = because 4 Expander n

-- 5: the string is shorter than the lowest length, which this is
abbrev pub below_lowest : ℕ → Reason
below_lowest n = because 5 Cipher n

-- 6: the string is longer than the highest length, which this is
abbrev pub above_highest : ℕ → Reason
above_highest n = because 6 Cipher n

-- 7: the record has under 8 bytes; it has this many
abbrev pub record_short : ℕ → Reason
record_short n = because 7 Sealing n

-- 8: the header has over 256 bytes; it has this many
abbrev pub header_long : ℕ → Reason
header_long n = because 8 Sealing n

-- 9: the work area is too short; this many bytes are needed
abbrev pub work_short : ℕ → Reason
work_short n = because 9 Sealing n

-- 10: the record area or the text area is too short; this many bytes are needed
abbrev pub area_short : ℕ → Reason
area_short n = because 10 Sealing n

-- 11: the number, which this is, is 0 or above 2^40
abbrev pub number_outside : ℕ → Reason
number_outside n = because 11 Sealing n

-- 12: the record is no sealing
abbrev pub no_sealing : Reason
no_sealing = because 12 Sealing 0

-- 13: a ticket is out, with this number
abbrev pub ticket_out : ℕ → Reason
ticket_out n = because 13 Sender n

-- 14: the numbers are used up, to 2^40
abbrev pub used_up : Reason
used_up = because 14 Sender (2 ^ 40)

-- 15: the ticket brought, with this number, is not the one that is out
abbrev pub wrong_ticket : ℕ → Reason
wrong_ticket n = because 15 Sender n

-- 16: the number is 64 or more below the highest, which this is
abbrev pub too_old : ℕ → Reason
too_old n = because 16 Receiver n

-- 17: the number, which this is, was accepted earlier
abbrev pub accepted_earlier : ℕ → Reason
accepted_earlier n = because 17 Receiver n
