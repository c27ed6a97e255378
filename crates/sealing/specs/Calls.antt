-- What plain seal and plain open answer, and what they leave in the areas lent.
use Rattle.std.specs.Prelude.{ℕ, ◌+◌, ◌-◌, ◌^◌, Bool, cond, List, ◌++◌, length, take, drop, Ok, Err, Option, Result, nat_lt}
use Rattle.octets.specs.Strings.{be_value, same}
use Rattle.expanders.specs.declared.fault.PastReach.{PastReach}
use Rattle.ciphers.specs.Refusals.{verdict}
use Rattle.ciphers.specs.declared.fault.CipherFault.{CipherFault}
use Rattle.sealing.specs.Meaning.{Meaning}
use Rattle.sealing.specs.Sealing.{tag}
use Rattle.sealing.specs.declared.fault.SealingFault.{SealingFault}
use Rattle.sealing.specs.declared.fault.SealingFault.TheVariants.{RecordShort, HeaderLong, Cipher, WorkShort, AreaShort, NumberOutside, NoSealing}
use Rattle.sealing.specs.declared.plain_open.Opened.{Opened}

-- `r` where a test is not met, else what follows
abbrev pub unless : {T : Type 0} → Bool → SealingFault → Result T SealingFault → Result T SealingFault
unless b f r = cond b (Err f) r

abbrev pub admitting : {T : Type 0} → Result (Unit {0}) CipherFault → Result T SealingFault → Result T SealingFault
admitting (Ok x) r = r
admitting (Err f) r = Err (Cipher f)

-- a number from 1 to 2^40
abbrev pub numbered : {T : Type 0} → ℕ → Result T SealingFault → Result T SealingFault
numbered n r = unless (nat_lt n 1) (NumberOutside n) (unless (nat_lt (2 ^ 40) n) (NumberOutside n) r)

-- what is judged first: the lengths of header, text and record area
abbrev pub fitting : Meaning → ℕ → ℕ → ℕ → Result ℕ SealingFault
fitting m header text area =
    unless (nat_lt 256 header) (HeaderLong header)
    (admitting (verdict m.lowest m.highest m.carried (16 + text))
    (unless (nat_lt area (text + 24)) (AreaShort (text + 24)) (Ok (text + 24))))

abbrev pub then_numbered : ℕ → Result ℕ SealingFault → Result ℕ SealingFault
then_numbered n (Ok k) = numbered n (Ok k)
then_numbered n (Err f) = Err f

-- plain seal
abbrev pub sealing : Meaning → ℕ → ℕ → ℕ → ℕ → Result ℕ SealingFault
sealing m n header text area = then_numbered n (fitting m header text area)

-- what was written stands at the front, and the rest stays; a refusal leaves all
abbrev pub placed : {T E : Type 0} → Result T E → List ℕ → List ℕ → List ℕ
placed (Ok x) area written = written ++ drop (length written) area
placed (Err f) area written = area

-- a record past its number, deciphered under it: the tag and the text, if it is a sealing
abbrev pub plain : Meaning → List ℕ → List ℕ
plain m r = m.dec (take 8 r) (drop 8 r)

-- the number at the front of a record
abbrev pub number_of : List ℕ → ℕ
number_of r = be_value (take 8 r)

-- the text of a sealing
abbrev pub text_of : Meaning → List ℕ → List ℕ
text_of m r = drop 16 (plain m r)

-- what is judged first: the lengths of record, header, work area and text area, and then the number
abbrev pub examining : ℕ → ℕ → Option PastReach → ℕ → List ℕ → ℕ → ℕ → Result ℕ SealingFault
examining lowest highest carried header r work text =
    unless (nat_lt (length r) 8) (RecordShort (length r))
    (unless (nat_lt 256 header) (HeaderLong header)
    (admitting (verdict lowest highest carried (length r - 8))
    (unless (nat_lt work (length r - 8)) (WorkShort (length r - 8))
    (unless (nat_lt text (length r - 24)) (AreaShort (length r - 24))
    (numbered (number_of r) (Ok (number_of r)))))))

-- what is judged last: the tag in the record is that of the header
abbrev pub tagged : Bool → List ℕ → Result ℕ SealingFault → Result Opened SealingFault
tagged b r (Ok n) = cond b (Ok (record { number = n; length = length r - 24 })) (Err NoSealing)
tagged b r (Err f) = Err f

-- plain open
abbrev pub opening : Meaning → List ℕ → List ℕ → ℕ → ℕ → Result Opened SealingFault
opening m header r work text =
    tagged (same (take 16 (plain m r)) (tag m header)) r
    (examining m.lowest m.highest m.carried (length header) r work text)
