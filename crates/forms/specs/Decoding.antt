-- What writing a byte string into an area answers, and what it leaves there.
use Rattle.std.specs.Prelude.{ℕ, cond, List, ◌++◌, length, drop, Ok, Err, Result, nat_le}
use Rattle.forms.specs.declared.hex.TooShort.{TooShort}

-- how many bytes were written, or the length that an area of `room` bytes would need
abbrev pub decoded : List ℕ → ℕ → Result ℕ TooShort
decoded bs room = cond (nat_le (length bs) room) (Ok (length bs)) (Err (record { needed = length bs }))

-- the bytes at the front and the rest as it was, or all as it was where they do not fit
abbrev pub placed : List ℕ → List ℕ → List ℕ
placed bs area = cond (nat_le (length bs) (length area)) (bs ++ drop (length bs) area) area
