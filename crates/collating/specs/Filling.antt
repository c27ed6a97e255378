-- What writing a byte string into an area of 16,384 bytes answers.
use Rattle.std.specs.Prelude.{◌≡◌, ℕ, true, false, List, length, Some, None, Option, nat_le}
use Rattle.std.specs.Borrow.{Bor}

-- the string as it stands in the area, or none, where it does not fit
abbrev pub Filled : List ℕ → Option (Bor (List ℕ)) → Type 0
Filled b (Some s) = (nat_le (length b) 16384 ≡ true) × (s.now ≡ b)
Filled b None = nat_le (length b) 16384 ≡ false
