-- What making a part from a key answers.
use Rattle.std.specs.Prelude.{ℕ, Bool, cond, List, length, Ok, Err, Result}
use Rattle.refusals.specs.declared.KeyLength.{KeyLength}

abbrev pub wrong : List ℕ → KeyLength
wrong key = record { 0 = length key }

-- a key, where its length is taken, and else that length
abbrev pub sized : Bool → List ℕ → Result (List ℕ) KeyLength
sized takes key = cond takes (Ok key) (Err (wrong key))

-- a key of a length among those taken
abbrev pub taken : (ℕ → Bool) → List ℕ → Result (List ℕ) KeyLength
taken takes key = sized (takes (length key)) key

-- the key that a part holds, as `of` reads it
abbrev pub held : {P : Type 0} → (P → List ℕ) → Result P KeyLength → Result (List ℕ) KeyLength
held of (Ok p) = Ok (of p)
held of (Err e) = Err e
