-- When the parts of a cipher are made: first the hash, then the expander.
use Rattle.std.specs.Prelude.{ℕ, List, Ok, Err, Result}
use Rattle.refusals.specs.declared.KeyLength.{KeyLength}
use Rattle.ciphers.specs.declared.ddd.Ddd.{Ddd}

-- the keys of the hash and of the expander
pub record PartKeys : Type 0 where
  pub hash : List ℕ
  pub expander : List ℕ

-- both keys, or the first refusal
abbrev pub both : Result (List ℕ) KeyLength → Result (List ℕ) KeyLength → Result PartKeys KeyLength
both (Ok hash) (Ok expander) = Ok (record { hash = hash; expander = expander })
both (Ok hash) (Err e) = Err e
both (Err e) expander = Err e

-- the keys that the parts of a cipher hold
abbrev pub keys_in : {H E : Type 0} → (H → List ℕ) → (E → List ℕ) → Ddd H E → PartKeys
keys_in hash expander c = record { hash = hash c.hash; expander = expander c.expander }

abbrev pub held_by : {H E : Type 0} → (H → List ℕ) → (E → List ℕ) → Result (Ddd H E) KeyLength → Result PartKeys KeyLength
held_by hash expander (Ok c) = Ok (keys_in hash expander c)
held_by hash expander (Err e) = Err e
