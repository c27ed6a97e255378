-- Which keys the parts take, and which they hold.
use Rattle.std.specs.Prelude.{ℕ, Bool, List, length, Ok, Err, Result, ◌==◌, nat_le}
use Rattle.refusals.specs.declared.KeyLength.{KeyLength}
use Rattle.aes.specs.Key.{key_of, admitted}
use Rattle.from_key.specs.Taken.{sized, taken}
use Rattle.hashes.specs.Keys.{polyval_key, cmac_key}
use Rattle.hashes.specs.declared.cmac.Cmac.{Cmac}
use Rattle.hashes.specs.declared.polyval.Polyval.{Polyval}
use Rattle.expanders.specs.declared.keys.AesExpander.{AesExpander}
use Rattle.expanders.specs.declared.keys.ChaChaExpander.{ChaChaExpander}
use Rattle.ciphers.specs.declared.ddd.Ddd.{Ddd}
use Rattle.forms.specs.Spelling.{Ends}
use Rattle.forms.specs.declared.opening.Pile.{Pile}
use Rattle.forms.specs.declared.opening.Pile.TheVariants.{A, B}

-- the parts of the two piles
abbrev pub CipherA : Type 0
CipherA = Ddd Polyval AesExpander

abbrev pub CipherB : Type 0
CipherB = Ddd Cmac ChaChaExpander

-- the keys of the parts of an end
pub record Keys : Type 0 where
  pub hash : List ℕ
  pub expander : List ℕ
  pub header : List ℕ

-- the keys that the parts of an end hold, as `hash` and `expander` read them
abbrev pub keys_in : {H E : Type 0} → (H → List ℕ) → (E → List ℕ) → Ddd H E → H → Keys
keys_in hash expander c j = record { hash = hash c.hash; expander = expander c.expander; header = hash j }

abbrev pub keys_a : CipherA → Polyval → Keys
keys_a c j = keys_in (λ h. polyval_key h) (λ e. key_of e.key) c j

abbrev pub keys_b : CipherB → Cmac → Keys
keys_b c j = keys_in (λ h. cmac_key h) (λ e. e.key) c j

-- a key of at most n bytes
abbrev pub up_to : ℕ → List ℕ → Result (List ℕ) KeyLength
up_to n key = sized (nat_le (length key) n) key

abbrev pub hash_key_taken : List ℕ → Result (List ℕ) KeyLength
hash_key_taken key = sized (length key == 16) key

abbrev pub aes_key_taken : List ℕ → Result (List ℕ) KeyLength
aes_key_taken key = sized (admitted (length key)) key

abbrev pub chacha_key_taken : List ℕ → Result (List ℕ) KeyLength
chacha_key_taken key = sized (length key == 32) key

abbrev pub expander_key_taken : Pile → List ℕ → Result (List ℕ) KeyLength
expander_key_taken A key = aes_key_taken key
expander_key_taken B key = chacha_key_taken key

abbrev pub then_key : {T : Type 0} → Result (List ℕ) KeyLength → (List ℕ → Result T KeyLength) → Result T KeyLength
then_key (Ok k) next = next k
then_key (Err e) next = Err e

-- the keys of a first line, in the order hash, expander, header hash
abbrev pub keys_of : Pile → Ends → Result Keys KeyLength
keys_of p o =
    then_key (hash_key_taken o.hash_key) (λ h. then_key (expander_key_taken p o.expander_key) (λ e. then_key (hash_key_taken o.header_key) (λ j.
    Ok (record { hash = h; expander = e; header = j }))))

-- the same, where both hashes take these lengths and the expander those
abbrev pub keys_by : (ℕ → Bool) → (ℕ → Bool) → Ends → Result Keys KeyLength
keys_by hash expander o =
    then_key (taken hash o.hash_key) (λ h. then_key (taken expander o.expander_key) (λ e. then_key (taken hash o.header_key) (λ j.
    Ok (record { hash = h; expander = e; header = j }))))

-- the keys that parts hold
abbrev pub held_by : {H E : Type 0} → (H → List ℕ) → (E → List ℕ) → Result (Ddd H E × H) KeyLength → Result Keys KeyLength
held_by hash expander (Ok p) = Ok (keys_in hash expander p.0 p.1)
held_by hash expander (Err e) = Err e
