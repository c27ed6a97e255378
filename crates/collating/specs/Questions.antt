-- The same question, expectation or vector with other byte strings.
use Rattle.std.specs.Prelude.{List, [], ◌∷◌}
use Rattle.collating.specs.declared.outcome.Outcome.{Outcome}
use Rattle.collating.specs.declared.outcome.Outcome.TheVariants.{Bytes, Refused}
use Rattle.collating.specs.declared.question.CipherKeys.{CipherKeys}
use Rattle.collating.specs.declared.question.Ciphering.{Ciphering}
use Rattle.collating.specs.declared.question.Question.{Question}
use Rattle.collating.specs.declared.question.Question.TheVariants.{Aes, Hash, ChaCha, Subkey, Expand, Cipher, Seal}
use Rattle.collating.specs.declared.question.Sealing.{Sealing}
use Rattle.collating.specs.declared.question.Stretch.{Stretch}
use Rattle.collating.specs.declared.question.Vector.{Vector}

abbrev pub keys_with : {S T : Type 0} → (S → T) → CipherKeys S → CipherKeys T
keys_with f k = record { pile = k.pile; hash_key = f k.hash_key; expander_key = f k.expander_key }

abbrev pub stretch_with : {S T : Type 0} → (S → T) → Stretch S → Stretch T
stretch_with f s = record { kind = s.kind; key = f s.key; domain = s.domain; tweak = s.tweak; input = s.input; from = s.from; count = s.count }

abbrev pub ciphering_with : {S T : Type 0} → (S → T) → Ciphering S → Ciphering T
ciphering_with f p = record { direction = p.direction; keys = keys_with f p.keys; tweak = p.tweak; string = f p.string }

abbrev pub sealing_with : {S T : Type 0} → (S → T) → Sealing S → Sealing T
sealing_with f s = record { keys = keys_with f s.keys; header_key = f s.header_key; line = s.line; number = s.number; header = f s.header; text = f s.text }

abbrev pub asked : {S T : Type 0} → (S → T) → Question S → Question T
asked f (Aes key block) = Aes (f key) block
asked f (Hash kind key s) = Hash kind (f key) (f s)
asked f (ChaCha key counter nonce) = ChaCha (f key) counter nonce
asked f (Subkey key input) = Subkey (f key) input
asked f (Expand s) = Expand (stretch_with f s)
asked f (Cipher p) = Cipher (ciphering_with f p)
asked f (Seal s) = Seal (sealing_with f s)

-- the byte strings
abbrev pub strings : {S : Type 0} → Question S → List S
strings (Aes key block) = key ∷ []
strings (Hash kind key s) = key ∷ s ∷ []
strings (ChaCha key counter nonce) = key ∷ []
strings (Subkey key input) = key ∷ []
strings (Expand s) = s.key ∷ []
strings (Cipher p) = p.keys.hash_key ∷ p.keys.expander_key ∷ p.string ∷ []
strings (Seal s) = s.keys.hash_key ∷ s.keys.expander_key ∷ s.header_key ∷ s.header ∷ s.text ∷ []

abbrev pub wanted : {S T : Type 0} → (S → T) → Outcome S → Outcome T
wanted f (Bytes s) = Bytes (f s)
wanted f (Refused n) = Refused n

abbrev pub told : {S T : Type 0} → (S → T) → Vector S → Vector T
told f v = record { question = asked f v.question; expected = wanted f v.expected }
