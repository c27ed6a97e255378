-- What a line of either pile means, from its keys and its name.
use Rattle.std.specs.Prelude.{ℕ, List, Some}
use Rattle.hashes.specs.Cmac.{cmac}
use Rattle.hashes.specs.Polyval.{polyval}
use Rattle.expanders.specs.Sequences.{aes_sequence, chacha_sequence}
use Rattle.ciphers.specs.Ddd.{enc, dec}
use Rattle.ciphers.specs.Refusals.{past_reach}
use Rattle.sealing.specs.Meaning.{Meaning}

-- docked-double-decker over a keyed hash and sequences of 4,096 bytes, with a header hash, for the line of this name
abbrev pub decked : (List ℕ → List ℕ) → (ℕ → List ℕ → List ℕ → List ℕ) → (List ℕ → List ℕ) → List ℕ → Meaning
decked hash sequence header name = record {
  lowest = 32;
  highest = 4112;
  carried = Some (past_reach 4096);
  enc = λ w s. enc hash (λ d i. sequence d w i) s;
  dec = λ w s. dec hash (λ d i. sequence d w i) s;
  hash = header;
  line = name;
}

-- pile a: POLYVAL twice with the AES expander
abbrev pub pile_a : List ℕ → List ℕ → List ℕ → List ℕ → Meaning
pile_a hash expander header name = decked (λ s. polyval hash s) (λ d w i. aes_sequence expander d w i) (λ s. polyval header s) name

-- pile b: CMAC twice with the ChaCha expander
abbrev pub pile_b : List ℕ → List ℕ → List ℕ → List ℕ → Meaning
pile_b hash expander header name = decked (λ s. cmac hash s) (λ d w i. chacha_sequence expander d w i) (λ s. cmac header s) name
