-- What a line means: its cipher, its header hash and its name.
use Rattle.std.specs.Prelude.{◌≡◌, ℕ, ◌≤◌, List, length, Option}
use Rattle.octets.specs.Strings.{Bytes}
use Rattle.expanders.specs.declared.fault.PastReach.{PastReach}
use Rattle.ciphers.specs.Admitted.{Admitted}
use Rattle.ciphers.specs.declared.wide.WideCipher.{Ghosts as Cipher}
use Rattle.hashes.specs.declared.keyed.KeyedHash.{Ghosts as Hash}
use Rattle.sealing.specs.declared.line.Line.{Line}

pub record Meaning : Type 0 where
  pub lowest : ℕ
  pub highest : ℕ
  pub carried : Option PastReach
  pub enc : List ℕ → List ℕ → List ℕ
  pub dec : List ℕ → List ℕ → List ℕ
  pub hash : List ℕ → List ℕ
  pub line : List ℕ

abbrev pub meaning : {C J : Type 0} → Cipher C → Hash J → C → J → List ℕ → Meaning
meaning c j cipher hash line =
    record { lowest = c.lowest cipher; highest = c.highest cipher; carried = c.carried cipher; enc = c.enc cipher; dec = c.dec cipher; hash = j.value hash; line = line }

abbrev pub meaning_of : {C J : Type 0} → Cipher C → Hash J → Line C J → Meaning
meaning_of c j l = meaning c j l.cipher l.hash l.name.bytes

-- the laws that a wide cipher and a keyed hash promise, for a name of 8 bytes
pub record Lawful (m : Meaning) : Type 0 where
  pub least : 16 ≤ m.lowest
  pub most : m.highest ≤ 4112
  pub encsize : (w s : List ℕ) → Admitted m.lowest m.highest w s → length (m.enc w s) ≡ length s
  pub decsize : (w s : List ℕ) → Admitted m.lowest m.highest w s → length (m.dec w s) ≡ length s
  pub decbytes : (w s : List ℕ) → Admitted m.lowest m.highest w s → Bytes (m.dec w s)
  pub undone : (w s : List ℕ) → Admitted m.lowest m.highest w s → m.dec w (m.enc w s) ≡ s
  pub redone : (w s : List ℕ) → Admitted m.lowest m.highest w s → m.enc w (m.dec w s) ≡ s
  pub tagsize : (s : List ℕ) → Bytes s → length (m.hash s) ≡ 16
  pub tagbytes : (s : List ℕ) → Bytes s → Bytes (m.hash s)
  pub named : length m.line ≡ 8
  pub namebytes : Bytes m.line
