-- What the library is to give to a question: the bytes of the published definition, or a refusal.
use Rattle.std.specs.Prelude.{ℕ, ◌+◌, Bool, cond, List, ◌++◌, length, take, drop, Some, Ok, Err, Result, ◌==◌}
use Rattle.refusals.specs.Table.{alone, key_length}
use Rattle.refusals.specs.declared.Refusal.{Refusal}
use Rattle.aes.specs.Cipher.{aes}
use Rattle.aes.specs.Key.{admitted}
use Rattle.chacha.specs.ChaCha20.{block, subkey}
use Rattle.hashes.specs.Cmac.{cmac}
use Rattle.hashes.specs.Polyval.{polyval}
use Rattle.expanders.specs.Refusals as expanders
use Rattle.expanders.specs.Sequences.{aes_sequence, chacha_sequence}
use Rattle.expanders.specs.declared.fault.ExpanderFault.{ExpanderFault}
use Rattle.ciphers.specs.Ddd.{enc, dec}
use Rattle.ciphers.specs.Refusals as ciphers
use Rattle.ciphers.specs.declared.wide.WideCipher.{Ghosts as Wide}
use Rattle.ciphers.specs.declared.fault.CipherFault.{CipherFault}
use Rattle.sealing.specs.Calls.{sealing}
use Rattle.sealing.specs.Meaning.{Meaning}
use Rattle.sealing.specs.Refusals as sealings
use Rattle.sealing.specs.Sealing.{record_of}
use Rattle.sealing.specs.declared.fault.SealingFault.{SealingFault}
use Rattle.forms.specs.declared.opening.Pile.{Pile}
use Rattle.forms.specs.declared.opening.Pile.TheVariants as pile
use Rattle.collating.specs.declared.question.CipherKeys.{CipherKeys}
use Rattle.collating.specs.declared.question.Direction.{Direction}
use Rattle.collating.specs.declared.question.Direction.TheVariants.{Encipher, Decipher}
use Rattle.collating.specs.declared.question.ExpanderKind.{ExpanderKind}
use Rattle.collating.specs.declared.question.ExpanderKind.TheVariants as expander
use Rattle.collating.specs.declared.question.HashKind.{HashKind}
use Rattle.collating.specs.declared.question.HashKind.TheVariants as hash
use Rattle.collating.specs.declared.question.Question.{Question}
use Rattle.collating.specs.declared.question.Question.TheVariants.{Aes, Hash, ChaCha, Subkey, Expand, Cipher, Seal}
use Rattle.collating.specs.declared.question.Stretch.{Stretch}

-- what is given: bytes, or a refusal
abbrev pub Given : Type 0
Given = Result (List ℕ) Refusal

-- a key of a length that is taken, or else refusal 1
abbrev pub keyed : Bool → List ℕ → Given → Given
keyed takes key g = cond takes g (Err (alone (key_length (length key))))

abbrev pub hash_keyed : List ℕ → Given → Given
hash_keyed key g = keyed (length key == 16) key g

abbrev pub chacha_keyed : List ℕ → Given → Given
chacha_keyed key g = keyed (length key == 32) key g

abbrev pub expander_keyed : ExpanderKind → List ℕ → Given → Given
expander_keyed expander.Aes key g = keyed (admitted (length key)) key g
expander_keyed expander.ChaCha key g = chacha_keyed key g

abbrev pub hash_of : HashKind → List ℕ → List ℕ → List ℕ
hash_of hash.Polyval key s = polyval key s
hash_of hash.Cmac key s = cmac key s

abbrev pub sequence_of : ExpanderKind → List ℕ → ℕ → List ℕ → List ℕ → List ℕ
sequence_of expander.Aes key domain tweak input = aes_sequence key domain tweak input
sequence_of expander.ChaCha key domain tweak input = chacha_sequence key domain tweak input

-- the parts of each pile
abbrev pub hash_kind : Pile → HashKind
hash_kind pile.A = hash.Polyval
hash_kind pile.B = hash.Cmac

abbrev pub expander_kind : Pile → ExpanderKind
expander_kind pile.A = expander.Aes
expander_kind pile.B = expander.ChaCha

-- the bytes, unless an expander, a cipher or plain seal refuses
abbrev pub expanding : Result (Unit {0}) ExpanderFault → List ℕ → Given
expanding (Ok x) bytes = Ok bytes
expanding (Err f) bytes = Err (expanders.told f)

abbrev pub ciphering : Result (Unit {0}) CipherFault → List ℕ → Given
ciphering (Ok x) bytes = Ok bytes
ciphering (Err f) bytes = Err (ciphers.told f)

abbrev pub sealed : Result ℕ SealingFault → List ℕ → Given
sealed (Ok n) bytes = Ok bytes
sealed (Err f) bytes = Err (sealings.told f)

-- the longest record
abbrev pub longest : ℕ
longest = 4120

-- a stretch of a sequence of `reach` bytes
abbrev pub stretching : ℕ → (ℕ → List ℕ → List ℕ → List ℕ) → ℕ → List ℕ → List ℕ → ℕ → ℕ → Given
stretching reach sequence domain tweak input from count = expanding (expanders.adding reach domain (from + count)) (take count (drop from (sequence domain tweak input)))

abbrev pub stretch_of : {S : Type 0} → ℕ → (ℕ → List ℕ → List ℕ → List ℕ) → Stretch S → Given
stretch_of reach sequence s = stretching reach sequence s.domain s.tweak s.input s.from s.count

-- one of the two ways of a cipher
abbrev pub directed : {X : Type 0} → Direction → X → X → X
directed Encipher enc dec = enc
directed Decipher enc dec = dec

-- a string, one way through a cipher
abbrev pub through : {C : Type 0} → Wide C → C → Direction → List ℕ → List ℕ → Given
through c cipher direction tweak s = ciphering (ciphers.verdict (c.lowest cipher) (c.highest cipher) (c.carried cipher) (length s)) (directed direction (c.enc cipher tweak s) (c.dec cipher tweak s))

-- a text, sealed by the parts of a line
abbrev pub recording : Meaning → ℕ → List ℕ → List ℕ → Given
recording m n header text = sealed (sealing m n (length header) (length text) longest) (record_of m header n text)

-- whether a pile's cipher, whose expander reaches 4,096, takes a string
abbrev pub admitting : List ℕ → Result (Unit {0}) CipherFault
admitting s = ciphers.verdict 32 4112 (Some (ciphers.past_reach 4096)) (length s)

-- the cipher of keys that its parts take
abbrev pub cipher_keyed : CipherKeys (List ℕ) → Given → Given
cipher_keyed k g = hash_keyed k.hash_key (expander_keyed (expander_kind k.pile) k.expander_key g)

abbrev pub enc_of : CipherKeys (List ℕ) → List ℕ → List ℕ → List ℕ
enc_of k tweak s = enc (hash_of (hash_kind k.pile) k.hash_key) (λ d i. sequence_of (expander_kind k.pile) k.expander_key d tweak i) s

abbrev pub dec_of : CipherKeys (List ℕ) → List ℕ → List ℕ → List ℕ
dec_of k tweak s = dec (hash_of (hash_kind k.pile) k.hash_key) (λ d i. sequence_of (expander_kind k.pile) k.expander_key d tweak i) s

-- what a line means whose parts have these keys
abbrev pub meaning_of : CipherKeys (List ℕ) → List ℕ → List ℕ → Meaning
meaning_of k header_key line =
    record { lowest = 32; highest = 4112; carried = Some (ciphers.past_reach 4096); enc = enc_of k; dec = dec_of k; hash = hash_of (hash_kind k.pile) header_key; line = line }

abbrev pub answering : Question (List ℕ) → Given
answering (Aes key b) = keyed (admitted (length key)) key (Ok (aes key b))
answering (Hash kind key s) = hash_keyed key (Ok (hash_of kind key s))
answering (ChaCha key counter nonce) = chacha_keyed key (Ok (block key counter nonce))
answering (Subkey key input) = chacha_keyed key (Ok (subkey key input))
answering (Expand s) = expander_keyed s.kind s.key (stretch_of 4096 (sequence_of s.kind s.key) s)
answering (Cipher p) = cipher_keyed p.keys (ciphering (admitting p.string) (directed p.direction (enc_of p.keys p.tweak p.string) (dec_of p.keys p.tweak p.string)))
answering (Seal s) = cipher_keyed s.keys (hash_keyed s.header_key (recording (meaning_of s.keys s.header_key s.line) s.number s.header s.text))

-- how many bytes are given, or the refusal
abbrev pub counted : Given → Result ℕ Refusal
counted (Ok bytes) = Ok (length bytes)
counted (Err f) = Err f

-- bytes stand at the front, and the rest stays; a refusal leaves all
abbrev pub placed : Given → List ℕ → List ℕ
placed (Ok bytes) area = bytes ++ drop (length bytes) area
placed (Err f) area = area
