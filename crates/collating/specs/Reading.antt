-- How a line is read: word by word.
use Rattle.std.specs.Prelude.{ℕ, cond, List, Some, None, codes, Option, option_map, option_and_then}
use Rattle.octets.specs.Strings.{same}
use Rattle.forms.specs.Hex.{spelled_by}
use Rattle.collating.specs.Words.{word, after, sized, number_of, number_to, pile_of, expander_of, outcome_of}
use Rattle.collating.specs.declared.question.CipherKeys.{CipherKeys}
use Rattle.collating.specs.declared.question.Direction.{Direction}
use Rattle.collating.specs.declared.question.Direction.TheVariants.{Encipher, Decipher}
use Rattle.collating.specs.declared.question.HashKind.{HashKind}
use Rattle.collating.specs.declared.question.HashKind.TheVariants.{Polyval, Cmac}
use Rattle.collating.specs.declared.question.Ciphering.{Ciphering}
use Rattle.collating.specs.declared.question.Question.{Question}
use Rattle.collating.specs.declared.question.Question.TheVariants.{Aes, Hash, ChaCha, Subkey, Expand, Cipher, Seal}
use Rattle.collating.specs.declared.question.Sealing.{Sealing}
use Rattle.collating.specs.declared.question.Stretch.{Stretch}
use Rattle.collating.specs.declared.question.Vector.{Vector}
use Rattle.collating.specs.declared.reading.Form.{Form}
use Rattle.collating.specs.declared.reading.Form.TheVariants as form

-- what was read, as `f` tells it, and what is left of the line after it
abbrev pub took : {X Y : Type 0} → (X → Y) → Option X → List ℕ → Option (Y × List ℕ)
took f None rest = None
took f (Some x) rest = Some (f x, rest)

-- a question, and what is left of the line after it
abbrev pub Asked : Type 0
Asked = Option (Question (List ℕ) × List ℕ)

-- the next word, as `of` reads it, and then what `next` makes of it and of what is left
abbrev pub field : {X Y : Type 0} → (List ℕ → Option X) → List ℕ → (X → List ℕ → Option Y) → Option Y
field of s next = option_and_then (λ x. next x (after s)) (of (word s))

-- what `part` reads, and then what `next` makes of it and of what is left
abbrev pub then : {X Y : Type 0} → Option (X × List ℕ) → (X → List ℕ → Option Y) → Option Y
then part next = option_and_then (λ p. next p.0 p.1) part

abbrev pub aes : List ℕ → Asked
aes s = field spelled_by s (λ key s. field (sized 16) s (λ block s. Some (Aes key block, s)))

abbrev pub hash : HashKind → List ℕ → Asked
hash kind s = field spelled_by s (λ key s. field spelled_by s (λ string s. Some (Hash kind key string, s)))

abbrev pub chacha : List ℕ → Asked
chacha s = field spelled_by s (λ key s. field (number_to 4294967295) s (λ counter s. field (sized 12) s (λ nonce s. Some (ChaCha key counter nonce, s))))

abbrev pub subkey : List ℕ → Asked
subkey s = field spelled_by s (λ key s. field (sized 16) s (λ input s. Some (Subkey key input, s)))

abbrev pub stretch : List ℕ → Option (Stretch (List ℕ) × List ℕ)
stretch s =
    field expander_of s (λ kind s. field spelled_by s (λ key s. field (number_to 255) s (λ domain s. field (sized 8) s (λ tweak s. field (sized 16) s (λ input s.
    field number_of s (λ from s. field number_of s (λ count s. Some (record { kind = kind; key = key; domain = domain; tweak = tweak; input = input; from = from; count = count }, s))))))))

abbrev pub cipher_keys : List ℕ → Option (CipherKeys (List ℕ) × List ℕ)
cipher_keys s = field pile_of s (λ pile s. field spelled_by s (λ hash_key s. field spelled_by s (λ expander_key s. Some (record { pile = pile; hash_key = hash_key; expander_key = expander_key }, s))))

abbrev pub ciphering : Direction → List ℕ → Option (Ciphering (List ℕ) × List ℕ)
ciphering direction s = then (cipher_keys s) (λ keys s. field (sized 8) s (λ tweak s. field spelled_by s (λ string s. Some (record { direction = direction; keys = keys; tweak = tweak; string = string }, s))))

abbrev pub sealing : List ℕ → Option (Sealing (List ℕ) × List ℕ)
sealing s =
    then (cipher_keys s) (λ keys s. field spelled_by s (λ header_key s. field (sized 8) s (λ line s. field number_of s (λ number s. field spelled_by s (λ header s. field spelled_by s (λ text s.
    Some (record { keys = keys; header_key = header_key; line = line; number = number; header = header; text = text }, s)))))))

-- what the first word asks for
abbrev pub form_of : List ℕ → Option Form
form_of w =
    cond (same w (codes "aes")) (Some form.Aes) (cond (same w (codes "polyval")) (Some (form.Hash Polyval)) (cond (same w (codes "cmac")) (Some (form.Hash Cmac)) (cond (same w (codes "chacha")) (Some form.ChaCha)
    (cond (same w (codes "subkey")) (Some form.Subkey) (cond (same w (codes "expand")) (Some form.Expand) (cond (same w (codes "encipher")) (Some (form.Cipher Encipher))
    (cond (same w (codes "decipher")) (Some (form.Cipher Decipher)) (cond (same w (codes "seal")) (Some form.Seal) None))))))))

abbrev pub fields : Form → List ℕ → Asked
fields form.Aes s = aes s
fields (form.Hash kind) s = hash kind s
fields form.ChaCha s = chacha s
fields form.Subkey s = subkey s
fields form.Expand s = then (stretch s) (λ x s. Some (Expand x, s))
fields (form.Cipher direction) s = then (ciphering direction s) (λ x s. Some (Cipher x, s))
fields form.Seal s = then (sealing s) (λ x s. Some (Seal x, s))

abbrev pub question : List ℕ → Asked
question s = field form_of s fields

-- after the question a `=` and the outcome that is expected
abbrev pub expecting : Question (List ℕ) × List ℕ → Option (Vector (List ℕ))
expecting q = cond (same (word q.1) (codes "=")) (option_map (λ o. record { question = q.0; expected = o }) (outcome_of (after q.1))) None

abbrev pub reading : List ℕ → Option (Vector (List ℕ))
reading s = option_and_then expecting (question s)
