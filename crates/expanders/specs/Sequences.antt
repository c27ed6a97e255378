-- The sequences of the expanders, made block by block.
use Rattle.std.specs.Prelude.{ℕ, zero, suc, List, [], ◌∷◌, ◌++◌}
use Rattle.aes.specs.Cipher.{aes}
use Rattle.chacha.specs.ChaCha20.{block, subkey}
use Rattle.octets.specs.Strings.{xor, be, zeros}

-- n blocks one after another, the first with the number i
unfoldable pub blocks : (ℕ → List ℕ) → ℕ → ℕ → List ℕ
blocks f i zero = []
blocks f i (suc n) = f i ++ blocks f (suc i) n

-- the nonce of a domain and a tweak
abbrev pub nonce : ℕ → List ℕ → List ℕ
nonce domain tweak = domain ∷ 0 ∷ 0 ∷ 0 ∷ tweak

-- The ChaCha expander: under the subkey that HChaCha20 derives from the input, 64 blocks of ChaCha20, counted from 0.
unfoldable pub chacha_sequence : List ℕ → ℕ → List ℕ → List ℕ → List ℕ
chacha_sequence key domain tweak input = blocks (λ j. block (subkey key input) j (nonce domain tweak)) 0 64

-- the mask of a domain and a tweak
unfoldable pub mask : List ℕ → ℕ → List ℕ → List ℕ
mask key domain tweak = aes key (domain ∷ tweak ++ zeros 7)

-- block j of what starts at a base: the counter is added to the base bit by bit, at its end
unfoldable pub counter_block : List ℕ → List ℕ → ℕ → List ℕ
counter_block key base j = aes key (xor base (zeros 12 ++ be 4 j))

-- The AES expander: the base is the input with the mask added, and 256 blocks are counted from 0.
unfoldable pub aes_sequence : List ℕ → ℕ → List ℕ → List ℕ → List ℕ
aes_sequence key domain tweak input = blocks (counter_block key (xor input (mask key domain tweak))) 0 256
