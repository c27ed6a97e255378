-- AES-CMAC of RFC 4493. A block as a number has its first bit as the most significant: it is `be_value` of the block.
use Rattle.std.specs.Prelude.{ℕ, ◌+◌, ◌-◌, ◌*◌, ◌/◌, ◌%◌, ◌^◌, cond, List, ◌∷◌, ◌++◌, length, drop, ◌==◌, bit_xor, nat_lt}
use Rattle.octets.specs.Strings.{xor, be, be_value, zeros}
use Rattle.aes.specs.Cipher.{aes}
use Rattle.hashes.specs.Chain.{chained}

-- Section 2.3: L << 1, and const_Rb added to it where the most significant bit of L is 1
abbrev pub Rb : ℕ
Rb = 0x87

abbrev pub shifted : ℕ → ℕ
shifted v = 2 * v % 2 ^ 128

abbrev pub doubled : ℕ → ℕ
doubled v = cond (nat_lt v (2 ^ 127)) (shifted v) (bit_xor (shifted v) Rb)

unfoldable pub subkey : List ℕ → List ℕ
subkey block = be 16 (doubled (be_value block))

-- the subkeys
abbrev pub K1 : List ℕ → List ℕ
K1 key = subkey (aes key (zeros 16))

abbrev pub K2 : List ℕ → List ℕ
K2 key = subkey (K1 key)

-- Section 2.4: the number of blocks, of which the empty string has one
abbrev pub blocks : List ℕ → ℕ
blocks s = cond (length s == 0) 1 ((length s + 15) / 16)

-- an incomplete block with a bit 1 after it, and bits 0 to 16 bytes
abbrev pub padding : List ℕ → List ℕ
padding m = m ++ 0x80 ∷ zeros (15 - length m)

-- M_last, from the last block
abbrev pub last_block : List ℕ → List ℕ → List ℕ
last_block key m = cond (length m == 16) (xor m (K1 key)) (xor (padding m) (K2 key))

-- From X = 0, each block M before the last gives X = AES(X ⊕ M); the value is AES(X ⊕ M_last).
unfoldable pub cmac : List ℕ → List ℕ → List ℕ
cmac key s =
    let n = blocks s - 1 in
    aes key (xor (chained (aes key) n (zeros 16) s) (last_block key (drop (16 * n) s)))
