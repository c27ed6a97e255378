-- The keys and the plaintext of the examples in FIPS 197, appendix C.
use Rattle.std.specs.Prelude.{ℕ, ◌*◌, List, map}
use Rattle.std.specs.List.{range_with_len}

-- 00 01 02 .. 0f
abbrev pub key128 : List ℕ
key128 = range_with_len 0 16

-- 00 01 02 .. 1f
abbrev pub key256 : List ℕ
key256 = range_with_len 0 32

-- 00 11 22 .. ff
abbrev pub plaintext : List ℕ
plaintext = map (λ i. 0x11 * i) (range_with_len 0 16)
