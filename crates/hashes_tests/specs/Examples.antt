-- RFC 4493, section 4: the subkeys, and the first three examples.
use Rattle.std.specs.Prelude.{◌≡◌, ℕ, List, []}
use Rattle.octets.specs.Strings.{be}
use Rattle.hashes.specs.Cmac.{K1, K2, cmac}

abbrev pub key : List ℕ
key = be 16 0x2b7e151628aed2a6abf7158809cf4f3c

pub record Examples : Type 0 where
  pub first_subkey : K1 key ≡ be 16 0xfbeed618357133667c85e08f7236a8de
  pub second_subkey : K2 key ≡ be 16 0xf7ddac306ae266ccf90bc11ee46d513b
  pub empty : cmac key [] ≡ be 16 0xbb1d6929e95937287fa37d129b756746
  pub sixteen : cmac key (be 16 0x6bc1bee22e409f96e93d7e117393172a) ≡ be 16 0x070a16b46b4d4144f79bdd9dd04a287c
  pub forty :
      cmac key (be 40 0x6bc1bee22e409f96e93d7e117393172aae2d8a571e03ac9c9eb76fac45af8e5130c81c46a35ce411)
      ≡ be 16 0xdfa66747de9ae63030ca32611497c827
