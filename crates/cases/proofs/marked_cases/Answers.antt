use Rattle.std.proofs.Common.{◌≡◌, ℕ, false, cond, ltb, Some, Ok, Err, refl, ap}
use Rattle.std.proofs.lemmas.Bool.{le-ltb}
use Rattle.octets.specs.Strings.{xor, le, le_value}
use Rattle.aes_tables.specs.Field.{sbox, mul, xtime, inverse, affine}
use Rattle.hashes.specs.Chain.{chained}
use Rattle.hashes.specs.Polynomials.{product, remainder, times, dot}
use Rattle.hashes.specs.Polyval.{dot_block, polyval}
use Rattle.ciphers.specs.Refusals.{past_reach}
use Rattle.ciphers.specs.declared.fault.CipherFault.TheVariants.{Short, Long}
use Rattle.sealing.specs.Calls.{unless}
use Rattle.sealing.specs.declared.fault.SealingFault.TheVariants.{HeaderLong, Cipher}
use Rattle.ends.specs.declared.fault.WindowFault.TheVariants.{AcceptedEarlier}
use Rattle.cases.proofs.marked_cases.Goals as goal
use Rattle.cases.specs.Marked.{refusal, window_refusal}

pub returns : goal.returns
unfolding polyval chained dot_block xor le le_value dot times remainder product sbox mul xtime inverse affine
returns c = record {
  sbox_00 = refl;
  sbox_01 = refl;
  sbox_53 = refl;
  empty = refl;
  one = refl;
  sixteen = refl;
  texts = λ hash sequence header name h short.
      let e : ltb 256 h ≡ false = le-ltb 256 h short in (
        ap (λ b. refusal {T = ℕ} (unless b (HeaderLong h) (Err (Cipher (Short 32))))) e,
        ap (λ b. unless {T = ℕ} b (HeaderLong h) (Ok 40)) e,
        ap (λ b. unless {T = ℕ} b (HeaderLong h) (Ok 4120)) e,
        ap (λ b. refusal {T = ℕ} (unless b (HeaderLong h) (Err (Cipher (Long 4112 (Some (past_reach 4096))))))) e,
      );
  late = λ marks e. ap (λ b. window_refusal (cond b (Err (AcceptedEarlier 37)) (Ok tt))) e;
  later = λ marks. refl;
  again = λ marks e. ap (λ b. window_refusal (cond b (Err (AcceptedEarlier 100)) (Ok tt))) e;
  number_0 = refl;
  number_last = refl;
}
