use Rattle.std.proofs.Common.{◌≡◌, ℕ, ◌+◌, ◌-◌, ◌*◌, ◌/◌, length, take, sym, ap, ◌∙◌, arith, rules}
use Rattle.std.proofs.lemmas.List.{length-set}
use Rattle.aes.specs.Cipher.{expanded, key_words, key_expansion}
use Rattle.aes.proofs.Expansion.{schedule-more}
use Rattle.aes.proofs.schedule.key_expansion.Goals as goal

pub loop-i-init : goal.loop-i-init
unfolding expanded
loop-i-init c =
    let z : c.args.nk - c.args.nk ≡ 0 = omega arith in
    let n : length c.args.key.now / 4 ≡ c.args.nk = omega arith in
    (rw n at c.key_words-w.ensures ∙ ap (λ (n : ℕ). expanded c.args.nk n (key_words c.args.key.now c.args.nk)) (sym z), search rules)

pub loop-i-preserved : goal.loop-i-preserved
loop-i-preserved c = (
  schedule-more c.args.nk (key_words c.args.key.now c.args.nk) c.loop-i.w c.loop-i.i c.temp.result (omega arith) (omega arith) (omega arith)
      c.loop-i.invariant.0 c.temp.ensures,
  length-set _ _ _ ∙ c.loop-i.invariant.1,
)

pub returns : goal.returns
unfolding key_expansion
returns c =
    let e : c.loop-i.i ≡ 4 * (c.args.nk + 7) = omega arith in
    ap (λ (n : ℕ). take n c.loop-i.w) (sym e) ∙ c.loop-i.invariant.0
    ∙ ap (λ (n : ℕ). expanded c.args.nk (n - c.args.nk) (key_words c.args.key.now c.args.nk)) e
