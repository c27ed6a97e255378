use Rattle.std.proofs.Common.{◌≡◌, ℕ, ◌/◌, List, [], length, get_or, ap, ◌∙◌, arith}
use Rattle.std.proofs.lemmas.List.{length-set}
use Rattle.aes.specs.Cipher.{key_word}
use Rattle.aes.proofs.Expansion.{key_more}
use Rattle.aes.proofs.Steps.{word-chunk}
use Rattle.aes.proofs.schedule.key_words.Goals as goal

pub loop-i-preserved : goal.loop-i-preserved
loop-i-preserved c = (
  key_more c.args.key.now c.loop-i.w c.loop-i.i c.from_be_bytes.result (omega (arith, c.as_chunks.ensures.front_len)) c.loop-i.invariant.0
      (c.from_be_bytes.ensures ∙ ap (λ (x : List (List ℕ)). key_word (get_or x c.loop-i.i []) 0) c.as_chunks.ensures.front
      ∙ word-chunk c.args.key.now (length c.args.key.now / 4) c.loop-i.i (omega (arith, c.as_chunks.ensures.front_len))),
  length-set _ _ _ ∙ c.loop-i.invariant.1,
)

pub returns : goal.returns
returns c =
    let e : length c.args.key.now / 4 ≡ c.loop-i.i = omega (arith, c.as_chunks.ensures.front_len) in
    rw e c.loop-i.invariant.0
