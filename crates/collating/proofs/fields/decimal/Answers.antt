use Rattle.std.proofs.Common.{◌+◌, ◌*◌, ◌&&◌, ap₂, drop, sym, ap, ◌∙◌, arith}
use Rattle.std.proofs.lemmas.List.Folds.{list_all_at, list_all_more}
use Rattle.std.specs.Char.{is_ascii_digit}
use Rattle.forms.specs.Decimals.{valued}
use Rattle.collating.proofs.Numbering.{ten-more, small-enough, one_more, no_number, whole-number}
use Rattle.collating.proofs.fields.decimal.Goals as goal

pub returns-then-not-is_ascii_digit : goal.returns-then-not-is_ascii_digit
returns-then-not-is_ascii_digit c =
    no_number c.args.word.now (sym c.if-is_empty.ensures) c.if-word-gt-MOST_DIGITS.false (list_all_at is_ascii_digit c.args.word.now c.loop-c.c-index 0 c.loop-c-test.true (sym c.if-not-is_ascii_digit.ensures.value))

pub overflow_mul-value : goal.overflow_mul-value
overflow_mul-value c = omega (arith, small-enough c.loop-c.c-index c.loop-c.value (omega arith) c.loop-c.invariant.small)

pub overflow_add-value : goal.overflow_add-value
overflow_add-value c = omega (arith, small-enough c.loop-c.c-index c.loop-c.value (omega arith) c.loop-c.invariant.small)

pub loop-c-preserved : goal.loop-c-preserved
loop-c-preserved c = record {
  small = omega (arith, ten-more c.loop-c.c-index, c.if-not-is_ascii_digit.ensures.cases);
  value =
      c.loop-c.invariant.value ∙ one_more c.args.word.now c.loop-c.c-index c.loop-c.value c.loop-c-test.true
      ∙ ap (λ d. valued (c.loop-c.value * 10 + d) (drop (c.loop-c.c-index + 1) c.args.word.now)) (sym c.from.ensures);
  digits = list_all_more is_ascii_digit c.args.word.now c.loop-c.c-index 0 c.loop-c-test.true ∙ ap₂ (λ a b. a && b) c.loop-c.invariant.digits (sym c.if-not-is_ascii_digit.ensures.value);
}

pub returns : goal.returns
returns c = whole-number c.args.word.now (sym c.if-is_empty.ensures) c.if-word-gt-MOST_DIGITS.false c.loop-c.c-index c.loop-c.value c.loop-c-test.false c.loop-c.invariant.value c.loop-c.invariant.digits
