use Rattle.forms.specs.Said.{bytes_of}
use Rattle.collating.specs.Judging.{fitting}
use Rattle.collating.specs.Questions.{asked, wanted}
use Rattle.collating.proofs.Judged.{compared}
use Rattle.collating.proofs.judging.judge_vector.Goals as goal

pub returns-in-Some-clause-answer : goal.returns-in-Some-clause-answer
returns-in-Some-clause-answer c =
    compared (asked (λ s. s.now) c.in-Some.question) (fitting (asked bytes_of c.args.vector.now.question)) c.answer-got.result c.args.out.now c.answer-got.new.area (wanted bytes_of c.args.vector.now.expected) c.compare.result
    c.in-Some.ensures c.answer-got.ensures.answer c.answer-got.ensures.after c.compare.ensures
