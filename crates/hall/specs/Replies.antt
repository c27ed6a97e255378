-- What a line is answered, with the length of a record or a text in place of its bytes.
use Rattle.std.specs.Prelude.{ℕ}
use Rattle.forms.specs.declared.answer.Answer.{Answer}

abbrev pub Reply : Type 0
Reply = Answer ℕ
