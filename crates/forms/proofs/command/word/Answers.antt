use Rattle.std.proofs.Common.{Result, ap, ◌∙◌}
use Rattle.forms.specs.Said.{asked_of}
use Rattle.forms.specs.Taking.{taken}
use Rattle.forms.specs.declared.command.Command.{Command}
use Rattle.forms.specs.declared.reader.Stuck.{Stuck}
use Rattle.forms.proofs.Reading.{within, finished, made_word}
use Rattle.forms.proofs.Words.{lawful-literal}
use Rattle.forms.proofs.command.word.Goals as goal

pub finish-requires : goal.finish-requires
finish-requires c = within (lawful-literal _) (λ u. u) _ _ _ c.literal.ensures

pub returns : goal.returns
returns c =
    let form = ap (λ (r : Result Command Stuck). taken asked_of r c.literal.new.self.rest.now) c.and-form.ensures ∙ made_word _ _ _ _ _ c.literal.ensures in
    finished asked_of _ _ _ _ _ c.finish.ensures form
