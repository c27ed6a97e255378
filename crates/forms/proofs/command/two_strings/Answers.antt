use Rattle.forms.proofs.Reading.{within, finished}
use Rattle.forms.proofs.Words.{lawful-strings}
use Rattle.forms.proofs.command.two_strings.Goals as goal

pub finish-requires : goal.finish-requires
finish-requires c = within (lawful-strings _ _) _ _ _ _ c.strings-form.ensures

pub returns : goal.returns
returns c = finished _ _ _ _ _ _ c.finish.ensures c.strings-form.ensures
