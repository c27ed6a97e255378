use Rattle.collating.proofs.Spaces.{before, behind, all, nothing}
use Rattle.collating.proofs.fields.Fields.word.Goals as goal

pub returns-in-Some : goal.returns-in-Some
returns-in-Some c = record { value = before c.args.self.now.rest.now c.in-Some.end c.in-Some.ensures.place; rest = behind c.args.self.now.rest.now c.in-Some.end c.in-Some.ensures.place }

pub returns-in-None : goal.returns-in-None
returns-in-None c = record { value = all c.args.self.now.rest.now c.in-None.ensures.place; rest = nothing c.args.self.now.rest.now c.in-None.ensures.place }
