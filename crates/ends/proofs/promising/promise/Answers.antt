use Rattle.ends.proofs.Promises.{promised}
use Rattle.ends.proofs.promising.promise.Goals as goal

pub returns : goal.returns
returns g c = promised _ c.lawful.ensures
