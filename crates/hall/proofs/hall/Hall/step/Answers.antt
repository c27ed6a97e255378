use Rattle.std.proofs.Common.{ap, ◌∙◌}
use Rattle.octets.specs.Strings.{zeros}
use Rattle.hall.proofs.Replying.{steps-at}
use Rattle.hall.proofs.Sessions.{continues}
use Rattle.hall.proofs.hall.Hall.step.Goals as goal

pub returns : goal.returns
returns g c =
    let a = c.args.areas.now in
    record {
      steps = steps-at _ _ _ _ _ _ _ _ _ _ a.work_long a.out_long c.step_in.ensures;
      header = c.drop-header.ensures ∙ ap zeros (c.step_in.auto.first ∙ a.header_long);
      body = c.drop-body.ensures ∙ ap zeros (c.step_in.auto.second ∙ a.body_long);
      work = c.drop-work.ensures ∙ ap zeros (c.step_in.auto.work ∙ a.work_long);
      promise = c.promise.ensures;
      session = continues _ _ _ _ _ _ _ _ _ a.work_long c.step_in.ensures;
    }
