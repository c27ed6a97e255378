use Rattle.std.proofs.Common.{length}
use Rattle.hall.proofs.Fitting.{fits-command}
use Rattle.hall.proofs.hall.Hall.step_in.Goals as goal

pub obey-requires : goal.obey-requires
obey-requires g c = record {
  first = fits-command (length c.args.first.now) c.requires.first c.args.line.now c.read_command.result c.in-Ok.command c.in-Ok.is c.read_command.ensures.reads;
  second = fits-command (length c.args.second.now) c.requires.second c.args.line.now c.read_command.result c.in-Ok.command c.in-Ok.is c.read_command.ensures.reads;
}
