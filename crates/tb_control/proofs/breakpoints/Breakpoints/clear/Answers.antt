use Rattle.tb_control.proofs.BreakLemmas.{clear_numbered}
use Rattle.tb_control.proofs.breakpoints.Breakpoints.clear.Goals as goal

pub invariant_of-self : goal.invariant_of-self
invariant_of-self c = clear_numbered c.self.inside.standing.items c.drop_number.new.breakpoints.items c.self.inside.given c.args.number c.self.invariant c.drop_number.ensures
