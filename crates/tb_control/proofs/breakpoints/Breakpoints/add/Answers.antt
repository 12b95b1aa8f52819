use Rattle.std.proofs.Common.{rules}
use Rattle.tb_control.proofs.BreakLemmas.{add_numbered}
use Rattle.tb_control.proofs.breakpoints.Breakpoints.add.Goals as goal

pub invariant_of-self-2 : goal.invariant_of-self-2
invariant_of-self-2 c = add_numbered c.self.inside.standing.items c.push_reserved.new.self.items c.self.inside.given c.args.at c.self.invariant (search rules) (search rules) (search rules)
