use Rattle.std.proofs.Common.{arith, reverse, sym, ap, ◌∙◌}
use Rattle.tb_clocks.specs.Known.{groups_with}
use Rattle.tb_clocks.proofs.GroupLemmas.{closed}
use Rattle.tb_clocks.proofs.row.change_groups.Goals as goal

pub returns-in-Close-clause-ok : goal.returns-in-Close-clause-ok
returns-in-Close-clause-ok c =
    closed c.args.groups.now.items c.pop.new.self.items c.pop.result c.pop.ensures.items (λ e. (let h = rw e at c.pop.ensures.cases in omega (arith, h.0)))
    ∙ ap (λ a. groups_with a c.args.at c.args.children (reverse c.args.groups.now.items)) (sym c.in-Close.is)
