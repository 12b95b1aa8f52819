use Rattle.std.proofs.Common.{◌∙◌, length, sym, ap, arith}
use Rattle.tb_core.specs.Seen.{Held}
use Rattle.tb_core.specs.Soundness.{names_in}
use Rattle.tb_core.specs.Storing.{entries_in}
use Rattle.tb_core.proofs.HeldLemmas.{as_many, few_stored}
use Rattle.tb_core.proofs.run.Core.count.Goals as goal

pub returns-clause-count : goal.returns-clause-count
returns-clause-count c =
    let i = c.self.inside in
    ap length c.as_slice.ensures.value ∙ sym (as_many (names_in i.tables) i.entries.items (entries_in i.tables i.entries.items) c.self.invariant.3) ∙ ap (λ (h : Held). length h.run.steps) c.self.view_is

pub returns-clause-bound : goal.returns-clause-bound
returns-clause-bound c =
    let i = c.self.inside in
    omega (arith, ap length c.as_slice.ensures.value, few_stored i.first.items i.root_line i.limit i.entries.items (entries_in i.tables i.entries.items) i.tables c.self.invariant.3 c.self.invariant.0)

pub overflow_cast-result : goal.overflow_cast-result
overflow_cast-result c =
    let i = c.self.inside in
    omega (arith, ap length c.as_slice.ensures.value, few_stored i.first.items i.root_line i.limit i.entries.items (entries_in i.tables i.entries.items) i.tables c.self.invariant.3 c.self.invariant.0)
