use Rattle.std.proofs.Common.{rules, arith, ℕ, ◌<◌, ◌≤◌, length, get_or, subst}
use Rattle.tb_work.specs.Receipts.{Seated, receipts_in}
use Rattle.tb_work.specs.Growing.{GrewBySteps}
use Rattle.tb_work.proofs.Growing.{grew_len, counts_grow}
use Rattle.tb_work.proofs.shared.Shared.all_work.Goals as goal
use Rattle.tb_work.proofs.shared.Shared.all_work.Goals.{After-count}

grew : (g : _) (c : After-count g) (i : ℕ) (d : Seated) → i < length c.args.seats.now → GrewBySteps (get_or c.args.seats.now i d) (get_or c.for_each_mut.new.s i d)
grew g c i d lt =
    let e = (c.for_each_mut.ensures i d lt).1 in
    let call : GrewBySteps e.argument.now e.after_call.now = e.call in
    subst (λ x. GrewBySteps x (get_or c.for_each_mut.new.s i d)) e.argument_is (subst (GrewBySteps e.argument.now) e.left call)

counts : (g : _) (c : After-count g) → receipts_in c.args.seats.now ≤ receipts_in c.for_each_mut.new.s
counts g c = counts_grow c.args.seats.now c.for_each_mut.new.s (search rules) (λ i d lt. grew_len (get_or c.args.seats.now i d) (get_or c.for_each_mut.new.s i d) (grew g c i d lt))

pub overflow_sub-result : goal.overflow_sub-result
overflow_sub-result g c = omega (arith, counts g c, c.count.ensures, c.count-before.ensures)

pub returns-clause-grew : goal.returns-clause-grew
returns-clause-grew g c = grew g c

pub returns-clause-steps : goal.returns-clause-steps
returns-clause-steps g c = omega (arith, counts g c, c.count.ensures, c.count-before.ensures)
