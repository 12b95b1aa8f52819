use Rattle.std.proofs.Common.{subst, slice_get, Some, length, ◌≤◌, ◌≡◌}
use Rattle.tb_stream.proofs.ListLemmas.{get_at}
use Rattle.tb_stream.proofs.SeenLemmas.{origin_found, origin_there}
use Rattle.tb_stream.proofs.reaching.origin_of.Goals as goal

pub returns-in-Some-clause-origin : goal.returns-in-Some-clause-origin
returns-in-Some-clause-origin c r n lanes are low w of =
    let item = c.in-Some.ensures.lookup in
    origin_found r n lanes c.args.clocks.now are c.args.mark.at c.args.mark.task low w of c.in-Some.found.now c.in_front.result
    (subst (λ xs. slice_get xs c.args.mark.task ≡ Some c.in-Some.found.now) c.deref.ensures.value (get_at c.deref.result.now c.args.mark.task c.in-Some.found.now item.3.0 item.1))
    c.in_front.ensures.same c.in_front.ensures.none

pub returns-in-None-clause-origin : goal.returns-in-None-clause-origin
returns-in-None-clause-origin c r n lanes are low w of =
    let item = c.in-None.ensures.lookup in
    absurd (origin_there r n lanes c.args.clocks.now are c.args.mark.at c.args.mark.task low w of (subst (λ xs. length xs ≤ c.args.mark.task) c.deref.ensures.value item.3))
