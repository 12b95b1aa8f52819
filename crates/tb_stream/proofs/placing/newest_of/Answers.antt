use Rattle.std.proofs.Common.{◌≡◌, ◌≤◌, subst, slice_get, Some, length}
use Rattle.tb_stream.proofs.ListLemmas.{get_at}
use Rattle.tb_stream.proofs.PlaceLemmas.{newest_there}
use Rattle.tb_stream.proofs.placing.newest_of.Goals as goal

pub returns-in-Some : goal.returns-in-Some
returns-in-Some c r n lanes are w of =
    let item = c.in-Some.ensures.lookup in
    subst (λ xs. slice_get xs c.args.task ≡ Some c.in-Some.found.now) c.deref.ensures.value (get_at c.deref.result.now c.args.task c.in-Some.found.now item.3.0 item.1)

pub returns-in-None : goal.returns-in-None
returns-in-None c r n lanes are w of =
    let item = c.in-None.ensures.lookup in
    absurd (newest_there r n lanes c.args.clocks.now are w c.args.task of (subst (λ xs. length xs ≤ c.args.task) c.deref.ensures.value item.3))
