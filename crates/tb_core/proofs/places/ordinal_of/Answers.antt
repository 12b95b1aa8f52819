use Rattle.std.proofs.Common.{arith}
use Rattle.tb_core.proofs.LendingLemmas.{rank_few, rank_number}
use Rattle.tb_core.proofs.RenumberLemmas.{some_entry}
use Rattle.tb_core.proofs.places.ordinal_of.Goals as goal

pub overflow_cast-result : goal.overflow_cast-result
overflow_cast-result c =
    let e = some_entry c.args.entries.now c.args.at c.requires.within in
    omega (arith, rank_few c.args.entries.now c.args.at e.0 c.in-Some.before c.requires.within e.1 (c.in-Some.ensures e.0 e.1), c.requires.within, c.requires.bound)

pub overflow_add-result : goal.overflow_add-result
overflow_add-result c =
    let e = some_entry c.args.entries.now c.args.at c.requires.within in
    omega (arith, rank_few c.args.entries.now c.args.at e.0 c.in-Some.before c.requires.within e.1 (c.in-Some.ensures e.0 e.1), c.requires.within, c.requires.bound)

pub returns-in-Some : goal.returns-in-Some
returns-in-Some c id step =
    let e = some_entry c.args.entries.now c.args.at c.requires.within in
    rank_number c.args.entries.now c.args.at e.0 c.in-Some.before c.requires.within e.1 (c.in-Some.ensures e.0 e.1) id step
