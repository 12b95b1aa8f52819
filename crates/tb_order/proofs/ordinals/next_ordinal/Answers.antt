use Rattle.std.proofs.Common.{arith}
use Rattle.tb_lanes.proofs.OwnLemmas.{ordinal_here, ordinal_first}
use Rattle.tb_order.proofs.ordinals.next_ordinal.Goals as goal

pub returns-in-Some-clause-told : goal.returns-in-Some-clause-told
returns-in-Some-clause-told c entries are told v is =
    let b = c.in-Some.before in
    let f = c.in-Some.ensures.own in
    ordinal_here entries c.args.tasks.now are c.args.at (omega (arith, c.requires.at, are.numbers_listed)) v is b (omega (arith, f.2, c.requires.at, are.numbers_listed)) f.0 f.1 _ (told b f.2)

pub returns-in-None-clause-told : goal.returns-in-None-clause-told
returns-in-None-clause-told c entries are told v is =
    ordinal_first entries c.args.tasks.now are c.args.at (omega (arith, c.requires.at, are.numbers_listed)) v is c.in-None.ensures.none
