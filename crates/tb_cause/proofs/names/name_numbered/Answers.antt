use Rattle.std.proofs.Common.{◌-◌, length, refl, arith}
use Rattle.std.proofs.lemmas.Option.{get_or_from_slice_get, slice_get_read, slice_get_within}
use Rattle.tb_core.proofs.OwnLemmas.{own_few, own_number}
use Rattle.tb_cause.proofs.names.name_numbered.Goals as goal
use Rattle.tb_steps.proofs.FirstLemmas.{there}

pub overflow_cast-k : goal.overflow_cast-k
overflow_cast-k c =
    let es = c.args.entries.now in
    let w = there es c.args.at c.requires.within in
    let is = c.requires.own w.0 (slice_get_read es (length es) c.args.at w.0 refl c.requires.within w.1) in
    let few = own_few es c.args._own.now c.args.at w.0 is c.requires.within w.1 in
    omega (arith, few, slice_get_within c.args._own.now (c.args.k - 1) c.args.at c.requires.number, c.requires.bound)

pub named-requires-clause-number : goal.named-requires-clause-number
named-requires-clause-number c id step =
    let es = c.args.entries.now in
    let own = c.args._own.now in
    let w = there es c.args.at c.requires.within in
    let is = c.requires.own w.0 (slice_get_read es (length es) c.args.at w.0 refl c.requires.within w.1) in
    let inside = slice_get_within own (c.args.k - 1) c.args.at c.requires.number in
    let number = own_number es own c.args.at w.0 is c.requires.within w.1 (c.args.k - 1) 0 inside (get_or_from_slice_get own (c.args.k - 1) c.args.at 0 c.requires.number) id step in
    omega (arith, number, c.requires.some)
