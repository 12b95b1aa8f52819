use Rattle.std.proofs.Common.{length, refl, arith}
use Rattle.std.proofs.lemmas.Option.{slice_get_read}
use Rattle.std.proofs.lemmas.Map.Lookups.{exact_unsigned}
use Rattle.tb_core.proofs.OwnLemmas.{own_number, own_few}
use Rattle.tb_core.proofs.RenumberLemmas.{some_entry}
use Rattle.tb_core.proofs.places.ordinal_among.Goals as goal

pub overflow_cast-result : goal.overflow_cast-result
overflow_cast-result c =
    let es = c.args.entries.now in
    let some = some_entry es c.args.at c.requires.within in
    let few = own_few es c.args.own.now c.args.at some.0 (c.requires.own some.0 (slice_get_read es (length es) c.args.at some.0 refl c.requires.within some.1)) c.requires.within some.1 in
    omega (arith, few, c.in-Ok.ensures.bound, c.requires.bound)

pub overflow_add-result : goal.overflow_add-result
overflow_add-result c =
    let es = c.args.entries.now in
    let some = some_entry es c.args.at c.requires.within in
    let few = own_few es c.args.own.now c.args.at some.0 (c.requires.own some.0 (slice_get_read es (length es) c.args.at some.0 refl c.requires.within some.1)) c.requires.within some.1 in
    omega (arith, few, c.in-Ok.ensures.bound, c.requires.bound)

pub returns-in-Ok : goal.returns-in-Ok
returns-in-Ok c id step =
    let es = c.args.entries.now in
    let some = some_entry es c.args.at c.requires.within in
    own_number es c.args.own.now c.args.at some.0 (c.requires.own some.0 (slice_get_read es (length es) c.args.at some.0 refl c.requires.within some.1)) c.requires.within some.1
    c.in-Ok.before 0 c.in-Ok.ensures.bound (exact_unsigned _ _ (c.in-Ok.ensures.ok 0)) id step
