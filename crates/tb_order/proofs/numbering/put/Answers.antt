use Rattle.std.proofs.Common.{rules, IsSome, refl, sym, ap, ◌∙◌, subst}
use Rattle.std.specs.Option.{option_copied_mut}
use Rattle.tb_lanes.proofs.NumberLemmas.{writes_place, inserts_place, on_ok}
use Rattle.tb_order.proofs.numbering.put.Goals as goal

pub returns-in-Some : goal.returns-in-Some
returns-in-Some c =
    let found = sym c.get_mut.ensures.value ∙ ap option_copied_mut c.in-Some.is in
    let written = c.get_mut.follows.holds c.args.place in
    writes_place _ _ c.args.task.now c.args.place ((written.3 (subst IsSome (sym found) refl)).0)

pub returns : goal.returns
returns c =
    let updates = on_ok c.insert.result _ (c.insert.ensures.succeeds (c.in_ok-reserve.ensures.ok)) c.insert.ensures.updates in
    inserts_place c.args.newest.now.entries _ _ c.args.task.now c.args.place _ (search rules) (c.reserve.ensures.entries ∙ ap (λ m. m.entries) c.get_mut.follows.holds-at-none) updates.0
