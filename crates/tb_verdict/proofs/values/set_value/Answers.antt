use Rattle.std.proofs.Common.{◌<◌, rules, subst, to_z-of_z, w64, SFits}
use Rattle.indexmap.specs.IndexMap.{spare}
use Rattle.tb_verdict.specs.Values.{HasRoomFor}
use Rattle.tb_verdict.proofs.ValueLemmas.{on_ok, stored, unstored}
use Rattle.tb_verdict.proofs.values.set_value.Goals as goal

pub returns-in-Store : goal.returns-in-Store
returns-in-Store c =
    let room : 0 < spare c.args.values.now = subst (λ a. HasRoomFor a (spare c.args.values.now)) c.in-Store.is c.requires in
    let updates = on_ok c.insert.result _ (c.insert.ensures.succeeds room) c.insert.ensures.updates in
    let value : SFits w64 c.in-Store.value = search rules in
    stored c.args.values.now.entries _ c.args.action.now c.in-Store.cell c.in-Store.value _ c.in-Store.is (to_z-of_z value) updates.0

pub returns-in_default : goal.returns-in_default
returns-in_default c = unstored c.args.values.now.entries c.args.action.now c.in_default.not-Store
