use Rattle.std.proofs.Common.{subst}
use Rattle.tb_roll.specs.declared.roll_refusal.RollRefusal.{RollRefusal}
use Rattle.tb_live.specs.Moves.{KeepsAll}
use Rattle.tb_work.proofs.Refusals.{kept_step, no_place, no_room}
use Rattle.tb_work.proofs.taking.ready_undo.Goals as goal

pub returns-in-Some-clause-refused : goal.returns-in-Some-clause-refused
returns-in-Some-clause-refused c = kept_step c.core.result.now.run c.args.live.now.session c.args.seat c.args.id.now c.in-Some.refusal c.core.ensures.history c.in-Some.ensures.some

pub returns-in-Err-Full-clause-refused : goal.returns-in-Err-Full-clause-refused
returns-in-Err-Full-clause-refused c =
    let s = c.args.live.now.session in
    let e = c.in-Err-Full in
    no_place c.core.result.now.run s c.args.seat c.args.id.now c.core.ensures.history c.in_default.ensures.none (subst (λ (r : RollRefusal). KeepsAll s c.args.id.now r) e.field-0-is e.ensures.refused)

pub returns-in-Err-Memory-clause-refused : goal.returns-in-Err-Memory-clause-refused
returns-in-Err-Memory-clause-refused c =
    let s = c.args.live.now.session in
    let e = c.in-Err-Memory in
    no_room c.core.result.now.run s c.args.seat c.args.id.now c.core.ensures.history c.in_default.ensures.none (subst (λ (r : RollRefusal). KeepsAll s c.args.id.now r) e.field-0-is e.ensures.refused)
