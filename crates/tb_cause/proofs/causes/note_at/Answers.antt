use Rattle.std.proofs.Common.{◌≢◌, [], List, subst, sym, ap, ◌∙◌}
use Rattle.tb_model.specs.Facts.{own, groups}
use Rattle.tb_steps.specs.Entries.{Entry}
use Rattle.tb_steps.specs.Scans.{history_of}
use Rattle.tb_cause.specs.Keys.{Task, has}
use Rattle.tb_cause.proofs.KeyedLemmas.{closes_an_open}
use Rattle.tb_cause.proofs.StandingLemmas.{held_here, spawned_here}
use Rattle.tb_cause.proofs.causes.note_at.Goals as goal
use Rattle.tb_steps.proofs.FirstLemmas.{there}

pub note-requires-clause-held : goal.note-requires-clause-held
note-requires-clause-held c =
    held_here c.args.indexed.now c.args.at c.requires.within c.task_at-task.result.now c.task_at-task.ensures c.front-front.result c.front-front.ensures _ c.held_at-held.ensures

pub note-requires-clause-opened : goal.note-requires-clause-opened
note-requires-clause-opened c closes =
    let w = there c.args.indexed.now c.args.at c.requires.within in
    let opened = closes_an_open c.args.indexed.now c.args.at w.0 c.requires.within w.1 c.history_is_legal.ensures.legal (sym (c.action_at-action.ensures w.0 w.1) ∙ closes) in
    subst (λ t. groups (own t (history_of c.front-front.result)) ≢ []) (sym (c.task_at-task.ensures w.0 w.1))
    (subst (λ (es : List Entry). groups (own w.0.event.task (history_of es)) ≢ []) (sym c.front-front.ensures) opened)

pub note-requires-clause-of_task : goal.note-requires-clause-of_task
note-requires-clause-of_task c h =
    let w = there c.args.indexed.now c.args.at c.requires.within in
    ap (λ t. has c.args.keys.now (Task t)) (c.task_at-task.ensures w.0 w.1) ∙ sym (c.requires.of_task h w.0 w.1)

pub note-requires-clause-there : goal.note-requires-clause-there
note-requires-clause-there c = spawned_here c.args.indexed.now c.args.at c.requires.within c.task_at-task.result.now c.task_at-task.ensures c.history_is_legal.ensures.legal
