use Rattle.std.proofs.Common.{◌<◌, List, length, sym, subst, arith}
use Rattle.tb_model.specs.Names.{Name}
use Rattle.tb_model.specs.Facts.{IsSpawned}
use Rattle.tb_steps.specs.Entries.{Entry}
use Rattle.tb_steps.specs.Scans.{AreLegal, history_of}
use Rattle.tb_steps.proofs.FirstLemmas.{front_legal, there}
use Rattle.tb_core.proofs.LendingLemmas.{spawned_at, spawned_before}
use Rattle.tb_core.proofs.needing.needs.Goals as goal

pub needs_event-found-requires-clause-legal : goal.needs_event-found-requires-clause-legal
needs_event-found-requires-clause-legal c =
    let entries = c.args.entries.now in
    let later = c.args.later in
    let v = there entries later c.requires.later in
    subst AreLegal (sym c.front.ensures) (front_legal entries later v.0 c.requires.later v.1 c.is_legal.ensures)

pub needs_event-found-requires-clause-later : goal.needs_event-found-requires-clause-later
needs_event-found-requires-clause-later c =
    let entries = c.args.entries.now in
    let later = c.args.later in
    let v = there entries later c.requires.later in
    let spawned = spawned_at entries later v.0 c.requires.later v.1 c.is_legal.ensures in
    subst (λ (t : Name). IsSpawned (history_of c.front.result) t) (sym (c.task.ensures v.0 v.1))
    (subst (λ (es : List Entry). IsSpawned (history_of es) v.0.event.task) (sym c.front.ensures) spawned)

pub needs_event-found-requires-clause-earlier : goal.needs_event-found-requires-clause-earlier
needs_event-found-requires-clause-earlier c =
    let entries = c.args.entries.now in
    let later = c.args.later in
    let at = c.args.earlier in
    let v = there entries later c.requires.later in
    let within : at < length entries = omega (arith, c.requires.later, c.requires.earlier) in
    let u = there entries at within in
    let spawned = spawned_before entries later at v.0 u.0 c.requires.earlier c.requires.later v.1 u.1 c.is_legal.ensures in
    subst (λ (t : Name). IsSpawned (history_of c.front.result) t) (sym (c.task-2.ensures u.0 u.1))
    (subst (λ (es : List Entry). IsSpawned (history_of es) u.0.event.task) (sym c.front.ensures) spawned)
