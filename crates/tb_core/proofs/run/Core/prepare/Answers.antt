use Rattle.std.proofs.Common.{◌∙◌, ap, Some}
use Rattle.tb_core.specs.Seen.{Held}
use Rattle.tb_core.proofs.ShownLemmas.{open_takes}
use Rattle.tb_core.proofs.TakenLemmas.{names, run_of, filled, follows}
use Rattle.tb_core.specs.Storing.{entries_in}
use Rattle.tb_core.proofs.run.Core.prepare.Goals as goal

pub planned-requires-clause-allowed : goal.planned-requires-clause-allowed
planned-requires-clause-allowed c =
    let i = c.self.inside in
    let is = ap (λ (h : Held). h.run) c.self.view_is in
    names i.first.items i.root_line i.limit (entries_in i.tables i.entries.items) i.tables c.self.invariant.0 c.args.self.now.run is c.args.plan.now.config.task c.args.plan.now.action (open_takes c.args.self.now.run c.args.plan.now c.requires.fits c.requires.ready)

pub planned-requires-clause-run : goal.planned-requires-clause-run
planned-requires-clause-run c =
    let i = c.self.inside in
    let is = ap (λ (h : Held). h.run) c.self.view_is in
    run_of i.first.items i.root_line i.limit (entries_in i.tables i.entries.items) i.tables c.self.invariant.0 c.args.self.now.run is c.args.plan.now.config.task c.args.plan.now.action (open_takes c.args.self.now.run c.args.plan.now c.requires.fits c.requires.ready)

pub reserve_event-requires-clause-may : goal.reserve_event-requires-clause-may
reserve_event-requires-clause-may c =
    let i = c.self.inside in
    let is = ap (λ (h : Held). h.run) c.self.view_is in
    let may = open_takes c.args.self.now.run c.args.plan.now c.requires.fits c.requires.ready in
    let event = filled i.first.items i.root_line i.limit (entries_in i.tables i.entries.items) i.tables c.self.invariant.0 c.args.self.now.run is c.args.plan.now.config.task c.args.plan.now.action may c.in_ok-event.event c.in_ok-event.ensures in
    follows i.first.items i.root_line i.limit (entries_in i.tables i.entries.items) i.tables c.self.invariant.0 c.args.self.now.run is c.args.plan.now.config.task c.args.plan.now.action may c.in_ok-event.event event

pub returns-clause-event : goal.returns-clause-event
returns-clause-event c =
    let i = c.self.inside in
    let is = ap (λ (h : Held). h.run) c.self.view_is in
    let event = filled i.first.items i.root_line i.limit (entries_in i.tables i.entries.items) i.tables c.self.invariant.0 c.args.self.now.run is c.args.plan.now.config.task c.args.plan.now.action (open_takes c.args.self.now.run c.args.plan.now c.requires.fits c.requires.ready) c.in_ok-event.event c.in_ok-event.ensures in
    (event, c.in_ok-copy.ensures ∙ event)

pub returns-clause-reserved : goal.returns-clause-reserved
returns-clause-reserved c =
    let i = c.self.inside in
    let is = ap (λ (h : Held). h.run) c.self.view_is in
    let event = filled i.first.items i.root_line i.limit (entries_in i.tables i.entries.items) i.tables c.self.invariant.0 c.args.self.now.run is c.args.plan.now.config.task c.args.plan.now.action (open_takes c.args.self.now.run c.args.plan.now c.requires.fits c.requires.ready) c.in_ok-event.event c.in_ok-event.ensures in
    c.in_ok-reserve_event.ensures.reserved ∙ ap Some event
