use Rattle.std.proofs.Common.{ap}
use Rattle.tb_core.specs.Seen.{Held}
use Rattle.tb_core.proofs.TakenLemmas.{names, run_of, filled, follows}
use Rattle.tb_core.specs.Storing.{entries_in}
use Rattle.tb_core.proofs.run.Core.event_of_clear.Goals as goal

pub event_for-requires-clause-allowed : goal.event_for-requires-clause-allowed
event_for-requires-clause-allowed c =
    let i = c.self.inside in
    let is = ap (λ (h : Held). h.run) c.self.view_is in
    names i.first.items i.root_line i.limit (entries_in i.tables i.entries.items) i.tables c.self.invariant.0 c.args.self.now.run is c.args.task.now c.args.action c.requires

pub event_for-requires-clause-run : goal.event_for-requires-clause-run
event_for-requires-clause-run c =
    let i = c.self.inside in
    let is = ap (λ (h : Held). h.run) c.self.view_is in
    run_of i.first.items i.root_line i.limit (entries_in i.tables i.entries.items) i.tables c.self.invariant.0 c.args.self.now.run is c.args.task.now c.args.action c.requires

pub returns-clause-is : goal.returns-clause-is
returns-clause-is c =
    let i = c.self.inside in
    let is = ap (λ (h : Held). h.run) c.self.view_is in
    filled i.first.items i.root_line i.limit (entries_in i.tables i.entries.items) i.tables c.self.invariant.0 c.args.self.now.run is c.args.task.now c.args.action c.requires c.in_ok-event.event c.in_ok-event.ensures

pub returns-clause-may : goal.returns-clause-may
returns-clause-may c =
    let i = c.self.inside in
    let is = ap (λ (h : Held). h.run) c.self.view_is in
    let event = filled i.first.items i.root_line i.limit (entries_in i.tables i.entries.items) i.tables c.self.invariant.0 c.args.self.now.run is c.args.task.now c.args.action c.requires c.in_ok-event.event c.in_ok-event.ensures in
    follows i.first.items i.root_line i.limit (entries_in i.tables i.entries.items) i.tables c.self.invariant.0 c.args.self.now.run is c.args.task.now c.args.action c.requires c.in_ok-event.event event
