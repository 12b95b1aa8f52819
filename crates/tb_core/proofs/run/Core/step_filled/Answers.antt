use Rattle.std.proofs.Common.{ap, subst}
use Rattle.tb_core.specs.Seen.{Held}
use Rattle.tb_core.specs.Outcomes.{Takes}
use Rattle.tb_core.proofs.TakenLemmas.{names, run_of, filled, follows, takes_so}
use Rattle.tb_core.specs.Storing.{entries_in}
use Rattle.tb_core.proofs.run.Core.step_filled.Goals as goal

pub fill_in-requires-clause-allowed : goal.fill_in-requires-clause-allowed
fill_in-requires-clause-allowed c =
    let i = c.self.inside in
    let is = ap (λ (h : Held). h.run) c.self.view_is in
    names i.first.items i.root_line i.limit (entries_in i.tables i.entries.items) i.tables c.self.invariant.0 c.args.self.now.run is c.args.task c.args.action c.requires

pub fill_in-requires-clause-run : goal.fill_in-requires-clause-run
fill_in-requires-clause-run c =
    let i = c.self.inside in
    let is = ap (λ (h : Held). h.run) c.self.view_is in
    run_of i.first.items i.root_line i.limit (entries_in i.tables i.entries.items) i.tables c.self.invariant.0 c.args.self.now.run is c.args.task c.args.action c.requires

pub append-requires-clause-may : goal.append-requires-clause-may
append-requires-clause-may c =
    let i = c.self.inside in
    let is = ap (λ (h : Held). h.run) c.self.view_is in
    let event = filled i.first.items i.root_line i.limit (entries_in i.tables i.entries.items) i.tables c.self.invariant.0 c.args.self.now.run is c.args.task c.args.action c.requires c.in_ok-event.event c.in_ok-event.ensures.ok in
    follows i.first.items i.root_line i.limit (entries_in i.tables i.entries.items) i.tables c.self.invariant.0 c.args.self.now.run is c.args.task c.args.action c.requires c.in_ok-event.event event

pub returns-clause-taken : goal.returns-clause-taken
returns-clause-taken c =
    let i = c.self.inside in
    let is = ap (λ (h : Held). h.run) c.self.view_is in
    let run = c.args.self.now.run in
    let event = filled i.first.items i.root_line i.limit (entries_in i.tables i.entries.items) i.tables c.self.invariant.0 run is c.args.task c.args.action c.requires c.in_ok-event.event c.in_ok-event.ensures.ok in
    let may = follows i.first.items i.root_line i.limit (entries_in i.tables i.entries.items) i.tables c.self.invariant.0 run is c.args.task c.args.action c.requires c.in_ok-event.event event in
    subst (Takes run c.args.task c.args.action c.args.to c.append.new.self.run) event
    (takes_so run c.args.task c.args.action c.args.to c.append.new.self.run c.in_ok-event.event event may c.in_ok-append.ensures.ok)
