use Rattle.std.proofs.Common.{ap, refl, subst}
use Rattle.tb_core.specs.Seen.{Held}
use Rattle.tb_core.specs.Outcomes.{Takes}
use Rattle.tb_core.proofs.FillingLemmas.{whole_named}
use Rattle.tb_core.proofs.TakenLemmas.{filled, follows, takes_so}
use Rattle.tb_core.specs.Storing.{entries_in}
use Rattle.tb_core.proofs.run.Core.step_whole.Goals as goal

pub append-requires-clause-may : goal.append-requires-clause-may
append-requires-clause-may c =
    let i = c.self.inside in
    let is = ap (λ (h : Held). h.run) c.self.view_is in
    let whole = whole_named i.tables c.args.task c.args.task c.args.action refl c.requires.whole in
    let event = filled i.first.items i.root_line i.limit (entries_in i.tables i.entries.items) i.tables c.self.invariant.0 c.args.self.now.run is c.args.task c.args.action c.requires.may _ whole in
    follows i.first.items i.root_line i.limit (entries_in i.tables i.entries.items) i.tables c.self.invariant.0 c.args.self.now.run is c.args.task c.args.action c.requires.may _ event

pub returns-clause-taken : goal.returns-clause-taken
returns-clause-taken c =
    let i = c.self.inside in
    let is = ap (λ (h : Held). h.run) c.self.view_is in
    let run = c.args.self.now.run in
    let whole = whole_named i.tables c.args.task c.args.task c.args.action refl c.requires.whole in
    let event = filled i.first.items i.root_line i.limit (entries_in i.tables i.entries.items) i.tables c.self.invariant.0 run is c.args.task c.args.action c.requires.may _ whole in
    let may = follows i.first.items i.root_line i.limit (entries_in i.tables i.entries.items) i.tables c.self.invariant.0 run is c.args.task c.args.action c.requires.may _ event in
    subst (Takes run c.args.task c.args.action c.args.to c.append.new.self.run) event
    (takes_so run c.args.task c.args.action c.args.to c.append.new.self.run _ event may c.in_ok-append.ensures.ok)
