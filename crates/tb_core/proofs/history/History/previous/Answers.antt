use Rattle.std.proofs.Common.{◌∙◌, ap, arith}
use Rattle.tb_wait.specs.Kin.{place}
use Rattle.tb_model.specs.Facts.{is_of}
use Rattle.tb_core.specs.Renumbering.{events_in}
use Rattle.tb_core.specs.Soundness.{names_in}
use Rattle.tb_core.specs.Storing.{entries_in}
use Rattle.tb_core.proofs.HistoryLemmas.{front_len}
use Rattle.tb_core.proofs.LendingLemmas.{all_within, if_none, some_last}
use Rattle.tb_core.proofs.history.History.previous.Goals as goal

pub returns-clause-some : goal.returns-clause-some
returns-clause-some c e here =
    let i = c.self.inside in
    let names = names_in i.tables.now in
    let all = entries_in i.tables.now i.entries.now in
    let whole = front_len names i.entries.now all c.args.self.now i.count c.self.invariant.1 c.self.invariant.0 c.self.view_is in
    let own = c.events_of-own.ensures names e.event.task (events_in all) (c.place.ensures ∙ ap (place i.tables.now.waits.tasks) (c.task.ensures e here)) c.self.invariant.2.places in
    some_last (is_of e.event.task) all c.args.self.now i.count c.self.view_is (all_within names i.entries.now all i.count c.self.invariant.1 c.self.invariant.0) c.args.at c.last_place.result
    (omega (arith, c.requires, whole)) (c.last_place.ensures.some (is_of e.event.task) (events_in all) own)

pub returns-clause-none : goal.returns-clause-none
returns-clause-none c e here =
    let i = c.self.inside in
    let names = names_in i.tables.now in
    let all = entries_in i.tables.now i.entries.now in
    let whole = front_len names i.entries.now all c.args.self.now i.count c.self.invariant.1 c.self.invariant.0 c.self.view_is in
    let own = c.events_of-own.ensures names e.event.task (events_in all) (c.place.ensures ∙ ap (place i.tables.now.waits.tasks) (c.task.ensures e here)) c.self.invariant.2.places in
    if_none (is_of e.event.task) all c.args.self.now i.count c.self.view_is (all_within names i.entries.now all i.count c.self.invariant.1 c.self.invariant.0) c.args.at c.last_place.result
    (omega (arith, c.requires, whole)) (c.last_place.ensures.none (is_of e.event.task) (events_in all) own)
