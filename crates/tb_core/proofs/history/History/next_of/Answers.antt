use Rattle.std.proofs.Common.{arith}
use Rattle.tb_model.specs.Facts.{is_of}
use Rattle.tb_core.specs.Renumbering.{events_in}
use Rattle.tb_core.specs.Soundness.{names_in}
use Rattle.tb_core.specs.Storing.{entries_in}
use Rattle.tb_core.proofs.HistoryLemmas.{front_len}
use Rattle.tb_core.proofs.LendingLemmas.{all_within, none_between}
use Rattle.tb_core.proofs.history.History.next_of.Goals as goal

pub returns-clause-none : goal.returns-clause-none
returns-clause-none c =
    let i = c.self.inside in
    let names = names_in i.tables.now in
    let all = entries_in i.tables.now i.entries.now in
    let whole = front_len names i.entries.now all c.args.self.now i.count c.self.invariant.1 c.self.invariant.0 c.self.view_is in
    let own = c.events_of-own.ensures names c.args.task.now (events_in all) c.place.ensures c.self.invariant.2.places in
    none_between (is_of c.args.task.now) all c.args.self.now i.count c.self.view_is (all_within names i.entries.now all i.count c.self.invariant.1 c.self.invariant.0)
    c.args.from c.next_place.result (omega (arith, c.next_place.ensures.end, c.len.ensures, whole)) (c.next_place.ensures.none (is_of c.args.task.now) (events_in all) own)
