use Rattle.std.proofs.Common.{◌∙◌, ap, arith, rules}
use Rattle.std.proofs.lemmas.Map.Lookups.{exact_unsigned}
use Rattle.tb_wait.specs.Kin.{place}
use Rattle.tb_core.specs.Renumbering.{events_in}
use Rattle.tb_core.specs.Soundness.{names_in}
use Rattle.tb_core.specs.Storing.{entries_in}
use Rattle.tb_core.proofs.HistoryLemmas.{front_len}
use Rattle.tb_core.proofs.LendingLemmas.{all_within, ranked}
use Rattle.tb_core.proofs.history.History.rank.Goals as goal

pub returns-in-Ok-binary_search : goal.returns-in-Ok-binary_search
returns-in-Ok-binary_search c e here =
    let i = c.self.inside in
    let names = names_in i.tables.now in
    let all = entries_in i.tables.now i.entries.now in
    let whole = front_len names i.entries.now all c.args.self.now i.count c.self.invariant.1 c.self.invariant.0 c.self.view_is in
    let own = c.events_of-own.ensures names e.event.task (events_in all) (c.place.ensures ∙ ap (place i.tables.now.waits.tasks) (c.task.ensures e here)) c.self.invariant.2.places in
    ranked all c.args.self.now i.count c.self.view_is (all_within names i.entries.now all i.count c.self.invariant.1 c.self.invariant.0) c.args.at e c.events_of-own.result.now c.in-Ok-binary_search.before 0 (omega (arith, c.requires, whole)) here own
    c.in-Ok-binary_search.ensures.bound (exact_unsigned _ _ (c.in-Ok-binary_search.ensures.ok 0) ∙ search rules)
