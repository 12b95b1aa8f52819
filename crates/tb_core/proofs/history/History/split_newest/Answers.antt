use Rattle.std.proofs.Common.{◌-◌, ap, length, arith}
use Rattle.std.proofs.lemmas.List.{length-take-le}
use Rattle.tb_core.specs.Soundness.{names_in}
use Rattle.tb_core.specs.Storing.{entries_in}
use Rattle.tb_core.proofs.HistoryLemmas.{front_len, parted_at_newest}
use Rattle.tb_core.proofs.history.History.split_newest.Goals as goal

pub returns-clause-some : goal.returns-clause-some
returns-clause-some c =
    let i = c.self.inside in
    let whole = front_len (names_in i.tables.now) i.entries.now (entries_in i.tables.now i.entries.now) c.args.self.now i.count c.self.invariant.1 c.self.invariant.0 c.self.view_is in
    parted_at_newest c.args.self.now c.front.result (i.count - 1) c.task.result.now c.action.result.now (omega (arith, whole, c.if-self-eq0.false)) c.front.ensures c.task.ensures c.action.ensures

pub front-requires : goal.front-requires
front-requires c =
    let i = c.self.inside in
    let whole = front_len (names_in i.tables.now) i.entries.now (entries_in i.tables.now i.entries.now) c.args.self.now i.count c.self.invariant.1 c.self.invariant.0 c.self.view_is in
    omega (arith, whole, c.if-self-eq0.false)

pub task-requires : goal.task-requires
task-requires c =
    let i = c.self.inside in
    let whole = front_len (names_in i.tables.now) i.entries.now (entries_in i.tables.now i.entries.now) c.args.self.now i.count c.self.invariant.1 c.self.invariant.0 c.self.view_is in
    omega (arith, whole, c.if-self-eq0.false)

pub action-requires : goal.action-requires
action-requires c =
    let i = c.self.inside in
    let whole = front_len (names_in i.tables.now) i.entries.now (entries_in i.tables.now i.entries.now) c.args.self.now i.count c.self.invariant.1 c.self.invariant.0 c.self.view_is in
    omega (arith, whole, c.if-self-eq0.false)

pub returns-clause-fewer : goal.returns-clause-fewer
returns-clause-fewer c =
    let i = c.self.inside in
    let whole = front_len (names_in i.tables.now) i.entries.now (entries_in i.tables.now i.entries.now) c.args.self.now i.count c.self.invariant.1 c.self.invariant.0 c.self.view_is in
    let cut = length-take-le (i.count - 1) c.args.self.now (omega (arith, whole)) in
    omega (arith, whole, c.if-self-eq0.false, ap length c.front.ensures, cut)
