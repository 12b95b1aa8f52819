use Rattle.std.proofs.Common.{◌≡◌, ◌<◌, ◌+◌, ◌-◌, ◌∙◌, List, length, take, get_or, sym, ap, arith}
use Rattle.tb_model.specs.declared.action.Action.{Action}
use Rattle.tb_model.specs.Facts.{is_spawn_of}
use Rattle.tb_model.specs.State.{spawn_of}
use Rattle.tb_steps.specs.Entries.{Entry}
use Rattle.tb_steps.specs.Scans.{history_of}
use Rattle.tb_cause.proofs.StandingLemmas.{spawn_here, spawn_not_here}
use Rattle.tb_cause.proofs.indexed.Indexed.spawn_of.Goals as goal
use Rattle.tb_steps.proofs.FirstLemmas.{there}

pub returns-then-is_spawn_of-clause-spawn : goal.returns-then-is_spawn_of-clause-spawn
returns-then-is_spawn_of-clause-spawn c =
    let entries = c.args.self.now in
    let t = c.args.task.now in
    let left = c.back.left - 1 in
    let one : left + 1 ≡ c.back.left = omega (arith, c.back-test.true) in
    let within : left < length entries = omega (arith, c.back.invariant.within, c.back-test.true) in
    let w = there entries left within in
    let action = c.action.ensures w.0 (w.1 ∙ ap (λ (es : List Entry). get_or es left w.0) (sym c.self.view_is)) in
    spawn_here entries t left w.0 within w.1 (ap (λ n. spawn_of t (history_of (take n entries))) one ∙ c.back.invariant.same)
    (ap (λ (a : Action). is_spawn_of t a) (sym action) ∙ sym c.is_spawn_of.ensures ∙ c.if-is_spawn_of.true)

pub back-preserved : goal.back-preserved
back-preserved c =
    let entries = c.args.self.now in
    let t = c.args.task.now in
    let left = c.back.left - 1 in
    let one : left + 1 ≡ c.back.left = omega (arith, c.back-test.true) in
    let within : left < length entries = omega (arith, c.back.invariant.within, c.back-test.true) in
    let w = there entries left within in
    let action = c.action.ensures w.0 (w.1 ∙ ap (λ (es : List Entry). get_or es left w.0) (sym c.self.view_is)) in
    record {
      same = spawn_not_here entries t left w.0 within w.1 (ap (λ n. spawn_of t (history_of (take n entries))) one ∙ c.back.invariant.same) (ap (λ (a : Action). is_spawn_of t a) (sym action) ∙ sym c.is_spawn_of.ensures ∙ c.if-is_spawn_of.false);
      within = omega (arith, within);
    }
