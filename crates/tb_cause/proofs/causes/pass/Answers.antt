use Rattle.std.proofs.Common.{◌-◌, take, subst, arith}
use Rattle.tb_steps.specs.Scans.{history_of}
use Rattle.tb_cause.specs.Indexes.{items_told}
use Rattle.tb_cause.specs.Keys.{IsOfTask, has}
use Rattle.tb_cause.proofs.CauseLemmas.{causes_told}
use Rattle.tb_cause.proofs.CausePassLemmas.{passed_first, passed_met, passed_unmet}
use Rattle.tb_cause.proofs.TaskKeyLemmas.{known_at, of_asked}
use Rattle.tb_cause.proofs.causes.pass.Goals as goal

pub back-init : goal.back-init
back-init c = record {
  passed = passed_first c.args.indexed.now c.history_is_legal.ensures.legal c.args.at c.requires.within c.new-places.result.items c.new-places.ensures.items (has c.args.keys.now) c.requires.asked;
  of_task = c.is_of_task-of_task.ensures;
}

pub enter-requires-clause-of_task : goal.enter-requires-clause-of_task
enter-requires-clause-of_task c h = known_at c.args.indexed.now (c.back.left - 1) (has c.back.keys) c.is_of_earlier-of_task.result c.is_of_earlier-of_task.ensures h

pub is_of_earlier-of_task-requires-clause-last : goal.is_of_earlier-of_task-requires-clause-last
is_of_earlier-of_task-requires-clause-last c =
    subst (λ n. IsOfTask c.args.indexed.now n (has c.back.keys) c.back.of_task) (omega (arith, c.back-test.true)) c.back.invariant.of_task

pub back-preserved-then-branch : goal.back-preserved-then-branch
back-preserved-then-branch c =
    let l = c.back in
    record {
      passed = passed_met c.args.indexed.now c.history_is_legal.ensures.legal c.args.at c.requires.within l.left l.places.items (has l.keys) l.invariant.passed (omega (arith, c.back-test.true)) _ c.in_ok-is_asked.ensures
          c.if-branch.true c.enter.new.places.items c.in_ok-enter.ensures.places (has c.enter.new.keys) c.in_ok-enter.ensures.keys;
      of_task = of_asked c.args.indexed.now (l.left - 1) (items_told c.args.indexed.now) (history_of (take (l.left - 1) c.args.indexed.now)) (has l.keys) (has c.enter.new.keys) c.in_ok-enter.ensures.keys;
    }

pub back-preserved : goal.back-preserved
back-preserved c =
    let l = c.back in
    record {
      passed = passed_unmet c.args.indexed.now c.history_is_legal.ensures.legal c.args.at c.requires.within l.left l.places.items (has l.keys) l.invariant.passed (omega (arith, c.back-test.true)) _ c.in_ok-is_asked.ensures c.if-branch.false;
      of_task = c.is_of_earlier-of_task.ensures;
    }

pub returns : goal.returns
returns c =
    let l = c.back in
    causes_told c.args.indexed.now c.args.at l.left l.places.items c.reverse.new.self.items (omega (arith, c.back-test.false)) c.requires.within l.invariant.passed.found l.invariant.passed.inside c.reverse.ensures.items
