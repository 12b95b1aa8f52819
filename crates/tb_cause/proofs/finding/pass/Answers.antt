use Rattle.std.proofs.Common.{◌≡◌, ◌≤◌, ◌<◌, ◌∷◌, ◌++◌, [], length, true, sym, ap, ◌∙◌, subst, arith}
use Rattle.std.specs.List.{All, list_any}
use Rattle.tb_cause.specs.Chains.{events_at}
use Rattle.tb_cause.specs.Indexes.{items_told}
use Rattle.tb_cause.specs.Keys.{IsOfTask, gives, has}
use Rattle.tb_cause.proofs.ConeLemmas.{found_first, found_same, found_more, all_pushed, found_all}
use Rattle.tb_cause.proofs.KeyedLemmas.{given_more, given_upward, taken_is_needed}
use Rattle.tb_cause.proofs.SkippingLemmas.{found_upto}
use Rattle.tb_cause.proofs.TaskKeyLemmas.{of_given, placed_on}
use Rattle.tb_cause.proofs.finding.pass.Goals as goal
use Rattle.tb_cause.proofs.finding.pass.Goals.{then-branch+in_ok-enter, else-branch}
use Rattle.tb_steps.proofs.FirstLemmas.{there}

pub forward-preserved : goal.forward-preserved
forward-preserved c =
    let l = c.forward in
    let entries = c.args.indexed.now in
    let next = c.in_ok-next.next in
    let legal = c.history_is_legal.ensures.legal in
    let out = c.in_ok-next.ensures in
    let within : next < length entries = omega (arith, out.high, c.if-next-len.false, c.len-in-forward.ensures) in
    let w = there entries next within in
    let found = found_upto c.args._step.now entries legal l.places.items (has l.keys) l.invariant.given l.later next out l.invariant.found in
    let needed = taken_is_needed entries next w.0 within w.1 legal c.args._step.now l.places.items found (has l.keys) l.invariant.given c.in_ok-goes.field-0 (c.in_ok-goes.ensures w.0 w.1) in
    elim c.if-branch.branch [
      | then-branch+in_ok-enter x ↦
          let places : c.if-branch.places.items ≡ l.places.items ++ next ∷ [] = ap (λ v. v.items) x.places-is ∙ x.in_ok-enter.ensures.places in record {
            order = omega (arith, l.invariant.order, out.low);
            within = omega (arith, within);
            found = found_more c.args._step.now entries next l.places.items w.0 within w.1 found (needed ∙ x.if-branch.true) c.if-branch.places.items places;
            given = given_more entries l.places.items c.if-branch.places.items next w.0 within w.1 (has l.keys) (has c.if-branch.keys) l.invariant.given
                (λ k. ap (λ m. has m k) x.keys-is ∙ x.in_ok-enter.ensures.keys k w.0 w.1) places;
            inside = all_pushed (λ p. p < length entries) l.places.items c.if-branch.places.items next places l.invariant.inside within;
            behind = all_pushed (λ p. c.args.at ≤ p) l.places.items c.if-branch.places.items next places l.invariant.behind (omega (arith, l.invariant.order, out.low));
            of_task = placed_on entries next (has c.if-branch.keys) c.if-branch.of_task
                (subst (IsOfTask entries next (has c.if-branch.keys)) (sym x.of_task-is)
                (subst (λ m. IsOfTask entries next (has m) true) (sym x.keys-is) (of_given entries next (items_told entries) (has l.keys) _ x.in_ok-enter.ensures.keys)));
          }
      | else-branch x ↦ record {
        order = omega (arith, l.invariant.order, out.low);
        within = omega (arith, within);
        found = found_same c.args._step.now entries next l.places.items w.0 within w.1 found (needed ∙ x.if-branch.false) c.if-branch.places.items (ap (λ v. v.items) x.places-is);
        given = λ k. ap (λ m. has m k) x.keys-is ∙ l.invariant.given k ∙ ap (λ v. list_any (λ u. gives (items_told entries) u k) (events_at entries v.items)) (sym x.places-is);
        inside = subst (λ v. All (λ p. p < length entries) v.items) (sym x.places-is) l.invariant.inside;
        behind = subst (λ v. All (λ p. c.args.at ≤ p) v.items) (sym x.places-is) l.invariant.behind;
        of_task = placed_on entries next (has c.if-branch.keys) c.if-branch.of_task
            (subst (IsOfTask entries next (has c.if-branch.keys)) (sym x.of_task-is) (subst (λ m. IsOfTask entries next (has m) c.is_of_task_on-of_task.result) (sym x.keys-is) c.is_of_task_on-of_task.ensures));
      }
    ]

pub enter-requires-clause-upward : goal.enter-requires-clause-upward
enter-requires-clause-upward c = given_upward c.args.indexed.now c.forward.places.items (has c.forward.keys) c.forward.invariant.given

pub forward-init : goal.forward-init
forward-init c =
    let entries = c.args.indexed.now in
    record {
      order = omega arith;
      within = omega (arith, c.requires.within);
      found = found_first entries c.args.at c.args._step.now c.requires.within c.requires.here c.args.places.now.items c.requires.first;
      given = c.requires.given;
      inside = all_pushed (λ p. p < length entries) [] c.args.places.now.items c.args.at c.requires.first (λ k d h. absurd (omega (arith, h))) c.requires.within;
      behind = all_pushed (λ p. c.args.at ≤ p) [] c.args.places.now.items c.args.at c.requires.first (λ k d h. absurd (omega (arith, h))) (omega arith);
      of_task = placed_on entries c.args.at (has c.args.keys.now) _ c.is_of_task-of_task.ensures;
    }

pub returns-then-next-len : goal.returns-then-next-len
returns-then-next-len c =
    let l = c.forward in
    let entries = c.args.indexed.now in
    let end : c.in_ok-next.next ≡ length entries = omega (arith, c.if-next-len.true, c.len-in-forward.ensures) in
    record {
      found = found_all c.args._step.now entries c.in_ok-next.next l.places.items end
          (found_upto c.args._step.now entries c.history_is_legal.ensures.legal l.places.items (has l.keys) l.invariant.given l.later c.in_ok-next.next c.in_ok-next.ensures l.invariant.found);
      inside = l.invariant.inside;
      behind = l.invariant.behind;
    }

pub returns : goal.returns
returns c =
    let l = c.forward in
    let end : l.later ≡ length c.args.indexed.now = omega (arith, c.forward-test.false, c.len.ensures, l.invariant.within) in
    record {
      found = found_all c.args._step.now c.args.indexed.now l.later l.places.items end l.invariant.found;
      inside = l.invariant.inside;
      behind = l.invariant.behind;
    }
