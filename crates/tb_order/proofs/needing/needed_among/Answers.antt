use Rattle.std.proofs.Common.{◌≡◌, ◌<◌, ◌-◌, ◌++◌, ◌∷◌, [], suc, true, eqb-true, length, refl, sym, ap, ◌∙◌, subst, arith, ◌⊎◌, inl, inr, ⊎_elim}
use mathlib.Core.Path.{fun_ext}
use Rattle.std.proofs.lemmas.Bool.{cases_eq}
use Rattle.std.proofs.lemmas.List.{nil_from_length}
use Rattle.tb_races.specs.Orders.{AllNeeds}
use Rattle.tb_lanes.specs.Bounds.{IsRising, bound_among, bound_in}
use Rattle.tb_lanes.specs.Clocks.{IsLow, is_told, lanes_of, previous, row_in}
use Rattle.tb_lanes.specs.Needing.{IsBelow, place_at}
use Rattle.tb_order.specs.Needed.{AreNeeded, IsAmong, own_row}
use Rattle.tb_order.specs.Walked.{IsOffered}
use Rattle.tb_lanes.proofs.BoundLemmas.{first_bound, none_rising}
use Rattle.tb_lanes.proofs.ClockLemmas.{within_any}
use Rattle.tb_order.proofs.NeededLemmas.{first_touched, met_after, met_by, needed_first, needed_none}
use Rattle.tb_order.proofs.needing.needed_among.Goals as goal
use Rattle.tb_order.proofs.needing.needed_among.Goals.{then-first-gt0+in_ok-push, else-first-gt0}

pub back-init : goal.back-init
back-init c =
    let entries = c.args.entries.now in
    let tasks = c.args.tasks.now in
    let clocks = c.args.clocks.now in
    let step = c.args.step.now in
    let begun = c.requires.begun in
    let rows = c.add_row.new.rows.items in
    let own : c.in_ok-own.own.items ≡ own_row clocks step = c.in_ok-own.ensures.items ∙ c.row.ensures ∙ ap (λ r. row_in r step.row) c.deref.ensures.value in
    let same : bound_among rows ≡ bound_in (own_row clocks step) = fun_ext (λ j. first_bound c.new.result.items c.new.ensures.items j (bound_among rows j) (bound_in c.in_ok-own.own.items j) (c.in_ok-add_row.ensures.bounds j)) ∙ ap bound_in own in record {
      within = omega (arith, c.len-left.ensures);
      so_far = record {
        rising = c.in_ok-add_row.ensures.rising (none_rising c.new.result.items c.new.ensures.items) (subst IsRising (sym own) begun.begins.rising);
        under = subst (λ r. IsLow r step.at) (sym same) begun.begins.low;
        sound = λ q l h. inl (begun.begins.sound q l (subst (λ r. is_told AllNeeds entries tasks (lanes_of clocks) r step.lane step.at q ≡ true) same h));
        enough = λ q l a h.
            subst (λ r. is_told AllNeeds entries tasks (lanes_of clocks) r step.lane step.at q ≡ true) (sym same)
            (begun.begins.enough q l a (⊎_elim (λ t. t) (λ d. absurd (omega (arith, d.1, ap length c.new-2.ensures.items))) h));
        low = λ i l. absurd (omega (arith, l, ap length c.new-2.ensures.items));
        listed = λ i l. absurd (omega (arith, l, ap length c.new-2.ensures.items));
        apart = record {
          falling = λ i j l m. absurd (omega (arith, m, ap length c.new-2.ensures.items));
          apart = λ i j l m. absurd (omega (arith, m, ap length c.new-2.ensures.items));
        };
      };
      each = λ i l. absurd (omega (arith, l, ap length c.new-2.ensures.items));
      covered = λ j l m. absurd (omega (arith, l, m, c.len-left.ensures));
    }

pub need-requires-clause-offered : goal.need-requires-clause-offered
need-requires-clause-offered c =
    let tasks = c.args.tasks.now in
    let step = c.args.step.now in
    let begun = c.requires.begun in
    let order = c.in_ok-order.order.items in
    let i = c.back.left - 1 in
    let inside : i < length order = omega (arith, c.back-test.true, c.back.invariant.within) in
    let e : c.index.result.now ≡ place_at order i = within_any order i 0 c.index.result.now inside c.index.ensures in
    let prev : c.index-first.result.now ≡ previous tasks step.at =
    within_any tasks.previous.items step.at 0 c.index-first.result.now (omega (arith, begun.at, begun.by_task.numbers_listed, begun.by_task.shaped.previous_listed)) c.index-first.ensures in
    subst (IsOffered c.args.entries.now tasks step.at) (sym e)
    (⊎_elim (λ a. inr (c.requires.found (place_at order i) a)) (λ a. inl (sym prev ∙ a)) (c.in_ok-order.ensures.each i inside))

pub need-requires-clause-place : goal.need-requires-clause-place
need-requires-clause-place c =
    let tasks = c.args.tasks.now in
    let step = c.args.step.now in
    let begun = c.requires.begun in
    let order = c.in_ok-order.order.items in
    let i = c.back.left - 1 in
    let inside : i < length order = omega (arith, c.back-test.true, c.back.invariant.within) in
    let e : c.index.result.now ≡ place_at order i = within_any order i 0 c.index.result.now inside c.index.ensures in
    let prev : c.index-first.result.now ≡ previous tasks step.at =
    within_any tasks.previous.items step.at 0 c.index-first.result.now (omega (arith, begun.at, begun.by_task.numbers_listed, begun.by_task.shaped.previous_listed)) c.index-first.ensures in
    subst (λ y. y < step.at) (sym e)
    (⊎_elim (λ a. (c.requires.found (place_at order i) a).0) (λ a. (first_touched c.args.entries.now tasks c.args.clocks.now step begun (place_at order i) (sym prev ∙ a)).0) (c.in_ok-order.ensures.each i inside))

pub need-requires-clause-last : goal.need-requires-clause-last
need-requires-clause-last c i l =
    let order = c.in_ok-order.order.items in
    let k = c.back.left - 1 in
    let inside : k < length order = omega (arith, c.back-test.true, c.back.invariant.within) in
    let e : c.index.result.now ≡ place_at order k = within_any order k 0 c.index.result.now inside c.index.ensures in
    let h = c.back.invariant.each i l in
    omega (arith, e, h.3, c.in_ok-order.ensures.rising k h.0 (omega (arith, h.1)) h.2)

pub back-preserved : goal.back-preserved
back-preserved c =
    let order = c.in_ok-order.order.items in
    let l = c.back in
    let k = l.left - 1 in
    let inside : k < length order = omega (arith, c.back-test.true, l.invariant.within) in
    let e : c.index.result.now ≡ place_at order k = within_any order k 0 c.index.result.now inside c.index.ensures in record {
      within = omega (arith, l.invariant.within);
      so_far = c.in_ok-need.ensures.so_far;
      each = λ i m.
          ⊎_elim
          (λ a. let h = l.invariant.each a.0 a.1 in (h.0, omega (arith, h.1), h.2, h.3 ∙ a.2))
          (λ a. (k, omega arith, inside, sym e ∙ sym a))
          (c.in_ok-need.ensures.each i m);
      covered = λ j m h.
          ⊎_elim
          (λ s. subst (IsBelow AllNeeds c.args.entries.now c.need.new.needed.places.items) (e ∙ ap (place_at order) (sym s)) c.in_ok-need.ensures.covered)
          (λ d. c.in_ok-need.ensures.more (place_at order j) (l.invariant.covered j (omega (arith, m, d)) h))
          (cases_eq j k);
    }

pub returns-clause-row : goal.returns-clause-row
returns-clause-row c =
    let entries = c.args.entries.now in
    let tasks = c.args.tasks.now in
    let clocks = c.args.clocks.now in
    let step = c.args.step.now in
    let begun = c.requires.begun in
    let order = c.in_ok-order.order.items in
    let l = c.back in
    let is = l.invariant.so_far in
    let row = c.in_ok-row.row.items in
    let same : bound_among l.needed.rows.items ≡ bound_in row = fun_ext (λ j. sym (c.in_ok-row.ensures.bounds j)) in record {
      rising = c.in_ok-row.ensures.rising is.rising;
      low = subst (λ r. IsLow r step.at) same is.under;
      sound = λ q m h. met_after entries tasks clocks step begun l.needed is q m (is.sound q m (subst (λ r. is_told AllNeeds entries tasks (lanes_of clocks) r step.lane step.at q ≡ true) (sym same) h));
      enough = λ q m a h.
          subst (λ r. is_told AllNeeds entries tasks (lanes_of clocks) r step.lane step.at q ≡ true) same
          (is.enough q m a
          (met_by entries tasks clocks step begun c.args.found.items l.needed.places.items (λ i k. (c.requires.found (place_at c.args.found.items i) (i, k, refl)).0) is.low
          (λ i k.
          let j = c.in_ok-order.ensures.all (place_at c.args.found.items i) (inl (i, k, refl)) in
          subst (IsBelow AllNeeds entries l.needed.places.items) j.2 (l.invariant.covered j.0 (omega (arith, c.back-test.false)) j.1))
          q m h));
    }

pub returns-clause-needed : goal.returns-clause-needed
returns-clause-needed c =
    let entries = c.args.entries.now in
    let tasks = c.args.tasks.now in
    let step = c.args.step.now in
    let begun = c.requires.begun in
    let found = c.args.found.items in
    let order = c.in_ok-order.order.items in
    let l = c.back in
    let prev : c.index-first.result.now ≡ previous tasks step.at = within_any tasks.previous.items step.at 0 c.index-first.result.now (omega (arith, begun.at, begun.by_task.numbers_listed, begun.by_task.shaped.previous_listed)) c.index-first.ensures in record {
      each = λ i m.
          let h = l.invariant.each i m in
          subst (λ y. IsAmong found y ⊎ (previous tasks step.at ≡ suc y)) h.3 (⊎_elim (λ a. inl a) (λ a. inr (sym prev ∙ a)) (c.in_ok-order.ensures.each h.0 h.2));
      apart = l.invariant.so_far.apart;
      covered = λ x h.
          let j = c.in_ok-order.ensures.all x (⊎_elim (λ a. inl a) (λ a. inr (prev ∙ a)) h) in
          subst (IsBelow AllNeeds entries l.needed.places.items) j.2 (l.invariant.covered j.0 (omega (arith, c.back-test.false)) j.1);
    }

pub returns-then-is_empty-clause-needed : goal.returns-then-is_empty-clause-needed
returns-then-is_empty-clause-needed c =
    let entries = c.args.entries.now in
    let tasks = c.args.tasks.now in
    let at = c.args.step.now.at in
    let begun = c.requires.begun in
    let found = c.args.found.items in
    let none = nil_from_length found (omega (arith, c.args.found.ok, eqb-true c.args.found.len 0 (sym c.is_empty.ensures ∙ c.if-is_empty.true))) in
    let first = c.index-first.result.now in
    let prev : first ≡ previous tasks at =
    within_any tasks.previous.items at 0 first (omega (arith, begun.at, begun.by_task.numbers_listed, begun.by_task.shaped.previous_listed)) c.index-first.ensures in
    (elim c.if-first-gt0.branch [
      | then-first-gt0+in_ok-push w ↦
          subst (λ (n : _). AreNeeded entries tasks at found n.places.items) (sym w.needed-is)
          (needed_first entries tasks at found _ none (first - 1) (omega (arith, prev, w.if-first-gt0.true)) (w.in_ok-push.ensures.items ∙ ap (λ xs. xs ++ (first - 1) ∷ []) c.new-2.ensures.items))
      | else-first-gt0 w ↦
          subst (λ (n : _). AreNeeded entries tasks at found n.places.items) (sym w.needed-is) (needed_none entries tasks at found _ none (omega (arith, prev, w.if-first-gt0.false)) c.new-2.ensures.items)
    ])
