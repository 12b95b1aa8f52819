use Rattle.std.proofs.Common.{◌<◌, length, refl, sym, ◌∙◌, arith}
use Rattle.tb_steps.proofs.MemberLemmas.{at_first}
use Rattle.tb_lanes.proofs.AfterLemmas.{at_is}
use Rattle.tb_lanes.proofs.GroupLemmas.{walk_close, walk_none, walk_open, walk_opened, walk_other}
use Rattle.tb_lanes.proofs.OwnLemmas.{H}
use Rattle.tb_model.specs.Facts.{own}
use Rattle.tb_races.specs.Orders.{Synchronised}
use Rattle.tb_order.proofs.grouping.opened.Goals as goal

pub back-init : goal.back-init
back-init c = record {
  fits = omega arith;
  same = refl;
  rest = λ v is m s. sym (at_first (own v.event.task (H c.args.entries.now c.args.at)) m);
}

pub step_before-requires-clause-at : goal.step_before-requires-clause-at
step_before-requires-clause-at c = omega (arith, c.back.invariant.fits, c.requires.at, c.requires.tasks.numbers_listed)

pub returns-then-closed-eq0-clause-within : goal.returns-then-closed-eq0-clause-within
returns-then-closed-eq0-clause-within c = omega (arith, c.back.invariant.fits)

pub returns-then-closed-eq0-clause-none : goal.returns-then-closed-eq0-clause-none
returns-then-closed-eq0-clause-none c v is =
    let entries = c.args.entries.now in
    let own = c.in-Some.ensures.own in
    let low = c.back.invariant.fits in
    let i : c.in-Some.before < length entries = omega (arith, own.2, low, c.requires.at) in
    walk_opened entries c.args.tasks.now c.requires.tasks c.requires.legal c.args.at c.requires.at v is c.back.place c.in-Some.before c.back.closed own.2 (omega (arith, low)) i c.back.invariant.same own.0 own.1 (c.back.invariant.rest v is)
    (sym (c.action.ensures _ (at_is Synchronised entries c.in-Some.before i)) ∙ c.in-Open.is) c.if-closed-eq0.true

pub overflow_add-closed : goal.overflow_add-closed
overflow_add-closed c = omega (arith, c.back.invariant.fits, c.in-Some.ensures.own.2, c.ranges.at.fits)

pub back-smaller-else-closed-eq0 : goal.back-smaller-else-closed-eq0
back-smaller-else-closed-eq0 c = c.in-Some.ensures.own.2

pub back-preserved-else-closed-eq0 : goal.back-preserved-else-closed-eq0
back-preserved-else-closed-eq0 c =
    let entries = c.args.entries.now in
    let own = c.in-Some.ensures.own in
    let low = c.back.invariant.fits in
    let i : c.in-Some.before < length entries = omega (arith, own.2, low, c.requires.at) in record {
      fits = omega (arith, low, own.2);
      same = own.1 ∙ c.back.invariant.same;
      rest = λ v is.
          walk_open entries c.args.tasks.now c.requires.tasks c.requires.legal c.args.at c.requires.at v is c.back.place c.in-Some.before c.back.closed own.2 (omega (arith, low)) i c.back.invariant.same own.0 own.1 (c.back.invariant.rest v is)
          (sym (c.action.ensures _ (at_is Synchronised entries c.in-Some.before i)) ∙ c.in-Open.is) c.if-closed-eq0.false;
    }

pub back-smaller-in-Close : goal.back-smaller-in-Close
back-smaller-in-Close c = c.in-Some.ensures.own.2

pub back-preserved-in-Close : goal.back-preserved-in-Close
back-preserved-in-Close c =
    let entries = c.args.entries.now in
    let own = c.in-Some.ensures.own in
    let low = c.back.invariant.fits in
    let i : c.in-Some.before < length entries = omega (arith, own.2, low, c.requires.at) in record {
      fits = omega (arith, low, own.2);
      same = own.1 ∙ c.back.invariant.same;
      rest = λ v is.
          walk_close entries c.args.tasks.now c.requires.tasks c.requires.legal c.args.at c.requires.at v is c.back.place c.in-Some.before c.back.closed own.2 (omega (arith, low)) i c.back.invariant.same own.0 own.1 (c.back.invariant.rest v is)
          (sym (c.action.ensures _ (at_is Synchronised entries c.in-Some.before i)) ∙ c.in-Close.is);
    }

pub back-smaller : goal.back-smaller
back-smaller c = c.in-Some.ensures.own.2

pub back-preserved : goal.back-preserved
back-preserved c =
    let entries = c.args.entries.now in
    let own = c.in-Some.ensures.own in
    let low = c.back.invariant.fits in
    let i : c.in-Some.before < length entries = omega (arith, own.2, low, c.requires.at) in
    let told = c.action.ensures _ (at_is Synchronised entries c.in-Some.before i) in record {
      fits = omega (arith, low, own.2);
      same = own.1 ∙ c.back.invariant.same;
      rest = λ v is.
          walk_other entries c.args.tasks.now c.requires.tasks c.requires.legal c.args.at c.requires.at v is c.back.place c.in-Some.before c.back.closed own.2 (omega (arith, low)) i c.back.invariant.same own.0 own.1 (c.back.invariant.rest v is)
          (λ e. c.in_default-action.not-Open (told ∙ e)) (λ e. c.in_default-action.not-Close (told ∙ e));
    }

pub returns-clause-within : goal.returns-clause-within
returns-clause-within c = omega (arith, c.back.invariant.fits)

pub returns-clause-none : goal.returns-clause-none
returns-clause-none c v is m s =
    walk_none c.args.entries.now c.args.tasks.now c.requires.tasks c.requires.legal c.args.at c.requires.at v is c.back.place c.back.closed (omega (arith, c.back.invariant.fits)) c.back.invariant.same c.in_default.ensures.none m
    (c.back.invariant.rest v is m s)
