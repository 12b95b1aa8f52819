use Rattle.std.proofs.Common.{◌≡◌, ◌≢◌, ◌<◌, ◌≤◌, ◌-◌, length, sym, ap, ◌∙◌, arith}
use Rattle.std.proofs.lemmas.Bool.{both_ways, false≢true, false_from_ne_true}
use Rattle.tb_lanes.specs.Clocks as is
use Rattle.tb_lanes.specs.Clocks.{origin}
use Rattle.tb_lanes.proofs.ClockLemmas.{within_any}
use Rattle.tb_lanes.proofs.FewerLemmas.{below_reached, none_asked, up_asked, up_reached}
use Rattle.tb_lanes.proofs.JoinLemmas.{not_reached}
use Rattle.tb_lanes.proofs.clocks.reaches.Goals as goal

pub up-preserved : goal.up-preserved
up-preserved c =
    let l = c.up in
    let e : c.index-in-up.result.now ≡ origin c.args.tasks.now l.at = within_any c.args.tasks.now.origins.items l.at 0 c.index-in-up.result.now (omega (arith, l.invariant.listed, c.requires.listed, c.requires.shaped.origins_listed)) c.index-in-up.ensures in
    let some : origin c.args.tasks.now l.at ≢ 0 = λ z. c.if-index-eq0.false (within_any c.args.tasks.now.origins.items l.at 0 c.index.result.now (omega (arith, l.invariant.listed, c.requires.listed, c.requires.shaped.origins_listed)) c.index.ensures ∙ z) in
    let low = c.requires.shaped.low l.at (omega (arith, l.invariant.listed, c.requires.listed)) in record {
      listed = omega (arith, e, low, l.invariant.listed);
      so = λ asked o entries n are told late.
          let s = l.invariant.so asked o entries n are told late in
          let long : n ≤ length entries = omega (arith, told.listed, c.requires.listed, are.numbers_listed) in
          let q : c.args.early < n = omega (arith, c.requires.early, late) in (
            omega (arith, e, low, s.0),
            λ h. s.1 (up_reached asked o entries c.args.tasks.now n c.args.clocks.now are told long l.at s.0 c.args.early q some (ap (λ m. is.reaches o entries (m - 1) c.args.early) (sym e) ∙ h)),
            λ a h. ap (λ m. is.reaches o entries (m - 1) c.args.early) e ∙ up_asked asked o entries c.args.tasks.now n c.args.clocks.now are told long l.at s.0 c.args.early q a (sym (c.is_below.ensures (told.rising l.at s.0)) ∙ c.if-is_below.false) some (s.2 a h),
          );
    }

pub returns-then-is_below : goal.returns-then-is_below
returns-then-is_below c asked o entries n are told late =
    let l = c.up in
    let s = l.invariant.so asked o entries n are told late in
    let r = s.1 (below_reached asked o entries c.args.tasks.now n c.args.clocks.now are told (omega (arith, told.listed, c.requires.listed, are.numbers_listed)) l.at s.0 c.args.early (sym (c.is_below.ensures (told.rising l.at s.0)) ∙ c.if-is_below.true)).1 in
    (λ h. r, λ a. sym r)

pub returns-then-index-eq0 : goal.returns-then-index-eq0
returns-then-index-eq0 c asked o entries n are told late =
    let l = c.up in
    let s = l.invariant.so asked o entries n are told late in
    let none : origin c.args.tasks.now l.at ≡ 0 = sym (within_any c.args.tasks.now.origins.items l.at 0 c.index.result.now (omega (arith, l.invariant.listed, c.requires.listed, c.requires.shaped.origins_listed)) c.index.ensures) ∙ c.if-index-eq0.true in (
      λ h. absurd (false≢true h),
      λ a. sym (false_from_ne_true (is.reaches o entries c.args.late c.args.early) (λ h.
          both_ways (is.reaches o entries l.at c.args.early)
          (none_asked asked o entries c.args.tasks.now n c.args.clocks.now are told (omega (arith, told.listed, c.requires.listed, are.numbers_listed)) l.at s.0 c.args.early (omega (arith, c.requires.early, late)) a (sym (c.is_below.ensures (told.rising l.at s.0)) ∙ c.if-is_below.false) none)
          (s.2 a h))),
    )

pub returns : goal.returns
returns c asked o entries n are told late =
    let l = c.up in
    let s = l.invariant.so asked o entries n are told late in (
      λ h. absurd (false≢true h),
      λ a. sym (false_from_ne_true (is.reaches o entries c.args.late c.args.early) (λ h.
          both_ways (is.reaches o entries l.at c.args.early)
          (not_reached o entries l.at c.args.early (omega (arith, c.up-test.false)) (omega (arith, c.requires.early, c.requires.late, c.requires.listed, are.numbers_listed)))
          (s.2 a h))),
    )
