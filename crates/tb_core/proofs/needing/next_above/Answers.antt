use Rattle.std.proofs.Common.{◌≡◌, ◌<◌, ◌≤◌, ℕ, List, Option, None, Some, length, refl, sym, subst, arith}
use Rattle.tb_model.specs.Names.{Name, parent}
use Rattle.tb_model.specs.Facts.{is_of}
use Rattle.tb_core.specs.Lending.{IsNoneBetween}
use Rattle.tb_core.specs.Needing.{NoneOf, OnlyAbove}
use Rattle.tb_steps.specs.Entries.{Entry}
use Rattle.tb_steps.proofs.FirstLemmas.{there}
use Rattle.tb_core.proofs.NeedingLemmas.{from_parent, next_parent, above_root}
use Rattle.tb_core.proofs.needing.next_above.Goals as goal

pub up-init : goal.up-init
up-init c =
    let es = c.args.entries.now in
    let at = c.args.at in
    let from = c.args.from in
    let next = c.next_of-next.result in
    let within : at < length es = omega (arith, c.requires.at, c.requires.from) in
    let u = there es at within in
    let task = c.task-ended.ensures u.0 u.1 in
    let none = subst (λ (t : Name). IsNoneBetween (is_of t) es from next) task c.next_of-next.ensures.none in
    record {
      from = c.next_of-next.ensures.from;
      within = c.next_of-next.ensures.within;
      only = subst (λ (o : Option Name). OnlyAbove o es at from next) (sym c.in_ok-above.ensures.parent)
          (subst (λ (t : Name). OnlyAbove (parent t) es at from next) (sym task)
          (from_parent es at from next u.0 c.is_legal.ensures within c.requires.at c.next_of-next.ensures.within u.1 (c.requires.end u.0 u.1) c.requires.starts none));
    }

-- one task further up
further : (es : List Entry) (at from last next : ℕ) (o p : Option Name) (t : Name) → o ≡ Some t → p ≡ parent t → next ≤ last → OnlyAbove o es at from last
    → NoneOf t es at from next → OnlyAbove p es at from next
further es at from last next o p t is up lower only none =
    subst (λ (q : Option Name). OnlyAbove q es at from next) (sym up)
    (next_parent es at from last next t lower (subst (λ (q : Option Name). OnlyAbove q es at from last) is only) none)

pub up-preserved : goal.up-preserved
up-preserved c = record {
  from = c.next_needer_of-next.ensures.from;
  within = omega (arith, c.next_needer_of-next.ensures.to, c.up.invariant.within);
  only =
      further c.args.entries.now c.args.at c.args.from c.up.next c.next_needer_of-next.result c.up.above c.in_ok-above-2.above c.in-Some.task c.in-Some.is c.in_ok-above-2.ensures.parent
      c.next_needer_of-next.ensures.to c.up.invariant.only c.next_needer_of-next.ensures.none;
}

pub up-preserved-in_ok-above-2 : goal.up-preserved-in_ok-above-2
up-preserved-in_ok-above-2 c = record {
  from = c.next_needer_of-next.ensures.from;
  within = omega (arith, c.next_needer_of-next.ensures.to, c.up.invariant.within);
  only =
      further c.args.entries.now c.args.at c.args.from c.up.next c.next_needer_of-next.result c.up.above c.in_ok-above-2.above c.in-Some.task c.in-Some.is c.in_ok-above-2.ensures.parent
      c.next_needer_of-next.ensures.to c.up.invariant.only c.next_needer_of-next.ensures.none;
}

pub up-preserved-in_ok-above-2-2 : goal.up-preserved-in_ok-above-2-2
up-preserved-in_ok-above-2-2 c = record {
  from = c.next_needer_of-next.ensures.from;
  within = omega (arith, c.next_needer_of-next.ensures.to, c.up.invariant.within);
  only =
      further c.args.entries.now c.args.at c.args.from c.up.next c.next_needer_of-next.result c.up.above c.in_ok-above-2.above c.in-Some.task c.in-Some.is c.in_ok-above-2.ensures.parent
      c.next_needer_of-next.ensures.to c.up.invariant.only c.next_needer_of-next.ensures.none;
}

-- it is none where it isn't some
none_left : (o : Option Name) → ((t : Name) → o ≡ Some t → ⊥) → o ≡ None
none_left None h = refl
none_left (Some t) h = absurd (h t refl)

pub returns-clause-none : goal.returns-clause-none
returns-clause-none c =
    above_root c.args.entries.now c.args.at c.args.from c.up.next
    (subst (λ (q : Option Name). OnlyAbove q c.args.entries.now c.args.at c.args.from c.up.next) (none_left c.up.above (λ t is. c.in_default.not-Some t is)) c.up.invariant.only)
