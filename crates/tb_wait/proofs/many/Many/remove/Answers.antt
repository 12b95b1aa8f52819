use Rattle.std.proofs.Common.{arith, sym, ap, ◌∙◌, subst, false}
use Rattle.tb_wait.specs.Numbers.{below, has, IsPut}
use Rattle.tb_wait.proofs.NumbersLemmas.{removed, removed_rises, has_within, at_some, cut_first}
use Rattle.tb_wait.proofs.many.Many.remove.Goals as goal

pub invariant_of-self : goal.invariant_of-self
invariant_of-self c =
    let place = c.find-at.ensures.place ∙ ap (below c.args.n) (sym (ap (λ v. v.items) c.self.view_is)) in
    let new = c.pop_front-n.ensures.rest ∙ cut_first c.self.inside.items.items c.find-at.result.0 (omega (arith, c.if-at-eq0.true)) in (
      removed_rises c.self.inside.items.items c.pop_front-n.new.self.items c.args.n c.self.inside.bound c.find-at.result.0 c.self.invariant.0 place new,
      omega (arith, c.pop_front-n.ensures.capacity, c.self.invariant.1),
    )

pub returns-then-at-eq0-clause-set : goal.returns-then-at-eq0-clause-set
returns-then-at-eq0-clause-set c =
    let place = c.find-at.ensures.place ∙ ap (below c.args.n) (sym (ap (λ v. v.items) c.self.view_is)) in
    let there = ap (λ xs. has xs c.args.n) (ap (λ v. v.items) c.self.view_is) ∙ sym c.find-at.ensures.there ∙ c.if-not-there.false in
    let new = c.pop_front-n.ensures.rest ∙ cut_first c.self.inside.items.items c.find-at.result.0 (omega (arith, c.if-at-eq0.true)) in
    subst (λ xs. IsPut xs c.args.n false c.pop_front-n.new.self.items) (ap (λ v. v.items) c.self.view_is)
    (removed c.self.inside.items.items c.pop_front-n.new.self.items c.args.n c.self.inside.bound c.find-at.result.0 c.self.invariant.0 there place new)

pub invariant_of-self-else-at-eq0 : goal.invariant_of-self-else-at-eq0
invariant_of-self-else-at-eq0 c =
    let place = c.find-at.ensures.place ∙ ap (below c.args.n) (sym (ap (λ v. v.items) c.self.view_is)) in
    let there = ap (λ xs. has xs c.args.n) (ap (λ v. v.items) c.self.view_is) ∙ sym c.find-at.ensures.there ∙ c.if-not-there.false in
    let within = has_within c.self.inside.items.items c.args.n c.self.inside.bound c.find-at.result.0 c.self.invariant.0 there place in
    let found = c.remove-n.ensures.variant.1 (omega (arith, within, c.self.inside.items.ok.0)) in
    let new = at_some c.remove-n.result found c.remove-n.ensures.items in (
      removed_rises c.self.inside.items.items c.remove-n.new.self.items c.args.n c.self.inside.bound c.find-at.result.0 c.self.invariant.0 place new,
      omega (arith, c.remove-n.ensures.capacity, c.self.invariant.1),
    )

pub returns-else-at-eq0-clause-set : goal.returns-else-at-eq0-clause-set
returns-else-at-eq0-clause-set c =
    let place = c.find-at.ensures.place ∙ ap (below c.args.n) (sym (ap (λ v. v.items) c.self.view_is)) in
    let there = ap (λ xs. has xs c.args.n) (ap (λ v. v.items) c.self.view_is) ∙ sym c.find-at.ensures.there ∙ c.if-not-there.false in
    let within = has_within c.self.inside.items.items c.args.n c.self.inside.bound c.find-at.result.0 c.self.invariant.0 there place in
    let found = c.remove-n.ensures.variant.1 (omega (arith, within, c.self.inside.items.ok.0)) in
    let new = at_some c.remove-n.result found c.remove-n.ensures.items in
    subst (λ xs. IsPut xs c.args.n false c.remove-n.new.self.items) (ap (λ v. v.items) c.self.view_is)
    (removed c.self.inside.items.items c.remove-n.new.self.items c.args.n c.self.inside.bound c.find-at.result.0 c.self.invariant.0 there place new)
