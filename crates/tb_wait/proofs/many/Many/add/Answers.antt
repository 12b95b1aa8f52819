use Rattle.std.proofs.Common.{arith, sym, ap, ◌∙◌, subst, true}
use Rattle.tb_wait.specs.Numbers.{below, has, IsPut}
use Rattle.tb_wait.proofs.NumbersLemmas.{insert_fits, added, added_rises, not_full, at_ok, put_last}
use Rattle.tb_wait.proofs.many.Many.add.Goals as goal

pub push_back_reserved-requires : goal.push_back_reserved-requires
push_back_reserved-requires c =
    let items = ap (λ v. v.items) c.self.view_is in
    let bound = ap (λ v. v.bound) c.self.view_is in
    let absent = ap (λ xs. has xs c.args.n) items ∙ sym c.find-at.ensures.there ∙ c.if-there.false in
    let fits = insert_fits c.self.inside.items.items c.args.n c.self.inside.bound c.self.invariant.0 c.requires.from_one (omega (arith, bound, c.requires.room)) absent in
    omega (arith, fits, c.self.inside.items.ok.0, c.self.invariant.1)

pub invariant_of-self : goal.invariant_of-self
invariant_of-self c =
    let place = c.find-at.ensures.place ∙ ap (below c.args.n) (sym (ap (λ v. v.items) c.self.view_is)) in
    let items = ap (λ v. v.items) c.self.view_is in
    let bound = ap (λ v. v.bound) c.self.view_is in
    let absent = ap (λ xs. has xs c.args.n) items ∙ sym c.find-at.ensures.there ∙ c.if-there.false in
    let new = c.push_back_reserved.ensures.items ∙ put_last c.self.inside.items.items c.args.n c.find-at.result.0 (omega (arith, c.if-at-len.true, c.len.ensures, c.self.inside.items.ok.0)) in (
      added_rises c.self.inside.items.items c.push_back_reserved.new.self.items c.args.n c.self.inside.bound c.find-at.result.0 c.self.invariant.0 c.requires.from_one (omega (arith, bound, c.requires.room)) absent place new,
      omega (arith, c.push_back_reserved.ensures.capacity, c.self.invariant.1),
    )

pub returns-then-at-len-clause-set : goal.returns-then-at-len-clause-set
returns-then-at-len-clause-set c =
    let place = c.find-at.ensures.place ∙ ap (below c.args.n) (sym (ap (λ v. v.items) c.self.view_is)) in
    let new = c.push_back_reserved.ensures.items ∙ put_last c.self.inside.items.items c.args.n c.find-at.result.0 (omega (arith, c.if-at-len.true, c.len.ensures, c.self.inside.items.ok.0)) in
    subst (λ xs. IsPut xs c.args.n true c.push_back_reserved.new.self.items) (ap (λ v. v.items) c.self.view_is)
    (added c.self.inside.items.items c.push_back_reserved.new.self.items c.args.n c.find-at.result.0 place new)

pub unwrap-requires : goal.unwrap-requires
unwrap-requires c =
    let items = ap (λ v. v.items) c.self.view_is in
    let bound = ap (λ v. v.bound) c.self.view_is in
    let absent = ap (λ xs. has xs c.args.n) items ∙ sym c.find-at.ensures.there ∙ c.if-there.false in
    let fits = insert_fits c.self.inside.items.items c.args.n c.self.inside.bound c.self.invariant.0 c.requires.from_one (omega (arith, bound, c.requires.room)) absent in
    not_full c.insert.result _ _ c.insert.ensures.full (omega (arith, fits, c.self.inside.items.ok.0, c.self.invariant.1))

pub invariant_of-self-else-at-len : goal.invariant_of-self-else-at-len
invariant_of-self-else-at-len c =
    let place = c.find-at.ensures.place ∙ ap (below c.args.n) (sym (ap (λ v. v.items) c.self.view_is)) in
    let items = ap (λ v. v.items) c.self.view_is in
    let bound = ap (λ v. v.bound) c.self.view_is in
    let absent = ap (λ xs. has xs c.args.n) items ∙ sym c.find-at.ensures.there ∙ c.if-there.false in
    let new = at_ok c.insert.result c.unwrap.result c.unwrap.ensures c.insert.ensures.items in (
      added_rises c.self.inside.items.items c.insert.new.self.items c.args.n c.self.inside.bound c.find-at.result.0 c.self.invariant.0 c.requires.from_one (omega (arith, bound, c.requires.room)) absent place new,
      omega (arith, c.insert.ensures.capacity, c.self.invariant.1),
    )

pub returns-else-at-len-clause-set : goal.returns-else-at-len-clause-set
returns-else-at-len-clause-set c =
    let place = c.find-at.ensures.place ∙ ap (below c.args.n) (sym (ap (λ v. v.items) c.self.view_is)) in
    let new = at_ok c.insert.result c.unwrap.result c.unwrap.ensures c.insert.ensures.items in
    subst (λ xs. IsPut xs c.args.n true c.insert.new.self.items) (ap (λ v. v.items) c.self.view_is)
    (added c.self.inside.items.items c.insert.new.self.items c.args.n c.find-at.result.0 place new)
