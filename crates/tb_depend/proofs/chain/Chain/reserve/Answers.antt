use Rattle.std.proofs.Common.{length, sym, subst}
use Rattle.tb_depend.specs.Chains.{is_of, IsLast, HasItemRoom}
use Rattle.tb_depend.proofs.chain.Chain.reserve.Goals as goal

pub invariant_of-self-2 : goal.invariant_of-self-2
invariant_of-self-2 c =
    let i = c.self.inside in
    rw (c.reserve.ensures.items, c.reserve-2.ensures.items) (record {
      count = c.self.invariant.count;
      linked = c.self.invariant.linked;
      headed = λ p. subst (IsLast (is_of p) i.items.items (length i.items.items)) (sym (c.reserve-3.ensures.same p)) (c.self.invariant.headed p);
    })

pub returns-clause-succeeds : goal.returns-clause-succeeds
returns-clause-succeeds c room = c.reserve-3.ensures.succeeds (subst (λ t. HasItemRoom t c.args.new.now) (sym c.self.view_is) room).heads
