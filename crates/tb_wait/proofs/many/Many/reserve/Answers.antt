use Rattle.std.proofs.Common.{arith, subst, sym}
use Rattle.tb_wait.specs.Numbers.{Rises}
use Rattle.tb_wait.proofs.NumbersLemmas.{raised}
use Rattle.tb_wait.proofs.many.Many.reserve.Goals as goal

pub invariant_of-self-then-bound-self : goal.invariant_of-self-then-bound-self
invariant_of-self-then-bound-self c =
    let rises = c.self.invariant.0 in
    let len = c.self.inside.items.ok.0 in
    let bound = c.capacity-self-inside.result in (
      subst (λ xs. Rises 0 xs bound) (sym c.in_ok-reserve.ensures.items)
          (raised 0 c.self.inside.items.items c.self.inside.bound bound
          (omega (arith, c.if-bound-self.true, c.in_ok-reserve.ensures.ok, c.in_ok-reserve.ensures.len, c.saturating_sub-more.ensures, c.saturating_mul.ensures, c.len-len.ensures, c.capacity-self-inside.ensures)) rises),
      omega (arith, c.capacity-self-inside.ensures),
    )
