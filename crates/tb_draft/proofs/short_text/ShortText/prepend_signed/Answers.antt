use Rattle.std.proofs.Common.{◌≡◌, ◌++◌, ◌-◌, set, drop, ◌∙◌, ap, arith, to_z-of_z, unsigned_abs}
use Rattle.std.specs.Fmt.{decimal, signed_decimal}
use Rattle.tb_draft.proofs.ShortTextLemmas.{long_room, number_is, signed_is, minus_put}
use Rattle.tb_draft.proofs.short_text.ShortText.prepend_signed.Goals as goal

put_is : (c : goal.After-self-else-n-ge0-1) → drop (c.put_long-at.result - 1) (set c.put_long-at.new.bytes (c.put_long-at.result - 1) 45) ≡ signed_decimal c.args.n ++ drop c.self.inside.at c.self.inside.bytes
put_is c =
    let back = to_z-of_z c.ranges.n in
    let digits = c.put_long-at.ensures.digits ∙ ap (λ n. decimal n ++ drop c.self.inside.at c.self.inside.bytes) (c.unsigned_abs.ensures.value ∙ ap unsigned_abs back) in
    minus_put c.put_long-at.result c.put_long-at.new.bytes _ c.args.n (rw back at c.if-n-ge0.false)
    (omega (arith, long_room c.unsigned_abs.result (omega arith))) (omega (arith, c.self.invariant.0)) digits

pub put_long-at-requires : goal.put_long-at-requires
put_long-at-requires c = (omega (arith, long_room c.unsigned_abs.result (omega arith)), c.self.invariant.0)

pub overflow_sub-self : goal.overflow_sub-self
overflow_sub-self c = omega (arith, long_room c.unsigned_abs.result (omega arith))

pub overflow_sub-self-else-n-ge0 : goal.overflow_sub-self-else-n-ge0
overflow_sub-self-else-n-ge0 c = omega (arith, long_room c.unsigned_abs.result (omega arith))

pub invariant_of-self : goal.invariant_of-self
invariant_of-self c = (omega (arith, c.self.invariant.0), number_is _ _ c.unsigned_abs.result c.put_long-at.ensures.digits (omega arith) c.self.invariant.1)

pub invariant_of-self-else-n-ge0 : goal.invariant_of-self-else-n-ge0
invariant_of-self-else-n-ge0 c = (omega (arith, c.self.invariant.0), signed_is _ _ c.args.n (put_is c) c.ranges.n c.self.invariant.1)

pub returns-else-n-ge0-clause-some : goal.returns-else-n-ge0-clause-some
returns-else-n-ge0-clause-some c = put_is c ∙ ap (λ x. signed_decimal c.args.n ++ x) c.self.view_is
