use Rattle.std.proofs.Common.{◌≡◌, ◌++◌, ◌∷◌, ◌-◌, set, drop, ◌∙◌, ap, arith, subst}
use Rattle.std.specs.Fmt.{decimal}
use Rattle.std.specs.Str.{IsUtf8}
use Rattle.tb_draft.proofs.ShortTextLemmas.{number_room, level_is, level_length, dot_put}
use Rattle.tb_draft.proofs.short_text.ShortText.prepend_level.Goals as goal

put_is : (c : goal.After-self-1) → drop (c.put_digits-at.result - 1) (set c.put_digits-at.new.bytes (c.put_digits-at.result - 1) 46) ≡ 46 ∷ decimal c.args.n ++ c.args.self.now
put_is c =
    dot_put c.put_digits-at.result c.put_digits-at.new.bytes c.args.self.now c.args.n (omega (arith, number_room c.args.n (omega arith))) (omega (arith, c.self.invariant.0))
    (c.put_digits-at.ensures.digits ∙ ap (λ x. decimal c.args.n ++ x) c.self.view_is)

pub put_digits-at-requires : goal.put_digits-at-requires
put_digits-at-requires c = (omega (arith, number_room c.args.n (omega arith), c.if-self-lt11.false), c.self.invariant.0)

pub overflow_sub-self : goal.overflow_sub-self
overflow_sub-self c = omega (arith, number_room c.args.n (omega arith))

pub overflow_sub-self-2 : goal.overflow_sub-self-2
overflow_sub-self-2 c = omega (arith, number_room c.args.n (omega arith))

pub invariant_of-self : goal.invariant_of-self
invariant_of-self c =
    let old = subst IsUtf8 c.self.view_is c.self.invariant.1 in
    (omega (arith, c.self.invariant.0, c.put_digits-at.ensures.start), level_is _ _ c.args.n (put_is c) (omega arith) old)

pub returns-clause-some : goal.returns-clause-some
returns-clause-some c = put_is c

pub returns-clause-short : goal.returns-clause-short
returns-clause-short c = level_length _ _ c.args.n (omega arith) (put_is c)
