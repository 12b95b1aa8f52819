use Rattle.std.proofs.Common.{◌++◌, ◌-◌, ◌∷◌, [], cond, sym, ap, ◌∙◌, arith, eq-eqb, ne_eqb, append-nil}
use Rattle.tb_order.proofs.needing.with_first.Goals as goal
use Rattle.tb_order.proofs.needing.with_first.Goals.{then-first-gt0+in_ok-push, else-first-gt0}

pub returns : goal.returns
returns c = elim c.if-first-gt0.branch [
  | then-first-gt0+in_ok-push w ↦
      ap (λ v. v.items) w.all-is ∙ w.in_ok-push.ensures.items
      ∙ ap (λ b. c.args.found.items ++ cond b [] ((c.args.first - 1) ∷ [])) (sym (ne_eqb c.args.first 0 (λ z. omega (arith, z, w.if-first-gt0.true))))
  | else-first-gt0 w ↦
      ap (λ v. v.items) w.all-is ∙ sym (append-nil c.args.found.items)
      ∙ ap (λ b. c.args.found.items ++ cond b [] ((c.args.first - 1) ∷ [])) (sym (eq-eqb c.args.first 0 (omega (arith, w.if-first-gt0.false))))
]
