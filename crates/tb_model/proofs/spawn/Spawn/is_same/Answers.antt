use Rattle.std.proofs.Common.{◌≡◌, true, sym, ap, subst, ◌∙◌}
use Rattle.std.proofs.lemmas.Bool.{false≢true}
use Rattle.tb_model.specs.Names.{Name, same_name}
use Rattle.tb_model.specs.declared.spawn.Spawn.{Spawn}
use Rattle.tb_model.proofs.TestLemmas.{same_true, same_refl}
use Rattle.tb_model.proofs.spawn.Spawn.is_same.Goals as goal

pub returns-then-eq : goal.returns-then-eq
returns-then-eq c =
    let named : Name → Spawn = λ t. record c.args.other.now { child = t } in
    let one = same_true c.args.self.now.child c.args.other.now.child (sym c.eq.ensures ∙ c.if-eq.true) in (
      (λ h. c.is_like.ensures.0 h ∙ ap named one),
      (λ q. c.is_like.ensures.1 (q ∙ ap named (sym (ap (λ (s : Spawn). s.child) q)))),
    )

pub returns-else-eq : goal.returns-else-eq
returns-else-eq c = (
  (λ h. absurd (false≢true (sym c.if-eq.false ∙ h))),
  (λ q. c.eq.ensures ∙ subst (λ (s : Spawn). same_name c.args.self.now.child s.child ≡ true) q (same_refl c.args.self.now.child)),
)
