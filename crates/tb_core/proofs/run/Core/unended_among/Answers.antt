use Rattle.std.proofs.Common.{◌≡◌, rules, refl, sym, ap, ◌∙◌, ◌++◌, ◌∷◌, [], IsTrue, true}
use Rattle.std.proofs.lemmas.Bool.{and_from, and_parts, false≢true}
use Rattle.tb_model.specs.Names.{Name}
use Rattle.tb_model.specs.Facts.{own}
use Rattle.tb_model.specs.State.{is_unended}
use Rattle.tb_model.specs.Lines.{events_of}
use Rattle.tb_core.specs.Groups.{is_among, is_unended_among}
use Rattle.tb_core.specs.Seen.{history}
use Rattle.tb_core.proofs.WalkLemmas.{fewer, gathered_one, gathered_none}
use Rattle.tb_core.proofs.run.Core.unended_among.Goals.{then-is_among+in_ok-clone+in_ok-push, else-is_among}
use Rattle.tb_core.proofs.run.Core.unended_among.Goals as goal

pub tasks-smaller : goal.tasks-smaller
tasks-smaller c = fewer (history c.args.self.now.run) _ c.in-Some.name.now (c.in-Some.ensures.found c.in-Some.name.now refl)

pub tasks-preserved : goal.tasks-preserved
tasks-preserved c =
    let H = history c.args.self.now.run in
    let t = c.args.task.now in
    let group = c.args.group in
    let u = c.in-Some.name.now in
    let test : c.is_among.result ≡ is_among (own t H) t group u = c.is_among.ensures ∙ ap (λ D. is_among (own t (events_of D)) t group u) c.legal_entries.ensures.steps in
    let unended : (v : Name) → IsTrue (is_unended_among H t group v) → is_unended H v ≡ true = λ v p. (and_parts (is_among (own t H) t group v) (is_unended H v) p).1 in
    elim c.if-is_among.branch [
      | then-is_among+in_ok-clone+in_ok-push w ↦
          rw (w.found-is) (gathered_one H (λ v. IsTrue (is_unended_among H t group v)) unended _ c.tasks.found.items c.tasks.invariant u w.push.new.self.items c.in-Some.ensures
          (and_from (is_among (own t H) t group u) (is_unended H u) (sym test ∙ w.if-is_among.true) (c.in-Some.ensures.found u refl).unended)
          (w.in_ok-push.ensures.items ∙ ap (λ x. c.tasks.found.items ++ x ∷ []) (search rules)))
      | else-is_among w ↦
          rw (w.found-is) (gathered_none H (λ v. IsTrue (is_unended_among H t group v)) unended _ c.tasks.found.items c.tasks.invariant u c.in-Some.ensures
          (λ p. false≢true (sym (sym test ∙ w.if-is_among.false) ∙ (and_parts (is_among (own t H) t group u) (is_unended H u) p).0)))
    ]
