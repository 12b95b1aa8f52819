-- What is independent.
use Rattle.std.proofs.Common.{◌≡◌, suc, [], ◌∷◌, length, true, false, ◌&&◌, refl, sym, ap, ◌∙◌, subst}
use Rattle.tb_model.specs.declared.event.Event.{Event}
use Rattle.tb_model.specs.Facts.{History, is_start}
use Rattle.tb_model.specs.Equivalent.{Equivalent}
use Rattle.tb_model.specs.Program.{Program, LegalFor}
use Rattle.tb_model.specs.Alike.{Alike}
use Rattle.tb_model.proofs.AlikeLemmas.{alike_cons, apart_alike}
use Rattle.tb_model.proofs.UndoLemmas.{needs_alike}
use Rattle.tb_model.proofs.NeedsLemmas.{equivalent_state, step_needs_alike}
use Rattle.std.proofs.lemmas.Bool.{or_left, or_parts, both_ways}
use Rattle.tb_model.specs.declared.action.Action.{Action}
use Rattle.tb_model.specs.declared.step_id.StepId.{StepId}
use Rattle.tb_model.specs.Facts.{is_of, own}
use Rattle.tb_model.specs.Needs.{needs, is_step, step_of, without}
use Rattle.tb_model.specs.Equivalent.{needs_step}
use Rattle.tb_model.proofs.TestLemmas.{same_refl}
use Rattle.tb_model.proofs.RemovalLemmas.{its_step}
use Rattle.tb_model.proofs.NeedsLemmas.{back_free}
use Rattle.tb_causal.specs.Runs.{Label, Step, Undo, Enabled, target, inverse, event, Independent}
use Rattle.tb_causal.proofs.StateLemmas.{equivalent_sym}
use Rattle.tb_causal.proofs.StandingLemmas.{unneeded_stands, not_newest, needs_it, unneeded_none}
use Rattle.tb_causal.proofs.BesideLemmas.{not_excluded}
use Rattle.tb_causal.proofs.TransitionLemmas.{kept, congruent, loop, exclude_sym, step_beside_undo, undone_needs_not}

-- independent transitions are independent from an equivalent run too
pub same_independent : (P : Program) (G H : History) (l m : Label) → LegalFor P G → Equivalent G H → Independent G l m → Independent H l m
same_independent P G H l m s q n = at l m n
  where
    e : Alike G H
    e = (equivalent_state P.cells G H s.0 q).0

    at : (l m : Label) → Independent G l m → Independent H l m
    at (Step i a) (Step j b) n =
        let v = event i a in
        let w = event j b in (
          sym (needs_alike (alike_cons v e) w v) ∙ n.0,
          sym (needs_alike (alike_cons w e) v w) ∙ n.1,
          ap (λ x. (is_start v.action && is_start w.action) && x) (sym (apart_alike v.task w.task e)) ∙ n.2,
        )
    at (Step i a) (Undo j b) n = sym (step_needs_alike e (event i a) j) ∙ n
    at (Undo i a) (Step j b) n = sym (step_needs_alike e (event j b) i) ∙ n
    at (Undo i a) (Undo j b) n =
        let d = (equivalent_state P.cells G H s.0 q).1 in (n.0, sym (d i j) ∙ n.1, sym (d j i) ∙ n.2)

-- independence is symmetric
pub symmetric : (H : History) (l m : Label) → Independent H l m → Independent H m l
symmetric H (Step i a) (Step j b) n = (n.1, n.0, exclude_sym H (event j b) (event i a) ∙ n.2)
symmetric H (Step i a) (Undo j b) n = n
symmetric H (Undo i a) (Step j b) n = n
symmetric H (Undo i a) (Undo j b) n = ((λ e. n.0 (sym e)), n.2, n.1)

-- nothing is independent of itself
pub irreflexive : (H : History) (l : Label) → Independent H l l → ⊥
irreflexive H (Step i a) n =
    let v = event i a in both_ways _ n.0 (or_left (is_of v.task v) _ (same_refl v.task))
irreflexive H (Undo i a) n = n.0 refl

-- the step that it was
pub newest_is : (H : History) (i : StepId) (a : Action) → i.k ≡ suc (length (own i.task H)) → step_of H (event i a) ≡ i
newest_is H i a k = λ x. record { task = i.task; k = sym k x }

-- after the step, a direct need of it is one of its event
pub newest_need : (H : History) (i : StepId) (a : Action) (w : Event) → i.k ≡ suc (length (own i.task H)) → needs_step (event i a ∷ H) w i (event i a ∷ H) ≡ needs (event i a ∷ H) w (event i a)
newest_need H i a w k =
    let v = event i a in
    subst (λ e. needs_step (v ∷ H) w e (v ∷ H) ≡ needs (v ∷ H) w v) (newest_is H i a k) (needs_it v H (v ∷ H) w [])

-- after one of two independent transitions, the way back and the other are independent
pub propagated : (P : Program) (H : History) (l m : Label) → LegalFor P H → Enabled P H l → Enabled P H m → Independent H l m → Independent (target H l) (inverse l) m
propagated P H (Step i a) (Step j b) l s t n = newest_need H i a (event j b) s.0 ∙ n.0
propagated P H (Step i a) (Undo j b) l s t n =
    let v = event i a in
    let f = (step_beside_undo P H i a j b l s t n).first in
    let here : is_step i H v ≡ true = subst (λ e. is_step e H v ≡ true) (newest_is H i a s.0) (its_step H v) in (
      λ e. both_ways _ (subst (λ k. is_step k H v ≡ false) (sym e) (not_newest j H (unneeded_stands j H t.0) v)) here,
      unneeded_none j (v ∷ H) f.0 i,
      unneeded_none i (v ∷ H) (loop P H (Step i a) l s).0.0 j,
    )
propagated P H (Undo i a) (Step j b) l s t n =
    let G = without i H in
    let v = event i a in
    let w = event j b in
    let g = kept P H (Undo i a) l s in
    let o = loop P H (Undo i a) l s in
    let vG = kept P G (Step i a) g o.0 in
    let like = (equivalent_state P.cells (v ∷ G) H vG.0 o.1).0 in
    let behind = (congruent P H (v ∷ G) (Step j b) l vG (equivalent_sym o.1) t).0 in
    let n0 : needs (v ∷ G) w v ≡ false = sym (newest_need G i a w o.0.0) ∙ step_needs_alike like w i ∙ n in (
      n0,
      back_free P.cells G v w (vG.0, behind.1.may) n0,
      not_excluded P.cells G v w g.0 o.0.1.may behind.1.may (or_parts (is_of w.task v) _ n0).0,
    )
propagated P H (Undo i a) (Undo j b) l s t n = undone_needs_not P H i a j b l s t n.0
