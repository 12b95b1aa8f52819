-- Two different transitions that close to a square are independent.
use Rattle.std.proofs.Common.{◌≡◌, ◌≢◌, ◌<◌, suc, [], ◌∷◌, length, true, false, ◌&&◌, ◌||◌, refl, sym, ap, ap₂, ◌∙◌, subst, arith, eq-eqb, ⊎_elim}
use Rattle.std.proofs.lemmas.Bool.{or_left, and_from, and_left, and_right, or_parts, both_ways, false_from_ne_true}
use Rattle.tb_model.specs.declared.action.Action.{Action}
use Rattle.tb_model.specs.declared.event.Event.{Event}
use Rattle.tb_model.specs.declared.step_id.StepId.{StepId}
use Rattle.tb_model.specs.Facts.{History, is_of, own}
use Rattle.tb_model.specs.Needs.{needs, is_step}
use Rattle.tb_model.specs.Equivalent.{Equivalent, stands, comes_first, needs_step, needs_in}
use Rattle.tb_model.specs.Program.{Program, LegalFor}
use Rattle.tb_model.proofs.TestLemmas.{same_true, same_refl}
use Rattle.tb_model.proofs.FactsLemmas.{own_other}
use Rattle.tb_model.proofs.NeighboursLemmas.{same_sym}
use Rattle.tb_model.proofs.RemovalLemmas.{own_grows, not_step, its_step}
use Rattle.tb_model.proofs.NextLemmas.{one_next}
use Rattle.tb_causal.specs.Systems.{Square}
use Rattle.tb_causal.specs.Runs.{Label, Step, Undo, Enabled, event, Independent, runs}
use Rattle.tb_causal.proofs.StateLemmas.{equivalent_sym}
use Rattle.tb_causal.proofs.StandingLemmas.{unneeded_none}
use Rattle.tb_causal.proofs.BesideLemmas.{not_excluded}
use Rattle.tb_causal.proofs.AxiomsLemmas.{one_or_independent}
use Rattle.tb_causal.proofs.IndependenceLemmas.{newest_is, newest_need}

-- ---- a step that isn't there yet

absent : (i : StepId) (H : History) → length (own i.task H) < i.k → stands i H ≡ false
absent i [] h = refl
absent i (v ∷ H) h =
    ap₂ (λ b c. b || c) (not_step i H v h) (absent i H (omega (arith, h, own_grows i.task v H)))

absent_first : (i j : StepId) (H : History) → length (own i.task H) < i.k → comes_first i j H ≡ false
absent_first i j [] h = refl
absent_first i j (v ∷ H) h =
    let l : length (own i.task H) < i.k = omega (arith, h, own_grows i.task v H) in
    ap₂ (λ b c. (is_step j H v && b) || c) (absent i H l) (absent_first i j H l) ∙ ap (λ b. b || false) (and_right (is_step j H v) false refl)

-- ---- two steps

-- two next steps of one task are one
one_label : (P : Program) (H : History) (i : StepId) (a : Action) (j : StepId) (b : Action) → Enabled P H (Step i a) → Enabled P H (Step j b) → i.task ≡ j.task → Step i a ≡ Step j b
one_label P H i a j b s t e =
    let v = one_next P H (event i a) (event j b) s.1 t.1 e in
    let k : i.k ≡ j.k = s.0 ∙ ap (λ u. suc (length (own u H))) e ∙ sym t.0 in
    let q : i ≡ j = λ x. record { task = e x; k = k x } in
    let c : a ≡ b = ap (λ (w : Event). w.action) v in λ x. Step (q x) (c x)

-- where the two orders are one run, the later doesn't need the earlier
module _ (P : Program) (H : History) (i : StepId) (a : Action) (j : StepId) (b : Action) (s : Enabled P H (Step i a)) (t : Enabled P H (Step j b)) (o : is_of j.task (event i a) ≡ false) (q : Equivalent (event j b ∷ event i a ∷ H) (event i a ∷ event j b ∷ H)) where
  later_is : is_step j (event i a ∷ H) (event j b) ≡ true
  later_is =
      and_from (is_of j.task (event j b)) _ (same_refl j.task) (eq-eqb j.k _ (t.0 ∙ ap (λ acts. suc (length acts)) (sym (own_other j.task (event i a) H o))))

  behind_not : comes_first i j (event i a ∷ event j b ∷ H) ≡ false
  behind_not =
      let l : length (own i.task H) < i.k = omega (arith, s.0) in
      ap₂ (λ x y. (x && stands i (event j b ∷ H)) || y) (and_left (is_of j.task (event i a)) _ o)
      (ap₂ (λ x y. (is_step j H (event j b) && x) || y) (absent i H l) (absent_first i j H l) ∙ ap (λ x. x || false) (and_right (is_step j H (event j b)) false refl))

  no_need : needs (event i a ∷ H) (event j b) (event i a) ≡ false
  no_need =
      false_from_ne_true (needs (event i a ∷ H) (event j b) (event i a)) (λ n.
      let v = event i a in
      let w = event j b in
      let needed : needs_in j i (w ∷ v ∷ H) ≡ true = or_left (is_step j (v ∷ H) w && needs_step (v ∷ H) w i (v ∷ H)) _ (and_from (is_step j (v ∷ H) w) _ later_is (newest_need H i a w s.0 ∙ n)) in
      both_ways _ behind_not (q.there j i needed))

-- ---- a step and an undo

-- where the undo can be taken after the step, the step doesn't need what is undone
undo_behind_step : (P : Program) (H : History) (i : StepId) (a : Action) (j : StepId) (b : Action) → Enabled P H (Step i a) → Enabled P (event i a ∷ H) (Undo j b) → needs_step H (event i a) j H ≡ false
undo_behind_step P H i a j b s u =
    let v = event i a in
    let here : is_step i H v ≡ true = subst (λ e. is_step e H v ≡ true) (newest_is H i a s.0) (its_step H v) in
    sym (ap (λ x. x && needs_step H v j H) here) ∙ (or_parts (is_step i H v && needs_step H v j H) _ (unneeded_none j (v ∷ H) u.0 i)).0

-- ---- in whole

other_task : (P : Program) (H : History) (i : StepId) (a : Action) (j : StepId) (b : Action) → Enabled P H (Step i a) → Enabled P H (Step j b) → Step i a ≢ Step j b → is_of j.task (event i a) ≡ false
other_task P H i a j b s t d =
    false_from_ne_true (is_of j.task (event i a)) (λ h. d (one_label P H i a j b s t (same_true i.task j.task h)))

-- what closes to a square is independent
pub commuting : (P : Program) (H : History) (l m : Label) → LegalFor P H → Enabled P H l → Enabled P H m → l ≢ m → Square (runs P) H l m → Independent H l m
commuting P H (Step i a) (Step j b) l s t d q =
    let o = other_task P H i a j b s t d in
    let p = same_sym i.task j.task o in (
      no_need P H i a j b s t o q.meet,
      no_need P H j b i a t s p (equivalent_sym q.meet),
      not_excluded P.cells H (event i a) (event j b) l.0 s.1.may q.first.1.may o,
    )
commuting P H (Step i a) (Undo j b) l s t d q = undo_behind_step P H i a j b s q.first
commuting P H (Undo i a) (Step j b) l s t d q = undo_behind_step P H j b i a t q.second
commuting P H (Undo i a) (Undo j b) l s t d q =
    ⊎_elim (λ e. absurd (d e)) (λ n. n) (one_or_independent P H (Undo i a) (Undo j b) s t refl refl)
