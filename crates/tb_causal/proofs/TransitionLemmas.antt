-- Transitions of a program's runs: each has its inverse, and independent ones close to a square.
use Rattle.std.proofs.Common.{◌≡◌, ◌≢◌, suc, [], ◌∷◌, ◌++◌, length, Bool, true, false, ◌&&◌, ◌||◌, not, refl, sym, ap, ap₂, ◌∙◌, subst, ◌==◌, arith, Some, eqb-true}
use Rattle.std.specs.List.{list_any}
use Rattle.std.proofs.lemmas.Bool.{or_parts, and_parts, both_ways, false_from_ne_true}
use Rattle.tb_model.specs.declared.action.Action.{Action}
use Rattle.tb_model.specs.declared.event.Event.{Event}
use Rattle.tb_model.specs.declared.step_id.StepId.{StepId}
use Rattle.tb_model.specs.Facts.{History, is_of, own, is_start, prepend_if}
use Rattle.tb_model.specs.Needs.{needs, is_step, step_of, removed, is_removed, without}
use Rattle.tb_model.specs.Equivalent.{Equivalent, needs_step}
use Rattle.tb_model.specs.Reordering.{IsUnneeded}
use Rattle.tb_model.specs.Program.{Program, LegalFor}
use Rattle.tb_model.proofs.TestLemmas.{none_weaker, same_true}
use Rattle.tb_model.proofs.PartsLemmas.{own_same}
use Rattle.tb_model.proofs.FactsLemmas.{own_other}
use Rattle.tb_model.proofs.RemovalLemmas.{needs_own, in_parts, without_newest}
use Rattle.tb_model.proofs.NextLemmas.{removal_for}
use Rattle.tb_model.proofs.ForProgramLemmas.{equivalent_next}
use Rattle.tb_model.proofs.NeedsLemmas.{equivalent_without}
use Rattle.tb_model.proofs.NeighboursLemmas.{apart_same}
use Rattle.tb_model.proofs.ReorderingLemmas.{undone, again_for, next_again, neighbours_for}
use Rattle.tb_model.proofs.UndoLemmas.{single, singled}
use Rattle.tb_causal.specs.Runs.{Label, Step, Undo, Enabled, target, inverse, event, kth, Independent, exclude, runs}
use Rattle.tb_causal.specs.Systems.{Square}
use Rattle.tb_causal.proofs.StateLemmas.{equivalent_refl, equivalent_sym, equivalent_trans, equivalent_more, equivalent_unneeded}
use Rattle.tb_causal.proofs.StandingLemmas.{unneeded_stands, where_it_stands, not_newest, kth_stands, kth_more, own_last, needs_one}
use Rattle.tb_causal.proofs.BesideLemmas.{next_beside}

-- ---- states

-- a transition leads from a run to a run
pub kept : (P : Program) (H : History) (l : Label) → LegalFor P H → Enabled P H l → LegalFor P (target H l)
kept P H (Step i a) l m = ((l.0, m.1.may), (l.1, m.1.follows))
kept P H (Undo i a) l m = removal_for P i H l

-- equivalent runs have the same transitions, to equivalent runs
pub congruent : (P : Program) (G H : History) (l : Label) → LegalFor P G → LegalFor P H → Equivalent G H → Enabled P G l → Enabled P H l × Equivalent (target G l) (target H l)
congruent P G H (Step i a) l m q n =
    let x : Enabled P H (Step i a) = (n.0 ∙ ap (λ acts. suc (length acts)) (q.acts i.task), (equivalent_next P G H (event i a) l.0 q).0 n.1) in
    (x, equivalent_more P.cells (event i a) G H (kept P H (Step i a) m x).0 q)
congruent P G H (Undo i a) l m q n =
    ((equivalent_unneeded P.cells i G H m.0 q n.0, ap (kth i.k) (sym (q.acts i.task)) ∙ n.1), equivalent_without P.cells i G H l.0 q)

-- ---- the loop

-- the newest step can be taken back
pub back_at : (P : Program) (H : History) (v : Event) → Enabled P (v ∷ H) (Undo (step_of H v) v.action)
back_at P H v = (ap length (singled v H [] tt).gone, kth_stands [] v H)

again_at : (P : Program) (later : History) (v : Event) (front : History) → LegalFor P (later ++ v ∷ front) → IsUnneeded (step_of front v) (later ++ v ∷ front) → Enabled P (without (step_of front v) (later ++ v ∷ front)) (Step (step_of front v) v.action) × Equivalent (v ∷ without (step_of front v) (later ++ v ∷ front)) (later ++ v ∷ front)
again_at P later v front l h =
    let e = step_of front v in
    subst (λ K. Enabled P K (Step e v.action) × Equivalent (v ∷ K) (later ++ v ∷ front)) (sym (undone later front v h)) (
      (ap (λ acts. suc (length acts)) (sym (own_last v front later (single v front later h).free)), next_again later front v h P l),
      equivalent_sym (again_for later front v h P l).equivalent,
    )

-- a transition can be taken back, and leaves what was
pub loop : (P : Program) (H : History) (l : Label) → LegalFor P H → Enabled P H l → Enabled P (target H l) (inverse l) × Equivalent (target (target H l) (inverse l)) H
loop P H (Step i a) l m =
    let v = event i a in
    let e : step_of H v ≡ i = λ x. record { task = i.task; k = sym m.0 x } in (
      subst (λ j. Enabled P (v ∷ H) (Undo j a)) e (back_at P H v),
      subst (λ j. Equivalent (without j (v ∷ H)) H) e (subst (λ K. Equivalent K H) (sym (without_newest H v)) (equivalent_refl P.cells H l.0)),
    )
loop P H (Undo i a) l m =
    where_it_stands (λ e K. LegalFor P K → IsUnneeded e K → kth e.k (own e.task K) ≡ Some a → Enabled P (without e K) (Step e a) × Equivalent (event e a ∷ without e K) K)
    (λ later v front l h k.
    let q : v.action ≡ a = cc (sym (kth_stands later v front) ∙ k) in
    subst (λ b. Enabled P (without (step_of front v) (later ++ v ∷ front)) (Step (step_of front v) b) × Equivalent (event (step_of front v) b ∷ without (step_of front v) (later ++ v ∷ front)) (later ++ v ∷ front)) q
    (again_at P later v front l h))
    i H (unneeded_stands i H m.0) l m.0 m.1

-- ---- the squares

-- the other way round
pub mirrored : (P : Program) (H : History) (l m : Label) → Square (runs P) H l m → Square (runs P) H m l
mirrored P H l m s = record { first = s.second; second = s.first; meet = equivalent_sym s.meet }

-- a step that doesn't need what is undone
module _ (P : Program) (H : History) (i : StepId) (a : Action) (j : StepId) (b : Action) (l : LegalFor P H) (s : Enabled P H (Step i a)) (u : Enabled P H (Undo j b)) (n : needs_step H (event i a) j H ≡ false) where
  none_needed : list_any (needs H (event i a)) (removed j H) ≡ false
  none_needed = sym (needs_one j H u.0 (event i a)) ∙ n

  stays : is_removed j H (event i a) ≡ false
  stays = ap₂ (λ x y. x || y) (not_newest j H (unneeded_stands j H u.0) (event i a)) none_needed

  left : without j (event i a ∷ H) ≡ event i a ∷ without j H
  left = ap (λ x. prepend_if (not x) (event i a) (without j H)) stays

  same_own : own i.task (without j H) ≡ own i.task H
  same_own = own_same i.task (in_parts j H) (none_weaker (is_of i.task) (needs H (event i a)) (needs_own H i.task a) (removed j H) none_needed)

  -- either order
  pub step_beside_undo : Square (runs P) H (Step i a) (Undo j b)
  step_beside_undo =
      let r : LegalFor P (event i a ∷ without j H) = subst (LegalFor P) left (removal_for P j (event i a ∷ H) (kept P H (Step i a) l s)) in
      record {
        first = (ap (λ x. length (prepend_if x (event i a) (removed j H))) stays ∙ u.0, kth_more j H (unneeded_stands j H u.0) (event i a) ∙ u.1);
        second = (s.0 ∙ ap (λ acts. suc (length acts)) (sym same_own), record { may = r.0.1; follows = r.1.1 });
        meet = subst (λ K. Equivalent K (event i a ∷ without j H)) (sym left) (equivalent_refl P.cells (event i a ∷ without j H) r.0);
      }

-- two steps
-- exclusion holds both ways
pub exclude_sym : (H : History) (v w : Event) → exclude H v w ≡ exclude H w v
exclude_sym H v w = ap₂ (λ x y. x && y) (and_comm (is_start v.action) (is_start w.action)) (apart_same H v.task w.task)
  where
    and_comm : (x y : Bool) → (x && y) ≡ (y && x)
    and_comm true true = refl
    and_comm true false = refl
    and_comm false true = refl
    and_comm false false = refl

step_behind : (P : Program) (H : History) (i : StepId) (a : Action) (j : StepId) (b : Action) → LegalFor P H → Enabled P H (Step i a) → Enabled P H (Step j b) → Independent H (Step i a) (Step j b) → Enabled P (event i a ∷ H) (Step j b)
step_behind P H i a j b l s t n =
    let other : is_of j.task (event i a) ≡ false = (or_parts (is_of j.task (event i a)) _ n.0).0 in (
      t.0 ∙ ap (λ acts. suc (length acts)) (sym (own_other j.task (event i a) H other)),
      next_beside P H (event i a) (event j b) l s.1 t.1 n.0 n.1 n.2,
    )

-- two steps of which neither needs the other close to a square
pub step_beside_step : (P : Program) (H : History) (i : StepId) (a : Action) (j : StepId) (b : Action) → LegalFor P H → Enabled P H (Step i a) → Enabled P H (Step j b) → Independent H (Step i a) (Step j b) → Square (runs P) H (Step i a) (Step j b)
step_beside_step P H i a j b l s t n =
    let first = step_behind P H i a j b l s t n in
    let r : LegalFor P (event j b ∷ event i a ∷ H) = kept P (event i a ∷ H) (Step j b) (kept P H (Step i a) l s) first in
    record {
      first = first;
      second = step_behind P H j b i a l t s (n.1, n.0, exclude_sym H (event j b) (event i a) ∙ n.2);
      meet = (neighbours_for P [] H (event i a) (event j b) r n.0).equivalent;
    }

-- ---- two undos

-- a step that goes alone, and isn't the newest, isn't needed by the newest, and went alone in front of it
peeled : (j : StepId) (H : History) (v : Event) → IsUnneeded j (v ∷ H) → is_step j H v ≡ false → IsUnneeded j H × (list_any (needs H v) (removed j H) ≡ false)
peeled j H v h s = at (list_any (needs H v) (removed j H)) refl (sym (ap (λ x. length (prepend_if (x || list_any (needs H v) (removed j H)) v (removed j H))) s) ∙ h)
  where
    nothing : (K : History) → suc (length K) ≡ 1 → list_any (needs H v) K ≡ false
    nothing [] h = refl
    nothing (w ∷ K) h = absurd (omega arith)

    at : (x : Bool) → list_any (needs H v) (removed j H) ≡ x → length (prepend_if x v (removed j H)) ≡ 1 → IsUnneeded j H × (list_any (needs H v) (removed j H) ≡ false)
    at true e h = absurd (both_ways _ (nothing (removed j H) h) e)
    at false e h = (h, e)

same_step : (i j : StepId) (H : History) (a : Action) → i.k ≡ suc (length (own i.task H)) → is_step j H (event i a) ≡ true → i ≡ j
same_step i j H a k h =
    let o = and_parts (is_of j.task (event i a)) (j.k == suc (length (own j.task H))) h in
    let t : i.task ≡ j.task = same_true i.task j.task o.0 in
    let n : i.k ≡ j.k = k ∙ ap (λ u. suc (length (own u H))) t ∙ sym (eqb-true j.k _ o.1) in
    λ x. record { task = t x; k = n x }

-- after one undo the other can be taken, and what was undone doesn't need it
module _ (P : Program) (H : History) (i : StepId) (a : Action) (j : StepId) (b : Action) (l : LegalFor P H) (s : Enabled P H (Undo i a)) (t : Enabled P H (Undo j b)) (d : i ≢ j) where
  abbrev G : History
  G = without i H

  g : LegalFor P G
  g = kept P H (Undo i a) l s

  back : Enabled P G (Step i a) × Equivalent (event i a ∷ G) H
  back = loop P H (Undo i a) l s

  vG : LegalFor P (event i a ∷ G)
  vG = kept P G (Step i a) g back.0

  there : Enabled P (event i a ∷ G) (Undo j b) × Equivalent (without j H) (without j (event i a ∷ G))
  there = congruent P H (event i a ∷ G) (Undo j b) l vG (equivalent_sym back.1) t

  parts : IsUnneeded j G × (list_any (needs G (event i a)) (removed j G) ≡ false)
  parts =
      peeled j G (event i a) there.0.0 (false_from_ne_true (is_step j G (event i a)) (λ h. d (same_step i j G a back.0.0 h)))

  pub undo_behind : Enabled P G (Undo j b)
  undo_behind = (parts.0, sym (kth_more j G (unneeded_stands j G parts.0) (event i a)) ∙ there.0.1)

  pub undone_needs_not : needs_step G (event i a) j G ≡ false
  undone_needs_not = needs_one j G parts.0 (event i a) ∙ parts.1

  -- two undos of different steps
  pub undo_beside_undo : Square (runs P) H (Undo i a) (Undo j b)
  undo_beside_undo =
      let f = step_beside_undo P G i a j b g back.0 undo_behind undone_needs_not in
      let K = without j G in
      let k : LegalFor P K = removal_for P j G g in
      let vK : LegalFor P (event i a ∷ K) = kept P K (Step i a) k f.second in
      let jH : LegalFor P (without j H) = removal_for P j H l in
      let q : Equivalent (event i a ∷ K) (without j H) = equivalent_trans P.cells (event i a ∷ K) (without j (event i a ∷ G)) (without j H) vK.0 (removal_for P j (event i a ∷ G) vG).0 (equivalent_sym f.meet) (equivalent_sym there.1) in
      let o = loop P K (Step i a) k f.second in
      let c = congruent P (event i a ∷ K) (without j H) (Undo i a) vK jH q o.0 in
      record {
        first = undo_behind;
        second = c.0;
        meet = equivalent_trans P.cells K (without i (event i a ∷ K)) (without i (without j H)) k.0 (removal_for P i (event i a ∷ K) vK).0 (equivalent_sym o.1) c.1;
      }

-- ---- in whole

-- independent transitions close to a square
pub square : (P : Program) (H : History) (l m : Label) → LegalFor P H → Enabled P H l → Enabled P H m → Independent H l m → Square (runs P) H l m
square P H (Step i a) (Step j b) l s t n = step_beside_step P H i a j b l s t n
square P H (Step i a) (Undo j b) l s t n = step_beside_undo P H i a j b l s t n
square P H (Undo i a) (Step j b) l s t n = mirrored P H (Step j b) (Undo i a) (step_beside_undo P H j b i a l t s n)
square P H (Undo i a) (Undo j b) l s t n = undo_beside_undo P H i a j b l s t n.0
