-- A rollback is a path of undos, and the least one that takes its step back.
use Rattle.std.proofs.Common.{◌≡◌, suc, List, [], ◌∷◌, ◌++◌, length, Bool, true, false, ◌||◌, not, refl, sym, ap, ap₂, ◌∙◌, subst, append_assoc, append-nil}
use Rattle.std.specs.List.{list_any}
use Rattle.std.proofs.lemmas.Bool.{or_parts, false≢true}
use Rattle.tb_model.specs.declared.action.Action.{Action}
use Rattle.tb_model.specs.declared.step_id.StepId.{StepId}
use Rattle.tb_model.specs.Facts.{History, is_of, prepend_if}
use Rattle.tb_model.specs.Needs.{needs, is_step, step_of, removed, is_removed, without, kept}
use Rattle.tb_model.specs.Equivalent.{Equivalent, stands}
use Rattle.tb_model.specs.Program.{Program, LegalFor}
use Rattle.tb_model.proofs.TestLemmas.{none_weaker}
use Rattle.tb_model.proofs.PartsLemmas.{own_same}
use Rattle.tb_model.proofs.RemovalLemmas.{needs_own, in_parts}
use Rattle.tb_model.proofs.NextLemmas.{removal_for}
use Rattle.tb_model.proofs.NeedsLemmas.{equivalent_without}
use Rattle.tb_laws.proofs.OneByOneLemmas.{one_unneeded, kept_more, kept_whole}
use Rattle.tb_model.proofs.ReorderingLemmas.{undone}
use Rattle.tb_causal.specs.Systems.{IsPath, end_of, AreBackward, PathBack}
use Rattle.tb_causal.specs.Runs.{Label, Step, Undo, Enabled, event, target, undos, runs}
use Rattle.tb_causal.proofs.StateLemmas.{equivalent_refl, equivalent_sym, equivalent_trans}
use Rattle.tb_causal.proofs.StandingLemmas.{kth_stands, none_removed}
use Rattle.tb_causal.proofs.TransitionLemmas.{loop}
use Rattle.tb_causal.proofs.TransitionLemmas as transitions
use Rattle.tb_causal.proofs.AxiomsLemmas.{axioms}
use Rattle.tb_causal.proofs.SystemLemmas.{end_state, from_same}

-- ---- one undo after another, from the newest event that goes

-- a path of undos that ends exactly there
pub record Undone (P : Program) (H K : History) (ls : List Label) : Type 0 where
  pub path : IsPath (runs P) H ls
  pub backward : AreBackward (runs P) ls
  pub ends : end_of (runs P) H ls ≡ K

undone_from : (P : Program) (e : StepId) (later rest : History) → Undone P (kept e later rest ++ rest) (without e (later ++ rest)) (undos e rest)
undone_from P e later [] = record {
  path = tt;
  backward = tt;
  ends = append-nil (kept e later []) ∙ kept_whole e later ∙ ap (without e) (sym (append-nil later));
}
undone_from P e later (u ∷ front) =
    at (is_removed e front u) refl
    (subst (λ K. Undone P (kept e (later ++ u ∷ []) front ++ front) (without e K) (undos e front)) (append_assoc later (u ∷ []) front) (undone_from P e (later ++ u ∷ []) front))
  where
    K : History
    K = kept e later (u ∷ front)

    W : History
    W = without e (later ++ u ∷ front)

    at : (b : Bool) → is_removed e front u ≡ b → Undone P (kept e (later ++ u ∷ []) front ++ front) W (undos e front) → Undone P (K ++ u ∷ front) W (prepend_if b (Undo (step_of front u) u.action) (undos e front))
    at true g r =
        let h = one_unneeded e later u front g in
        let q : kept e (later ++ u ∷ []) front ++ front ≡ without (step_of front u) (K ++ u ∷ front) =
        ap (λ L. L ++ front) (kept_more e later u front ∙ ap (λ b. K ++ prepend_if (not b) u []) g ∙ append-nil K) ∙ sym (undone K front u h) in
        let r' = subst (λ L. Undone P L W (undos e front)) q r in
        record { path = ((h, kth_stands K u front), r'.path); backward = (refl, r'.backward); ends = r'.ends }
    at false g r =
        let q : kept e (later ++ u ∷ []) front ++ front ≡ K ++ u ∷ front =
        ap (λ L. L ++ front) (kept_more e later u front ∙ ap (λ b. K ++ prepend_if (not b) u []) g) ∙ append_assoc K (u ∷ []) front in
        subst (λ L. Undone P L W (undos e front)) q r

-- a rollback is the path of its undos
pub rolled : (P : Program) (H : History) (e : StepId) → Undone P H (without e H) (undos e H)
rolled P H e = undone_from P e [] H

-- ---- the least

-- a rollback of a step that isn't there leaves all
none_gone : (e : StepId) (H : History) → stands e H ≡ false → without e H ≡ H
none_gone e [] s = refl
none_gone e (v ∷ H) s =
    let o = or_parts (is_step e H v) (stands e H) s in
    let g : is_removed e H v ≡ false = ap₂ (λ b R. b || list_any (needs H v) R) o.0 (none_removed e H o.1) in
    ap₂ (λ b K. prepend_if (not b) v K) g (none_gone e H o.1)

-- from an equivalent run
back_from : (P : Program) (F G K : History) → LegalFor P F → LegalFor P G → Equivalent F G → PathBack (runs P) F K → PathBack (runs P) G K
back_from P F G K l m q r =
    let c = from_same (runs P) (axioms P) F G r.labels l m q r.path in
    let fe = end_state (runs P) (axioms P) F r.labels l r.path in
    let ge = end_state (runs P) (axioms P) G r.labels m c.path in
    record {
      labels = r.labels;
      path = c.path;
      backward = r.backward;
      ends = equivalent_trans P.cells _ _ _ ge.0 fe.0 (equivalent_sym c.ends) r.ends;
    }

-- the step i, newest after G, goes with e or stays
module _ (P : Program) (e : StepId) (G : History) (i : StepId) (a : Action) (g : LegalFor P G) (s : Enabled P G (Step i a)) (K : History) where
  left_behind : PathBack (runs P) (without e G) K → (b : Bool) → is_removed e G (event i a) ≡ b → PathBack (runs P) (prepend_if (not b) (event i a) (without e G)) K
  left_behind r true h = r
  left_behind r false h =
      let v = event i a in
      let F = without e G in
      let f = removal_for P e G g in
      let none = (or_parts (is_step e G v) (list_any (needs G v) (removed e G)) h).1 in
      let o = own_same i.task (in_parts e G) (none_weaker (is_of i.task) (needs G v) (needs_own G i.task a) (removed e G) none) in
      let whole = subst (λ b. LegalFor P (prepend_if (not b) v F)) h (removal_for P e (v ∷ G) (transitions.kept P G (Step i a) g s)) in
      let t : Enabled P F (Step i a) = (s.0 ∙ ap (λ acts. suc (length acts)) (sym o), record { may = whole.0.1; follows = whole.1.1 }) in
      let p = loop P F (Step i a) f t in
      let rest = back_from P F (target (v ∷ F) (Undo i a)) K f (removal_for P i (v ∷ F) whole) (equivalent_sym p.1) r in
      record { labels = Undo i a ∷ rest.labels; path = (p.0, rest.path); backward = (refl, rest.backward); ends = rest.ends }

-- any path of undos after which the step isn't there
pub rollback_least : (P : Program) (H : History) (e : StepId) (r : List Label) → LegalFor P H → IsPath (runs P) H r → AreBackward (runs P) r → stands e (end_of (runs P) H r) ≡ false → PathBack (runs P) (without e H) (end_of (runs P) H r)
rollback_least P H e [] l p b s = record {
  labels = [];
  path = tt;
  backward = tt;
  ends = subst (λ K. Equivalent K H) (sym (none_gone e H s)) (equivalent_refl P.cells H l.0);
}
rollback_least P H e (Step i a ∷ r) l p b s = absurd (false≢true b.0)
rollback_least P H e (Undo i a ∷ r) l p b s =
    let G = without i H in
    let g = removal_for P i H l in
    let back = loop P H (Undo i a) l p.0 in
    let vG = transitions.kept P G (Step i a) g back.0 in
    let K = end_of (runs P) G r in
    let rest = left_behind P e G i a g back.0 K (rollback_least P G e r g p.1 b.1 s) (is_removed e G (event i a)) refl in
    back_from P (without e (event i a ∷ G)) (without e H) K (removal_for P e (event i a ∷ G) vG) (removal_for P e H l) (equivalent_without P.cells e (event i a ∷ G) H vG.0 back.1) rest
