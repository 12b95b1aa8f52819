-- Each run is the end of the path of its steps, and of what a journal did that leaves it.
use Rattle.std.proofs.Common.{◌≡◌, List, [], ◌∷◌, ◌++◌, ◌↔◌, refl, sym, ap, ◌∙◌, subst}
use Rattle.tb_model.specs.Facts.{History}
use Rattle.tb_model.specs.Needs.{step_of, without}
use Rattle.tb_model.specs.Equivalent.{Equivalent}
use Rattle.tb_model.specs.Program.{Program, LegalFor}
use Rattle.tb_causal.specs.Systems.{IsPath, end_of, CausallyEquivalent}
use Rattle.tb_model.specs.declared.entry.Entry.{Entry}
use Rattle.tb_model.specs.declared.entry.Entry.TheVariants.{Opened, Stepped, Rolled}
use Rattle.tb_model.specs.Journal.{hist, Sound}
use Rattle.tb_causal.specs.Runs.{Label, Step, runs, steps_of, undos, path_of}
use Rattle.tb_causal.proofs.AxiomsLemmas.{axioms}
use Rattle.tb_causal.proofs.RollbackLemmas.{rolled}
use Rattle.tb_causal.proofs.SystemLemmas.{joined, end_joined, sound, consistent}

-- the path of a history's steps ends in the history
pub end_of_steps : (P : Program) (H : History) → end_of (runs P) [] (steps_of H) ≡ H
end_of_steps P [] = refl
end_of_steps P (v ∷ H) =
    end_joined (runs P) (axioms P) [] (steps_of H) (Step (step_of H v) v.action ∷ []) ∙ ap (λ K. v ∷ K) (end_of_steps P H)

-- the steps of a history are a path
pub steps_path : (P : Program) (H : History) → LegalFor P H → IsPath (runs P) [] (steps_of H)
steps_path P [] l = tt
steps_path P (v ∷ H) l =
    let s = Step (step_of H v) v.action in
    joined (runs P) (axioms P) [] (steps_of H) (s ∷ []) (steps_path P H (l.0.0, l.1.0))
    (subst (λ K. IsPath (runs P) K (s ∷ [])) (sym (end_of_steps P H)) ((refl, record { may = l.0.1; follows = l.1.1 }), tt))

-- paths from the beginning are equivalent where the runs are in which they end
ends_alike : (P : Program) (r s : List Label) (G H : History) → IsPath (runs P) [] r → IsPath (runs P) [] s → end_of (runs P) [] r ≡ G → end_of (runs P) [] s ≡ H → Equivalent G H ↔ CausallyEquivalent (runs P) [] r s
ends_alike P r s G H p q e f = (
  λ z. consistent (runs P) (axioms P) [] r s (tt, tt) p q (subst (λ K. Equivalent K (end_of (runs P) [] s)) (sym e) (subst (Equivalent G) (sym f) z)),
  λ z. subst (λ K. Equivalent K H) e (subst (Equivalent (end_of (runs P) [] r)) f ((sound (runs P) (axioms P) z (tt, tt)).0 p).ends),
)

-- runs are equivalent where the paths of their steps are
pub equivalent_steps : (P : Program) (G H : History) → LegalFor P G → LegalFor P H → Equivalent G H ↔ CausallyEquivalent (runs P) [] (steps_of G) (steps_of H)
equivalent_steps P G H l m =
    ends_alike P (steps_of G) (steps_of H) G H (steps_path P G l) (steps_path P H m) (end_of_steps P G) (end_of_steps P H)

-- ---- journals

-- what it did is a path to its history
pub record Leads (P : Program) (J : List Entry) : Type 0 where
  pub path : IsPath (runs P) [] (path_of J)
  pub ends : end_of (runs P) [] (path_of J) ≡ hist J

-- one part more
leads_on : (P : Program) (r s : List Label) (G H : History) → IsPath (runs P) [] r → end_of (runs P) [] r ≡ G → IsPath (runs P) G s → end_of (runs P) G s ≡ H → IsPath (runs P) [] (r ++ s) × (end_of (runs P) [] (r ++ s) ≡ H)
leads_on P r s G H p e q f = (
  joined (runs P) (axioms P) [] r s p (subst (λ K. IsPath (runs P) K s) (sym e) q),
  end_joined (runs P) (axioms P) [] r s ∙ ap (λ K. end_of (runs P) K s) e ∙ f,
)

-- what a sound journal did is a path from the empty history
pub leads : (P : Program) (J : List Entry) → Sound P J → Leads P J
leads P [] s = elim s [ ]
leads P (Opened ∷ J) s = record { path = tt; ends = refl }
leads P (Stepped seat v ∷ J) s =
    let r = leads P J s.0 in
    let l = Step (step_of (hist J) v) v.action in
    let x = leads_on P (path_of J) (l ∷ []) (hist J) (v ∷ hist J) r.path r.ends ((refl, s.1), tt) refl in
    record { path = x.0; ends = x.1 }
leads P (Rolled seat e ∷ J) s =
    let r = leads P J s.0 in
    let u = rolled P (hist J) e in
    let x = leads_on P (path_of J) (undos e (hist J)) (hist J) (without e (hist J)) r.path r.ends u.path u.ends in
    record { path = x.0; ends = x.1 }

-- journals
pub equivalent_journals : (P : Program) (I J : List Entry) → Sound P I → Sound P J → Equivalent (hist I) (hist J) ↔ CausallyEquivalent (runs P) [] (path_of I) (path_of J)
equivalent_journals P I J s t =
    let r = leads P I s in
    let q = leads P J t in
    ends_alike P (path_of I) (path_of J) (hist I) (hist J) r.path q.path r.ends q.ends
