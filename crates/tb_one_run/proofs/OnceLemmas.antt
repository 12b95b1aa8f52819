-- A task is generated once and ends once, so its one spawn and its one end stay where it was generated or has ended.
use Rattle.std.proofs.Common.{◌≡◌, [], ◌∷◌, ◌++◌, Bool, true, false, ⊎_elim, refl, subst}
use Rattle.std.specs.List.{list_any}
use Rattle.std.proofs.lemmas.Bool.{or_cases, or_left, or_parts, both_ways, false_from_ne_true}
use Rattle.tb_model.specs.declared.event.Event.{Event}
use Rattle.tb_model.specs.Names.{Name}
use Rattle.tb_model.specs.Facts.{History, is_of, own, ends, spawns, HasEnded}
use Rattle.tb_model.specs.Legal.{Cells, IsRunning, Continues, MayFollow, Legal}
use Rattle.tb_model.proofs.TestLemmas.{same_true}
use Rattle.tb_model.proofs.FactsLemmas.{begun, not_started, ends_own, not_running, not_again, spawned_by}
use Rattle.tb_model.proofs.NeighboursLemmas.{legal_below}
use Rattle.tb_model.proofs.PartsLemmas.{any_up}
use Rattle.tb_model.proofs.SettledLemmas.{ended_later, spawned_later}
use Rattle.tb_races.proofs.PassLemmas.{any_put}
use Rattle.tb_one_run.proofs.SharedLemmas.{has, part, part_gone}

-- nothing of a task follows its end
pub no_more : (cells : Cells) (F : History) (x : Event) (t : Name) → Legal cells F → MayFollow cells F x → is_of t x ≡ true → HasEnded F t → ⊥
no_more cells F x t l m o e =
    let q = same_true x.task t o in
    ⊎_elim
    (λ s. not_started t F (ends t) (ends_own t) (subst (λ u. own u F ≡ []) q (subst (Continues cells x.task (own x.task F)) s m.own)) e)
    (λ r. not_running cells F t l e (subst (λ u. IsRunning (own u F)) q r))
    (begun cells x.task (own x.task F) x.action m.own)

module _ (cells : Cells) (t : Name) (u : Event) (F : History) where
  -- the event is the task's only end
  pub no_end_before : Legal cells (u ∷ F) → ends t u ≡ true → list_any (ends t) F ≡ false
  no_end_before l e = false_from_ne_true (list_any (ends t) F) (λ h. no_more cells F u t l.0 l.1 (ends_own t u e) h)

  -- none follows it
  pub no_end_after : (b : History) → Legal cells (b ++ u ∷ F) → ends t u ≡ true → list_any (ends t) b ≡ false
  no_end_after [] l e = refl
  no_end_after (x ∷ b) l e = false_from_ne_true (list_any (ends t) (x ∷ b)) (λ h.
      ⊎_elim (λ a. no_more cells (b ++ u ∷ F) x t l.0 l.1 (ends_own t x a) (ended_later t b (u ∷ F) (or_left (ends t u) _ e)))
      (λ a. both_ways (list_any (ends t) b) (no_end_after b l.0 e) a) (or_cases (ends t x) (list_any (ends t) b) h))

  -- or its only spawn
  pub no_spawn_before : Legal cells (u ∷ F) → spawns t u ≡ true → list_any (spawns t) F ≡ false
  no_spawn_before l e = false_from_ne_true (list_any (spawns t) F) (λ h. both_ways (spawns t u) (not_again cells F l.0 u l.1 t (spawned_by t F h)) e)

  -- none follows it
  pub no_spawn_after : (b : History) → Legal cells (b ++ u ∷ F) → spawns t u ≡ true → list_any (spawns t) b ≡ false
  no_spawn_after [] l e = refl
  no_spawn_after (x ∷ b) l e = false_from_ne_true (list_any (spawns t) (x ∷ b)) (λ h.
      ⊎_elim
      (λ a. both_ways (spawns t x) (not_again cells (b ++ u ∷ F) l.0 x l.1 t (spawned_later t b (u ∷ F) (spawned_by t (u ∷ F) (or_left (spawns t u) _ e)))) a)
      (λ a. both_ways (list_any (spawns t) b) (no_spawn_after b l.0 e) a) (or_cases (spawns t x) (list_any (spawns t) b) h))

-- where one of those that stay passes, the only one of all that passes stays
pub only_stays : (K : History) (p : Event → Bool) (b : History) (u : Event) (F : History) → list_any p b ≡ false → list_any p F ≡ false → list_any p (part K (b ++ u ∷ F)) ≡ true → has K (u ∷ F) ≡ true
only_stays K p [] u F n m h =
    ⊎_elim (λ a. a.0) (λ a. absurd (both_ways (list_any p F) m (any_up p (part_gone K F) a))) (any_put p (has K (u ∷ F)) u (part K F) h)
only_stays K p (x ∷ b) u F n m h =
    let o = or_parts (p x) (list_any p b) n in
    ⊎_elim (λ a. absurd (both_ways (p x) o.0 a.1)) (λ a. only_stays K p b u F o.1 m a) (any_put p (has K (x ∷ (b ++ u ∷ F))) x (part K (b ++ u ∷ F)) h)

-- the end of a task stays
pub end_stays : (cells : Cells) (K : History) (t : Name) (b : History) (u : Event) (F : History) → Legal cells (b ++ u ∷ F) → ends t u ≡ true → HasEnded (part K (b ++ u ∷ F)) t → has K (u ∷ F) ≡ true
end_stays cells K t b u F l e h =
    only_stays K (ends t) b u F (no_end_after cells t u F b l e) (no_end_before cells t u F (legal_below cells b (u ∷ F) l) e) h

-- the spawn of a task stays
pub spawn_stays : (cells : Cells) (K : History) (t : Name) (b : History) (u : Event) (F : History) → Legal cells (b ++ u ∷ F) → spawns t u ≡ true → list_any (spawns t) (part K (b ++ u ∷ F)) ≡ true → has K (u ∷ F) ≡ true
spawn_stays cells K t b u F l e h =
    only_stays K (spawns t) b u F (no_spawn_after cells t u F b l e) (no_spawn_before cells t u F (legal_below cells b (u ∷ F) l) e) h
