-- A start after the end of a sibling that blocks it: nearest, or by way of another sibling that started and ended in between.
use Rattle.std.proofs.Common.{◌≡◌, ◌≢◌, ◌⊎◌, inl, inr, ⊎_elim, [], ◌∷◌, ◌++◌, true, sym, ap, ◌∙◌, subst, append_assoc}
use Rattle.std.specs.List.{list_any}
use Rattle.std.proofs.lemmas.Bool.{or_cases, or_left, or_right, and_parts, and_from, cases_Bool, both_ways, false≢true}
use Rattle.tb_model.specs.declared.action.Action.{Action}
use Rattle.tb_model.specs.declared.action.Action.TheVariants.{Start}
use Rattle.tb_model.specs.declared.event.Event.{Event}
use Rattle.tb_model.specs.Facts.{History, HasEnded, HasStarted, is_of, own, before, apart, is_end, is_start, ends, starts}
use Rattle.tb_model.specs.Legal.{Cells, Legal, MayStart, IsTimely, Continues}
use Rattle.tb_model.specs.Needs.{waits_for}
use Rattle.tb_model.proofs.TestLemmas.{same_refl}
use Rattle.tb_model.proofs.FactsLemmas.{acted_spawned, not_started, no_acts, ends_own}
use Rattle.tb_model.proofs.NeighboursLemmas.{legal_below, start_only}
use Rattle.tb_model.proofs.SettledLemmas.{before_settled, apart_settled}
use Rattle.tb_nearest.specs.Nearest.{Nearest, start, blocks, starts_between}
use Rattle.tb_nearest.proofs.WayLemmas.{Found, found, any_there, needs_end, Way, whole, by_ended}
use Rattle.tb_nearest.proofs.DirectLemmas.{by_waiting}

no_start_ends : (a : Action) → is_end a ≡ true → a ≡ Start → ⊥
no_start_ends a e s = false≢true (subst (λ b. is_end b ≡ true) s e)

module _ (cells : Cells) (v u : Event) (between front : History) (l : Legal cells (v ∷ (between ++ u ∷ front))) (e : is_end u.action ≡ true) (a : v.action ≡ Start) where
  abbrev H : History
  H = between ++ u ∷ front

  may : MayStart H v.task
  may = subst (IsTimely cells H v.task) a l.1.timely

  -- w starts in between, and ends before v
  by_sibling : (w : Event) (later earlier : History) → between ≡ later ++ w ∷ earlier → w.action ≡ Start → HasEnded H w.task
      → waits_for H v.task Start w.task ≡ true → waits_for (earlier ++ u ∷ front) w.task Start u.task ≡ true → Way v u between front
  by_sibling w later earlier split st ended upper lower =
      let E = earlier ++ u ∷ front in
      let lw = legal_below cells later (w ∷ E) (subst (Legal cells) (whole u w between front later earlier split) l.0) in
      let fresh : own w.task E ≡ [] = subst (Continues cells w.task (own w.task E)) st lw.1.own in
      by_ended v u w between front later earlier split ended (λ x. no_start_ends w.action (and_parts (is_of w.task w) (is_end w.action) x).1 st) (λ x. not_started w.task E (ends w.task) (ends_own w.task) fresh x)
      (by_waiting H v.task v.action Start w.task a upper) (needs_end E w u e (by_waiting E w.task w.action Start u.task st lower))

  -- one that u blocks, and that blocks v, started in between, so it ended there too
  by_started : (f : Found (starts_between H u.task v.task) between) → Way v u between front
  by_started f =
      let w = f.who in
      let o = and_parts (is_start w.action) _ f.passes in
      let st = start_only w.action o.0 in
      let i = and_parts (blocks H u.task w.task) (blocks H w.task v.task) o.1 in
      let E = f.earlier ++ u ∷ front in
      let is : H ≡ f.later ++ w ∷ E = whole u w between front f.later f.earlier f.split in
      let cut : H ≡ (f.later ++ w ∷ []) ++ E = is ∙ sym (append_assoc f.later (w ∷ []) E) in
      let legal = subst (Legal cells) cut l.0 in
      let lw = legal_below cells f.later (w ∷ E) (subst (Legal cells) is l.0) in
      let acted : own u.task E ≢ [] = λ n. both_ways (list_any (is_of u.task) E) (no_acts u.task E n) (any_there (is_of u.task) f.earlier u front (same_refl u.task)) in
      let generated = (subst (IsTimely cells E w.task) st lw.1.timely).spawned in
      let settled = apart_settled cells (f.later ++ w ∷ []) E u.task w.task legal generated (acted_spawned cells E u.task lw.0 acted) in
      let started : HasStarted H w.task = subst (λ K. HasStarted K w.task) (sym is) (any_there (starts w.task) f.later w E (and_from (is_of w.task w) _ (same_refl w.task) o.0)) in
      let ended : HasEnded H w.task = ⊎_elim (λ b. may.behind w.task b) (λ x. may.alone w.task x started) (or_cases (before H w.task v.task) _ i.1) in
      by_sibling w f.later f.earlier f.split st ended i.1
      (⊎_elim
      (λ b. or_left _ (apart E u.task w.task) (before_settled cells (f.later ++ w ∷ []) E u.task w.task legal generated (subst (λ K. before K u.task w.task ≡ true) cut b)))
      (λ x. or_right (before E u.task w.task) _ (sym settled ∙ sym (ap (λ K. apart K u.task w.task) cut) ∙ x))
      (or_cases (before H u.task w.task) _ i.0))

  pub by_start : blocks H u.task v.task ≡ true → Nearest v u between front ⊎ Way v u between front
  by_start b =
      ⊎_elim (λ s. inr (by_started (found (starts_between H u.task v.task) between s))) (λ n. inl (start e a b n))
      (cases_Bool (list_any (starts_between H u.task v.task) between))
