-- What is listed of races, and that it is decided whether there is one.
use Rattle.std.proofs.Common.{◌≡◌, List, [], ◌∷◌, ◌++◌, Bool, true, false, cond, ◌⊎◌, inl, inr, ⊎_elim, ◌↔◌, refl, sym, ap, ◌∙◌, subst, append_assoc, Option, Some, None, option_map}
use Rattle.std.specs.Option.{option_or, option_to_list}
use Rattle.std.proofs.lemmas.Bool.{both_ways}
use Rattle.tb_model.specs.declared.event.Event.{Event}
use Rattle.tb_model.specs.Facts.{History}
use Rattle.tb_model.specs.Needs.{step_of}
use Rattle.tb_races.specs.declared.conflict.Conflict.{Conflict}
use Rattle.tb_races.specs.declared.need_kind.NeedKind.{NeedKind}
use Rattle.tb_races.specs.declared.need_kind.NeedKind.TheVariants.{Task, Spawn, Conflict as Conflicts, Before, Apart, Wait, Group, Undeferred}
use Rattle.tb_races.specs.Kinds.{need_kind}
use Rattle.tb_races.specs.Orders.{Order, Synchronised, WithExclusion, counts, counts_some, ComesAfter, directly, by_way, comes_after}
use Rattle.tb_races.specs.Racing.{conflict, IsRace, unordered, contested, as_race, newest_race, race_of, races}
use Rattle.tb_one_run.specs.Outcomes.{HasRace}
use Rattle.tb_races.proofs.PassLemmas.{found_by_pass}

-- ---- exclusion orders more

more_counts : (k : NeedKind) → counts Synchronised k ≡ true → counts WithExclusion k ≡ true
more_counts Apart h = refl
more_counts Task h = h
more_counts Spawn h = h
more_counts (Conflicts c) h = h
more_counts Before h = h
more_counts Wait h = h
more_counts Group h = h
more_counts Undeferred h = h

more_some : (k : Option NeedKind) → counts_some Synchronised k ≡ true → counts_some WithExclusion k ≡ true
more_some None h = h
more_some (Some k) h = more_counts k h

-- what is synchronised is in order with exclusion
pub more_order : {F G : History} → ComesAfter Synchronised F G → ComesAfter WithExclusion F G
more_order (directly o v u between front h) =
    directly WithExclusion v u between front (more_some (need_kind (between ++ u ∷ front) v u) h)
more_order (by_way f g) = by_way (more_order f) (more_order g)

-- a race that the order with exclusion leaves is one
pub less_race : {F G : History} → IsRace WithExclusion F G → IsRace Synchronised F G
less_race (unordered o v u between front shares both not) =
    unordered Synchronised v u between front shares both (λ a. not (more_order a))

-- ---- the races of one event

none_both : {A : Type 0} (o p : Option A) → option_or o p ≡ None → (o ≡ None) × (p ≡ None)
none_both (Some x) p h = cc
none_both None p h = (refl, h)

-- what is contested is a conflict, and not in order
pub contested_some : (t : Bool) (s r : Option Conflict) → r ≡ cond t None s → (c : Conflict) → r ≡ Some c → (t ≡ false) × (s ≡ Some c)
contested_some true s r e c h = absurd (let z : None ≡ Some c = sym e ∙ h in cc)
contested_some false s r e c h = (refl, sym e ∙ h)

-- v, after H, races with an event of K, or none is named
pub named : (o : Order) (H : History) (v : Event) (m K : History) → H ≡ m ++ K → (newest_race o H v K ≡ None) ⊎ ((G : History) × IsRace o (v ∷ H) G)
named o H v m [] e = inl refl
named o H v m (u ∷ K) e = at (contested o H v K u) refl (named o H v (m ++ u ∷ []) K (e ∙ sym (append_assoc m (u ∷ []) K)))
  where
    at : (c : Option Conflict) → contested o H v K u ≡ c → (newest_race o H v K ≡ None) ⊎ ((G : History) × IsRace o (v ∷ H) G) → (newest_race o H v (u ∷ K) ≡ None) ⊎ ((G : History) × IsRace o (v ∷ H) G)
    at None q (inl n) =
        inl (ap (λ c. option_or (option_map (as_race o (step_of K u) (step_of H v)) c) (newest_race o H v K)) q ∙ n)
    at None q (inr r) = inr r
    at (Some c) q rest =
        let p = contested_some (comes_after o (step_of K u) H v) (conflict v u) (contested o H v K u) refl c q in
        inr (
          u ∷ K,
          subst (λ G. IsRace o (v ∷ G) (u ∷ K)) (sym e) (unordered o v u m K c p.1 (λ a.
              both_ways (comes_after o (step_of K u) (m ++ u ∷ K) v) (ap (λ G. comes_after o (step_of K u) G v) (sym e) ∙ p.0) ((found_by_pass o m v u K).1 a))),
        )

-- where none is named, v races with none
none_at : (o : Order) (H : History) (v : Event) (b : History) (u : Event) (F : History) → newest_race o H v (b ++ u ∷ F) ≡ None → contested o H v F u ≡ None
none_at o H v [] u F h = at (contested o H v F u) refl
  where
    at : (c : Option Conflict) → contested o H v F u ≡ c → contested o H v F u ≡ None
    at None q = q
    at (Some c) q =
        absurd (let z : Some (as_race o (step_of F u) (step_of H v) c) ≡ None = sym (ap (option_map (as_race o (step_of F u) (step_of H v))) q) ∙ (none_both _ _ h).0 in cc)
none_at o H v (x ∷ b) u F h = none_at o H v b u F (none_both _ _ h).1

abbrev NamesNone : Order → History → Type 0
NamesNone o [] = Unit {0}
NamesNone o (v ∷ H) = newest_race o H v H ≡ None

-- an event of which none is named has no race
pub none_races : {o : Order} {F G : History} → IsRace o F G → NamesNone o F → ⊥
none_races (unordered o v u between front shares both not) h = at (comes_after o (step_of front u) (between ++ u ∷ front) v) refl
  where
    at : (c : Bool) → comes_after o (step_of front u) (between ++ u ∷ front) v ≡ c → ⊥
    at true q = not ((found_by_pass o between v u front).0 q)
    at false q =
        let z : Some shares ≡ None = sym both ∙ sym (ap (λ c. cond c None (conflict v u)) q) ∙ none_at o (between ++ u ∷ front) v between u front h in cc

-- ---- the races of a history

nothing_listed : {A : Type 0} (o : Option A) (xs : List A) → option_to_list o ++ xs ≡ [] → (o ≡ None) × (xs ≡ [])
nothing_listed None xs h = (refl, h)
nothing_listed (Some x) xs h = cc

-- a race is among the later events or the newest has one
race_up : (v : Event) (H : History) → HasRace Synchronised H → HasRace Synchronised (v ∷ H)
race_up v H r = record { newer = v ∷ r.newer; later = r.later; earlier = r.earlier; split = ap (λ G. v ∷ G) r.split; race = r.race }

race_here : (v : Event) (H G : History) → IsRace Synchronised (v ∷ H) G → HasRace Synchronised (v ∷ H)
race_here v H G r = record { newer = []; later = v ∷ H; earlier = G; split = refl; race = r }

race_down : (o : Order) (v : Event) (H b F G : History) → v ∷ H ≡ b ++ F → IsRace o F G → (F ≡ v ∷ H) ⊎ HasRace o H
race_down o v H [] F G e r = inl (sym e)
race_down o v H (x ∷ b) F G e r = inr (record { newer = b; later = F; earlier = G; split = cc; race = r })

none_in_none : (o : Order) → HasRace o [] → ⊥
none_in_none o r = at r.newer r.later r.earlier r.split r.race
  where
    at : (b F G : History) → [] ≡ b ++ F → IsRace o F G → ⊥
    at [] F G e (unordered q v u between front shares both not) = cc
    at (x ∷ b) F G e q = cc

-- none is named for any event
abbrev pub AllNameNone : Order → History → Type 0
AllNameNone o [] = Unit {0}
AllNameNone o (v ∷ H) = AllNameNone o H × (newest_race o H v H ≡ None)

-- where none is named of any event there is no race
pub unraced : (o : Order) (H : History) → AllNameNone o H → HasRace o H → ⊥
unraced o [] n r = none_in_none o r
unraced o (v ∷ H) n r =
    ⊎_elim (λ e. none_races (subst (λ F. IsRace o F r.earlier) e r.race) n.1) (λ d. unraced o H n.0 d) (race_down o v H r.newer r.later r.earlier r.split r.race)

-- whether there is a race is decided, and none is listed exactly where there is none
pub decided : (H : History) → (HasRace Synchronised H × (races H ≡ [] → ⊥)) ⊎ ((HasRace Synchronised H → ⊥) × (races H ≡ []))
decided [] = inr (none_in_none Synchronised, refl)
decided (v ∷ H) = at (decided H) (named WithExclusion H v [] H refl) (named Synchronised H v [] H refl)
  where
    at : (HasRace Synchronised H × (races H ≡ [] → ⊥)) ⊎ ((HasRace Synchronised H → ⊥) × (races H ≡ [])) → (newest_race WithExclusion H v H ≡ None) ⊎ ((G : History) × IsRace WithExclusion (v ∷ H) G) → (newest_race Synchronised H v H ≡ None) ⊎ ((G : History) × IsRace Synchronised (v ∷ H) G) → (HasRace Synchronised (v ∷ H) × (races (v ∷ H) ≡ [] → ⊥)) ⊎ ((HasRace Synchronised (v ∷ H) → ⊥) × (races (v ∷ H) ≡ []))
    at (inl r) x y = inl (race_up v H r.0, λ e. r.1 (nothing_listed (race_of H v) (races H) e).1)
    at (inr r) (inr x) y =
        inl (race_here v H x.0 (less_race x.1), λ e. none_races x.1 (none_both _ _ (nothing_listed (race_of H v) (races H) e).0).0)
    at (inr r) (inl x) (inr y) =
        inl (race_here v H y.0 y.1, λ e. none_races y.1 (none_both _ _ (nothing_listed (race_of H v) (races H) e).0).1)
    at (inr r) (inl x) (inl y) =
        inr (
          λ q. ⊎_elim (λ e. none_races (subst (λ F. IsRace Synchronised F q.earlier) e q.race) y) (λ d. r.0 d) (race_down Synchronised v H q.newer q.later q.earlier q.split q.race),
          ap (λ c. option_to_list c ++ races H) (ap (λ c. option_or c (newest_race Synchronised H v H)) x ∙ y) ∙ r.1,
        )

-- where none is listed, and only there, is there none
pub listed : (H : History) → (races H ≡ []) ↔ (HasRace Synchronised H → ⊥)
listed H = at (decided H)
  where
    at : (HasRace Synchronised H × (races H ≡ [] → ⊥)) ⊎ ((HasRace Synchronised H → ⊥) × (races H ≡ [])) → (races H ≡ []) ↔ (HasRace Synchronised H → ⊥)
    at (inl d) = (λ e. absurd (d.1 e), λ n. absurd (n d.0))
    at (inr d) = (λ e. d.0, λ n. d.1)

-- where the absence of races is passed on, races are passed back
pub passed_back : (H K : History) → ((HasRace Synchronised K → ⊥) → HasRace Synchronised H → ⊥) → HasRace Synchronised H → HasRace Synchronised K
passed_back H K f r = ⊎_elim (λ d. d.0) (λ d. absurd (f d.0 r)) (decided K)

-- where some is listed there is one
pub raced : (H : History) → (races H ≡ [] → ⊥) → HasRace Synchronised H
raced H n = ⊎_elim (λ d. d.0) (λ d. absurd (n d.1)) (decided H)
