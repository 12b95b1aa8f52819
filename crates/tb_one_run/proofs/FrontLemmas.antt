-- Where there is no race that isn't apart, each direct need is one of the order with exclusion.
use Rattle.std.proofs.Common.{◌≡◌, ◌<◌, [], ◌∷◌, ◌++◌, length, Bool, true, false, cond, ◌⊎◌, inl, inr, ⊎_elim, refl, sym, ap, ◌∙◌, subst, arith, append_assoc, Option, Some, None, option_map, is_some, nat_lt}
use Rattle.std.specs.List.{list_any}
use Rattle.std.specs.Option.{option_or}
use Rattle.std.proofs.lemmas.Bool.{both_ways, false≢true, false_from_ne_true, ltb-true, ltb-false}
use Rattle.tb_model.specs.declared.action.Action.{Action}
use Rattle.tb_model.specs.declared.action.Action.TheVariants.{Start, Wait, Close}
use Rattle.tb_model.specs.declared.event.Event.{Event}
use Rattle.tb_model.specs.Names.{Name}
use Rattle.tb_model.specs.Facts.{History, is_of, own, before, apart, covers, is_member, holds, is_end, spawns}
use Rattle.tb_model.specs.Needs.{needs, step_of}
use Rattle.tb_races.specs.declared.conflict.Conflict.{Conflict}
use Rattle.tb_races.specs.declared.need_kind.NeedKind.{NeedKind}
use Rattle.tb_races.specs.declared.need_kind.NeedKind.TheVariants.{Task, Spawn, Conflict as Conflicts, Before, Apart, Wait as Waits, Group, Undeferred}
use Rattle.tb_races.specs.Kinds.{some_if, shared, wait_kind, end_kind}
use Rattle.tb_races.specs.Orders.{Order, WithExclusion, counts_some, links, ComesAfter, directly, by_way, comes_after}
use Rattle.tb_races.specs.Racing.{conflict, unordered}
use Rattle.tb_races.proofs.KindLemmas.{kind_some}
use Rattle.tb_one_run.specs.Outcomes.{HasRace, is_in_front}
use Rattle.tb_one_run.proofs.SharedLemmas.{own_longer}
use Rattle.tb_races.proofs.PassLemmas.{found_by_pass, followers_none}

-- ---- the kinds of ends all count

some_if_counts : (b : Bool) (k : NeedKind) → counts_some WithExclusion (Some k) ≡ true → is_some (some_if b k) ≡ true → counts_some WithExclusion (some_if b k) ≡ true
some_if_counts true k c h = c
some_if_counts false k c h = absurd (false≢true h)

or_counts : (o p : Option NeedKind) → (is_some o ≡ true → counts_some WithExclusion o ≡ true) → (is_some p ≡ true → counts_some WithExclusion p ≡ true) → is_some (option_or o p) ≡ true → counts_some WithExclusion (option_or o p) ≡ true
or_counts (Some k) p f g h = f refl
or_counts None p f g h = g h

wait_counts : (H : History) (t : Name) (a : Action) (u : Name) → is_some (wait_kind H t a u) ≡ true → counts_some WithExclusion (wait_kind H t a u) ≡ true
wait_counts H t Start u h =
    or_counts (some_if (before H u t) Before) (some_if (apart H u t) Apart) (some_if_counts (before H u t) Before refl) (some_if_counts (apart H u t) Apart refl) h
wait_counts H t (Wait items) u h = some_if_counts (covers H t items u) Waits refl h
wait_counts H t Close u h = some_if_counts (is_member (own t H) u) Group refl h
wait_counts H t _ u h = absurd (false≢true h)

-- the end of a task that the action waits for, or of its undeferred child, counts
pub end_counts : (H : History) (t : Name) (a : Action) (u : Name) → is_some (end_kind H t a u) ≡ true → counts_some WithExclusion (end_kind H t a u) ≡ true
end_counts H t a u h =
    or_counts (wait_kind H t a u) (some_if (holds (own t H) u) Undeferred) (wait_counts H t a u) (some_if_counts (holds (own t H) u) Undeferred refl) h

-- a need counts or is a conflict
counted : (p q : Bool) (s : Option Conflict) (e : Bool) (k : Option NeedKind) → (is_some k ≡ true → counts_some WithExclusion k ≡ true) → is_some (cond p (Some Task) (cond q (Some Spawn) (option_or (option_map Conflicts s) (cond e k None)))) ≡ true → (counts_some WithExclusion (cond p (Some Task) (cond q (Some Spawn) (option_or (option_map Conflicts s) (cond e k None)))) ≡ true) ⊎ ((r : Conflict) × (cond p None s ≡ Some r))
counted true q s e k f h = inl refl
counted false true s e k f h = inl refl
counted false false (Some r) e k f h = inr (r, refl)
counted false false None true k f h = inl (f h)
counted false false None false k f h = absurd (false≢true h)

-- a direct need is a link of the order with exclusion, or a conflict
pub linked_or_conflict : (H : History) (v u : Event) → needs H v u ≡ true → (links WithExclusion H v u ≡ true) ⊎ ((r : Conflict) × (conflict v u ≡ Some r))
linked_or_conflict H v u h =
    counted (is_of v.task u) (spawns v.task u) (shared v.action u.action) (is_end u.action) (end_kind H v.task v.action u.task) (end_counts H v.task v.action u.task) (kind_some H v u ∙ h)

module _ (F : History) (free : HasRace WithExclusion F → ⊥) where
  -- so what an event of F directly needs comes in front of it
  pub need_ordered : (b : History) (x : Event) (m : History) (u : Event) (U : History) → F ≡ b ++ x ∷ (m ++ u ∷ U) → needs (m ++ u ∷ U) x u ≡ true → ComesAfter WithExclusion (x ∷ (m ++ u ∷ U)) (u ∷ U)
  need_ordered b x m u U e h =
      ⊎_elim (λ l. directly WithExclusion x u m U l)
      (λ c. ⊎_elim (λ z. absurd (racing c.0 c.1 z)) (λ z. (found_by_pass WithExclusion m x u U).0 z) (negation (comes_after WithExclusion (step_of U u) (m ++ u ∷ U) x)))
      (linked_or_conflict (m ++ u ∷ U) x u h)
    where
      negation : (c : Bool) → (c ≡ false) ⊎ (c ≡ true)
      negation true = inr refl
      negation false = inl refl

      racing : (r : Conflict) → conflict x u ≡ Some r → comes_after WithExclusion (step_of U u) (m ++ u ∷ U) x ≡ false → ⊥
      racing r c z =
          free (record {
            newer = b;
            later = x ∷ (m ++ u ∷ U);
            earlier = u ∷ U;
            split = e;
            race = unordered WithExclusion x u m U r c (λ a. both_ways (comes_after WithExclusion (step_of U u) (m ++ u ∷ U) x) z ((found_by_pass WithExclusion m x u U).1 a));
          })

-- ---- what comes in front of an event is in front

-- two ends of one list
ends_of : (a b X Y : History) → a ++ X ≡ b ++ Y → ((m : History) × (X ≡ m ++ Y)) ⊎ ((z : Event) × (m : History) × (Y ≡ z ∷ (m ++ X)))
ends_of [] b X Y e = inl (b, e)
ends_of (z ∷ a) [] X Y e = inr (z, a, sym e)
ends_of (z ∷ a) (k ∷ b) X Y e = ends_of a b X Y (cc)

proper : {o : Order} {F G : History} → ComesAfter o F G → (z : Event) × (m : History) × (F ≡ z ∷ (m ++ G))
proper (directly o v u between front h) = (v, between, refl)
proper (by_way {G = G} {H = H} f g) =
    let a = proper f in
    let b = proper g in (a.0, a.1 ++ b.0 ∷ b.1, a.2 ∙ ap (λ X. a.0 ∷ (a.1 ++ X)) b.2 ∙ ap (λ X. a.0 ∷ X) (sym (append_assoc a.1 (b.0 ∷ b.1) H)))

reached : (o : Order) (E : History) (e x : Event) (X : History) → comes_after o (step_of X x) E e ≡ true → length (own x.task X) < length (own x.task E)
reached o E e x X h = at (nat_lt (length (own x.task X)) (length (own x.task E))) refl
  where
    at : (c : Bool) → nat_lt (length (own x.task X)) (length (own x.task E)) ≡ c → length (own x.task X) < length (own x.task E)
    at true l = ltb-true (length (own x.task X)) (length (own x.task E)) l
    at false l =
        let none = followers_none o (step_of X x) E (omega (arith, ltb-false (length (own x.task X)) (length (own x.task E)) l)) in
        absurd (false≢true (sym (ap (list_any (links o E e)) none) ∙ h))

-- nothing comes in front of itself
pub not_itself : (o : Order) (e : Event) (E : History) → is_in_front o (e ∷ E) (e ∷ E) ≡ false
not_itself o e E = false_from_ne_true (is_in_front o (e ∷ E) (e ∷ E)) (λ h. omega (arith, reached o E e e E h))

module _ (o : Order) (e : Event) (a E b : History) (x : Event) (X : History) (same : a ++ E ≡ b ++ x ∷ X) where
  -- by the pass and by the relation, at indexes of one history
  pub front_after : is_in_front o (e ∷ E) (x ∷ X) ≡ true → ComesAfter o (e ∷ E) (x ∷ X)
  front_after h =
      ⊎_elim (λ p. subst (λ G. ComesAfter o (e ∷ G) (x ∷ X)) (sym p.1) ((found_by_pass o p.0 e x X).0 (subst (λ G. comes_after o (step_of X x) G e ≡ true) p.1 h)))
      (λ p. absurd (shorter p.1 (tail p.0 p.1 p.2))) (ends_of a b E (x ∷ X) same)
    where
      tail : (z : Event) (m : History) → x ∷ X ≡ z ∷ (m ++ E) → X ≡ m ++ E
      tail z m q = cc

      shorter : (m : History) → X ≡ m ++ E → ⊥
      shorter m q = omega (arith, reached o E e x X h, ap (λ G. length (own x.task G)) q, own_longer x.task m E)

-- an event that comes after another has it in front
pub after_front : (o : Order) (e : Event) (E : History) (x : Event) (X : History) → ComesAfter o (e ∷ E) (x ∷ X) → is_in_front o (e ∷ E) (x ∷ X) ≡ true
after_front o e E x X c = let s = proper c in at s.0 s.1 s.2
  where
    at : (z : Event) (m : History) → e ∷ E ≡ z ∷ (m ++ x ∷ X) → is_in_front o (e ∷ E) (x ∷ X) ≡ true
    at z m q =
        let s : E ≡ m ++ x ∷ X = cc in
        subst (λ G. comes_after o (step_of X x) G e ≡ true) (sym s) ((found_by_pass o m e x X).1 (subst (λ G. ComesAfter o (e ∷ G) (x ∷ X)) s c))
