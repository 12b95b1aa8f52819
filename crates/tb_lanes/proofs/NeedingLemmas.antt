-- Lists of steps, one more, and what they reach.
use Rattle.std.proofs.Common.{◌≡◌, ◌≢◌, ◌<◌, ◌+◌, ℕ, List, [], ◌∷◌, ◌++◌, Bool, true, false, Option, Some, None, IfSome, length, get_or, sym, ap, ◌∙◌, subst, arith, ◌⊎◌, inl, inr}
use Rattle.std.proofs.lemmas.Bool.{cases_eq, false≢true}
use Rattle.std.proofs.lemmas.List.{get_or_append_left, length-append}
use Rattle.std.proofs.Math.Seq.{get_or-append_seam}
use Rattle.tb_steps.specs.Entries.{Entry}
use Rattle.tb_races.specs.Orders.{Order}
use Rattle.tb_lanes.specs.Clocks.{Lanes, reaches}
use Rattle.tb_lanes.specs.Needing.{IsBelow, TellsShared, place_at}
use Rattle.tb_lanes.specs.Linking.{order_of}
use Rattle.tb_lanes.specs.declared.tasks.Tasks.{Tasks}

module _ (old new : List ℕ) (s : ℕ) (e : new ≡ old ++ s ∷ []) where
  pub length_more : length new ≡ length old + 1
  length_more = ap length e ∙ length-append old (s ∷ [])

  pub last_is : place_at new (length old) ≡ s
  last_is = ap (λ (xs : List ℕ). get_or xs (length old) 0) e ∙ get_or-append_seam old s [] 0

  pub kept_is : (i : ℕ) → i < length old → place_at new i ≡ place_at old i
  kept_is i l = ap (λ (xs : List ℕ). get_or xs i 0) e ∙ get_or_append_left old (s ∷ []) 0 i l

  pub each_more : (P : ℕ → Type 0) → ((i : ℕ) → i < length old → P (place_at old i)) → P s → (i : ℕ) → i < length new → P (place_at new i)
  each_more P before here i l = by (cases_eq i (length old))
    where
      by : (i ≡ length old) ⊎ (i ≢ length old) → P (place_at new i)
      by (inl q) = subst P (sym (ap (place_at new) q ∙ last_is)) here
      by (inr d) = let m : i < length old = omega (arith, l, d, length_more) in subst P (sym (kept_is i m)) (before i m)

module _ (o : Order) (entries : List Entry) (old new : List ℕ) (s : ℕ) (e : new ≡ old ++ s ∷ []) where
  pub below_more : (q : ℕ) → IsBelow o entries old q → IsBelow o entries new q
  below_more q h = (h.0, omega (arith, h.1, length_more old new s e), subst (λ y. reaches o entries y q ≡ true) (sym (kept_is old new s e h.0 h.1)) h.2)

  pub below_last : (q : ℕ) → reaches o entries s q ≡ true → IsBelow o entries new q
  below_last q h = (length old, omega (arith, length_more old new s e), subst (λ y. reaches o entries y q ≡ true) (sym (last_is old new s e)) h)

-- where conflicts don't count, nothing is to be said of them
pub none_shared : (exclusion : Bool) (entries : List Entry) (tasks : Tasks) (clocks : Lanes) (row : ℕ → ℕ) (k p : ℕ) → TellsShared (order_of exclusion) entries tasks clocks row k p
none_shared true entries tasks clocks row k p h = absurd (false≢true h)
none_shared false entries tasks clocks row k p h = absurd (false≢true h)

-- what is said of what is there
pub some_of : (o : Option ℕ) (P : ℕ → Type 0) (x : ℕ) → IfSome o P → o ≡ Some x → P x
some_of (Some y) P x h e = subst P (the y x e) h
  where
    the : (a b : ℕ) → ◌≡◌ {A = Option ℕ} (Some a) (Some b) → a ≡ b
    the a b e = cc
some_of None P x h e = absurd (no x e)
  where
    no : (a : ℕ) → ◌≡◌ {A = Option ℕ} None (Some a) → ⊥
    no a e = cc
