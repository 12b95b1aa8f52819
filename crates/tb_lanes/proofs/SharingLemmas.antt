-- What shares a cell or the output with others, by the index of what it shares.
use Rattle.std.proofs.Common.{◌≡◌, ◌≢◌, ◌==◌, ◌⊎◌, inl, inr, ℕ, suc, Bool, true, false, ◌||◌, ◌&&◌, not, cond, refl, sym, ap, ◌∙◌, arith, Option, Some, None, is_some}
use Rattle.std.proofs.lemmas.Bool.{eq-eqb, ne_eqb, cases_eq}
use Rattle.tb_model.specs.declared.action.Action.{Action}
use Rattle.tb_model.specs.declared.action.Action.TheVariants.{Load, Store, Print}
use Rattle.tb_model.specs.declared.event.Event.{Event}
use Rattle.tb_model.specs.Facts.{is_of}
use Rattle.tb_races.specs.declared.conflict.Conflict.TheVariants.{Cell}
use Rattle.tb_races.specs.Kinds.{some_if, shared}
use Rattle.tb_races.specs.Racing.{conflict}
use Rattle.tb_lanes.specs.Kept.{slot_of, is_in, is_load}

-- ---- the numbers

the : (a b : ℕ) → ◌≡◌ {A = Option ℕ} (Some a) (Some b) → a ≡ b
the a b e = cc

pub in_slot : (a : Action) (i j : ℕ) → slot_of a ≡ Some i → is_in j a ≡ (j == i)
in_slot (Load r c x) i j h = ap (λ n. j == n) (the (suc c) i h)
in_slot (Store c x) i j h = ap (λ n. j == n) (the (suc c) i h)
in_slot (Print x) i j h = ap (λ n. j == n) (the 0 i h)
in_slot _ i j h = cc

pub in_no_slot : (a : Action) (j : ℕ) → slot_of a ≡ None → is_in j a ≡ false
in_no_slot (Load r c x) j h = cc
in_no_slot (Store c x) j h = cc
in_no_slot (Print x) j h = cc
in_no_slot _ j h = refl

-- ---- what two actions share

pub shared_none : (a b : Action) → slot_of a ≡ None → shared a b ≡ None
shared_none (Load r c x) b h = cc
shared_none (Store c x) b h = cc
shared_none (Print x) b h = cc
shared_none _ b h = refl

some_told : {A : Type 0} (b : Bool) (x : A) → is_some (some_if b x) ≡ b
some_told true x = refl
some_told false x = refl

and_true : (b : Bool) → (b && true) ≡ b
and_true true = refl
and_true false = refl

and_false : (b : Bool) → (b && false) ≡ false
and_false true = refl
and_false false = refl

eqb_suc : (k d : ℕ) → (k == d) ≡ (suc k == suc d)
eqb_suc k d = by (cases_eq k d)
  where
    by : (k ≡ d) ⊎ (k ≢ d) → (k == d) ≡ (suc k == suc d)
    by (inl e) = eq-eqb k d e ∙ sym (eq-eqb (suc k) (suc d) (ap suc e))
    by (inr n) = ne_eqb k d n ∙ sym (ne_eqb (suc k) (suc d) (λ e. n (omega (arith, e))))

same_cell : (i k d : ℕ) → ◌≡◌ {A = Option ℕ} (Some (suc k)) (Some i) → is_some (some_if (k == d) (Cell k)) ≡ ((i == suc d) && true)
same_cell i k d h = some_told (k == d) (Cell k) ∙ eqb_suc k d ∙ ap (λ n. n == suc d) (the (suc k) i h) ∙ sym (and_true (i == suc d))

no_print : (i k : ℕ) → ◌≡◌ {A = Option ℕ} (Some (suc k)) (Some i) → false ≡ ((i == 0) && true)
no_print i k h = sym (and_true (i == 0) ∙ ne_eqb i 0 (λ z. omega (arith, z, the (suc k) i h)))

no_cell : (i d : ℕ) → ◌≡◌ {A = Option ℕ} (Some 0) (Some i) → false ≡ ((i == suc d) && true)
no_cell i d h = sym (and_true (i == suc d) ∙ ne_eqb i (suc d) (λ z. omega (arith, z, the 0 i h)))

-- two share something where both have the index, and not both load
pub shared_told : (a b : Action) (i : ℕ) → slot_of a ≡ Some i → is_some (shared a b) ≡ (is_in i b && (not (is_load a) || not (is_load b)))
shared_told (Store k x) (Load r d y) i h = same_cell i k d h
shared_told (Store k x) (Store d y) i h = same_cell i k d h
shared_told (Store k x) (Print y) i h = no_print i k h
shared_told (Store k x) _ i h = refl
shared_told (Load r k x) (Store d y) i h = same_cell i k d h
shared_told (Load r k x) (Load s d y) i h = sym (and_false (i == suc d))
shared_told (Load r k x) (Print y) i h = no_print i k h
shared_told (Load r k x) _ i h = refl
shared_told (Print x) (Print y) i h = sym (and_true (i == 0) ∙ eq-eqb i 0 (sym (the 0 i h)))
shared_told (Print x) (Load r d y) i h = no_cell i d h
shared_told (Print x) (Store d y) i h = no_cell i d h
shared_told (Print x) _ i h = refl
shared_told _ b i h = cc

-- ---- what two events conflict over

none_either_way : {A : Type 0} (b : Bool) (o : Option A) → o ≡ None → cond b None o ≡ None
none_either_way true o h = refl
none_either_way false o h = h

pub conflict_none : (v u : Event) → shared v.action u.action ≡ None → conflict v u ≡ None
conflict_none v u h = none_either_way (is_of v.task u) (shared v.action u.action) h
