-- A scan of a task's actions from the newest, for a child of its innermost open group that passes a test.
use Rattle.std.proofs.Common.{◌≡◌, ◌≢◌, ◌-◌, ◌+◌, arith, ℕ, zero, suc, List, [], ◌∷◌, Bool, true, false, ◌&&◌, ◌||◌, refl, sym, ap, ◌∙◌, drop, map}
use Rattle.std.specs.List.{list_any}
use Rattle.tb_model.specs.declared.action.Action.{Action}
use Rattle.tb_model.specs.declared.spawn.Spawn.{Spawn as TheSpawn}
use Rattle.tb_model.specs.declared.action.Action.TheVariants.{Spawn, Open, Close}
use Rattle.tb_model.specs.declared.event.Event.{Event}
use Rattle.tb_model.specs.Names.{Name}
use Rattle.tb_model.specs.Facts.{History, groups, innermost, is_of, own}
use Rattle.tb_model.proofs.FactsLemmas.{own_mine}

-- one of these groups is open
abbrev pub some_open : List (List Name) → Bool
some_open [] = false
some_open (us ∷ uss) = true

-- a child passes of the innermost of these groups, where found says that a later one does
abbrev pub member_of_first : Bool → List (List Name) → (Name → Bool) → Bool
member_of_first found gs f = (some_open gs && found) || list_any f (innermost gs)

-- a child passes of the innermost group that stays open where so many more are closed after these
-- actions
abbrev pub member_behind : ℕ → Bool → List Action → (Name → Bool) → Bool
member_behind closed found acts f = member_of_first found (drop closed (groups acts)) f

none_found : (gs : List (List Name)) (f : Name → Bool) → member_of_first false gs f ≡ list_any f (innermost gs)
none_found [] f = refl
none_found (us ∷ uss) f = refl

pub at_first : (acts : List Action) (f : Name → Bool) → member_behind 0 false acts f ≡ list_any f (innermost (groups acts))
at_first acts f = none_found (groups acts) f

-- nothing is open after no actions
pub at_last : (closed : ℕ) (found : Bool) (f : Name → Bool) → member_behind closed found [] f ≡ false
at_last zero found m = refl
at_last (suc k) found m = refl

-- ---- one action more

pub at_close : (closed : ℕ) (found : Bool) (acts : List Action) (f : Name → Bool) → member_behind closed found (Close ∷ acts) f ≡ member_behind (suc closed) found acts f
at_close closed found acts f = ap (λ gs. member_of_first found gs f) (drop_one closed (groups acts))
  where
    drop_one : (k : ℕ) (gs : List (List Name)) → drop k (drop 1 gs) ≡ drop (suc k) gs
    drop_one zero [] = refl
    drop_one (suc k) [] = refl
    drop_one k (us ∷ gs) = refl

or_true : (b : Bool) → (b || true) ≡ true
or_true true = refl
or_true false = refl

or_false : (b : Bool) → (b || false) ≡ b
or_false true = refl
or_false false = refl

pub at_open : (found : Bool) (acts : List Action) (f : Name → Bool) → member_behind 0 found (Open ∷ acts) f ≡ found
at_open found acts f = or_false found

at_spawn : (closed : ℕ) (found : Bool) (s : TheSpawn) (acts : List Action) (f : Name → Bool)
    → member_behind closed found (Spawn s ∷ acts) f ≡ member_behind closed (found || f s.child) acts f
at_spawn closed found s acts f =
    ap (λ gs. member_of_first found gs f) (drop-map closed (groups acts)) ∙ more (drop closed (groups acts))
  where
    drop-map : (k : ℕ) (gs : List (List Name)) → drop k (map (λ us. s.child ∷ us) gs) ≡ map (λ us. s.child ∷ us) (drop k gs)
    drop-map zero gs = refl
    drop-map (suc k) [] = refl
    drop-map (suc k) (us ∷ gs) = drop-map k gs

    regroup : (a b c : Bool) → (a || (b || c)) ≡ ((a || b) || c)
    regroup true b c = refl
    regroup false b c = refl

    more : (gs : List (List Name)) → member_of_first found (map (λ us. s.child ∷ us) gs) f ≡ member_of_first (found || f s.child) gs f
    more [] = refl
    more (us ∷ gs) = regroup found (f s.child) (list_any f us)

-- one open more
at_open_inside : (closed : ℕ) (found : Bool) (acts : List Action) (f : Name → Bool) → closed ≢ 0 → member_behind closed found (Open ∷ acts) f ≡ member_behind (closed - 1) found acts f
at_open_inside zero found acts f h = absurd (h refl)
at_open_inside (suc k) found acts f h = ap (λ n. member_behind n found acts f) (omega arith)

-- ---- the newest event, where it is one of the task's

module _ (t : Name) (f : Name → Bool) (H G : History) (v : Event) (more : H ≡ v ∷ G) (mine : is_of t v ≡ true) where
  -- the actions in front of it
  abbrev older : List Action
  older = own t G

  newest : (a : Action) → v.action ≡ a → own t H ≡ a ∷ older
  newest a is = ap (own t) more ∙ own_mine t v G mine ∙ ap (λ b. b ∷ older) is

  -- it opened a group that is closed
  pub behind_open : (closed : ℕ) (found : Bool) → v.action ≡ Open → closed ≢ 0 → member_behind (closed - 1) found older f ≡ member_behind closed found (own t H) f
  behind_open closed found is inside = sym (ap (λ acts. member_behind closed found acts f) (newest Open is) ∙ at_open_inside closed found older f inside)

  -- it closed one
  pub behind_close : (closed : ℕ) (found : Bool) → v.action ≡ Close → member_behind (closed + 1) found older f ≡ member_behind closed found (own t H) f
  behind_close closed found is =
      let one : suc closed ≡ closed + 1 = omega arith in
      sym
      (ap (λ acts. member_behind closed found acts f) (newest Close is)
      ∙ at_close closed found older f
      ∙ ap (λ k. member_behind k found older f) one)

  -- it generated one that m is within
  pub behind_member : (closed : ℕ) (found : Bool) (s : TheSpawn) → v.action ≡ Spawn s → f s.child ≡ true → member_behind closed true older f ≡ member_behind closed found (own t H) f
  behind_member closed found s is within =
      sym
      (ap (λ acts. member_behind closed found acts f) (newest (Spawn s) is)
      ∙ at_spawn closed found s older f
      ∙ ap (λ b. member_behind closed b older f) (ap (λ b. found || b) within ∙ or_true found))

  -- or another
  pub behind_other : (closed : ℕ) (found : Bool) (s : TheSpawn) → v.action ≡ Spawn s → f s.child ≡ false → member_behind closed found older f ≡ member_behind closed found (own t H) f
  behind_other closed found s is within =
      sym
      (ap (λ acts. member_behind closed found acts f) (newest (Spawn s) is)
      ∙ at_spawn closed found s older f
      ∙ ap (λ b. member_behind closed b older f) (ap (λ b. found || b) within ∙ or_false found))

  -- it generated one, whatever that one is
  pub behind_spawn : (closed : ℕ) (found : Bool) (s : TheSpawn) → v.action ≡ Spawn s → member_behind closed (found || f s.child) older f ≡ member_behind closed found (own t H) f
  behind_spawn closed found s is =
      sym
      (ap (λ acts. member_behind closed found acts f) (newest (Spawn s) is)
      ∙ at_spawn closed found s older f)

-- ---- a group that is open

-- whether some group stays open
abbrev pub stays_open : ℕ → List Action → Bool
stays_open closed acts = member_behind closed true acts (λ c. true)

pub open_first : (acts : List Action) → groups acts ≢ [] → stays_open 0 acts ≡ true
open_first acts some = at (groups acts) some
  where
    at : (gs : List (List Name)) → gs ≢ [] → member_of_first true gs (λ c. true) ≡ true
    at [] h = absurd (h refl)
    at (us ∷ uss) h = refl
