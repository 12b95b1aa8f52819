-- A scan of a task's actions from the newest, for the members of its innermost open group.
use Rattle.std.proofs.Common.{◌≡◌, ◌≢◌, ◌-◌, arith, ℕ, zero, suc, List, [], ◌∷◌, Bool, true, false, ◌&&◌, ◌||◌, refl, sym, ap, ◌∙◌, drop, map}
use Rattle.std.specs.List.{list_any}
use Rattle.tb_model.specs.declared.action.Action.{Action}
use Rattle.tb_model.specs.declared.spawn.Spawn.{Spawn as TheSpawn}
use Rattle.tb_model.specs.declared.action.Action.TheVariants.{Spawn, Open, Close}
use Rattle.tb_model.specs.declared.event.Event.{Event}
use Rattle.tb_model.specs.Names.{Name, is_within}
use Rattle.tb_model.specs.Facts.{History, groups, innermost, is_member, is_of, own}
use Rattle.tb_model.proofs.FactsLemmas.{own_mine}

-- one of these groups is open
abbrev pub some_open : List (List Name) → Bool
some_open [] = false
some_open (us ∷ uss) = true

-- m is a member of the innermost of these groups, where found says that a later child makes it one
abbrev pub member_of_first : Bool → List (List Name) → Name → Bool
member_of_first found gs m = (some_open gs && found) || list_any (λ c. is_within c m) (innermost gs)

-- m is a member of the innermost group that stays open where so many more are closed after these
-- actions
abbrev pub member_behind : ℕ → Bool → List Action → Name → Bool
member_behind closed found acts m = member_of_first found (drop closed (groups acts)) m

none_found : (gs : List (List Name)) (m : Name) → member_of_first false gs m ≡ list_any (λ c. is_within c m) (innermost gs)
none_found [] m = refl
none_found (us ∷ uss) m = refl

pub at_first : (acts : List Action) (m : Name) → member_behind 0 false acts m ≡ is_member acts m
at_first acts m = none_found (groups acts) m

-- nothing is open after no actions
pub at_last : (closed : ℕ) (found : Bool) (m : Name) → member_behind closed found [] m ≡ false
at_last zero found m = refl
at_last (suc k) found m = refl

-- ---- one action more

pub at_close : (closed : ℕ) (found : Bool) (acts : List Action) (m : Name) → member_behind closed found (Close ∷ acts) m ≡ member_behind (suc closed) found acts m
at_close closed found acts m = ap (λ gs. member_of_first found gs m) (drop_one closed (groups acts))
  where
    drop_one : (k : ℕ) (gs : List (List Name)) → drop k (drop 1 gs) ≡ drop (suc k) gs
    drop_one zero [] = refl
    drop_one (suc k) [] = refl
    drop_one k (us ∷ gs) = refl

or_true : (b : Bool) → (b || true) ≡ true
or_true true = refl
or_true false = refl

or_false : (b : Bool) → (b || false) ≡ b
or_false true = refl
or_false false = refl

pub at_open : (found : Bool) (acts : List Action) (m : Name) → member_behind 0 found (Open ∷ acts) m ≡ found
at_open found acts m = or_false found

at_spawn : (closed : ℕ) (found : Bool) (s : TheSpawn) (acts : List Action) (m : Name)
    → member_behind closed found (Spawn s ∷ acts) m ≡ member_behind closed (found || is_within s.child m) acts m
at_spawn closed found s acts m =
    ap (λ gs. member_of_first found gs m) (drop-map closed (groups acts)) ∙ more (drop closed (groups acts))
  where
    drop-map : (k : ℕ) (gs : List (List Name)) → drop k (map (λ us. s.child ∷ us) gs) ≡ map (λ us. s.child ∷ us) (drop k gs)
    drop-map zero gs = refl
    drop-map (suc k) [] = refl
    drop-map (suc k) (us ∷ gs) = drop-map k gs

    regroup : (a b c : Bool) → (a || (b || c)) ≡ ((a || b) || c)
    regroup true b c = refl
    regroup false b c = refl

    more : (gs : List (List Name)) → member_of_first found (map (λ us. s.child ∷ us) gs) m ≡ member_of_first (found || is_within s.child m) gs m
    more [] = refl
    more (us ∷ gs) = regroup found (is_within s.child m) (list_any (λ c. is_within c m) us)

-- one open more
at_open_inside : (closed : ℕ) (found : Bool) (acts : List Action) (m : Name) → closed ≢ 0 → member_behind closed found (Open ∷ acts) m ≡ member_behind (closed - 1) found acts m
at_open_inside zero found acts m h = absurd (h refl)
at_open_inside (suc k) found acts m h = ap (λ n. member_behind n found acts m) (omega arith)

-- ---- the newest event, where it is one of the task's

module _ (t m : Name) (H G : History) (v : Event) (more : H ≡ v ∷ G) (mine : is_of t v ≡ true) where
  -- the actions in front of it
  abbrev older : List Action
  older = own t G

  newest : (a : Action) → v.action ≡ a → own t H ≡ a ∷ older
  newest a is = ap (own t) more ∙ own_mine t v G mine ∙ ap (λ b. b ∷ older) is

  -- it opened a group that is closed
  pub behind_open : (closed : ℕ) (found : Bool) → v.action ≡ Open → closed ≢ 0 → member_behind (closed - 1) found older m ≡ member_behind closed found (own t H) m
  behind_open closed found is inside =
      sym (ap (λ acts. member_behind closed found acts m) (newest Open is) ∙ at_open_inside closed found older m inside)

  -- it generated one that m is within
  pub behind_member : (closed : ℕ) (found : Bool) (s : TheSpawn) → v.action ≡ Spawn s
      → is_within s.child m ≡ true → member_behind closed true older m ≡ member_behind closed found (own t H) m
  behind_member closed found s is within =
      sym
      (ap (λ acts. member_behind closed found acts m) (newest (Spawn s) is)
      ∙ at_spawn closed found s older m
      ∙ ap (λ b. member_behind closed b older m) (ap (λ b. found || b) within ∙ or_true found))

  -- or another
  pub behind_other : (closed : ℕ) (found : Bool) (s : TheSpawn) → v.action ≡ Spawn s
      → is_within s.child m ≡ false → member_behind closed found older m ≡ member_behind closed found (own t H) m
  behind_other closed found s is within =
      sym
      (ap (λ acts. member_behind closed found acts m) (newest (Spawn s) is)
      ∙ at_spawn closed found s older m
      ∙ ap (λ b. member_behind closed b older m) (ap (λ b. found || b) within ∙ or_false found))
