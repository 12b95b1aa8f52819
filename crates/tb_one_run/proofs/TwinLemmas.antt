-- Two runs in which each task does the same: each step of the one is in the other.
use Rattle.std.proofs.Common.{◌≡◌, ◌≤◌, ◌<◌, ℕ, suc, List, [], ◌∷◌, ◌++◌, length, true, cond, refl, sym, ap, ap₂, ◌∙◌, subst, arith, Some, None, option_map}
use Rattle.std.specs.Option.{option_or}
use Rattle.tb_model.specs.declared.action.Action.{Action}
use Rattle.tb_model.specs.declared.action.Action.TheVariants.{Start, Wait, Close}
use Rattle.tb_model.specs.declared.event.Event.{Event}
use Rattle.tb_model.specs.Names.{Name, same_name}
use Rattle.tb_model.specs.Facts.{History, is_of, own, is_member, holds, is_end, spawns, IsSpawned}
use Rattle.tb_model.specs.Legal.{Cells, Legal}
use Rattle.tb_model.proofs.TestLemmas.{same_true, same_refl}
use Rattle.tb_model.proofs.FactsLemmas.{own_mine}
use Rattle.tb_races.specs.declared.need_kind.NeedKind.TheVariants.{Before, Apart, Wait as Waits, Group, Undeferred, Task, Spawn as Spawned, Conflict as Conflicts}
use Rattle.tb_races.specs.Kinds.{some_if, shared, wait_kind, need_kind}
use Rattle.tb_one_run.proofs.SharedLemmas.{Older, own_longer, older_front, older_trans, older_same, place}
use Rattle.tb_one_run.proofs.AgreeLemmas.{Reaches, before_too, apart_too, covers_too}

-- ---- the kind of a need is the same after fronts in which the task has done the same

module _ (cells : Cells) (H A B : History) (lh : Legal cells H) (la : Legal cells A) (lb : Legal cells B) (ra : Reaches A H) (rb : Reaches B H) where
  wait_same : (t : Name) (a : Action) (u : Name) → own t A ≡ own t B → IsSpawned A t → IsSpawned B t → IsSpawned A u → IsSpawned B u → wait_kind A t a u ≡ wait_kind B t a u
  wait_same t Start u o st sx su sy =
      ap₂ (λ b c. option_or (some_if b Before) (some_if c Apart))
      (sym (before_too cells A H la lh ra u t su st) ∙ before_too cells B H lb lh rb u t sy sx)
      (sym (apart_too cells A H la lh ra u t su st) ∙ apart_too cells B H lb lh rb u t sy sx)
  wait_same t (Wait items) u o st sx su sy =
      ap (λ b. some_if b Waits) (sym (covers_too cells A H la lh ra t items u su) ∙ covers_too cells B H lb lh rb t items u sy)
  wait_same t Close u o st sx su sy = ap (λ acts. some_if (is_member acts u) Group) o
  wait_same t _ u o st sx su sy = refl

  -- and so the need has one kind
  pub kind_same : (v u : Event) → own v.task A ≡ own v.task B → IsSpawned A v.task → IsSpawned B v.task → IsSpawned A u.task → IsSpawned B u.task → need_kind A v u ≡ need_kind B v u
  kind_same v u o st sx su sy =
      ap (λ k. cond (is_of v.task u) (Some Task) (cond (spawns v.task u) (Some Spawned) (option_or (option_map Conflicts (shared v.action u.action)) (cond (is_end u.action) k None))))
      (ap₂ option_or (wait_same v.task v.action u.task o st sx su sy) (ap (λ acts. some_if (holds acts u.task) Undeferred) o))

-- ---- the step of an event in another history

-- the event is in C, with so many of its task in front of it
pub record Twin (C : History) (y : Event) (n : ℕ) : Type 0 where
  pub later : History
  pub front : History
  pub split : C ≡ later ++ y ∷ front
  pub number : length (own y.task front) ≡ n

twin_action : (a b : Action) (x y : List Action) → ◌≡◌ {A = List Action} (a ∷ x) (b ∷ y) → a ≡ b
twin_action a b x y e = cc

-- what C has of each task is the older part of what H has
pub twin : (H C : History) → Reaches C H → (b : History) (y : Event) (Y : History) → H ≡ b ++ y ∷ Y → length (own y.task Y) < length (own y.task C) → Twin C y (length (own y.task Y))
twin H C r b y Y e l =
    let t = y.task in
    let p = place t (length (own t Y)) C l in
    let same = same_true p.event.task t p.mine in
    let in_h : Older (own t (y ∷ Y)) (own t H) = subst (λ G. Older (own t (y ∷ Y)) (own t G)) (sym e) (older_front t b (y ∷ Y)) in
    let in_c : Older (own t (p.event ∷ p.front)) (own t C) = subst (λ G. Older (own t (p.event ∷ p.front)) (own t G)) (sym p.split) (older_front t p.later (p.event ∷ p.front)) in
    let mine = own_mine t p.event p.front p.mine in
    let yours = own_mine t y Y (same_refl t) in
    let one = older_same (own t H) (older_trans in_c (r t)) in_h (omega (arith, ap length mine, ap length yours, p.number)) in
    let action : p.event.action ≡ y.action = twin_action p.event.action y.action (own t p.front) (own t Y) (sym mine ∙ one ∙ yours) in
    let event : p.event ≡ y = λ i. record { task = same i; action = action i } in
    record {
      later = p.later;
      front = p.front;
      split = p.split ∙ ap (λ x. p.later ++ x ∷ p.front) event;
      number = p.number;
    }

-- one index has the ordinal
pub one_place : (C : History) (b c : History) (x y : Event) (X Y : History) → C ≡ b ++ x ∷ X → C ≡ c ++ y ∷ Y → x.task ≡ y.task → length (own x.task X) ≡ length (own x.task Y) → (X ≡ Y) × (x ≡ y)
one_place C b c x y X Y e f t n = at b c (sym e ∙ f)
  where
    longer : (d : History) (z : Event) (Z : History) → z.task ≡ x.task → suc (length (own x.task Z)) ≤ length (own x.task (d ++ z ∷ Z))
    longer d z Z q =
        omega (arith, own_longer x.task d (z ∷ Z), ap length (own_mine x.task z Z (subst (λ u. same_name u x.task ≡ true) (sym q) (same_refl x.task))))

    at : (b c : History) → b ++ x ∷ X ≡ c ++ y ∷ Y → (X ≡ Y) × (x ≡ y)
    at [] [] e = (cc, cc)
    at [] (z ∷ c) e =
        let s : X ≡ c ++ y ∷ Y = cc in absurd (omega (arith, n, longer c y Y (sym t), ap (λ G. length (own x.task G)) s))
    at (z ∷ b) [] e =
        let s : b ++ x ∷ X ≡ Y = cc in absurd (omega (arith, n, longer b x X refl, ap (λ G. length (own x.task G)) s))
    at (z ∷ b) (k ∷ c) e = at b c (cc)
