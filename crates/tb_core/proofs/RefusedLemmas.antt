-- What is in the way of a plan is a task, and tasks are numbered from 1.
use Rattle.std.specs.Prelude.{Result, Ok, Err, nat_lt}
use Rattle.std.proofs.Common.{◌≡◌, ◌<◌, ◌≤◌, ◌↔◌, ℕ, refl, List, [], ◌∷◌, Bool, true, false, ◌&&◌, not, cond, sym, ap₂, subst, arith, Option, Some, None, option_map, IsTrue}
use Rattle.std.specs.Bool.{⊤}
use Rattle.std.specs.List.{AllByRecursion, list_any}
use Rattle.std.specs.Option.{option_or}
use Rattle.std.specs.Result.{IsErr, IsOk}
use Rattle.std.proofs.lemmas.Bool.{both_ways, false≢true}
use Rattle.std.proofs.lemmas.Bool.Decides.{nat_tests}
use Rattle.std.specs.declared.cmp.Ordering.{Ordering}
use Rattle.std.specs.declared.cmp.Ordering.TheVariants.{Less, Equal, Greater}
use Rattle.tb_model.specs.declared.action.Action.{Action}
use Rattle.tb_model.specs.declared.action.Action.TheVariants.{Start, Spawn, Wait, Close}
use Rattle.tb_model.specs.Names.{Name, name_cmp}
use Rattle.tb_model.specs.Facts.{History, own, ends, is_spawned}
use Rattle.tb_model.specs.State.{with_child, is_unended, is_unended_covered, is_unended_member, is_unended_undeferred}
use Rattle.tb_model.specs.Legal.{Cells, Legal, Continues}
use Rattle.tb_model.specs.Hindrances.{spawned_names, least_where, lesser_by, lesser_name, is_waited_for, is_excluding, least_as, untimely, in_the_way, Hindrance, Undeferred, Waiting, Excluded, Children, Group}
use Rattle.tb_undo.specs.declared.obstacle.Obstacle.{Obstacle}
use Rattle.tb_undo.specs.declared.obstacle.Obstacle.TheVariants as obstacle
use Rattle.tb_undo.specs.Obstacles.{hindrance_by}
use Rattle.tb_core.specs.Naming.{IsNumbered}

-- ---- tasks are numbered from 1

abbrev IsCounted : Name → Type 0
IsCounted [] = ⊤
IsCounted (n ∷ t) = 0 < n

abbrev IsCountedIf : Option Name → Type 0
IsCountedIf None = ⊤
IsCountedIf (Some u) = IsCounted u

names_counted : (cells : Cells) (H : History) → Legal cells H → AllByRecursion IsCounted (spawned_names H)
names_counted cells [] l = (tt, tt)
names_counted cells (v ∷ H) l = at v.action l.1.own (names_counted cells H l.0)
  where
    at : (a : Action) → Continues cells v.task (own v.task H) a → AllByRecursion IsCounted (spawned_names H)
        → AllByRecursion IsCounted (with_child a (spawned_names H))
    at (Spawn s) k all = (subst IsCounted (sym k.1) (omega arith), all)
    at _ k all = all

lesser_counted : (t : Name) (o : Option Name) → IsCounted t → IsCountedIf o → IsCounted (lesser_name t o)
lesser_counted t None h k = h
lesser_counted t (Some u) h k = by_cmp (name_cmp t u)
  where
    by_cmp : (q : Ordering) → IsCounted (lesser_by q t u)
    by_cmp Greater = k
    by_cmp Less = h
    by_cmp Equal = h

least_counted : (p : Name → Bool) (ts : List Name) → AllByRecursion IsCounted ts → IsCountedIf (least_where p ts)
least_counted p [] all = tt
least_counted p (t ∷ ts) all = at (p t) (least_where p ts) (least_counted p ts all.1)
  where
    at : (b : Bool) (o : Option Name) → IsCountedIf o → IsCountedIf (cond b (Some (lesser_name t o)) o)
    at true o k = lesser_counted t o all.0 k
    at false o k = k

-- ---- and so is what is in the way

abbrev IsByCounted : Hindrance → Type 0
IsByCounted (Undeferred u) = IsCounted u
IsByCounted (Waiting u) = IsCounted u
IsByCounted (Excluded u) = IsCounted u
IsByCounted (Children u) = IsCounted u
IsByCounted (Group u) = IsCounted u

abbrev IsByCountedIf : Option Hindrance → Type 0
IsByCountedIf None = ⊤
IsByCountedIf (Some h) = IsByCounted h

as_kind : (kind : Name → Hindrance) → ((u : Name) → IsCounted u → IsByCounted (kind u)) → (o : Option Name) → IsCountedIf o → IsByCountedIf (option_map kind o)
as_kind kind f None k = tt
as_kind kind f (Some u) k = f u k

first_of : (o q : Option Hindrance) → IsByCountedIf o → IsByCountedIf q → IsByCountedIf (option_or o q)
first_of None q h k = k
first_of (Some x) q h k = h

module _ (cells : Cells) (H : History) (t : Name) (legal : Legal cells H) where
  least : (kind : Name → Hindrance) → ((u : Name) → IsCounted u → IsByCounted (kind u)) → (p : Name → Bool) → IsByCountedIf (least_as kind p H)
  least kind f p =
      as_kind kind f (least_where p (spawned_names H)) (least_counted p (spawned_names H) (names_counted cells H legal))

  untimely_counted : (a : Action) → IsByCountedIf (untimely H t a)
  untimely_counted Start =
      first_of (least_as Waiting (is_waited_for H t) H) (least_as Excluded (is_excluding H t) H) (least Waiting (λ u k. k) (is_waited_for H t)) (least Excluded (λ u k. k) (is_excluding H t))
  untimely_counted (Wait items) = least Children (λ u k. k) (is_unended_covered H t items)
  untimely_counted Close = least Group (λ u k. k) (is_unended_member H t)
  untimely_counted _ = tt

  way_counted : (a : Action) → IsByCountedIf (in_the_way H t a)
  way_counted a =
      first_of (least_as Undeferred (is_unended_undeferred H t) H) (untimely H t a) (least Undeferred (λ u k. k) (is_unended_undeferred H t)) (untimely_counted a)

  pub numbered : (a : Action) (o : Obstacle) → in_the_way H t a ≡ Some (hindrance_by t o) → IsNumbered o
  numbered a o e = at o (subst IsByCountedIf e (way_counted a))
    where
      at : (o : Obstacle) → IsByCounted (hindrance_by t o) → IsNumbered o
      at (obstacle.Undeferred n) h = h
      at (obstacle.Waiting n) h = h
      at (obstacle.Excluded n) h = h
      at (obstacle.Children n) h = h
      at (obstacle.Group m) h = tt

-- ---- who is there and going is unended

pub unended : (H : History) (t : Name) → is_spawned H t ≡ true → list_any (ends t) H ≡ false → IsTrue (is_unended H t)
unended H t there going = ap₂ (λ b c. b && not c) there going

-- what a test denies isn't so
pub elsewhere : (b : Bool) (P : Type 0) → (b ≡ true) ↔ P → b ≡ false → P → ⊥
elsewhere b P d e h = both_ways b e (d.1 h)

-- ---- a name that is refused is long

no_both : {A E : Type 0} (r : Result A E) → IsErr r → IsOk r → ⊥
no_both (Ok x) e o = false≢true e
no_both (Err x) e o = false≢true o

pub refused_long : {A E : Type 0} (r : Result A E) (n m : ℕ) → IsErr r → (n < m → IsOk r) → m ≤ n
refused_long r n m e ok = at (nat_lt n m) refl
  where
    at : (b : Bool) → nat_lt n m ≡ b → m ≤ n
    at true h = absurd (no_both r e (ok (grind (arith, nat_tests))))
    at false h = grind (arith, nat_tests)
