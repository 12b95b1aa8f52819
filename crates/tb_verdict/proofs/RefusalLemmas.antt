-- Which reason holds first.
use Rattle.std.proofs.Common.{◌≡◌, ℕ, suc, List, [], ◌∷◌, Bool, true, false, not, ◌&&◌, cond, length, refl, sym, ap, ap₂, arith, Option, Some, None, option_map, IsTrue, ◌==◌, ◌+◌, slice_get, Result, Ok, Err, IfOk, OnErr}
use Rattle.std.specs.List.{list_any}
use Rattle.std.proofs.lemmas.Bool.Decides.{nat_tests}
use Rattle.tb_model.specs.declared.event.Event.{Event}
use Rattle.tb_model.specs.Names.{Name, child, same_name, is_child}
use Rattle.tb_model.specs.Facts.{History, own, ends, is_spawned}
use Rattle.tb_model.specs.State.{is_unended}
use Rattle.tb_model.specs.Legal.{Cells}
use Rattle.tb_model.specs.Hindrances.{Hindrance, in_the_way}
use Rattle.tb_model.specs.Lines.{Departure, events_of}
use Rattle.tb_undo.specs.Tasks.{Task}
use Rattle.tb_undo.specs.State.{task_of, known_task}
use Rattle.tb_undo.specs.Standings.{Standing, standing_of}
use Rattle.tb_verdict.specs.Memory.{IsLongRefusal, MayTake}
use Rattle.tb_verdict.specs.Refusals.{refusal_of, out_of_turn, kept_by, unfit}
use Rattle.tb_verdict.specs.declared.refusal.Refusal.{Refusal}
use Rattle.tb_verdict.specs.declared.refusal.Refusal.TheVariants.{NoSuchTask, Ended}

-- ---- where a task is

none_by : (b : Bool) (k : Task) → option_map standing_of (cond b (Some k) None) ≡ None → b ≡ false
none_by true k e = absurd (let h : ◌≡◌ {A = Option Standing} (Some (standing_of k)) None = e in cc)
none_by false k e = refl

some_by : (b : Bool) (k : Task) (st : Standing) → option_map standing_of (cond b (Some k) None) ≡ Some st → (b ≡ true) × (standing_of k ≡ st)
some_by true k st e = (refl, (let h : ◌≡◌ {A = Option Standing} (Some (standing_of k)) (Some st) = e in cc))
some_by false k st e = absurd (let h : ◌≡◌ {A = Option Standing} None (Some st) = e in cc)

pub not_there : (root_line : ℕ) (D : List Departure) (t : Name) → option_map standing_of (task_of root_line D t) ≡ None → is_spawned (events_of D) t ≡ false
not_there root_line D t e = none_by (is_spawned (events_of D) t) (known_task root_line D t) e

pub there : (root_line : ℕ) (D : List Departure) (t : Name) (st : Standing) → option_map standing_of (task_of root_line D t) ≡ Some st →
    (is_spawned (events_of D) t ≡ true) × (length (own t (events_of D)) ≡ st.steps)
there root_line D t st e =
    let p = some_by (is_spawned (events_of D) t) (known_task root_line D t) st e in
    (p.0, ap (λ (s : Standing). s.steps) p.1)

pub unended : (H : History) (t : Name) → is_spawned H t ≡ true → list_any (ends t) H ≡ false → IsTrue (is_unended H t)
unended H t spawned going = ap₂ (λ b c. b && not c) spawned going

-- ---- the first reason

module _ (first : Cells) (H : History) (k : Option ℕ) (v : Event) where
  pub no_task : is_spawned H v.task ≡ false → refusal_of first H k v ≡ Some NoSuchTask
  no_task none = rw none refl

  pub over : is_spawned H v.task ≡ true → list_any (ends v.task) H ≡ true → refusal_of first H k v ≡ Some Ended
  over spawned ended = rw (spawned, ended) refl

  pub not_its_turn : is_spawned H v.task ≡ true → list_any (ends v.task) H ≡ false → (r : Refusal) → out_of_turn k (length (own v.task H)) v.action ≡ Some r →
      refusal_of first H k v ≡ Some r
  not_its_turn spawned going r turn = rw (spawned, going, turn) refl

  pub kept : is_spawned H v.task ≡ true → list_any (ends v.task) H ≡ false → out_of_turn k (length (own v.task H)) v.action ≡ None →
      (h : Hindrance) → in_the_way H v.task v.action ≡ Some h → refusal_of first H k v ≡ Some (kept_by h)
  kept spawned going turn h way = rw (spawned, going, turn, way) refl

  pub clear : is_spawned H v.task ≡ true → list_any (ends v.task) H ≡ false → out_of_turn k (length (own v.task H)) v.action ≡ None →
      in_the_way H v.task v.action ≡ None → refusal_of first H k v ≡ unfit first H v.task v.action
  clear spawned going turn way = rw (spawned, going, turn, way) refl

-- ---- the next child

no_child : (t u : Name) (m : ℕ) → slice_get u 0 ≡ None → same_name u (m ∷ t) ≡ false
no_child t [] m e = refl
no_child t (d ∷ u) m e = absurd (let h : ◌≡◌ {A = Option ℕ} (Some d) None = e in cc)

-- a name without an ordinal is no child's
pub unnumbered : (t u : Name) (n : ℕ) → slice_get u 0 ≡ None → false ≡ same_name u (child t (suc n))
unnumbered t u n e = sym (no_child t u (suc n) e)

-- a name with an ordinal is the child's with this ordinal, where its parent is the task
pub numbered_child : (t u : Name) (d n : ℕ) (same : Bool) → slice_get u 0 ≡ Some d → same ≡ (d == suc n) → (same && is_child t u) ≡ same_name u (child t (suc n))
numbered_child t [] d n same e s = absurd (let h : ◌≡◌ {A = Option ℕ} None (Some d) = e in cc)
numbered_child t (m ∷ u) d n same e s =
    let h : m ≡ d = (let q : ◌≡◌ {A = Option ℕ} (Some m) (Some d) = e in cc) in
    rw (s, h) refl

-- one with another ordinal isn't the next
pub other_child : (t u : Name) (d m k n : ℕ) → slice_get u 0 ≡ Some d → m ≡ d → k ≡ n → (m ≡ k + 1 → ⊥) → (m == k + 1) ≡ same_name u (child t (suc n))
other_child t [] d m k n e i j other = absurd (let h : ◌≡◌ {A = Option ℕ} None (Some d) = e in cc)
other_child t (b ∷ u) d m k n e i j other =
    let h : b ≡ d = (let q : ◌≡◌ {A = Option ℕ} (Some b) (Some d) = e in cc) in
    let x : (m == k + 1) ≡ false = grind (arith, nat_tests) in
    let y : (b == suc n) ≡ false = grind (arith, nat_tests) in
    rw (x, y) refl

-- what holds of each value of an answer
pub mapped : {A E : Type 0} {P Q : A → Type 0} (r : Result A E) → IfOk r P → ((x : A) → P x → Q x) → IfOk r Q
mapped (Ok x) h f = f x h
mapped (Err e) h f = tt

-- what holds where there is an error
pub on_err : {A E : Type 0} {P : Type 0} (r : Result A E) → P → OnErr r P
on_err (Ok x) p = tt
on_err (Err e) p = p

pub on_err_then : {A E : Type 0} {P Q : Type 0} (r : Result A E) → OnErr r P → (P → Q) → OnErr r Q
on_err_then (Ok x) h f = tt
on_err_then (Err e) h f = f h

pub may_if_long : (o : Option Refusal) → IsLongRefusal o → MayTake o
may_if_long None h = absurd h
may_if_long (Some r) h = h
