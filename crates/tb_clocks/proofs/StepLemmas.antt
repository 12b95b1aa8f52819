-- A step changes the row of its task, and a child gets its own.
use Rattle.std.proofs.Common.{get_or, ◌≡◌, ◌<◌, ◌≤◌, ◌+◌, ℕ, zero, suc, List, [], ◌∷◌, ◌++◌, Bool, true, false, cond, length, refl, sym, ap, ap₂, ◌∙◌, subst, arith, Option, Some, None, Result, Ok, Err, slice_get, slice_set, nat_eq, inl, inr, ⊎_elim}
use Rattle.std.proofs.lemmas.Bool.{both_ways, false_from_ne_true}
use Rattle.std.proofs.lemmas.Bool.Decides.{nat_tests}
use Rattle.std.proofs.lemmas.List.{length-append}
use Rattle.std.specs.Prelude.{OnOk, OnErr}
use Rattle.tb_model.specs.declared.action.Action.{Action}
use Rattle.tb_model.specs.declared.action.Action.TheVariants.{Start, Let, Load, Store, Print, Spawn, Wait, Open, Close, Test, End, Fault}
use Rattle.tb_model.specs.declared.event.Event.{Event}
use Rattle.tb_model.specs.Facts.{History, is_of, items_for, own}
use Rattle.tb_model.specs.Legal.{Cells, Legal}
use Rattle.tb_model.specs.Names.{Name, same_name}
use Rattle.tb_model.proofs.FactsLemmas.{spawn_names}
use Rattle.tb_model.proofs.TestLemmas.{same_refl, same_true}
use Rattle.tb_clocks.specs.Known.{AreTasks, HasId, IsRow, advanced, child_known, generated, known, names_in, ordinal_of, parent_of}
use Rattle.tb_clocks.specs.Steps.{Advances, IsChildRow, Stays, rows_of}
use Rattle.tb_clocks.specs.declared.row.Row.{Row}
use Rattle.tb_clocks.specs.declared.tasks.Tasks.{Tasks}
use Rattle.tb_clocks.proofs.TaskLemmas.{Among, among, generates_it, only_one, id_spawned, in_front, known_child, known_other, known_own, one_id, within}

pub on_ok_then : {A E : Type 0} {P Q : Type 0} (r : Result A E) → OnOk r P → (P → Q) → OnOk r Q
on_ok_then (Ok x) h f = f h
on_ok_then (Err e) h f = tt

pub on_err_then : {A E : Type 0} {P Q : Type 0} (r : Result A E) → OnErr r P → (P → Q) → OnErr r Q
on_err_then (Ok x) h f = tt
on_err_then (Err e) h f = f h

pub on_err : {A E : Type 0} {P : Type 0} (r : Result A E) → P → OnErr r P
on_err (Ok x) p = tt
on_err (Err e) p = p

pub advances : (task at : ℕ) (a : Action) (rows : List Row) (row changed : Row) → slice_get rows task ≡ Some row → changed.parent ≡ row.parent → changed.ordinal ≡ row.ordinal → known changed ≡ advanced at a (known row) → Advances task at a rows (slice_set rows task changed)
advances task at a rows row changed was same number k = (row, changed, record { was = was; is = refl; parent = same; ordinal = number }, k)

pub stays : (task : ℕ) (rows : List Row) (row changed : Row) → slice_get rows task ≡ Some row → changed.parent ≡ row.parent → changed.ordinal ≡ row.ordinal → known changed ≡ known row → Stays task rows (slice_set rows task changed)
stays task rows row changed was same number k = inr (row, changed, record { was = was; is = refl; parent = same; ordinal = number }, k)

-- ---- a row that was set

no_row : (x : Row) → ◌≡◌ {A = Option Row} None (Some x) → ⊥
no_row x h = cc

set_here : (xs : List Row) (i : ℕ) (y x : Row) → slice_get xs i ≡ Some x → slice_get (slice_set xs i y) i ≡ Some y
set_here [] i y x h = absurd (no_row x h)
set_here (z ∷ xs) zero y x h = refl
set_here (z ∷ xs) (suc i) y x h = set_here xs i y x h

set_elsewhere : (xs : List Row) (i j : ℕ) (y : Row) → (i ≡ j → ⊥) → slice_get (slice_set xs i y) j ≡ slice_get xs j
set_elsewhere [] i j y other = refl
set_elsewhere (z ∷ xs) zero zero y other = absurd (other refl)
set_elsewhere (z ∷ xs) zero (suc j) y other = refl
set_elsewhere (z ∷ xs) (suc i) zero y other = refl
set_elsewhere (z ∷ xs) (suc i) (suc j) y other = set_elsewhere xs i j y (λ e. other (ap suc e))

set_length : (xs : List Row) (i : ℕ) (y : Row) → length (slice_set xs i y) ≡ length xs
set_length [] i y = refl
set_length (z ∷ xs) zero y = refl
set_length (z ∷ xs) (suc i) y = ap suc (set_length xs i y)

same_some : {A : Type 0} (x y : A) → ◌≡◌ {A = Option A} (Some x) (Some y) → x ≡ y
same_some x y h = cc

-- where nothing is said that wasn't, the tasks are what they were
pub kept : (cells : Cells) (H : History) (old new : Tasks) (task : ℕ) → AreTasks cells H old → Stays task old.rows.items new.rows.items → new.count ≡ old.count → AreTasks cells H new
kept cells H old new task a (inl same) count = record {
  legal = a.legal;
  count = count ∙ a.count;
  listed = ap length same ∙ a.listed;
  each = λ i t r h g. a.each i t r h (subst (λ (rows : List Row). slice_get rows i ≡ Some r) same g);
}
kept cells H old new task a (inr s) count =
    let row = s.0 in
    let changed = s.1 in
    let sets = s.2 in record {
      legal = a.legal;
      count = count ∙ a.count;
      listed = ap length sets.is ∙ set_length old.rows.items task changed ∙ a.listed;
      each = λ i t r h g. at i t r h (subst (λ (rows : List Row). slice_get rows i ≡ Some r) sets.is g);
    }
  where
    at : (i : ℕ) (t : Name) (r : Row) → HasId H i t → slice_get (slice_set old.rows.items task s.1) i ≡ Some r → IsRow H t r
    at i t r h g = by_test (nat_eq task i) refl
      where
        by_test : (b : Bool) → nat_eq task i ≡ b → IsRow H t r
        by_test true e =
            let here : task ≡ i = grind (arith, nat_tests) in
            let mine : s.1 ≡ r = same_some s.1 r (sym (set_here old.rows.items task s.1 s.0 s.2.was) ∙ ap (slice_get (slice_set old.rows.items task s.1)) here ∙ g) in
            let was = a.each i t s.0 h (subst (λ n. slice_get old.rows.items n ≡ Some s.0) here s.2.was) in
            subst (IsRow H t) mine (record { ordinal = s.2.ordinal ∙ was.ordinal; known_is = s.3 ∙ was.known_is; parent = subst (λ n. HasId H n (parent_of t)) (sym s.2.parent) was.parent })
        by_test false e =
            let elsewhere : (task ≡ i) → ⊥ = λ q. (let t' : nat_eq task i ≡ true = grind (arith, nat_tests) in both_ways (nat_eq task i) e t') in
            a.each i t r h (sym (set_elsewhere old.rows.items task i s.1 elsewhere) ∙ g)

-- ---- what is read of a row

pub get_at : (xs : List Row) (i : ℕ) (x : Row) → i < length xs → x ≡ get_or xs i x → slice_get xs i ≡ Some x
get_at [] i x h e = absurd (omega (arith, h))
get_at (y ∷ xs) zero x h e = ap (λ (z : Row). Some z) (sym e)
get_at (y ∷ xs) (suc i) x h e = get_at xs i x (omega (arith, h)) e

module _ (cells : Cells) (H : History) (tasks : Tasks) (t : Name) (task : ℕ) (a : AreTasks cells H tasks) (id : HasId H task t) (xs : List Row) (same : xs ≡ tasks.rows.items) where
  pub row_there : (r : Row) → task < length xs → r ≡ get_or xs task r → IsRow H t r
  row_there r h e = a.each task t r id (subst (λ (rows : List Row). slice_get rows task ≡ Some r) same (get_at xs task r h e))

  pub no_row_there : length xs ≤ task → ⊥
  no_row_there h = omega (arith, h, within (names_in H) task t id, a.listed, ap length same)

-- ---- one event more

not_within : (i n k : ℕ) → i < n → i ≡ n + k → ⊥
not_within i n k h e = omega (arith, h, e)

child_is : (a : Action) (child : Option Row) (task : ℕ) (t : Name) (r : Row) → IsChildRow task a child → slice_get (generated a) 0 ≡ Some t → slice_get (rows_of child) 0 ≡ Some r →
    (known r ≡ child_known (items_for t a)) × (r.parent ≡ task) × (r.ordinal ≡ ordinal_of t)
child_is (Spawn s) None task t r c g h = absurd c
child_is (Spawn s) (Some x) task t r c g h =
    let same : s.child ≡ t = same_some s.child t g in
    let mine : x ≡ r = same_some x r h in
    let items : items_for t (Spawn s) ≡ s.items = subst (λ (u : Name). cond (same_name s.child u) s.items [] ≡ s.items) same (ap (λ b. cond b s.items []) (same_refl s.child)) in
    (subst (λ (y : Row). known y ≡ child_known (items_for t (Spawn s))) mine (c.0 ∙ ap child_known (sym items)), subst (λ (y : Row). y.parent ≡ task) mine c.1, subst (λ (y : Row). y.ordinal ≡ ordinal_of t) mine (c.2 ∙ ap ordinal_of same))
child_is Start child task t r c g h = absurd (let q : ◌≡◌ {A = Option Name} None (Some t) = g in cc)
child_is (Let x y) child task t r c g h = absurd (let q : ◌≡◌ {A = Option Name} None (Some t) = g in cc)
child_is (Load x y z) child task t r c g h = absurd (let q : ◌≡◌ {A = Option Name} None (Some t) = g in cc)
child_is (Store x y) child task t r c g h = absurd (let q : ◌≡◌ {A = Option Name} None (Some t) = g in cc)
child_is (Print x) child task t r c g h = absurd (let q : ◌≡◌ {A = Option Name} None (Some t) = g in cc)
child_is (Wait items) child task t r c g h = absurd (let q : ◌≡◌ {A = Option Name} None (Some t) = g in cc)
child_is Open child task t r c g h = absurd (let q : ◌≡◌ {A = Option Name} None (Some t) = g in cc)
child_is Close child task t r c g h = absurd (let q : ◌≡◌ {A = Option Name} None (Some t) = g in cc)
child_is (Test b) child task t r c g h = absurd (let q : ◌≡◌ {A = Option Name} None (Some t) = g in cc)
child_is End child task t r c g h = absurd (let q : ◌≡◌ {A = Option Name} None (Some t) = g in cc)
child_is Fault child task t r c g h = absurd (let q : ◌≡◌ {A = Option Name} None (Some t) = g in cc)

as_many : (task : ℕ) (a : Action) (child : Option Row) → IsChildRow task a child → length (rows_of child) ≡ length (generated a)
as_many task (Spawn s) None c = absurd c
as_many task (Spawn s) (Some x) c = refl
as_many task Start None c = refl
as_many task Start (Some x) c = absurd c
as_many task (Let r y) None c = refl
as_many task (Let r y) (Some x) c = absurd c
as_many task (Load r d y) None c = refl
as_many task (Load r d y) (Some x) c = absurd c
as_many task (Store d y) None c = refl
as_many task (Store d y) (Some x) c = absurd c
as_many task (Print y) None c = refl
as_many task (Print y) (Some x) c = absurd c
as_many task (Wait items) None c = refl
as_many task (Wait items) (Some x) c = absurd c
as_many task Open None c = refl
as_many task Open (Some x) c = absurd c
as_many task Close None c = refl
as_many task Close (Some x) c = absurd c
as_many task (Test b) None c = refl
as_many task (Test b) (Some x) c = absurd c
as_many task End None c = refl
as_many task End (Some x) c = absurd c
as_many task Fault None c = refl
as_many task Fault (Some x) c = absurd c

module _ (cells : Cells) (H : History) (v : Event) (l : Legal cells (v ∷ H)) (old : Tasks) (a : AreTasks cells H old) (task : ℕ) (id : HasId H task v.task) where
  module _ (row changed : Row) (was : slice_get old.rows.items task ≡ Some row) (parent : changed.parent ≡ row.parent) (number : changed.ordinal ≡ row.ordinal) (steps : known changed ≡ advanced (length H) v.action (known row)) where
    -- the task that executed the step, or another
    still : (i : ℕ) (t : Name) (r : Row) (b : Bool) → nat_eq task i ≡ b → HasId H i t → slice_get (slice_set old.rows.items task changed) i ≡ Some r → IsRow (v ∷ H) t r
    still i t r true e h g =
        let here : task ≡ i = grind (arith, nat_tests) in
        let mine : changed ≡ r = same_some changed r (sym (set_here old.rows.items task changed row was) ∙ ap (slice_get (slice_set old.rows.items task changed)) here ∙ g) in
        let it : v.task ≡ t = same_some v.task t (sym id ∙ ap (slice_get (names_in H)) here ∙ h) in
        let mark : is_of t v ≡ true = subst (λ (u : Name). same_name v.task u ≡ true) it (same_refl v.task) in
        let before = a.each i t row h (subst (λ n. slice_get old.rows.items n ≡ Some row) here was) in
        subst (IsRow (v ∷ H) t) mine (record {
          ordinal = number ∙ before.ordinal;
          known_is = steps ∙ ap (advanced (length H) v.action) before.known_is ∙ sym (known_own cells H v l t (id_spawned H i t h) mark);
          parent = in_front (names_in H) (generated v.action) changed.parent (parent_of t) (subst (λ n. HasId H n (parent_of t)) (sym parent) before.parent);
        })
    still i t r false e h g =
        let elsewhere : (task ≡ i) → ⊥ = λ q. (let yes : nat_eq task i ≡ true = grind (arith, nat_tests) in both_ways (nat_eq task i) e yes) in
        let other : is_of t v ≡ false = false_from_ne_true (is_of t v) (λ m. elsewhere (one_id cells H task i t l.0 (subst (HasId H task) (same_true v.task t m) id) h)) in
        let before = a.each i t r h (sym (set_elsewhere old.rows.items task i changed elsewhere) ∙ g) in record {
          ordinal = before.ordinal;
          known_is = before.known_is ∙ sym (known_other cells H v l t (id_spawned H i t h) other);
          parent = in_front (names_in H) (generated v.action) r.parent (parent_of t) before.parent;
        }

  -- the child
  come : (child : Option Row) (t : Name) (r : Row) → IsChildRow task v.action child → slice_get (generated v.action) 0 ≡ Some t → slice_get (rows_of child) 0 ≡ Some r → IsRow (v ∷ H) t r
  come child t r c g h =
      let is = child_is v.action child task t r c g h in
      let mark = generates_it v.action t g in
      let named = spawn_names cells v.task t (own v.task H) v.action l.1.own mark in record {
        ordinal = is.2;
        known_is = is.0 ∙ sym (known_child cells H v l t mark);
        parent = in_front (names_in H) (generated v.action) r.parent (parent_of t) (subst (λ n. HasId H n (parent_of t)) (sym is.1) (subst (HasId H task) (sym (ap parent_of named)) id));
      }

  pub pushed : (new : Tasks) (mid : List Row) (child : Option Row) → IsChildRow task v.action child → Advances task (length H) v.action old.rows.items mid → new.rows.items ≡ mid ++ rows_of child → new.count ≡ length H + 1 → AreTasks cells (v ∷ H) new
  pushed new mid child c s rows count = record {
    legal = l;
    count = omega (arith, count);
    listed = ap length rows ∙ length-append mid (rows_of child) ∙ ap₂ (λ m n. m + n) (long ∙ a.listed) (as_many task v.action child c) ∙ sym (length-append (names_in H) (generated v.action));
    each = λ i t r h g. ⊎_elim (λ n. older i t r n (subst (λ (xs : List Row). slice_get xs i ≡ Some r) rows g)) (λ n. newest i t r n (subst (λ (xs : List Row). slice_get xs i ≡ Some r) rows g)) (among (names_in H) (generated v.action) i t h);
  }
    where
      long : length mid ≡ length old.rows.items
      long = ap length s.2.is ∙ set_length old.rows.items task s.1

      older : (i : ℕ) (t : Name) (r : Row) → HasId H i t → slice_get (mid ++ rows_of child) i ≡ Some r → IsRow (v ∷ H) t r
      older i t r n g =
          ⊎_elim (λ m. still s.0 s.1 s.2.was s.2.parent s.2.ordinal s.3 i t r (nat_eq task i) refl n (subst (λ (xs : List Row). slice_get xs i ≡ Some r) s.2.is m))
          (λ m. absurd (not_within i (length mid) m.at (omega (arith, within (names_in H) i t n, a.listed, long)) m.index))
          (among mid (rows_of child) i r g)

      newest : (i : ℕ) (t : Name) (r : Row) → Among (names_in H) (generated v.action) i t → slice_get (mid ++ rows_of child) i ≡ Some r → IsRow (v ∷ H) t r
      newest i t r n g =
          let first = only_one v.action n.at t n.is in
          ⊎_elim (λ m. absurd (not_within i (length mid) n.at (within mid i r m) (omega (arith, n.index, a.listed, long))))
          (λ m.
          let zeroth : m.at ≡ 0 = omega (arith, m.index, n.index, first, a.listed, long) in
          come child t r c (subst (λ k. slice_get (generated v.action) k ≡ Some t) first n.is) (subst (λ k. slice_get (rows_of child) k ≡ Some r) zeroth m.is))
          (among mid (rows_of child) i r g)
