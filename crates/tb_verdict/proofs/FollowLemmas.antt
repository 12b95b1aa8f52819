-- An event that nothing refuses may follow.
use Rattle.std.proofs.Common.{◌≡◌, ◌≢◌, ◌<◌, ◌≤◌, ℕ, zero, suc, ℤ, List, [], ◌∷◌, Bool, true, false, not, ◌&&◌, ◌||◌, ◌==◌, cond, length, map, refl, sym, ap, ap₂, ◌∙◌, arith, Option, Some, None, option_map, unwrap_or, nat_lt, nat_le}
use Rattle.std.specs.List.{AllByRecursion, list_any, list_all}
use Rattle.std.specs.Option.{option_or}
use Rattle.std.specs.Ordering.{int_eq}
use Rattle.std.proofs.lemmas.Bool.{false≢true, true≢false, and_parts}
use Rattle.std.proofs.lemmas.Bool.Decides.{nat_tests, Decides-int_eq}
use Rattle.tb_model.specs.declared.place.Place.{Place}
use Rattle.tb_model.specs.declared.place.Place.TheVariants.{Cell, All}
use Rattle.tb_model.specs.declared.item.Item.{Item}
use Rattle.tb_model.specs.declared.action.Action.{Action}
use Rattle.tb_model.specs.declared.action.Action.TheVariants.{Start, Let, Load, Store, Print, Spawn, Wait, Open, Close, Test, End, Fault}
use Rattle.tb_model.specs.declared.event.Event.{Event}
use Rattle.tb_model.specs.Names.{Name, child, same_name}
use Rattle.tb_model.specs.Facts.{History, own, ends, is_end, is_of, is_start, is_spawned, last, groups, prepend_if}
use Rattle.tb_model.specs.State.{open_groups, children_since}
use Rattle.tb_model.specs.Legal.{Cells, IsPlace, IsRunning, Continues, MayFollow, first_number, spawn_count}
use Rattle.tb_model.specs.Hindrances.{Hindrance, in_the_way, number_read}
use Rattle.tb_model.specs.Lines.{Departure, events_of}
use Rattle.tb_undo.specs.Steps.{FollowsTasks}
use Rattle.tb_verdict.specs.Judged.{IsRun}
use Rattle.tb_model.specs.Program.{loaded}
use Rattle.tb_model.proofs.GroupsLemmas.{groups_since}
use Rattle.tb_model.proofs.HindranceLemmas.{nothing_in_the_way}
use Rattle.tb_plan.specs.Plans.{names_allowed, is_placed, is_place}
use Rattle.tb_verdict.specs.Refusals.{refusal_of, kept_by, out_of_turn, started_by, is_due, misread, unopened, unfit}
use Rattle.tb_verdict.specs.declared.refusal.Refusal.{Refusal}
use Rattle.tb_verdict.specs.declared.run_state.RunState.{RunState}
use Rattle.tb_verdict.specs.declared.refusal.Refusal.TheVariants.{NoSuchTask, Ended, NotStarted, Started, Reads, Child, NoGroup, Step}

pub some_none : {A : Type 0} (x : A) → ◌≡◌ {A = Option A} (Some x) None → ⊥
some_none x e = cc

-- ---- a task in its turn

turn_by : (b : Bool) (n : ℕ) (s : Bool) → cond b (started_by n s) (Some (Step (suc n))) ≡ None → started_by n s ≡ None
turn_by true n s e = e
turn_by false n s e = absurd (some_none (Step (suc n)) e)

first_by : (n : ℕ) → started_by n true ≡ None → n ≡ 0
first_by zero e = refl
first_by (suc n) e = absurd (some_none Started e)

later_by : (n : ℕ) → started_by n false ≡ None → 0 < n
later_by zero e = absurd (some_none NotStarted e)
later_by (suc n) e = omega arith

turn_first : (k : Option ℕ) (n : ℕ) (a : Action) → is_start a ≡ true → out_of_turn k n a ≡ None → n ≡ 0
turn_first k n a s e = first_by n (ap (started_by n) (sym s) ∙ turn_by (is_due k (suc n)) n (is_start a) e)

turn_later : (k : Option ℕ) (n : ℕ) (a : Action) → is_start a ≡ false → out_of_turn k n a ≡ None → 0 < n
turn_later k n a s e = later_by n (ap (started_by n) (sym s) ∙ turn_by (is_due k (suc n)) n (is_start a) e)

no_actions : (acts : List Action) → length acts ≡ 0 → acts ≡ []
no_actions [] e = refl
no_actions (a ∷ acts) e = absurd (omega (arith, e))

not_or : (a b : Bool) → (a || b) ≡ false → (a ≡ false) × (b ≡ false)
not_or true b e = absurd (true≢false e)
not_or false b e = (refl, e)

running_by : (b : Bool) (a : Action) (acts : List Action) (rest : Bool) → ((b && is_end a) || rest) ≡ false → 0 < length (prepend_if b a acts) →
    (rest ≡ false → 0 < length acts → IsRunning acts) → IsRunning (prepend_if b a acts)
running_by true a acts rest over some on = ap not (not_or (is_end a) rest over).0
running_by false a acts rest over some on = on over some

-- a task that executed steps and isn't over goes on
running : (t : Name) (H : History) → list_any (ends t) H ≡ false → 0 < length (own t H) → IsRunning (own t H)
running t [] over some = absurd (omega (arith, some))
running t (v ∷ H) over some = running_by (is_of t v) v.action (own t H) (list_any (ends t) H) over some (running t H)

-- ---- what the action says

same_from : (a b : Name) → same_name a b ≡ true → a ≡ b
same_from [] [] e = refl
same_from [] (n ∷ b) e = absurd (false≢true e)
same_from (m ∷ a) [] e = absurd (false≢true e)
same_from (m ∷ a) (n ∷ b) e =
    let p = and_parts (m == n) (same_name a b) e in
    let d : m ≡ n = (let q = p.0 in grind (arith, nat_tests)) in
    ap₂ (λ x y. x ∷ y) d (same_from a b p.1)

named_by : (b : Bool) (due : Name) → cond b None (Some (Child due)) ≡ None → b ≡ true
named_by true due e = refl
named_by false due e = absurd (some_none (Child due) e)

read_by : (b : Bool) (number : ℤ) → cond b None (Some (Reads number)) ≡ None → b ≡ true
read_by true number e = refl
read_by false number e = absurd (some_none (Reads number) e)

is_read : (x number : ℤ) → misread x number ≡ None → x ≡ number
is_read x number e = (Decides-int_eq x number).0 (read_by (int_eq x number) number e)

some_open : (ks : List ℕ) (acts : List Action) → unopened (length ks) ≡ None → map (λ k. children_since k acts) ks ≢ []
some_open [] acts e h = some_none NoGroup e
some_open (k ∷ ks) acts e h = absurd (let l = ap length h in omega (arith, l))

opened : (acts : List Action) → unopened (length (open_groups acts)) ≡ None → groups acts ≢ []
opened acts e h = some_open (open_groups acts) acts e (sym (groups_since acts) ∙ h)

placed_all : (cells : Cells) (items : List Item) → list_all (is_placed (length cells)) items ≡ true → AllByRecursion (λ (i : Item). IsPlace cells i.place) items
placed_all cells [] h = tt
placed_all cells (i ∷ items) h =
    let parts = and_parts (is_placed (length cells) i) (list_all (is_placed (length cells)) items) h in
    (one i.place parts.0, placed_all cells items parts.1)
  where
    one : (p : Place) → is_place (length cells) p ≡ true → IsPlace cells p
    one (Cell c) e = grind (arith, nat_tests)
    one All e = tt

module _ (first : Cells) (H : History) (t : Name) (over : list_any (ends t) H ≡ false) (k : Option ℕ) where
  goes : (a : Action) → is_start a ≡ false → out_of_turn k (length (own t H)) a ≡ None → IsRunning (own t H)
  goes a s turn = running t H over (turn_later k (length (own t H)) a s turn)

  continues : (a : Action) → names_allowed (length first) a ≡ true → out_of_turn k (length (own t H)) a ≡ None → unfit first H t a ≡ None → Continues first t (own t H) a
  continues Start p turn fit = no_actions (own t H) (turn_first k (length (own t H)) Start refl turn)
  continues (Let r x) p turn fit = (goes (Let r x) refl turn, grind (arith, nat_tests))
  continues (Load r c x) p turn fit =
      let q = and_parts (nat_lt r 16) (nat_lt c (length first)) p in
      (goes (Load r c x) refl turn, grind (arith, nat_tests, q.0), grind (arith, nat_tests, q.1))
  continues (Store c x) p turn fit = (goes (Store c x) refl turn, grind (arith, nat_tests))
  continues (Print x) p turn fit = goes (Print x) refl turn
  continues (Spawn s) p turn fit =
      let q = and_parts (nat_le (length s.args) 16) (list_all (is_placed (length first)) s.items) p in
      let due = child t (suc (spawn_count (own t H))) in
      (goes (Spawn s) refl turn, same_from s.child due (named_by (same_name s.child due) due fit), grind (arith, nat_tests, q.0), placed_all first s.items q.1)
  continues (Wait items) p turn fit = (goes (Wait items) refl turn, placed_all first items p)
  continues Open p turn fit = goes Open refl turn
  continues Close p turn fit = (goes Close refl turn, opened (own t H) fit)
  continues (Test b) p turn fit = goes (Test b) refl turn
  continues End p turn fit = goes End refl turn
  continues Fault p turn fit = goes Fault refl turn

reads : (first : Cells) (H : History) (t : Name) (a : Action) → unfit first H t a ≡ None → loaded a ≡ number_read first H a
reads first H t (Load r c x) fit = is_read x (last (first_number first c) c H) fit
reads first H t Start fit = refl
reads first H t (Let r x) fit = refl
reads first H t (Store c x) fit = refl
reads first H t (Print x) fit = refl
reads first H t (Spawn s) fit = refl
reads first H t (Wait items) fit = refl
reads first H t Open fit = refl
reads first H t Close fit = refl
reads first H t (Test b) fit = refl
reads first H t End fit = refl
reads first H t Fault fit = refl

-- ---- the event may follow

pub may_follow : (first : Cells) (H : History) (t : Name) (k : Option ℕ) (a : Action) → names_allowed (length first) a ≡ true → is_spawned H t ≡ true → list_any (ends t) H ≡ false →
    out_of_turn k (length (own t H)) a ≡ None → in_the_way H t a ≡ None → unfit first H t a ≡ None → MayFollow first H (record { task = t; action = a })
may_follow first H t k a p spawned over turn way fit =
    (nothing_in_the_way first H t a spawned (continues first H t over k a p turn fit) (reads first H t a fit)).0 way

-- ---- few children

few_counted : (acts : List Action) → spawn_count acts ≤ length acts
few_counted [] = omega arith
few_counted (Spawn s ∷ acts) = omega (arith, few_counted acts)
few_counted (Start ∷ acts) = omega (arith, few_counted acts)
few_counted (Let r x ∷ acts) = omega (arith, few_counted acts)
few_counted (Load r c x ∷ acts) = omega (arith, few_counted acts)
few_counted (Store c x ∷ acts) = omega (arith, few_counted acts)
few_counted (Print x ∷ acts) = omega (arith, few_counted acts)
few_counted (Wait items ∷ acts) = omega (arith, few_counted acts)
few_counted (Open ∷ acts) = omega (arith, few_counted acts)
few_counted (Close ∷ acts) = omega (arith, few_counted acts)
few_counted (Test b ∷ acts) = omega (arith, few_counted acts)
few_counted (End ∷ acts) = omega (arith, few_counted acts)
few_counted (Fault ∷ acts) = omega (arith, few_counted acts)

few_by : (b : Bool) (a : Action) (acts : List Action) (n : ℕ) → length acts ≤ n → length (prepend_if b a acts) ≤ suc n
few_by true a acts n h = omega (arith, h)
few_by false a acts n h = omega (arith, h)

few_own : (t : Name) (H : History) → length (own t H) ≤ length H
few_own t [] = omega arith
few_own t (v ∷ H) = few_by (is_of t v) v.action (own t H) (length H) (few_own t H)

pub few_children : (t : Name) (H : History) (most : ℕ) → length H < most → spawn_count (own t H) < most
few_children t H most h = omega (arith, h, few_own t H, few_counted (own t H))

pub counted : (o : Option ℕ) (b : Bool) (n : ℕ) → o ≡ cond b (Some n) None → b ≡ true → unwrap_or o 0 ≡ n
counted o b n e there = rw (e, there) refl

-- ---- nothing refuses the event

pub record Cleared (s e : Bool) (o : Option Refusal) (h : Option Hindrance) (u : Option Refusal) : Type 0 where
  pub spawned : s ≡ true
  pub going : e ≡ false
  pub turn : o ≡ None
  pub way : h ≡ None
  pub fit : u ≡ None

cleared_by : (s e : Bool) (turn : Option Refusal) (way : Option Hindrance) (fit : Option Refusal) →
    cond (not s) (Some NoSuchTask) (cond e (Some Ended) (option_or turn (option_or (option_map kept_by way) fit))) ≡ None → Cleared s e turn way fit
cleared_by false e turn way fit h = absurd (some_none NoSuchTask h)
cleared_by true true turn way fit h = absurd (some_none Ended h)
cleared_by true false (Some r) way fit h = absurd (some_none r h)
cleared_by true false None (Some x) fit h = absurd (some_none (kept_by x) h)
cleared_by true false None None fit h = record { spawned = refl; going = refl; turn = refl; way = refl; fit = h }

pub cleared : (first : Cells) (H : History) (k : Option ℕ) (v : Event) → refusal_of first H k v ≡ None →
    Cleared (is_spawned H v.task) (list_any (ends v.task) H) (out_of_turn k (length (own v.task H)) v.action) (in_the_way H v.task v.action) (unfit first H v.task v.action)
cleared first H k v none =
    cleared_by (is_spawned H v.task) (list_any (ends v.task) H) (out_of_turn k (length (own v.task H)) v.action) (in_the_way H v.task v.action) (unfit first H v.task v.action) none

pub may_follow_unrefused : (first : Cells) (H : History) (k : Option ℕ) (v : Event) → names_allowed (length first) v.action ≡ true → refusal_of first H k v ≡ None → MayFollow first H v
may_follow_unrefused first H k v p none =
    let c = cleared first H k v none in
    may_follow first H v.task k v.action p c.spawned c.going c.turn c.way c.fit

pub follows : (first : Cells) (root_line : ℕ) (D : List Departure) (s : RunState) (k : Option ℕ) (v : Event) → IsRun first root_line D s →
    names_allowed s.cells v.action ≡ true → refusal_of first (events_of D) k v ≡ None → FollowsTasks first root_line D v s.tables
follows first root_line D s k v run allowed none = record {
  legal = (run.legal, may_follow_unrefused first (events_of D) k v (ap (λ n. names_allowed n v.action) (sym run.cells) ∙ allowed) none);
  state = run.state;
  few = run.few;
}
