-- Who holds what after a step, and in front of it again.
use Rattle.std.proofs.Common.{◌≡◌, ℕ, zero, suc, List, [], ◌∷◌, Bool, true, false, cond, ◌&&◌, refl, sym, ap, ◌∙◌, subst, arith, Option, Some, None, is_some, nat_eq, unwrap_or}
use Rattle.std.specs.List.{list_any}
use Rattle.std.specs.Map.{lookup}
use Rattle.std.proofs.lemmas.Bool.{false≢true, and_parts, and_from}
use Rattle.tb_model.specs.declared.item.Item.{Item}
use Rattle.tb_model.specs.declared.place.Place.{Place}
use Rattle.tb_model.specs.declared.place.Place.TheVariants.{Cell, All}
use Rattle.tb_model.specs.declared.action.Action.{Action}
use Rattle.tb_model.specs.declared.action.Action.TheVariants.{Start, Let, Load, Store, Print, Spawn, Wait, Open, Close, Test, End, Fault}
use Rattle.tb_model.specs.declared.event.Event.{Event}
use Rattle.tb_model.specs.declared.spawn.Spawn.{Spawn as TheSpawn}
use Rattle.tb_model.specs.Names.{Name, same_name, is_child}
use Rattle.tb_model.specs.Facts.{History, is_of, is_start, is_end, starts, ends, own, items_of, is_spawned}
use Rattle.tb_model.specs.Legal.{Cells, Legal, spawn_count}
use Rattle.tb_model.specs.Lines.{Departure, events_of}
use Rattle.tb_model.specs.Siblings.{nth_items}
use Rattle.tb_model.proofs.TestLemmas.{same_true, same_refl}
use Rattle.tb_model.proofs.FactsLemmas.{own_other, acted_spawned, not_started, not_again, spawn_names}
use Rattle.tb_model.proofs.StateLemmas.{children_numbered}
use Rattle.tb_model.proofs.SiblingsLemmas.{items_at as items_spawned_at}
use Rattle.tb_depend.specs.Relations.{items_at}
use Rattle.tb_depend.proofs.RelationsLemmas.{items_spawned}
use Rattle.tb_excl.specs.Holders.{Holders, holder, has_room, HasRoomFor, KeepsRoom, IsSet}
use Rattle.tb_excl.specs.Histories.{AreHolders}
use Rattle.tb_excl.proofs.HistoriesLemmas as law
use Rattle.tb_undo.specs.Tasks.{Rows, task, holders_of}
use Rattle.tb_undo.specs.Sets.{children_in, items_in, number_of, Become, Holds, Founds}
use Rattle.tb_undo.specs.State.{known_task, task_of}
use Rattle.tb_undo.specs.Changes.{HoldersFor, HoldersBack}
use Rattle.tb_undo.proofs.TaskLemmas.{unacted_in, not_child}

-- an index that is held has capacity for its holder
held_room : (h : Holders) (place : Place) (n : ℕ) → holder h place ≡ Some n → has_room h place ≡ true
held_room h (Cell c) n e = at (lookup (nat_eq c) h.cells) e
  where
    at : (o : Option (Option ℕ)) → unwrap_or o None ≡ Some n → is_some o ≡ true
    at (Some o) e = refl
    at None e = absurd (cc)
held_room h All n e = refl

set_room : (g h : Holders) (items : List Item) (n : ℕ) → IsSet g items (Some n) h → HasRoomFor h items
set_room g h items n set place t = held_room h place n (set place ∙ ap (λ b. cond b (Some n) (holder g place)) t)

-- the items of a task are those that its parent retains
pub items_kept : (first : Cells) (root_line : ℕ) (D : List Departure) (rows : Rows) → Legal first (events_of D) → ((t : Name) → task rows t ≡ task_of root_line D t)
    → (n : ℕ) (p : Name) → items_in rows (n ∷ p) ≡ items_of (n ∷ p) (events_of D)
items_kept first root_line D rows legal tasks n p =
    ap (λ o. items_at (children_in o) n) (tasks p) ∙ at (is_spawned (events_of D) p) refl ∙ sym (items_spawned_at first (events_of D) n p legal)
  where
    none : (k : ℕ) → items_at [] k ≡ []
    none zero = refl
    none (suc k) = refl

    at : (b : Bool) → is_spawned (events_of D) p ≡ b → items_at (children_in (cond b (Some (known_task root_line D p)) None)) n ≡ nth_items n (own p (events_of D))
    at true e = items_spawned (own p (events_of D)) n
    at false e = none n ∙ sym (ap (nth_items n) (unacted_in first (events_of D) legal p e))

falsely : (b : Bool) → (b && false) ≡ false
falsely true = refl
falsely false = refl

module _ (first : Cells) (root_line : ℕ) (D : List Departure) (t : Name) (old new : Rows) where
  abbrev H : History
  H = events_of D

  abbrev by : Action → Event
  by a = record { task = t; action = a }

  -- who isn't named by what happens holds what it held
  stays_more : (a : Action) → Legal first (by a ∷ H) → ((p : Name) (h : Holders) → holders_of old p ≡ Some h → AreHolders H p h)
      → (p : Name) → holders_of new p ≡ holders_of old p → ((n : ℕ) → starts (n ∷ p) (by a) ≡ false) → ((n : ℕ) → ends (n ∷ p) (by a) ≡ false)
      → (h : Holders) → holders_of new p ≡ Some h → AreHolders (by a ∷ H) p h
  stays_more a legal kept p same s e h g = (law.other first H (by a) p h legal s e).0 (kept p h (sym same ∙ g))

  stays_less : (a : Action) → Legal first (by a ∷ H) → ((p : Name) (h : Holders) → holders_of old p ≡ Some h → AreHolders (by a ∷ H) p h)
      → (p : Name) → holders_of new p ≡ holders_of old p → ((n : ℕ) → starts (n ∷ p) (by a) ≡ false) → ((n : ℕ) → ends (n ∷ p) (by a) ≡ false)
      → (h : Holders) → holders_of new p ≡ Some h → AreHolders H p h
  stays_less a legal kept p same s e h g = (law.other first H (by a) p h legal s e).1 (kept p h (sym same ∙ g))

  -- t is no child of p, so nothing that it does is a start or an end of one
  not_of : (p : Name) → is_child p t ≡ false → (n : ℕ) → same_name t (n ∷ p) ≡ false
  not_of p c n = at (same_name t (n ∷ p)) refl
    where
      at : (b : Bool) → same_name t (n ∷ p) ≡ b → b ≡ false
      at false e = refl
      at true e = absurd (false≢true (sym c ∙ ap (is_child p) (same_true t (n ∷ p) e) ∙ same_refl p))

  quietly : (p : Name) (b : Bool) → is_child p t ≡ false → (n : ℕ) → (same_name t (n ∷ p) && b) ≡ false
  quietly p b c n = ap (λ x. x && b) (not_of p c n)

  -- what is known of one holder, by what it came from
  became : (o : Option Holders) (P : Holders → Type 0) (Q : Type 0) → ((g : Holders) → o ≡ Some g → P g → Q) → Become o P → Q
  became None P Q f b = absurd b
  became (Some g) P Q f b = f g refl b

  module _ (a : Action) (to : Option ℕ) (H' : History) (items : (n : ℕ) (p : Name) → t ≡ n ∷ p → items_in old t ≡ items_of (n ∷ p) H) where
    -- the children of the parent of t, and others
    pub one_parent : (P : Name → Holders → Type 0)
        → ((p : Name) → is_child p t ≡ false → (h : Holders) → holders_of new p ≡ Some h → P p h)
        → ((n : ℕ) (p : Name) → t ≡ n ∷ p → (g h : Holders) → holders_of old p ≡ Some g → IsSet g (items_of (n ∷ p) H) to h → KeepsRoom g h → P p h)
        → Holds old t to new → (p : Name) (h : Holders) → holders_of new p ≡ Some h → P p h
    one_parent P others mine holds p h e = at (is_child p t) refl
      where
        named : (t : Name) → is_child p t ≡ true → (n : ℕ) × (t ≡ n ∷ p)
        named [] c = absurd (false≢true c)
        named (n ∷ q) c = (n, ap (λ (x : Name). n ∷ x) (same_true q p c))

        at : (b : Bool) → is_child p t ≡ b → P p h
        at false c = others p c h e
        at true c =
            let name = named t c in
            became (holders_of old p) _ (P p h)
            (λ g o k. mine name.0 p name.1 g h o (subst (λ is. IsSet g is to h) (items name.0 p name.1) k.0) k.1)
            (holds.parent p h c e)

  module _ (legal_front : Legal first H) (tasks : (u : Name) → task old u ≡ task_of root_line D u) where
    items_here : (n : ℕ) (p : Name) → t ≡ n ∷ p → items_in old t ≡ items_of (n ∷ p) H
    items_here n p e = ap (items_in old) e ∙ items_kept first root_line D old legal_front tasks n p

    -- t starts: among the children of its parent it holds what its items take
    start_more : Legal first (by Start ∷ H) → ((p : Name) (h : Holders) → holders_of old p ≡ Some h → AreHolders H p h) → Holds old t (number_of t) new
        → (p : Name) (h : Holders) → holders_of new p ≡ Some h → AreHolders (by Start ∷ H) p h
    start_more legal kept holds =
        one_parent Start (number_of t) H items_here (AreHolders (by Start ∷ H))
        (λ p c. stays_more Start legal kept p (holds.others p c) (quietly p true c) (quietly p false c))
        (λ n p e g h o set keeps.
        let set' : IsSet g (items_of (n ∷ p) H) (Some n) h = subst (λ x. IsSet g (items_of (n ∷ p) H) (number_of x) h) e set in
        law.start first H (by Start) p n g h legal (and_from (same_name t (n ∷ p)) true (ap (same_name t) (sym e) ∙ same_refl t) refl) (kept p g o) set' (set_room g h (items_of (n ∷ p) H) n set') keeps)
        holds

    end_more : (a : Action) → is_start a ≡ false → is_end a ≡ true → Legal first (by a ∷ H) → ((p : Name) (h : Holders) → holders_of old p ≡ Some h → AreHolders H p h) → Holds old t None new
        → (p : Name) (h : Holders) → holders_of new p ≡ Some h → AreHolders (by a ∷ H) p h
    end_more a unstarted over legal kept holds =
        one_parent a None H items_here (AreHolders (by a ∷ H))
        (λ p c. stays_more a legal kept p (holds.others p c) (quietly p (is_start a) c) (quietly p (is_end a) c))
        (λ n p e g h o set keeps. law.end first H (by a) p n g h legal (and_from (same_name t (n ∷ p)) (is_end a) (ap (same_name t) (sym e) ∙ same_refl t) over) (kept p g o) set keeps)
        holds

  -- among the children of a task that comes nothing is held
  spawn_more : (s : TheSpawn) → Legal first (by (Spawn s) ∷ H)
      → ((p : Name) (h : Holders) → holders_of old p ≡ Some h → AreHolders H p h) → Founds old s.child new
      → (p : Name) (h : Holders) → holders_of new p ≡ Some h → AreHolders (by (Spawn s) ∷ H) p h
  spawn_more s legal kept founds p h e = at (same_name s.child p) refl
    where
      v : Event
      v = by (Spawn s)

      new_name : (own_other_task : same_name t s.child ≡ false) → own s.child (v ∷ H) ≡ []
      new_name o = own_other s.child v H o ∙ unacted_in first H legal.0 s.child (absent (is_spawned H s.child) refl)
        where
          absent : (b : Bool) → is_spawned H s.child ≡ b → b ≡ false
          absent false q = refl
          absent true q = absurd (false≢true (sym (not_again first H legal.0 v legal.1 s.child q) ∙ same_refl s.child))

      other : same_name t s.child ≡ false
      other = ap (same_name t) (spawn_names first t s.child (own t H) (Spawn s) legal.1.own (same_refl s.child)) ∙ not_child t (suc (spawn_count (own t H)))

      unstarted : (n : ℕ) → list_any (starts (n ∷ s.child)) (v ∷ H) ≡ false
      unstarted n = at (list_any (starts (n ∷ s.child)) (v ∷ H)) refl
        where
          at : (b : Bool) → list_any (starts (n ∷ s.child)) (v ∷ H) ≡ b → b ≡ false
          at false q = refl
          at true q = absurd (not_started (n ∷ s.child) (v ∷ H) (starts (n ∷ s.child)) (λ w k. (and_parts (is_of (n ∷ s.child) w) (is_start w.action) k).0) (no_acts (own (n ∷ s.child) (v ∷ H)) refl) q)
            where
              no_acts : (acts : List Action) → own (n ∷ s.child) (v ∷ H) ≡ acts → own (n ∷ s.child) (v ∷ H) ≡ []
              no_acts [] z = z
              no_acts (a ∷ acts) z =
                  let there = acted_spawned first (v ∷ H) (n ∷ s.child) legal (λ w. cons a acts (sym z ∙ w)) in
                  let bound = (children_numbered first (v ∷ H) s.child n legal).0 there in
                  absurd (omega (arith, bound.0, bound.1, ap spawn_count (new_name other)))
                where
                  cons : (a : Action) (acts : List Action) → a ∷ acts ≡ [] → ⊥
                  cons a acts w = cc

      at : (b : Bool) → same_name s.child p ≡ b → AreHolders (v ∷ H) p h
      at true q =
          let same = same_true s.child p q in
          let here = ap (λ x. holders_of new x) same ∙ e in
          subst (λ x. AreHolders (v ∷ H) x h) same (law.first (v ∷ H) s.child h (founds.parent h here) (λ place. founds.free h place here) unstarted)
      at false q = stays_more (Spawn s) legal kept p (founds.others p q) (λ n. falsely (same_name t (n ∷ p))) (λ n. falsely (same_name t (n ∷ p))) h e

  quiet_more : (a : Action) → is_start a ≡ false → is_end a ≡ false → Legal first (by a ∷ H) → ((p : Name) (h : Holders) → holders_of old p ≡ Some h → AreHolders H p h)
      → ((p : Name) → holders_of new p ≡ holders_of old p) → (p : Name) (h : Holders) → holders_of new p ≡ Some h → AreHolders (by a ∷ H) p h
  quiet_more a s e legal kept same p =
      stays_more a legal kept p (same p) (λ n. ap (λ b. same_name t (n ∷ p) && b) s ∙ falsely (same_name t (n ∷ p))) (λ n. ap (λ b. same_name t (n ∷ p) && b) e ∙ falsely (same_name t (n ∷ p)))

  pub holders_more : (a : Action) → Legal first (by a ∷ H) → ((u : Name) → task old u ≡ task_of root_line D u) → ((p : Name) (h : Holders) → holders_of old p ≡ Some h → AreHolders H p h)
      → HoldersFor t a old new → (p : Name) (h : Holders) → holders_of new p ≡ Some h → AreHolders (by a ∷ H) p h
  holders_more Start legal tasks kept k = start_more legal.0 tasks legal kept k
  holders_more End legal tasks kept k = end_more legal.0 tasks End refl refl legal kept k
  holders_more Fault legal tasks kept k = end_more legal.0 tasks Fault refl refl legal kept k
  holders_more (Spawn s) legal tasks kept k = spawn_more s legal kept k
  holders_more (Let r x) legal tasks kept k = quiet_more (Let r x) refl refl legal kept k
  holders_more (Load r c x) legal tasks kept k = quiet_more (Load r c x) refl refl legal kept k
  holders_more (Store c x) legal tasks kept k = quiet_more (Store c x) refl refl legal kept k
  holders_more (Print x) legal tasks kept k = quiet_more (Print x) refl refl legal kept k
  holders_more (Wait items) legal tasks kept k = quiet_more (Wait items) refl refl legal kept k
  holders_more Open legal tasks kept k = quiet_more Open refl refl legal kept k
  holders_more Close legal tasks kept k = quiet_more Close refl refl legal kept k
  holders_more (Test b) legal tasks kept k = quiet_more (Test b) refl refl legal kept k

  -- ---- and back: the tasks are those after the step

  module _ (to : ℕ) (a : Action) (legal : Legal first (by a ∷ H)) (tasks : (u : Name) → task old u ≡ task_of root_line (record { event = by a; to = to } ∷ D) u)
      (kept : (p : Name) (h : Holders) → holders_of old p ≡ Some h → AreHolders (by a ∷ H) p h) where
    items_there : (n : ℕ) (p : Name) → items_of (n ∷ p) (by a ∷ H) ≡ items_of (n ∷ p) H → t ≡ n ∷ p → items_in old t ≡ items_of (n ∷ p) H
    items_there n p i e = ap (items_in old) e ∙ items_kept first root_line (record { event = by a; to = to } ∷ D) old legal tasks n p ∙ i

    start_less : a ≡ Start → Holds old t None new → (p : Name) (h : Holders) → holders_of new p ≡ Some h → AreHolders H p h
    start_less q holds =
        one_parent a None H (λ n p. items_there n p (ap (λ x. items_of (n ∷ p) (by x ∷ H)) q)) (AreHolders H)
        (λ p c. stays_less a legal kept p (holds.others p c) (quietly p (is_start a) c) (quietly p (is_end a) c))
        (λ n p e g h o set keeps. law.start_back first H (by a) p n g h legal (and_from (same_name t (n ∷ p)) (is_start a) (ap (same_name t) (sym e) ∙ same_refl t) (ap is_start q)) (kept p g o) set keeps)
        holds

    end_less : is_end a ≡ true → ((n : ℕ) (p : Name) → items_of (n ∷ p) (by a ∷ H) ≡ items_of (n ∷ p) H) → Holds old t (number_of t) new → (p : Name) (h : Holders) → holders_of new p ≡ Some h → AreHolders H p h
    end_less q same holds =
        one_parent a (number_of t) H (λ n p. items_there n p (same n p)) (AreHolders H)
        (λ p c. stays_less a legal kept p (holds.others p c) (quietly p (is_start a) c) (quietly p (is_end a) c))
        (λ n p e g h o set keeps.
        law.end_back first H (by a) p n g h legal (and_from (same_name t (n ∷ p)) (is_end a) (ap (same_name t) (sym e) ∙ same_refl t) q) (kept p g o)
        (subst (λ x. IsSet g (items_of (n ∷ p) H) (number_of x) h) e set) keeps)
        holds

    spawn_less : (u : Name) → is_start a ≡ false → is_end a ≡ false → ((p : Name) → holders_of new p ≡ cond (same_name u p) None (holders_of old p)) → (p : Name) (h : Holders) → holders_of new p ≡ Some h → AreHolders H p h
    spawn_less u s e goes p h g = at (same_name u p) refl
      where
        none : {A : Type 0} (x : A) → ◌≡◌ {A = Option A} None (Some x) → ⊥
        none x z = cc

        at : (b : Bool) → same_name u p ≡ b → AreHolders H p h
        at true q = absurd (none h (sym (goes p ∙ ap (λ b. cond b None (holders_of old p)) q) ∙ g))
        at false q =
            stays_less a legal kept p (goes p ∙ ap (λ b. cond b None (holders_of old p)) q) (λ n. ap (λ b. same_name t (n ∷ p) && b) s ∙ falsely (same_name t (n ∷ p)))
            (λ n. ap (λ b. same_name t (n ∷ p) && b) e ∙ falsely (same_name t (n ∷ p))) h g

    quiet_less : is_start a ≡ false → is_end a ≡ false → ((p : Name) → holders_of new p ≡ holders_of old p) → (p : Name) (h : Holders) → holders_of new p ≡ Some h → AreHolders H p h
    quiet_less s e same p =
        stays_less a legal kept p (same p) (λ n. ap (λ b. same_name t (n ∷ p) && b) s ∙ falsely (same_name t (n ∷ p)))
        (λ n. ap (λ b. same_name t (n ∷ p) && b) e ∙ falsely (same_name t (n ∷ p)))

  pub holders_less : (to : ℕ) (a : Action) → Legal first (by a ∷ H) → ((u : Name) → task old u ≡ task_of root_line (record { event = by a; to = to } ∷ D) u)
      → ((p : Name) (h : Holders) → holders_of old p ≡ Some h → AreHolders (by a ∷ H) p h)
      → HoldersBack t a old new → (p : Name) (h : Holders) → holders_of new p ≡ Some h → AreHolders H p h
  holders_less to Start legal tasks kept k = start_less to Start legal tasks kept refl k
  holders_less to End legal tasks kept k = end_less to End legal tasks kept refl (λ n p. refl) k
  holders_less to Fault legal tasks kept k = end_less to Fault legal tasks kept refl (λ n p. refl) k
  holders_less to (Spawn s) legal tasks kept k = spawn_less to (Spawn s) legal tasks kept s.child refl refl k
  holders_less to (Let r x) legal tasks kept k = quiet_less to (Let r x) legal tasks kept refl refl k
  holders_less to (Load r c x) legal tasks kept k = quiet_less to (Load r c x) legal tasks kept refl refl k
  holders_less to (Store c x) legal tasks kept k = quiet_less to (Store c x) legal tasks kept refl refl k
  holders_less to (Print x) legal tasks kept k = quiet_less to (Print x) legal tasks kept refl refl k
  holders_less to (Wait items) legal tasks kept k = quiet_less to (Wait items) legal tasks kept refl refl k
  holders_less to Open legal tasks kept k = quiet_less to Open legal tasks kept refl refl k
  holders_less to Close legal tasks kept k = quiet_less to Close legal tasks kept refl refl k
  holders_less to (Test b) legal tasks kept k = quiet_less to (Test b) legal tasks kept refl refl k
