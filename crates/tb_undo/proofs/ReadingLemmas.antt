-- What is read off the tables of a history is as the history says.
use Rattle.std.proofs.Common.{◌≡◌, Option, ◌&&◌, ◌||◌, ℕ, List, [], ◌∷◌, Bool, true, false, cond, Some, None, option_map, unwrap_or, reverse, drop, length, slice_get, refl, sym, ap, ap₂, ◌∙◌, subst}
use Rattle.std.specs.List.{list_any}
use Rattle.std.proofs.lemmas.Bool.{false_from_ne_true, false≢true}
use Rattle.std.proofs.lemmas.List.{length-map, length-reverse}
use Rattle.tb_model.specs.declared.item.Item.{Item}
use Rattle.tb_model.specs.declared.action.Action.{Action}
use Rattle.tb_model.specs.Names.{Name, child, is_elder}
use Rattle.tb_model.specs.Items.{some_meet, is_before, is_apart}
use Rattle.tb_model.specs.Facts.{History, own, ends, is_spawned, IsSpawned, spawns, items_of, before, apart, groups}
use Rattle.tb_model.specs.State.{called_by, children_since, open_groups, spawn_of}
use Rattle.tb_model.specs.Legal.{Cells, Legal, spawn_count}
use Rattle.tb_model.specs.Lines.{Departure, events_of}
use Rattle.tb_model.proofs.FactsLemmas.{acted_spawned, not_started, ends_own, spawn_names}
use Rattle.tb_model.proofs.GroupsLemmas.{groups_since}
use Rattle.tb_model.proofs.SiblingsLemmas.{before_at, apart_at, items_at, meets_none, no_items}
use Rattle.tb_depend.specs.Relations as siblings
use Rattle.tb_depend.specs.Relations.{depends, excludes, spawned_items}
use Rattle.tb_depend.proofs.RelationsLemmas.{depends_spawned, excludes_spawned, items_spawned}
use Rattle.tb_model.specs.LeastNames.{IsLeastName}
use Rattle.tb_ready.specs.Tasks.{IsMarkedBehind}
use Rattle.tb_ready.specs.Histories.{AreMarks}
use Rattle.tb_ready.proofs.HistoryLemmas.{marked_unended}
use Rattle.tb_wait.specs.Kin.{Kin, Tasks as Waits, kin, IsNextUnended}
use Rattle.tb_wait.specs.Rows.{groups_of}
use Rattle.tb_wait.specs.Histories.{kin_from, AreKin}
use Rattle.tb_wait.proofs.HistoryLemmas.{counted, depth, over_from}
use Rattle.tb_wait.proofs.UnendedLemmas.{unended_child}
use Rattle.tb_undo.specs.declared.row.Row.{Row}
use Rattle.tb_undo.specs.Tasks.{Task, row, seen_row}
use Rattle.tb_undo.specs.State.{Seen, IsTaskState, known_task, task_of}
use Rattle.tb_undo.specs.Obstacles.{sibling}
use Rattle.tb_undo.specs.Readings.{IsNthOf, IsNextChild, IsUnendedBehind}
use Rattle.tb_undo.proofs.ObstacleLemmas.{least_name_by}
use Rattle.tb_undo.proofs.StartLemmas.{kept, is_known, parent_spawned, named, headed, unheaded}

-- ---- one task

-- the line of its body
pub body_told : (root_line : ℕ) (D : List Departure) (t : Name) → option_map (λ (k : Task). k.body) (task_of root_line D t) ≡ cond (is_spawned (events_of D) t) (Some (called_by root_line (spawn_of t (events_of D))).line) None
body_told root_line D t = at (is_spawned (events_of D) t)
  where
    at : (b : Bool) → option_map (λ (k : Task). k.body) (cond b (Some (known_task root_line D t)) None) ≡ cond b (Some (called_by root_line (spawn_of t (events_of D))).line) None
    at true = refl
    at false = refl

-- who wasn't generated has done nothing
unacted : (cells : Cells) (H : History) (t : Name) → Legal cells H → is_spawned H t ≡ false → own t H ≡ []
unacted cells H t l s = at (own t H) refl
  where
    cons : (a : Action) (acts : List Action) → a ∷ acts ≡ [] → ⊥
    cons a acts e = cc

    at : (acts : List Action) → own t H ≡ acts → acts ≡ []
    at [] e = refl
    at (a ∷ acts) e = absurd (false≢true (sym s ∙ acted_spawned cells H t l (λ z. cons a acts (sym e ∙ z))))

module _ (H : History) (tasks : Waits) (t : Name) (are : AreKin H tasks) where
  told : (b : Bool) → is_spawned H t ≡ b → kin tasks t ≡ cond b (Some (kin_from (own t H))) None
  told b e = are t ∙ ap (λ b. cond b (Some (kin_from (own t H))) None) e

  pub children_told : option_map (λ (k : Kin). k.children) (kin tasks t) ≡ cond (is_spawned H t) (Some (spawn_count (own t H))) None
  children_told = at (is_spawned H t) refl
    where
      at : (b : Bool) → is_spawned H t ≡ b → option_map (λ (k : Kin). k.children) (kin tasks t) ≡ cond b (Some (spawn_count (own t H))) None
      at true e = ap (option_map (λ (k : Kin). k.children)) (told true e) ∙ ap Some (counted (own t H))
      at false e = ap (option_map (λ (k : Kin). k.children)) (told false e)

  module _ (cells : Cells) (legal : Legal cells H) where
    pub groups_told : length (reverse (groups_of (kin tasks t))) ≡ length (open_groups (own t H))
    groups_told = length-reverse (groups_of (kin tasks t)) ∙ at (is_spawned H t) refl
      where
        since : (acts : List Action) → length (groups acts) ≡ length (open_groups acts)
        since acts = ap length (groups_since acts) ∙ length-map (open_groups acts) (λ k. children_since k acts)

        at : (b : Bool) → is_spawned H t ≡ b → length (groups_of (kin tasks t)) ≡ length (open_groups (own t H))
        at true e = ap (λ o. length (groups_of o)) (told true e) ∙ depth (own t H) ∙ since (own t H)
        at false e = ap (λ o. length (groups_of o)) (told false e) ∙ sym (ap (λ acts. length (open_groups acts)) (unacted cells H t legal e))

    pub ended_told : unwrap_or (option_map (λ (k : Kin). k.over) (kin tasks t)) false ≡ list_any (ends t) H
    ended_told = at (is_spawned H t) refl
      where
        at : (b : Bool) → is_spawned H t ≡ b → unwrap_or (option_map (λ (k : Kin). k.over) (kin tasks t)) false ≡ list_any (ends t) H
        at true e = ap (λ o. unwrap_or (option_map (λ (k : Kin). k.over) o) false) (told true e) ∙ over_from H t
        at false e =
            ap (λ o. unwrap_or (option_map (λ (k : Kin). k.over) o) false) (told false e)
            ∙ sym (false_from_ne_true (list_any (ends t) H) (λ h. not_started t H (ends t) (ends_own t) (unacted cells H t legal e) h))

-- ---- the unended tasks in order

-- the next marked name is the next unended task
pub next_told : (H : History) (tasks : List (Name × Bool)) (after o : Option Name) → AreMarks H tasks → IsLeastName (IsMarkedBehind tasks after) o → IsLeastName (IsUnendedBehind H after) o
next_told H tasks after o are l =
    least_name_by (IsMarkedBehind tasks after) (IsUnendedBehind H after) o
    (λ u h. record { unended = sym (marked_unended H tasks u are) ∙ h.marked; behind = h.behind })
    (λ u h. record { marked = marked_unended H tasks u are ∙ h.unended; behind = h.behind }) l

-- the next unended child by the table is so by the history
pub next_child_told : (H : History) (tasks : Waits) (t : Name) (low : ℕ) (o : Option ℕ) → AreKin H tasks → IsNextUnended tasks t low o → IsNextChild H t low o
next_child_told H tasks t low o are next = record {
  found = λ n e. let f = next.found n e in (f.0, (unended_child H tasks t (child t n) are).0 f.1);
  least = λ n l u. next.least n l ((unended_child H tasks t (child t n) are).1 u);
}

-- ---- a task and its siblings

-- the root isn't generated by a task
root_ungenerated : (cells : Cells) (H : History) → Legal cells H → list_any (spawns []) H ≡ false
root_ungenerated cells [] l = refl
root_ungenerated cells (v ∷ H) l = ap₂ (λ b c. b || c) (false_from_ne_true (spawns [] v) named_root) (root_ungenerated cells H l.0)
  where
    named_root : spawns [] v ≡ true → ⊥
    named_root h = let e = spawn_names cells v.task [] (own v.task H) v.action l.1.own h in cc

pub no_root_items : (cells : Cells) (H : History) (t : Name) → Legal cells H → slice_get t 0 ≡ None → items_of t H ≡ []
no_root_items cells H t l e = ap (λ u. items_of u H) (unheaded t e) ∙ no_items [] H (root_ungenerated cells H l)

module _ (cells : Cells) (H : History) (t : Name) (legal : Legal cells H) where
  module _ (n : ℕ) (children : List (List Item)) (nth : IsNthOf H t n children) where
    pub items_told : siblings.items_at children n ≡ items_of t H
    items_told =
        ap (λ cs. siblings.items_at cs n) nth.named ∙ items_spawned (own (drop 1 t) H) n ∙ sym (items_at cells H n (drop 1 t) legal) ∙ sym (ap (λ u. items_of u H) nth.name)

    pub before_told : (m : ℕ) → depends children n m ≡ before H (sibling t m) t
    before_told m =
        ap (λ cs. depends cs n m) nth.named ∙ depends_spawned (own (drop 1 t) H) m n ∙ sym (before_at cells H (drop 1 t) m n legal) ∙ sym (ap (before H (sibling t m)) nth.name)

    pub apart_told : (m : ℕ) → excludes children n m ≡ apart H (sibling t m) t
    apart_told m =
        ap (λ cs. excludes cs n m) nth.named ∙ excludes_spawned (own (drop 1 t) H) m n ∙ sym (apart_at cells H (drop 1 t) m n legal) ∙ sym (ap (apart H (sibling t m)) nth.name)

  -- who has no items has nobody before it, and nobody that excludes it
  module _ (none : items_of t H ≡ []) (m : ℕ) where
    never : (b : Bool) → (b && false) ≡ false
    never true = refl
    never false = refl

    pub none_before : before H (sibling t m) t ≡ false
    none_before = ap (λ items. is_elder (sibling t m) t && some_meet is_before items (items_of (sibling t m) H)) none ∙ never (is_elder (sibling t m) t)

    pub none_apart : apart H (sibling t m) t ≡ false
    none_apart =
        let older = ap (λ items. is_elder (sibling t m) t && some_meet is_apart items (items_of (sibling t m) H)) none ∙ never (is_elder (sibling t m) t) in
        let younger = ap (λ items. is_elder t (sibling t m) && some_meet is_apart (items_of (sibling t m) H) items) none
        ∙ ap (λ b. is_elder t (sibling t m) && b) (meets_none is_apart (items_of (sibling t m) H)) ∙ never (is_elder t (sibling t m)) in
        ap₂ (λ b c. b || c) older younger

-- ---- where a task's parent is looked up

module _ (first : Cells) (root_line : ℕ) (D : List Departure) (s : Seen) (legal : Legal first (events_of D)) (state : IsTaskState root_line D s) (t : Name) where
  abbrev H : History
  H = events_of D

  -- who isn't there has no items
  pub no_row_items : (n : ℕ) → slice_get t 0 ≡ Some n → row s.rows t ≡ None → items_of t H ≡ []
  no_row_items n number none =
      let name = headed t n number in
      ap (λ u. items_of u H) name
      ∙ no_items (n ∷ drop 1 t) H (false_from_ne_true (list_any (spawns (n ∷ drop 1 t)) H) (λ h. kept first root_line D s legal state t (subst (IsSpawned H) (sym name) h) none))

  module _ (n : ℕ) (r : Row) (number : slice_get t 0 ≡ Some n) (mine : row s.rows t ≡ Some r) where
    spawned : IsSpawned H t
    spawned = at (is_spawned H t) refl
      where
        at : (b : Bool) → is_spawned H t ≡ b → b ≡ true
        at true e = refl
        at false e =
            let none : Some (seen_row r) ≡ None = sym (ap (option_map seen_row) mine) ∙ state.tasks t ∙ ap (λ b. cond b (Some (known_task root_line D t)) None) e in cc

    name : t ≡ n ∷ r.parent
    name = named first root_line D s legal state t n r spawned mine number

    pub parent_there : row s.rows r.parent ≡ None → ⊥
    parent_there none = kept first root_line D s legal state r.parent (parent_spawned first root_line D s legal state n r.parent (subst (IsSpawned H) name spawned)) none

    pub is_nth : (q : Row) → row s.rows r.parent ≡ Some q → IsNthOf H t n q.children.siblings
    is_nth q found =
        let parent = parent_spawned first root_line D s legal state n r.parent (subst (IsSpawned H) name spawned) in
        let is : r.parent ≡ drop 1 t = ap (drop 1) (sym name) in
        record { name = name ∙ ap (λ p. n ∷ p) is; named = (is_known first root_line D s legal state r.parent q parent found).children ∙ ap (λ p. spawned_items (own p H)) is }
