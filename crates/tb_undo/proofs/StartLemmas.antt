-- What the tables of a history say of one task: its own part, and what blocks its start.
use Rattle.std.proofs.Common.{◌≡◌, ◌<◌, ◌≤◌, ◌&&◌, ℕ, List, [], ◌∷◌, true, false, cond, not, Option, Some, None, option_map, drop, length, slice_get, is_some, IsTrue, refl, sym, ap, ◌∙◌, subst, arith}
use Rattle.std.specs.List.{list_any}
use Rattle.std.proofs.lemmas.Bool.{and_parts, false≢true}
use Rattle.tb_model.specs.declared.action.Action.{Action}
use Rattle.tb_model.specs.declared.action.Action.TheVariants.{Start}
use Rattle.tb_model.specs.Names.{Name, child}
use Rattle.tb_model.specs.Facts.{History, own, is_spawned, IsSpawned, before, apart, starts, ends}
use Rattle.tb_model.specs.State.{is_unended}
use Rattle.tb_model.specs.Legal.{Cells, Legal, spawn_count}
use Rattle.tb_model.specs.Lines.{Departure, events_of}
use Rattle.tb_model.specs.Hindrances.{IsLeast, IsFree, is_waited_for, is_excluding, in_the_way, Waiting, Excluded}
use Rattle.tb_model.proofs.FactsLemmas.{acted_spawned}
use Rattle.tb_model.proofs.HindranceLemmas.{nothing_in_the_way}
use Rattle.tb_model.proofs.StateLemmas.{children_numbered}
use Rattle.tb_depend.specs.Relations.{items_at, depends}
use Rattle.tb_depend.specs.Nearness.{IsClosed}
use Rattle.tb_excl.specs.Holders.{IsLeastNumber, Excludes}
use Rattle.tb_undo.specs.declared.row.Row.{Row}
use Rattle.tb_undo.specs.Tasks.{Task, row, seen_row}
use Rattle.tb_undo.specs.State.{Seen, IsTaskState, known_task}
use Rattle.tb_undo.specs.Obstacles.{IsUnendedWhere, is_child_over, IsKnown, sibling}
use Rattle.tb_undo.proofs.OverLemmas.{over_closed}
use Rattle.tb_undo.proofs.ObstacleLemmas.{waited_least, under_way, none_excluding, excluding_least}
use Rattle.tb_undo.proofs.ReasonLemmas.{waits, starts_when}

pub headed : (t : Name) (n : ℕ) → slice_get t 0 ≡ Some n → t ≡ n ∷ drop 1 t
headed [] n e = cc
headed (m ∷ t) n e = let same : m ≡ n = cc in ap (λ k. k ∷ t) same

pub unheaded : (t : Name) → slice_get t 0 ≡ None → t ≡ []
unheaded [] e = refl
unheaded (m ∷ t) e = cc

module _ (first : Cells) (root_line : ℕ) (D : List Departure) (s : Seen) (legal : Legal first (events_of D)) (state : IsTaskState root_line D s) where
  abbrev H : History
  H = events_of D

  -- the task's own part is stored
  pub known : (t : Name) (r : Row) → IsSpawned H t → row s.rows t ≡ Some r → seen_row r ≡ known_task root_line D t
  known t r spawned e =
      let is : Some (seen_row r) ≡ Some (known_task root_line D t) =
      sym (ap (option_map seen_row) e) ∙ state.tasks t ∙ ap (λ b. cond b (Some (known_task root_line D t)) None) spawned
      in cc

  pub kept : (t : Name) → IsSpawned H t → row s.rows t ≡ None → ⊥
  kept t spawned e =
      let clash : None ≡ Some (known_task root_line D t) =
      sym (ap (option_map seen_row) e) ∙ state.tasks t ∙ ap (λ b. cond b (Some (known_task root_line D t)) None) spawned
      in cc

  pub is_known : (t : Name) (r : Row) → IsSpawned H t → row s.rows t ≡ Some r → IsKnown (own t H) (seen_row r)
  is_known t r spawned e =
      let k = known t r spawned e in
      record { steps = ap (λ k. k.steps) k; undeferred = ap (λ k. k.undeferred) k; children = ap (λ k. k.children) k }

  pub was_spawned : (t : Name) → is_unended H t ≡ true → IsSpawned H t
  was_spawned t u = (and_parts (is_spawned H t) (not (list_any (ends t) H)) u).0

  pub parent_spawned : (n : ℕ) (p : Name) → IsSpawned H (n ∷ p) → IsSpawned H p
  parent_spawned n p h =
      let at = (children_numbered first H p n legal).0 h in
      acted_spawned first H p legal (λ e. let none : spawn_count (own p H) ≡ 0 = ap spawn_count e in absurd (omega (arith, at.0, at.1, none)))

  pub named : (t : Name) (n : ℕ) (r : Row) → IsSpawned H t → row s.rows t ≡ Some r → slice_get t 0 ≡ Some n → t ≡ n ∷ r.parent
  named t n r spawned e h = headed t n h ∙ ap (λ p. n ∷ p) (sym (ap (λ (k : Task). k.parent) (known t r spawned e)))

  -- the parent of a generated task is there
  pub parent_kept : (t : Name) (n : ℕ) (r : Row) → is_unended H t ≡ true → row s.rows t ≡ Some r → slice_get t 0 ≡ Some n → row s.rows r.parent ≡ None → ⊥
  parent_kept t n r unended mine number none =
      let spawned = was_spawned t unended in
      kept r.parent (parent_spawned n r.parent (subst (IsSpawned H) (named t n r spawned mine number) spawned)) none

  -- the root waits for nobody
  pub root_starts : (t : Name) → slice_get t 0 ≡ None → IsFree H t → in_the_way H t Start ≡ None
  root_starts t e free =
      starts_when H t free None
      (record { found = λ u k. cc; least = λ u h. absurd (false≢true (sym (ap (λ b. b && not (list_any (ends u) H)) (unordered u)) ∙ h)) })
      (record {
        found = λ u k. cc;
        least = λ u h. absurd (false≢true (sym (ap (λ b. b && (list_any (starts u) H && not (list_any (ends u) H))) (together u)) ∙ h));
      })
    where
      unordered : (u : Name) → before H u t ≡ false
      unordered u = subst (λ w. before H u w ≡ false) (sym (unheaded t e)) (at u)
        where
          at : (u : Name) → before H u [] ≡ false
          at [] = refl
          at (m ∷ u) = refl

      together : (u : Name) → apart H u t ≡ false
      together u = subst (λ w. apart H u w ≡ false) (sym (unheaded t e)) (at u)
        where
          at : (u : Name) → apart H u [] ≡ false
          at [] = refl
          at (m ∷ u) = refl

  module _ (t : Name) (n : ℕ) (r q : Row) (unended : is_unended H t ≡ true) (mine : row s.rows t ≡ Some r) (number : slice_get t 0 ≡ Some n) (found : row s.rows r.parent ≡ Some q) where
    abbrev p : Name
    p = r.parent

    name : t ≡ n ∷ p
    name = named t n r (was_spawned t unended) mine number

    abbrev Earlier : Option ℕ → Type 0
    Earlier o = IsLeastNumber (IsUnendedWhere s.waits.tasks p (depends q.children.siblings n)) o

    here : is_unended H (n ∷ p) ≡ true
    here = subst (λ u. is_unended H u ≡ true) name unended

    parent_known : IsKnown (own p H) (seen_row q)
    parent_known = is_known p q (parent_spawned n p (was_spawned (n ∷ p) here)) found

    -- with each sibling that is over, all are on which it depends
    pub siblings_closed : IsClosed q.children.siblings (is_child_over s.waits.tasks p)
    siblings_closed = subst (λ rows. IsClosed rows (is_child_over s.waits.tasks p)) (sym parent_known.children) (over_closed first H s.waits.tasks p legal state.waiting)

    earlier : (o : Option ℕ) → Earlier o → IsLeast (is_waited_for H t) (option_map (child p) o)
    earlier o l =
        subst (λ u. IsLeast (is_waited_for H u) (option_map (child p) o)) (sym name)
        (waited_least first H s.waits.tasks p legal state.waiting n q.children.siblings o parent_known.children l)

    steps : r.steps ≡ length (own t H)
    steps = (is_known t r (was_spawned t unended) mine).steps

    -- the ordinal of a sibling names it
    sibling_name : (m : ℕ) → m ∷ p ≡ sibling t m
    sibling_name m = ap (λ u. sibling u m) (sym name)

    none_earlier : (o : Option ℕ) → o ≡ None → Earlier o → IsLeast (is_waited_for H t) None
    none_earlier o e l = subst (λ o. IsLeast (is_waited_for H t) (option_map (child p) o)) e (earlier o l)

    not_begun : r.steps ≤ 0 → own (n ∷ p) H ≡ []
    not_begun few = at (own (n ∷ p) H) (sym (ap (λ u. length (own u H)) name) ∙ sym steps)
      where
        at : (acts : List Action) → length acts ≡ r.steps → acts ≡ []
        at [] e = refl
        at (a ∷ acts) e = absurd (omega (arith, e, few))

    excluding : (b : Option ℕ) → r.steps ≤ 0 → IsLeastNumber (Excludes q.holders (items_at q.children.siblings n)) b → IsLeast (is_excluding H t) (option_map (child p) b)
    excluding b few l =
        subst (λ u. IsLeast (is_excluding H u) (option_map (child p) b)) (sym name)
        (excluding_least first H p n legal here q.holders q.children.siblings b (not_begun few) (state.holders p q.holders (ap (option_map (λ (r : Row). r.holders)) found)) parent_known.children l)

    -- who is excluded is held back, also where something else is in the way first
    pub keeps_excluded : (b : Option ℕ) → IsTrue (is_some b) → r.steps ≡ 0 → IsLeastNumber (Excludes q.holders (items_at q.children.siblings n)) b → in_the_way H t Start ≡ None → ⊥
    keeps_excluded None some e x none = absurd (false≢true some)
    keeps_excluded (Some m) some e x none =
        let few : r.steps ≤ 0 = omega (arith, e) in
        let excludes = subst (λ u. is_excluding H u (m ∷ p) ≡ true) name ((excluding (Some m) few x).found (m ∷ p) refl) in
        let u = under_way first H p n legal here (m ∷ p) excludes in
        let follows = (nothing_in_the_way first H (n ∷ p) Start (was_spawned (n ∷ p) here) (not_begun few) refl).0 (subst (λ u. in_the_way H u Start ≡ None) name none) in
        u.2 (follows.timely.alone (m ∷ p) u.0 u.1)

    module _ (free : IsFree H t) where
      pub tells_waiting : (o : Option ℕ) (m : ℕ) → o ≡ Some m → Earlier o → in_the_way H t Start ≡ Some (Waiting (sibling t m))
      tells_waiting o m e l =
          waits H t free (m ∷ p) (subst (λ o. IsLeast (is_waited_for H t) (option_map (child p) o)) e (earlier o l)) ∙ ap (λ u. Some (Waiting u)) (sibling_name m)

      pub tells_started : (o : Option ℕ) → o ≡ None → Earlier o → 0 < r.steps → in_the_way H t Start ≡ None
      tells_started o e l some =
          starts_when H t free None (none_earlier o e l)
          (subst (λ u. IsLeast (is_excluding H u) None) (sym name)
          (none_excluding first H p n legal here (λ k. let none = steps ∙ ap (λ u. length (own u H)) name ∙ ap length k in absurd (omega (arith, none, some)))))

      pub tells_excluded : (o : Option ℕ) → o ≡ None → Earlier o → r.steps ≤ 0 → (b : Option ℕ) (m : ℕ) → b ≡ Some m → IsLeastNumber (Excludes q.holders (items_at q.children.siblings n)) b
          → in_the_way H t Start ≡ Some (Excluded (sibling t m))
      tells_excluded o e l few b m k x =
          starts_when H t free (Some (m ∷ p)) (none_earlier o e l) (subst (λ b. IsLeast (is_excluding H t) (option_map (child p) b)) k (excluding b few x))
          ∙ ap (λ u. Some (Excluded u)) (sibling_name m)

      pub tells_free : (o : Option ℕ) → o ≡ None → Earlier o → r.steps ≤ 0 → (b : Option ℕ) → b ≡ None → IsLeastNumber (Excludes q.holders (items_at q.children.siblings n)) b → in_the_way H t Start ≡ None
      tells_free o e l few b k x =
          starts_when H t free None (none_earlier o e l) (subst (λ b. IsLeast (is_excluding H t) (option_map (child p) b)) k (excluding b few x))
