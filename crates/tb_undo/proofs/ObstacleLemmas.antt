-- The obstacles that are found by ordinal are the least by name.
use Rattle.std.proofs.Common.{◌≡◌, ◌≢◌, ◌&&◌, ◌||◌, ℕ, List, [], ◌∷◌, Bool, true, false, not, Option, None, option_map, refl, sym, ap, ◌∙◌, subst, IsTrue, nat_lt, ⊎_elim}
use Rattle.std.specs.List.{list_any}
use Rattle.std.proofs.lemmas.Bool.{and_parts, and_from, not-true, not_from_false, both_ways, false≢true, false_from_ne_true}
use Rattle.tb_model.specs.declared.item.Item.{Item}
use Rattle.tb_model.specs.declared.action.Action.{Action}
use Rattle.tb_model.specs.declared.action.Action.TheVariants.{End, Fault}
use Rattle.tb_model.specs.declared.event.Event.{Event}
use Rattle.tb_model.specs.Names.{Name, child, same_name, is_child, is_elder}
use Rattle.tb_model.specs.Items.{some_meet, is_before, has_no_items}
use Rattle.tb_model.specs.Facts.{History, own, is_of, is_start, is_spawned, IsSpawned, items_of, before, apart, covers, spawns, starts, ends, HasStarted, HasEnded}
use Rattle.tb_model.specs.State.{is_unended, is_unended_covered, is_unended_member, status_of, has_begun}
use Rattle.tb_model.specs.Legal.{Cells, Legal}
use Rattle.tb_model.specs.LeastNames.{IsLeastName}
use Rattle.tb_model.specs.Hindrances.{IsLeast, is_waited_for, is_excluding}
use Rattle.tb_model.proofs.TestLemmas.{same_true}
use Rattle.tb_model.proofs.FactsLemmas.{not_started}
use Rattle.tb_model.proofs.StateLemmas.{begun_started, exclusion}
use Rattle.tb_model.proofs.SiblingsLemmas.{before_at, covers_at, items_at, meets_none, no_items}
use Rattle.tb_depend.specs.Relations as siblings
use Rattle.tb_depend.specs.Relations.{depends, is_covered, spawned_items}
use Rattle.tb_depend.proofs.RelationsLemmas.{depends_spawned, covered_spawned, items_spawned}
use Rattle.tb_excl.specs.Holders.{Holders, IsLeastNumber, Excludes, ExcludesTask}
use Rattle.tb_excl.specs.Histories.{AreHolders}
use Rattle.tb_excl.proofs.SearchLemmas.{least_child}
use Rattle.tb_excl.proofs.ApartLemmas.{busy}
use Rattle.tb_wait.specs.Kin.{Tasks as Waits, IsUnendedMember}
use Rattle.tb_wait.specs.Histories.{AreKin}
use Rattle.tb_wait.proofs.UnendedLemmas.{unended_member}
use Rattle.tb_undo.specs.Obstacles.{IsUnendedWhere}
use Rattle.tb_undo.proofs.UndeferredLemmas.{in_table, in_history, numbered}

pub least_name_by : (P Q : Name → Type 0) (o : Option Name) → ((u : Name) → P u → Q u) → ((u : Name) → Q u → P u) → IsLeastName P o → IsLeastName Q o
least_name_by P Q o f g l = record { found = λ u e. f u (l.found u e); least = λ u q. l.least u (g u q) }

-- who was generated and hasn't ended is unended
pub ended_not : (H : History) (u : Name) → is_unended H u ≡ true → list_any (ends u) H ≡ false
ended_not H u h = not-true (list_any (ends u) H) (and_parts (is_spawned H u) (not (list_any (ends u) H)) h).1

pub unended_from : (H : History) (u : Name) → IsSpawned H u → list_any (ends u) H ≡ false → is_unended H u ≡ true
unended_from H u s e = and_from (is_spawned H u) (not (list_any (ends u) H)) s (not_from_false (list_any (ends u) H) e)

-- the child of t that u is
abbrev ChildOf : Name → Name → Type 0
ChildOf t u = (n : ℕ) × (u ≡ n ∷ t)

child_of : (t u : Name) → is_child t u ≡ true → ChildOf t u
child_of t [] h = absurd (false≢true h)
child_of t (n ∷ q) h = (n, ap (λ w. n ∷ w) (same_true q t h))

elder_of : (u : Name) (n : ℕ) (p : Name) → is_elder u (n ∷ p) ≡ true → ChildOf p u
elder_of [] n p h = absurd (false≢true h)
elder_of (m ∷ q) n p h = (m, ap (λ w. m ∷ w) (same_true q p (and_parts (nat_lt m n) (same_name q p) h).1))

-- ---- a `taskwait`

module _ (cells : Cells) (H : History) (tasks : Waits) (t : Name) (legal : Legal cells H) (are : AreKin H tasks) where
  abbrev children : List (List Item)
  children = spawned_items (own t H)

  module _ (items : List Item) where
    covered_forth : (n : ℕ) → IsUnendedWhere tasks t (is_covered children items) n → is_unended_covered H t items (n ∷ t) ≡ true
    covered_forth n h =
        and_from (covers H t items (n ∷ t)) (is_unended H (n ∷ t)) (covers_at cells H t items n legal ∙ sym (covered_spawned (own t H) items n) ∙ h.passes)
        (in_history cells H tasks t legal are n h.unended)

    covered_back : (n : ℕ) → is_unended_covered H t items (n ∷ t) ≡ true → IsUnendedWhere tasks t (is_covered children items) n
    covered_back n h =
        let o = and_parts (covers H t items (n ∷ t)) (is_unended H (n ∷ t)) h in
        record {
          from_one = (numbered cells H tasks t legal are n o.1).0;
          unended = in_table cells H tasks t legal are n o.1;
          passes = covered_spawned (own t H) items n ∙ sym (covers_at cells H t items n legal) ∙ o.0;
        }

    covered_child : (u : Name) → is_unended_covered H t items u ≡ true → ChildOf t u
    covered_child u h =
        let o = and_parts (covers H t items u) (is_unended H u) h in
        child_of t u (and_parts (is_child t u) (has_no_items items || some_meet is_before items (items_of u H)) o.0).0

    pub covered_least : (rows : List (List Item)) (o : Option ℕ) → rows ≡ children → IsLeastNumber (IsUnendedWhere tasks t (is_covered rows items)) o
        → IsLeast (is_unended_covered H t items) (option_map (child t) o)
    covered_least rows o e l =
        least_name_by (λ u. (n : ℕ) × (u ≡ child t n) × IsUnendedWhere tasks t (is_covered children items) n) (λ u. IsTrue (is_unended_covered H t items u)) (option_map (child t) o)
        (λ u h. subst (λ w. is_unended_covered H t items w ≡ true) (sym h.1) (covered_forth h.0 h.2))
        (λ u h. let it = covered_child u h in (it.0, it.1, covered_back it.0 (subst (λ w. is_unended_covered H t items w ≡ true) it.1 h)))
        (least_child t (IsUnendedWhere tasks t (is_covered children items)) o (subst (λ cs. IsLeastNumber (IsUnendedWhere tasks t (is_covered cs items)) o) e l))

  -- ---- a start

  module _ (n : ℕ) where
    waited_forth : (m : ℕ) → IsUnendedWhere tasks t (depends children n) m → is_waited_for H (n ∷ t) (m ∷ t) ≡ true
    waited_forth m h =
        and_from (before H (m ∷ t) (n ∷ t)) (not (list_any (ends (m ∷ t)) H)) (before_at cells H t m n legal ∙ sym (depends_spawned (own t H) m n) ∙ h.passes)
        (not_from_false (list_any (ends (m ∷ t)) H) (ended_not H (m ∷ t) (in_history cells H tasks t legal are m h.unended)))

    -- who is before another has items, so it was generated
    before_spawned : (m : ℕ) → before H (m ∷ t) (n ∷ t) ≡ true → IsSpawned H (m ∷ t)
    before_spawned m h = at (list_any (spawns (m ∷ t)) H) refl
      where
        at : (b : Bool) → list_any (spawns (m ∷ t)) H ≡ b → b ≡ true
        at true e = refl
        at false e =
            let met = (and_parts (is_elder (m ∷ t) (n ∷ t)) (some_meet is_before (items_of (n ∷ t) H) (items_of (m ∷ t) H)) h).1 in
            sym (meets_none is_before (items_of (n ∷ t) H)) ∙ ap (some_meet is_before (items_of (n ∷ t) H)) (sym (no_items (m ∷ t) H e)) ∙ met

    -- and so was who comes after another
    pub before_generated : (m : ℕ) → before H (m ∷ t) (n ∷ t) ≡ true → IsSpawned H (n ∷ t)
    before_generated m h = at (list_any (spawns (n ∷ t)) H) refl
      where
        at : (b : Bool) → list_any (spawns (n ∷ t)) H ≡ b → b ≡ true
        at true e = refl
        at false e =
            let met = (and_parts (is_elder (m ∷ t) (n ∷ t)) (some_meet is_before (items_of (n ∷ t) H) (items_of (m ∷ t) H)) h).1 in
            ap (λ items. some_meet is_before items (items_of (m ∷ t) H)) (sym (no_items (n ∷ t) H e)) ∙ met

    waited_back : (m : ℕ) → is_waited_for H (n ∷ t) (m ∷ t) ≡ true → IsUnendedWhere tasks t (depends children n) m
    waited_back m h =
        let o = and_parts (before H (m ∷ t) (n ∷ t)) (not (list_any (ends (m ∷ t)) H)) h in
        let u = unended_from H (m ∷ t) (before_spawned m o.0) (not-true (list_any (ends (m ∷ t)) H) o.1) in
        record {
          from_one = (numbered cells H tasks t legal are m u).0;
          unended = in_table cells H tasks t legal are m u;
          passes = depends_spawned (own t H) m n ∙ sym (before_at cells H t m n legal) ∙ o.0;
        }

    waited_child : (u : Name) → is_waited_for H (n ∷ t) u ≡ true → ChildOf t u
    waited_child u h =
        let o = and_parts (before H u (n ∷ t)) (not (list_any (ends u) H)) h in
        elder_of u n t (and_parts (is_elder u (n ∷ t)) (some_meet is_before (items_of (n ∷ t) H) (items_of u H)) o.0).0

    pub waited_least : (rows : List (List Item)) (o : Option ℕ) → rows ≡ children → IsLeastNumber (IsUnendedWhere tasks t (depends rows n)) o
        → IsLeast (is_waited_for H (n ∷ t)) (option_map (child t) o)
    waited_least rows o e l =
        least_name_by (λ u. (m : ℕ) × (u ≡ child t m) × IsUnendedWhere tasks t (depends children n) m) (λ u. IsTrue (is_waited_for H (n ∷ t) u)) (option_map (child t) o)
        (λ u h. subst (λ w. is_waited_for H (n ∷ t) w ≡ true) (sym h.1) (waited_forth h.0 h.2))
        (λ u h. let it = waited_child u h in (it.0, it.1, waited_back it.0 (subst (λ w. is_waited_for H (n ∷ t) w ≡ true) it.1 h)))
        (least_child t (IsUnendedWhere tasks t (depends children n)) o (subst (λ cs. IsLeastNumber (IsUnendedWhere tasks t (depends cs n)) o) e l))

  -- ---- the end of a group

  pub member_least : (o : Option Name) → IsLeastName (IsUnendedMember tasks t) o → IsLeast (is_unended_member H t) o
  member_least o l =
      least_name_by (IsUnendedMember tasks t) (λ u. IsTrue (is_unended_member H t u)) o
      (λ u. (unended_member cells H tasks t u legal are).0) (λ u. (unended_member cells H tasks t u legal are).1) l

-- ---- exclusion

module _ (cells : Cells) (H : History) (p : Name) (n : ℕ) (legal : Legal cells H) (unended : is_unended H (n ∷ p) ≡ true) where
  abbrev t : Name
  t = n ∷ p

  pub under_way : (u : Name) → is_excluding H t u ≡ true → IsTrue (apart H u t) × HasStarted H u × (HasEnded H u → ⊥)
  under_way u h =
      let o = and_parts (apart H u t) (list_any (starts u) H && not (list_any (ends u) H)) h in
      let q = and_parts (list_any (starts u) H) (not (list_any (ends u) H)) o.1 in
      (o.0, q.0, λ e. both_ways (list_any (ends u) H) (not-true (list_any (ends u) H) q.1) e)

  excluding_from : (u : Name) → IsTrue (apart H u t) × HasStarted H u × (HasEnded H u → ⊥) → is_excluding H t u ≡ true
  excluding_from u h =
      and_from (apart H u t) (list_any (starts u) H && not (list_any (ends u) H)) h.0
      (and_from (list_any (starts u) H) (not (list_any (ends u) H)) h.1 (not_from_false (list_any (ends u) H) (false_from_ne_true (list_any (ends u) H) h.2)))

  started : (acts : List Action) → acts ≢ [] → has_begun (status_of acts) ≡ true
  started [] h = absurd (h refl)
  started (End ∷ acts) h = refl
  started (Fault ∷ acts) h = refl
  started (_ ∷ acts) h = refl

  -- who has started excludes all that are apart from it
  pub none_excluding : own t H ≢ [] → IsLeast (is_excluding H t) None
  none_excluding acted = record {
    found = λ u e. cc;
    least = λ u h.
        let o = under_way u h in
        absurd (⊎_elim (λ e. both_ways (list_any (ends t) H) (ended_not H t unended) e) o.2
        (exclusion cells H t u legal o.0 (begun_started cells H t legal ∙ started (own t H) acted) o.1));
  }

  starts_own : (v : Event) → starts t v ≡ true → is_of t v ≡ true
  starts_own v h = (and_parts (is_of t v) (is_start v.action) h).0

  not_begun : own t H ≡ [] → list_any (starts t) H ≡ false
  not_begun none = false_from_ne_true (list_any (starts t) H) (λ s. not_started t H (starts t) starts_own none s)

  pub excluding_least : (h : Holders) (rows : List (List Item)) (o : Option ℕ) → own t H ≡ [] → AreHolders H p h → rows ≡ spawned_items (own p H) → IsLeastNumber (Excludes h (siblings.items_at rows n)) o
      → IsLeast (is_excluding H t) (option_map (child p) o)
  excluding_least h rows o none held e l =
      let items : siblings.items_at rows n ≡ items_of t H = ap (λ cs. siblings.items_at cs n) e ∙ items_spawned (own p H) n ∙ sym (items_at cells H n p legal) in
      let both = λ (u : Name). busy H p n h u held (not_begun none) in
      subst (λ w. IsLeast (is_excluding H t) (option_map (child w) o)) held.parent
      (least_name_by (ExcludesTask h (items_of t H)) (λ u. IsTrue (is_excluding H t u)) (option_map (child h.parent) o)
      (λ u x. excluding_from u ((both u).0 x)) (λ u x. (both u).1 (under_way u x))
      (least_child h.parent (Excludes h (items_of t H)) o (subst (λ is. IsLeastNumber (Excludes h is) o) items l)))
