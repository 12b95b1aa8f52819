-- What each search of the tables says of what blocks a task, whatever history they are of.
use Rattle.std.proofs.Common.{◌≡◌, ◌<◌, ◌≤◌, ℕ, true, List, Option, Some, None, option_map, slice_get, sym, ap, ◌∙◌, subst}
use Rattle.tb_model.specs.declared.item.Item.{Item}
use Rattle.tb_model.specs.declared.action.Action.{Action}
use Rattle.tb_model.specs.declared.action.Action.TheVariants.{Start, Wait, Close}
use Rattle.tb_model.specs.Names.{Name, child}
use Rattle.tb_model.specs.Facts.{History, own, IsSpawned}
use Rattle.tb_model.specs.State.{is_unended, is_unended_undeferred}
use Rattle.tb_model.specs.Legal.{Cells, Legal}
use Rattle.tb_model.specs.Lines.{Departure, events_of}
use Rattle.tb_model.specs.LeastNames.{IsLeastName}
use Rattle.tb_model.specs.Hindrances.{Hindrance, Undeferred, Waiting, Excluded, Children, Group, IsLeast, IsFree, in_the_way}
use Rattle.tb_depend.specs.Relations.{depends, is_covered, items_at}
use Rattle.tb_depend.specs.Nearness.{IsClosed}
use Rattle.tb_excl.specs.Holders.{IsLeastNumber, Excludes}
use Rattle.tb_wait.specs.Kin.{IsUnendedMember}
use Rattle.tb_wait.specs.Histories.{AreKin}
use Rattle.tb_undo.specs.declared.row.Row.{Row}
use Rattle.tb_undo.specs.Tasks.{row, seen_row}
use Rattle.tb_undo.specs.State.{Seen, IsTaskState, ForUnended}
use Rattle.tb_undo.specs.Obstacles.{IsUnendedWhere, is_child_over, IsKnown, sibling}
use Rattle.tb_undo.proofs.OverLemmas.{over_closed}
use Rattle.tb_undo.proofs.ObstacleLemmas.{covered_least, member_least}
use Rattle.tb_undo.proofs.ReasonLemmas.{stands, waits_for, closes_when, goes_on}
use Rattle.tb_undo.proofs.StartLemmas.{was_spawned, is_known, siblings_closed, tells_waiting, tells_started, tells_excluded, tells_free}

-- ---- any action: the undeferred child comes first

module _ (s seen : Seen) (same : s ≡ seen) (t : Name) (r : Row) (mine : row s.rows t ≡ Some r) (u : Option ℕ)
    (held : (cells : Cells) (H : History) → Legal cells H → AreKin H s.waits.tasks → IsSpawned H t → IsKnown (own t H) (seen_row r) → IsLeast (is_unended_undeferred H t) (option_map (child t) u)) where
  by_known : (P : History → Type 0) → ((cells : Cells) (H : History) → Legal cells H → AreKin H s.waits.tasks → IsKnown (own t H) (seen_row r) → IsLeast (is_unended_undeferred H t) (option_map (child t) u) → P H) → ForUnended seen t P
  by_known P f first root_line D legal state unended =
      let st = subst (IsTaskState root_line D) (sym same) state in
      let here = was_spawned first root_line D seen legal state t unended in
      let known = is_known first root_line D s legal st t r here mine in
      f first (events_of D) legal st.waiting known (held first (events_of D) legal st.waiting here known)

  pub by_undeferred : (a : Action) (n : ℕ) → u ≡ Some n → ForUnended seen t (λ H. in_the_way H t a ≡ Some (Undeferred (child t n)))
  by_undeferred a n e =
      by_known (λ H. in_the_way H t a ≡ Some (Undeferred (child t n)))
      (λ cells H legal are known least. stands H t a (child t n) (subst (λ o. IsLeast (is_unended_undeferred H t) (option_map (child t) o)) e least))

  module _ (none : u ≡ None) (a : Action) (h : Option Hindrance) where
    abbrev Told : Type 0
    Told = ForUnended seen t (λ H. in_the_way H t a ≡ h)

    by_free : (P : History → Type 0) → ((cells : Cells) (H : History) → Legal cells H → AreKin H s.waits.tasks → IsKnown (own t H) (seen_row r) → IsFree H t → P H) → ForUnended seen t P
    by_free P f =
        by_known P (λ cells H legal are known least. f cells H legal are known (subst (λ o. IsLeast (is_unended_undeferred H t) (option_map (child t) o)) none least))

    pub by_start : a ≡ Start → ForUnended seen t (λ H. IsFree H t → in_the_way H t Start ≡ h) → Told
    by_start e f first root_line D legal state unended =
        ap (in_the_way (events_of D) t) e
        ∙ f first root_line D legal state unended (by_free (λ H. IsFree H t) (λ cells H legal are known free. free) first root_line D legal state unended)

    pub by_wait : (items is : List Item) (o : Option ℕ) → a ≡ Wait items → is ≡ items
        → (IsClosed r.children.siblings (is_child_over s.waits.tasks t) → IsLeastNumber (IsUnendedWhere s.waits.tasks t (is_covered r.children.siblings is)) o)
        → option_map Children (option_map (child t) o) ≡ h → Told
    by_wait items is o e same_items covered told =
        by_free (λ H. in_the_way H t a ≡ h)
        (λ cells H legal are known free.
        let closed = subst (λ rows. IsClosed rows (is_child_over s.waits.tasks t)) (sym known.children) (over_closed cells H s.waits.tasks t legal are) in
        let least = subst (λ is. IsLeastNumber (IsUnendedWhere s.waits.tasks t (is_covered r.children.siblings is)) o) same_items (covered closed) in
        ap (in_the_way H t) e
        ∙ waits_for H t free items (option_map (child t) o) (covered_least cells H s.waits.tasks t legal are items r.children.siblings o known.children least) ∙ told)

    pub by_close : (o : Option Name) → a ≡ Close → IsLeastName (IsUnendedMember s.waits.tasks t) o → option_map Group o ≡ h → Told
    by_close o e least told =
        by_free (λ H. in_the_way H t a ≡ h)
        (λ cells H legal are known free. ap (in_the_way H t) e ∙ closes_when H t free o (member_least cells H s.waits.tasks t legal are o least) ∙ told)

    pub by_none : (a ≡ Start → ⊥) → ((items : List Item) → a ≡ Wait items → ⊥) → (a ≡ Close → ⊥) → None ≡ h → Told
    by_none not_start not_wait not_close told =
        by_free (λ H. in_the_way H t a ≡ h) (λ cells H legal are known free. goes_on H t free a not_start not_wait not_close ∙ told)

-- ---- the start of the nth child: those on which it depends, and then those that exclude it

module _ (s seen : Seen) (same : s ≡ seen) (t : Name) (n : ℕ) (r q : Row) (mine : row seen.rows t ≡ Some r) (number : slice_get t 0 ≡ Some n) (found : row s.rows r.parent ≡ Some q) (o : Option ℕ)
    (searched : IsClosed q.children.siblings (is_child_over s.waits.tasks r.parent) → IsLeastNumber (IsUnendedWhere s.waits.tasks r.parent (depends q.children.siblings n)) o) where
  abbrev Starts : Option Hindrance → Type 0
  Starts h = ForUnended seen t (λ H. IsFree H t → in_the_way H t Start ≡ h)

  own_row : row s.rows t ≡ Some r
  own_row = ap (λ s. row s.rows t) same ∙ mine

  module _ (first : Cells) (root_line : ℕ) (D : List Departure) (legal : Legal first (events_of D)) (state : IsTaskState root_line D seen) (unended : is_unended (events_of D) t ≡ true) where
    st : IsTaskState root_line D s
    st = subst (IsTaskState root_line D) (sym same) state

    earlier : IsLeastNumber (IsUnendedWhere s.waits.tasks r.parent (depends q.children.siblings n)) o
    earlier = searched (siblings_closed first root_line D s legal st t n r q unended own_row number found)

  pub by_waiting : (m : ℕ) → o ≡ Some m → Starts (Some (Waiting (sibling t m)))
  by_waiting m e first root_line D legal state unended free =
      tells_waiting first root_line D s legal (st first root_line D legal state unended) t n r q unended own_row number found free o m e (earlier first root_line D legal state unended)

  module _ (none : o ≡ None) where
    pub by_started : 0 < r.steps → Starts None
    by_started some first root_line D legal state unended free =
        tells_started first root_line D s legal (st first root_line D legal state unended) t n r q unended own_row number found free o none (earlier first root_line D legal state unended) some

    module _ (few : r.steps ≤ 0) (items : List Item) (of_child : items ≡ items_at q.children.siblings n) (b : Option ℕ) (busy : IsLeastNumber (Excludes q.holders items) b) where
      excluded : IsLeastNumber (Excludes q.holders (items_at q.children.siblings n)) b
      excluded = subst (λ items. IsLeastNumber (Excludes q.holders items) b) of_child busy

      pub by_excluded : (m : ℕ) → b ≡ Some m → Starts (Some (Excluded (sibling t m)))
      by_excluded m k first root_line D legal state unended free =
          tells_excluded first root_line D s legal (st first root_line D legal state unended) t n r q unended own_row number found free o none (earlier first root_line D legal state unended) few b m k excluded

      pub by_nobody : b ≡ None → Starts None
      by_nobody k first root_line D legal state unended free =
          tells_free first root_line D s legal (st first root_line D legal state unended) t n r q unended own_row number found free o none (earlier first root_line D legal state unended) few b k excluded
