-- What blocks a task's action, from the least of each kind.
use Rattle.std.proofs.Common.{◌≡◌, ◌↔◌, List, Bool, true, false, not, Option, Some, None, is_some, option_map, refl, sym, ◌∙◌, subst, IsTrue}
use Rattle.std.proofs.lemmas.Bool.{false≢true}
use Rattle.tb_model.specs.declared.item.Item.{Item}
use Rattle.tb_model.specs.declared.action.Action.{Action}
use Rattle.tb_model.specs.declared.action.Action.TheVariants.{Start, Wait, Close}
use Rattle.tb_model.specs.Names.{Name}
use Rattle.tb_model.specs.Facts.{History}
use Rattle.tb_model.specs.State.{is_unended_covered, is_unended_member, is_unended_undeferred}
use Rattle.tb_model.specs.Hindrances.{IsLeast, IsFree, is_waited_for, is_excluding, in_the_way, Hindrance, Hinders, Undeferred, Waiting, Excluded, Children, Group}
use Rattle.tb_model.proofs.HindranceLemmas.{in_the_way_hinders}
use Rattle.tb_model.proofs.LeastNameLemmas.{one_least}

not_both : (p : Name → Bool) (u : Name) → IsLeast p None → IsLeast p (Some u) → ⊥
not_both p u none some = let same = one_least (λ w. IsTrue (p w)) None (Some u) none some in cc

kept_by_none : (H : History) (t : Name) (a : Action) → ((h : Hindrance) → Hinders H t a h → ⊥) → in_the_way H t a ≡ None
kept_by_none H t a f = at (in_the_way H t a) refl
  where
    at : (o : Option Hindrance) → in_the_way H t a ≡ o → o ≡ None
    at None e = refl
    at (Some h) e = absurd (f h ((in_the_way_hinders H t a h).0 e))

module _ (H : History) (t : Name) where
  pub stands : (a : Action) (u : Name) → IsLeast (is_unended_undeferred H t) (Some u) → in_the_way H t a ≡ Some (Undeferred u)
  stands a u l = (in_the_way_hinders H t a (Undeferred u)).1 l

  module _ (free : IsFree H t) where
    pub waits : (u : Name) → IsLeast (is_waited_for H t) (Some u) → in_the_way H t Start ≡ Some (Waiting u)
    waits u l = (in_the_way_hinders H t Start (Waiting u)).1 (free, refl, l)

    -- nothing blocks the task where there is nobody for whom this action waits
    none_by : (a : Action) → (a ≡ Start → IsLeast (is_waited_for H t) None × IsLeast (is_excluding H t) None) → ((items : List Item) → a ≡ Wait items → IsLeast (is_unended_covered H t items) None) → (a ≡ Close → IsLeast (is_unended_member H t) None)
        → in_the_way H t a ≡ None
    none_by a starts waits closes = kept_by_none H t a at
      where
        at : (h : Hindrance) → Hinders H t a h → ⊥
        at (Undeferred u) k = not_both (is_unended_undeferred H t) u free k
        at (Waiting u) k = not_both (is_waited_for H t) u (starts k.1).0 k.2
        at (Excluded u) k = not_both (is_excluding H t) u (starts k.1).1 k.3
        at (Children u) k = not_both (is_unended_covered H t k.1) u (waits k.1 k.2) k.3
        at (Group u) k = not_both (is_unended_member H t) u (closes k.1) k.2

    pub starts_when : (o : Option Name) → IsLeast (is_waited_for H t) None → IsLeast (is_excluding H t) o → in_the_way H t Start ≡ option_map Excluded o
    starts_when (Some u) none l = (in_the_way_hinders H t Start (Excluded u)).1 (free, refl, none, l)
    starts_when None none l = none_by Start (λ e. (none, l)) (λ items e. cc) (λ e. cc)

    pub waits_for : (items : List Item) (o : Option Name) → IsLeast (is_unended_covered H t items) o → in_the_way H t (Wait items) ≡ option_map Children o
    waits_for items (Some u) l = (in_the_way_hinders H t (Wait items) (Children u)).1 (free, items, refl, l)
    waits_for items None l =
        none_by (Wait items) (λ e. cc)
        (λ others e. let same : items ≡ others = cc in subst (λ is. IsLeast (is_unended_covered H t is) None) same l) (λ e. cc)

    pub closes_when : (o : Option Name) → IsLeast (is_unended_member H t) o → in_the_way H t Close ≡ option_map Group o
    closes_when (Some u) l = (in_the_way_hinders H t Close (Group u)).1 (free, refl, l)
    closes_when None l = none_by Close (λ e. cc) (λ items e. cc) (λ e. l)

    -- nothing else blocks a task
    pub goes_on : (a : Action) → (a ≡ Start → ⊥) → ((items : List Item) → a ≡ Wait items → ⊥) → (a ≡ Close → ⊥) → in_the_way H t a ≡ None
    goes_on a not_start not_wait not_close = none_by a (λ e. absurd (not_start e)) (λ items e. absurd (not_wait items e)) (λ e. absurd (not_close e))

-- nothing is found where the name of nothing is, and the other way
pub clear_by : {A : Type 0} (f : A → Hindrance) (o : Option A) (b : Bool) (w : Option Hindrance) → is_some o ≡ not b → w ≡ option_map f o → IsTrue b ↔ (w ≡ None)
clear_by f None true w e k = (λ t. k, λ n. refl)
clear_by f None false w e k = absurd (false≢true e)
clear_by f (Some x) false w e k = (λ t. absurd (false≢true t), λ n. let clash : None ≡ Some (f x) = sym n ∙ k in cc)
clear_by f (Some x) true w e k = absurd (false≢true (sym e))
