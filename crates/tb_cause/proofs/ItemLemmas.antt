-- Among siblings of which one has ended and the other starts, the former was generated first, or the two only exclude each other.
use Rattle.std.proofs.Common.{◌≡◌, ◌≢◌, ℕ, List, [], ◌∷◌, Bool, true, false, ◌&&◌, ◌||◌, not, refl, sym, ap, ap₂, ◌∙◌, subst, arith, nat_lt}
use Rattle.std.specs.List.{list_any}
use Rattle.std.proofs.lemmas.Bool.{or_right, ltb-true, ltb-false}
use Rattle.std.proofs.lemmas.List.Folds.{list_any-append}
use Rattle.tb_model.specs.declared.action.Action.{Action}
use Rattle.tb_model.specs.declared.action.Action.TheVariants.{Start, Wait}
use Rattle.tb_model.specs.declared.item.Item.{Item as AnItem}
use Rattle.tb_model.specs.declared.kind.Kind.{Kind}
use Rattle.tb_model.specs.declared.kind.Kind.TheVariants.{In, Out, Inout, Mutexinoutset, Inoutset}
use Rattle.tb_model.specs.declared.place.Place.{Place}
use Rattle.tb_model.specs.declared.place.Place.TheVariants.{Cell, All}
use Rattle.tb_model.specs.Names.{Name, same_name, is_child}
use Rattle.tb_model.specs.Items.{Relation, relation, is_before, is_apart, same_place, meets, some_meet, has_no_items}
use Rattle.tb_model.specs.Facts.{History, HasEnded, IsSpawned, own, ends, items_of, before, apart}
use Rattle.tb_model.specs.Legal.{Cells, Legal, MayFollow}
use Rattle.tb_model.proofs.AlikeLemmas.{any_same}
use Rattle.tb_model.proofs.FactsLemmas.{not_started, ends_own, acted_spawned}
use Rattle.tb_model.proofs.NeedsLemmas.{acted_started}
use Rattle.tb_model.proofs.RulesLemmas.{rules, started_where}
use Rattle.tb_model.proofs.TestLemmas.{same_true}
use Rattle.tb_cause.specs.Keys.{comes_behind}
use Rattle.tb_cause.proofs.KeyLemmas.{any_or, any_swap, and_more, or_none, and_none, eq_turned, same_turned}
use Rattle.tb_cause.proofs.KeyNeedLemmas.{meet_by, some_behind, waits_by_items, behind_items}

-- ---- pairs of items

behind_of_wait : (new old : List AnItem) → some_behind false new old ≡ some_meet is_before new old
behind_of_wait new old =
    any_same (λ (i : AnItem). list_any (meet_by (comes_behind false i.kind) i) old) (λ i. list_any (meets is_before i) old)
    (λ i. any_same (meet_by (comes_behind false i.kind) i) (meets is_before i) (λ j. ap (λ b. same_place i.place j.place && b) (or_none (is_before (relation i.kind j.kind)))) old) new

behind_of_start : (new old : List AnItem) → some_behind true new old ≡ (some_meet is_before new old || some_meet is_apart new old)
behind_of_start new old =
    any_same (λ (i : AnItem). list_any (meet_by (comes_behind true i.kind) i) old) (λ i. list_any (meets is_before i) old || list_any (meets is_apart i) old)
    (λ i. any_same (meet_by (comes_behind true i.kind) i) (λ j. meets is_before i j || meets is_apart i j) (λ j. and_more (same_place i.place j.place) (is_before (relation i.kind j.kind)) (is_apart (relation i.kind j.kind))) old
    ∙ any_or (meets is_before i) (meets is_apart i) old) new
    ∙ any_or (λ i. list_any (meets is_before i) old) (λ i. list_any (meets is_apart i) old) new

place_turned : (p q : Place) → same_place p q ≡ same_place q p
place_turned (Cell c) (Cell d) = eq_turned c d
place_turned (Cell c) All = refl
place_turned All (Cell d) = refl
place_turned All All = refl

relation_turned : (a b : Kind) → relation a b ≡ relation b a
relation_turned In In = refl
relation_turned In Out = refl
relation_turned In Inout = refl
relation_turned In Mutexinoutset = refl
relation_turned In Inoutset = refl
relation_turned Out In = refl
relation_turned Out Out = refl
relation_turned Out Inout = refl
relation_turned Out Mutexinoutset = refl
relation_turned Out Inoutset = refl
relation_turned Inout In = refl
relation_turned Inout Out = refl
relation_turned Inout Inout = refl
relation_turned Inout Mutexinoutset = refl
relation_turned Inout Inoutset = refl
relation_turned Mutexinoutset In = refl
relation_turned Mutexinoutset Out = refl
relation_turned Mutexinoutset Inout = refl
relation_turned Mutexinoutset Mutexinoutset = refl
relation_turned Mutexinoutset Inoutset = refl
relation_turned Inoutset In = refl
relation_turned Inoutset Out = refl
relation_turned Inoutset Inout = refl
relation_turned Inoutset Mutexinoutset = refl
relation_turned Inoutset Inoutset = refl

-- the table reads alike in both directions
meet_turned : (test : Relation → Bool) (new old : List AnItem) → some_meet test new old ≡ some_meet test old new
meet_turned test new old =
    any_swap (meets test) new old
    ∙ any_same (λ j. list_any (λ i. meets test i j) new) (λ j. list_any (meets test j) new)
    (λ j. any_same (λ i. meets test i j) (meets test j) (λ i. ap₂ (λ a r. a && test r) (place_turned i.place j.place) (relation_turned i.kind j.kind)) new) old

-- ---- one sibling has ended, the other starts

module _ (cells : Cells) (H : History) (legal : Legal cells H) (u : Name) (ended : HasEnded H u) where
  acted : own u H ≢ []
  acted e = not_started u H (ends u) (λ v. ends_own u v) e ended

  pub ended_spawned : IsSpawned H u
  ended_spawned = acted_spawned cells H u legal acted

  module _ (t : Name) (fresh : own t H ≡ []) where
    -- who has ended doesn't come after who hasn't started
    not_behind : before H t u ≡ false
    not_behind = at (before H t u) refl
      where
        at : (b : Bool) → before H t u ≡ b → b ≡ false
        at false h = refl
        at true h =
            let start = started_where u H (acted_started cells H u legal acted) in
            let done = (rules cells H legal).behind u t start.0 start.1 h in
            absurd (not_started t H (ends t) (λ v. ends_own t v) fresh
            (ap (list_any (ends t)) start.1.split ∙ list_any-append (ends t) start.1.later _ ∙ or_right (list_any (ends t) start.1.later) _ (or_right (ends t (record { task = u; action = Start })) _ done)))

-- the parts of the two tests, where the one is elder, neither is, or the other is
elder : (s s' B A A' : Bool) → (((true && s) && B) || (((true && s) && A) || ((false && s') && A'))) ≡ (s && (B || A))
elder true s' B A A' = ap (λ b. B || b) (or_none A)
elder false s' B A A' = refl

neither : (s s' B A A' : Bool) → s ≡ false → (((false && s) && B) || (((false && s) && A) || ((false && s') && A'))) ≡ (s && (B || A))
neither s s' B A A' h = sym (ap (λ b. b && (B || A)) h)

younger : (s B A : Bool) → (s && B) ≡ false → (((false && s) && B) || (((false && s) && A) || ((true && s) && A))) ≡ (s && (B || A))
younger true B A h = sym (ap (λ b. b || A) h)
younger false B A h = refl

module _ (cells : Cells) (H : History) (legal : Legal cells H) (n : ℕ) (p : Name) (fresh : own (n ∷ p) H ≡ []) where
  abbrev t : Name
  t = n ∷ p

  module _ (m : ℕ) (q : Name) (ended : HasEnded H (m ∷ q)) where
    abbrev u : Name
    u = m ∷ q

    abbrev s : Bool
    s = same_name q p

    abbrev B : Bool
    B = some_meet is_before (items_of t H) (items_of u H)

    abbrev A : Bool
    A = some_meet is_apart (items_of t H) (items_of u H)

    abbrev A' : Bool
    A' = some_meet is_apart (items_of u H) (items_of t H)

    another : nat_lt m n ≡ false → nat_lt n m ≡ false → s ≡ false
    another l g = by s refl
      where
        by : (b : Bool) → s ≡ b → b ≡ false
        by false h = refl
        by true h =
            let same : m ≡ n = omega (arith, ltb-false m n l, ltb-false n m g) in
            let it : u ≡ t = ap₂ (λ (k : ℕ) (w : Name). k ∷ w) same (same_true q p h) in
            absurd (not_started t H (ends t) (λ v. ends_own t v) fresh (subst (λ w. HasEnded H w) it ended))

    first : nat_lt n m ≡ true → (s && B) ≡ false
    first g =
        ap₂ (λ a b. a && b) (same_turned q p) (meet_turned is_before (items_of t H) (items_of u H))
        ∙ sym (ap (λ a. (a && same_name p q) && some_meet is_before (items_of u H) (items_of t H)) g)
        ∙ not_behind cells H legal u ended t fresh

    at : (a b : Bool) → nat_lt m n ≡ a → nat_lt n m ≡ b → (((a && s) && B) || (((a && s) && A) || ((b && same_name p q) && A'))) ≡ (s && (B || A))
    at true true l g = absurd (omega (arith, ltb-true m n l, ltb-true n m g))
    at true false l g = elder s (same_name p q) B A A'
    at false false l g = neither s (same_name p q) B A A' (another l g)
    at false true l g =
        ap₂ (λ a b. ((false && s) && B) || (((false && s) && A) || ((true && a) && b))) (same_turned p q) (meet_turned is_apart (items_of u H) (items_of t H))
        ∙ younger s B A (first g)

    its_siblings : (before H u t || apart H u t) ≡ (is_child p u && (B || A))
    its_siblings = at (nat_lt m n) (nat_lt n m) refl refl

  siblings : (u : Name) → HasEnded H u → waits_by_items H t Start u ≡ (is_child p u && (some_meet is_before (items_of t H) (items_of u H) || some_meet is_apart (items_of t H) (items_of u H)))
  siblings [] ended = refl
  siblings (m ∷ q) ended = its_siblings m q ended

-- what an event waits for by items is known by what they are
module _ (cells : Cells) (H : History) (legal : Legal cells H) (I : Name → List AnItem) (settled : (w : Name) → IsSpawned H w → I w ≡ items_of w H) (u : Name) (ended : HasEnded H u) where
  iu : I u ≡ items_of u H
  iu = settled u (ended_spawned cells H legal u ended)

  of_wait : (c : Bool) (items : List AnItem) → (not (has_no_items items) && (c && (has_no_items items || some_meet is_before items (items_of u H)))) ≡ (c && some_behind false items (I u))
  of_wait c [] = sym (and_none c)
  of_wait c (i ∷ items) = ap (λ b. c && b) (sym (behind_of_wait (i ∷ items) (items_of u H)) ∙ ap (some_behind false (i ∷ items)) (sym iu))

  pub by_items : (t : Name) (a : Action) → MayFollow cells H (record { task = t; action = a }) → waits_by_items H t a u ≡ behind_items I t a u
  by_items [] Start m = root u
    where
      root : (u : Name) → (before H u [] || apart H u []) ≡ false
      root [] = refl
      root (m ∷ q) = refl
  by_items (n ∷ p) Start m =
      siblings cells H legal n p m.own u ended
      ∙ ap (λ b. is_child p u && b) (sym (behind_of_start (items_of (n ∷ p) H) (items_of u H)) ∙ sym (ap₂ (some_behind true) (settled (n ∷ p) m.timely.spawned) iu))
  by_items t (Wait items) m = of_wait (is_child t u) items
  by_items t _ m = refl
