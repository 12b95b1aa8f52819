-- The tests of the table of dependences decide its rule.
use Rattle.std.proofs.Common.{◌⊎◌, ap₂, ◌≡◌, ℕ, List, Bool, true, false, ◌==◌, inl, inr, ⊎_elim, refl, ap, ◌∙◌, eq-eqb, eqb-true}
use Rattle.std.specs.Prelude.{◌↔◌}
use Rattle.std.specs.List.{Any, list_any}
use Rattle.std.proofs.lemmas.Bool.{and_parts, and_from, false≢true}
use Rattle.std.proofs.lemmas.List.Folds.{Any-from_list_any, list_any-from_Any}
use Rattle.tb_model.specs.declared.kind.Kind.{Kind}
use Rattle.tb_model.specs.declared.kind.Kind.TheVariants.{In, Mutexinoutset, Inoutset}
use Rattle.tb_model.specs.declared.place.Place.{Place}
use Rattle.tb_model.specs.declared.place.Place.TheVariants.{Cell, All}
use Rattle.tb_model.specs.declared.item.Item.{Item}
use Rattle.tb_model.specs.Items.{Relation, Free, Before, Apart, relation, is_before, is_apart, same_place, meets, some_meet, IsOnePlace, Relates}

one_place : (p q : Place) → same_place p q ≡ true → IsOnePlace p q
one_place (Cell c) (Cell d) h = inl (ap Cell (eqb-true c d h))
one_place (Cell c) All h = inr (inr refl)
one_place All q h = inr (inl refl)

-- two cells, of which neither is all memory
cells_same : (c d : ℕ) → IsOnePlace (Cell c) (Cell d) → (c == d) ≡ true
cells_same c d h = ⊎_elim (λ e. eq-eqb c d (number e)) (λ r. ⊎_elim (λ e. cc e) (λ e. cc e) r) h
  where
    number : Cell c ≡ Cell d → c ≡ d
    number e = cc

place_same : (p q : Place) → IsOnePlace p q → same_place p q ≡ true
place_same (Cell c) (Cell d) h = cells_same c d h
place_same (Cell c) All h = refl
place_same All q h = refl

any_mono : {X : Type 0} (P Q : X → Type 0) → ((x : X) → P x → Q x) → (xs : List X) → Any P xs → Any Q xs
any_mono P Q f xs a = (a.0, a.1, a.2, a.3, f a.1 a.4)

-- a test that one relation alone passes
module _ (test : Relation → Bool) (r : Relation) (only : (x : Relation) → test x ≡ true → x ≡ r) (passes : test r ≡ true) where
  abbrev Pair : Item → Item → Type 0
  Pair i j = IsOnePlace i.place j.place × (relation i.kind j.kind ≡ r)

  to_pair : (i j : Item) → meets test i j ≡ true → Pair i j
  to_pair i j h =
      let o = and_parts (same_place i.place j.place) (test (relation i.kind j.kind)) h in
      (one_place i.place j.place o.0, only (relation i.kind j.kind) o.1)

  from_pair : (i j : Item) → Pair i j → meets test i j ≡ true
  from_pair i j p =
      and_from (same_place i.place j.place) (test (relation i.kind j.kind)) (place_same i.place j.place p.0) (ap test p.1 ∙ passes)

  -- then the test decides whether some pair is so
  pub decides : (new old : List Item) → (some_meet test new old ≡ true) ↔ Relates r new old
  decides new old = (
    λ h. any_mono (λ i. list_any (meets test i) old ≡ true) (λ i. Any (λ j. Pair i j) old)
        (λ i k. any_mono (λ j. meets test i j ≡ true) (λ j. Pair i j) (λ j. to_pair i j) old (Any-from_list_any (meets test i) old k)) new
        (Any-from_list_any (λ i. list_any (meets test i) old) new h),
    λ a. list_any-from_Any (λ i. list_any (meets test i) old) new
        (any_mono (λ i. Any (λ j. Pair i j) old) (λ i. list_any (meets test i) old ≡ true)
        (λ i k. list_any-from_Any (meets test i) old (any_mono (λ j. Pair i j) (λ j. meets test i j ≡ true) (λ j. from_pair i j) old k)) new a),
  )

only_before : (x : Relation) → is_before x ≡ true → x ≡ Before
only_before Before h = refl
only_before Free h = absurd (false≢true h)
only_before Apart h = absurd (false≢true h)

only_apart : (x : Relation) → is_apart x ≡ true → x ≡ Apart
only_apart Apart h = refl
only_apart Free h = absurd (false≢true h)
only_apart Before h = absurd (false≢true h)

-- the two tests of the table
pub before_decides : (new old : List Item) → (some_meet is_before new old ≡ true) ↔ Relates Before new old
before_decides = decides is_before Before only_before refl

pub apart_decides : (new old : List Item) → (some_meet is_apart new old ≡ true) ↔ Relates Apart new old
apart_decides = decides is_apart Apart only_apart refl

-- ---- the entries

is_free : Relation → Bool
is_free Free = true
is_free Before = false
is_free Apart = false

free_only : (new old : Kind) → relation new old ≡ Free → ((new ≡ In) × (old ≡ In)) ⊎ ((new ≡ Inoutset) × (old ≡ Inoutset))
unfolding is_free
free_only In In h = inl (refl, refl)
free_only Inoutset Inoutset h = inr (refl, refl)
free_only Mutexinoutset Mutexinoutset h = absurd (false≢true (ap is_free h))
free_only _ _ h = absurd (false≢true (ap is_free h))

-- free are `in` after `in`, and `inoutset` after `inoutset`
pub free_entries : (new old : Kind) → (relation new old ≡ Free) ↔ (((new ≡ In) × (old ≡ In)) ⊎ ((new ≡ Inoutset) × (old ≡ Inoutset)))
free_entries new old = (free_only new old, λ h. ⊎_elim (λ p. ap₂ relation p.0 p.1) (λ p. ap₂ relation p.0 p.1) h)

apart_entry : (new old : Kind) → relation new old ≡ Apart → (new ≡ Mutexinoutset) × (old ≡ Mutexinoutset)
apart_entry Mutexinoutset Mutexinoutset h = (refl, refl)
apart_entry In In h = absurd (false≢true (ap is_apart h))
apart_entry Inoutset Inoutset h = absurd (false≢true (ap is_apart h))
apart_entry _ _ h = absurd (false≢true (ap is_apart h))

-- apart is `mutexinoutset` after `mutexinoutset`
pub apart_entries : (new old : Kind) → (relation new old ≡ Apart) ↔ ((new ≡ Mutexinoutset) × (old ≡ Mutexinoutset))
apart_entries new old = (apart_entry new old, λ p. ap₂ relation p.0 p.1)
