-- How the indexes change where an event is added at the end, and where the last is taken off.
use Rattle.std.proofs.Common.{◌≡◌, ◌+◌, ℕ, List, [], ◌∷◌, ◌++◌, Bool, false, cond, Some, None, refl, sym, ap, ◌∙◌, is_some}
use Rattle.std.specs.List.{AllByRecursion}
use Rattle.tb_model.specs.declared.event.Event.{Event}
use Rattle.tb_model.specs.Names.{Name}
use Rattle.tb_model.specs.Facts.{is_of}
use Rattle.tb_places.specs.declared.places.Places.{Places}
use Rattle.tb_places.specs.Where.{places_from, places_where}
use Rattle.tb_places.specs.Numbers.{number_of}
use Rattle.tb_places.specs.Rows.{row_of, is_in_row, is_of_row, AreRows}
use Rattle.tb_places.specs.Places.{event_mark, event_number, IsNamed, IsIndexOf}
use Rattle.tb_places.proofs.NameLemmas.{one_number, no_number, number_grown}
use Rattle.tb_places.proofs.WhereLemmas.{places_cons}

-- ---- lists

pub all_map : (P Q : Event → Type 0) (es : List Event) → ((e : Event) → P e → Q e) → AllByRecursion P es → AllByRecursion Q es
all_map P Q [] f all = tt
all_map P Q (x ∷ es) f all = (f x all.0, all_map P Q es f all.1)

pub all_append : (P : Event → Type 0) (xs ys : List Event) → AllByRecursion P xs → AllByRecursion P ys → AllByRecursion P (xs ++ ys)
all_append P [] ys a b = b
all_append P (x ∷ xs) ys a b = (a.0, all_append P xs ys a.1 b)

pub all_parts : (P : Event → Type 0) (xs ys : List Event) → AllByRecursion P (xs ++ ys) → AllByRecursion P xs × AllByRecursion P ys
all_parts P [] ys a = (tt, a)
all_parts P (x ∷ xs) ys a =
    let r = all_parts P xs ys a.1 in
    ((a.0, r.0), r.1)

-- tests that answer alike find the same indexes
pub places_alike : (n : ℕ) (p q : Event → Bool) (es : List Event) → AllByRecursion (λ e. p e ≡ q e) es → places_from n p es ≡ places_from n q es
places_alike n p q [] all = refl
places_alike n p q (x ∷ es) all =
    places_cons n p x es ∙ ap (λ r. cond (p x) (n ∷ r) r) (places_alike (n + 1) p q es all.1)
    ∙ ap (λ b. cond b (n ∷ places_from (n + 1) q es) (places_from (n + 1) q es)) all.0 ∙ sym (places_cons n q x es)

pub places_none : (n : ℕ) (p : Event → Bool) (es : List Event) → AllByRecursion (λ e. p e ≡ false) es → places_from n p es ≡ []
places_none n p [] all = refl
places_none n p (x ∷ es) all =
    places_cons n p x es ∙ ap (λ b. cond b (n ∷ places_from (n + 1) p es) (places_from (n + 1) p es)) all.0 ∙ places_none (n + 1) p es all.1

always : (P : Event → Type 0) (es : List Event) → ((e : Event) → P e) → AllByRecursion P es
always P [] f = tt
always P (x ∷ es) f = (f x, always P es f)

-- ---- what is read

module _ (names : List Name) (es : List Event) (p : Places) (index : IsIndexOf names es p) (t : Name) where
  pub own_row : (k : ℕ) → number_of names t ≡ Some k → row_of p.own k ≡ places_where (is_of t) es
  own_row k at = index.own k ∙ places_alike 0 _ (is_of t) es (always _ es (λ e. one_number names k t e.task at))

  pub own_none : number_of names t ≡ None → [] ≡ places_where (is_of t) es
  own_none none = sym (places_none 0 (is_of t) es (all_map (IsNamed names) (λ e. is_of t e ≡ false) es (λ e named. no_number names t e.task none named) index.named))

-- ---- more names

-- names that come last change nothing
pub index_grown : (names more : List Name) (es : List Event) (p : Places) → IsIndexOf names es p → IsIndexOf (names ++ more) es p
index_grown names more es p index = record {
  named = all_map (IsNamed names) (IsNamed (names ++ more)) es (λ e named. ap is_some (number_grown names more e.task named) ∙ named) index.named;
  own = λ k. index.own k ∙ places_alike 0 (is_of_row (event_number names) k) (is_of_row (event_number (names ++ more)) k) es
      (all_map (IsNamed names) (λ e. is_of_row (event_number names) k e ≡ is_of_row (event_number (names ++ more)) k e) es (λ e named. ap (is_in_row k) (sym (number_grown names more e.task named))) index.named);
  marks = index.marks;
}

-- ---- the rows change

pub index_reserved : (names : List Name) (es : List Event) (old new : Places) → ((k : ℕ) → row_of new.own k ≡ row_of old.own k) → ((k : ℕ) → row_of new.marks k ≡ row_of old.marks k) → IsIndexOf names es old → IsIndexOf names es new
index_reserved names es old new own marks index = record { named = index.named; own = λ k. own k ∙ index.own k; marks = λ k. marks k ∙ index.marks k }

-- ---- one event more, one less

module _ (names : List Name) (es : List Event) (e : Event) (old new : Places) where
  pub index_pushed : IsNamed names e → IsIndexOf names es old → AreRows (event_number names) (es ++ e ∷ []) new.own → AreRows event_mark (es ++ e ∷ []) new.marks → IsIndexOf names (es ++ e ∷ []) new
  index_pushed named index own marks = record {
    named = all_append (IsNamed names) es (e ∷ []) index.named (named, tt);
    own = own;
    marks = marks;
  }

  pub index_popped : IsIndexOf names (es ++ e ∷ []) old → AreRows (event_number names) es new.own → AreRows event_mark es new.marks → IsIndexOf names es new
  index_popped index own marks = record {
    named = (all_parts (IsNamed names) es (e ∷ []) index.named).0;
    own = own;
    marks = marks;
  }
