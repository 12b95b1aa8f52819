-- A history in two parts: the events that stay, and those that go.
use Rattle.std.proofs.Common.{◌≡◌, ℕ, List, [], ◌∷◌, Bool, true, false, ◌&&◌, ◌||◌, ◌⊎◌, inl, inr, ⊎_elim, refl, sym, ap, ◌∙◌, ℤ}
use Rattle.std.specs.List.{list_any}
use Rattle.std.proofs.lemmas.Bool.{or_cases, or_left, or_right, or_parts, and_parts, and_from, both_ways}
use Rattle.std.proofs.lemmas.List.Folds.{list_any-append}
use Rattle.tb_model.specs.declared.item.Item.{Item}
use Rattle.tb_model.specs.declared.action.Action.{Action}
use Rattle.tb_model.specs.declared.action.Action.TheVariants.{Store}
use Rattle.tb_model.specs.Names.{Name, is_elder, is_child}
use Rattle.tb_model.specs.Items.{Relation, meets, some_meet, is_before, is_apart, has_no_items}
use Rattle.tb_model.specs.Facts.{History, is_of, own, prepend_if, last, stored_or, is_store_to, items_of, items_for, before, apart, spawns, covers, IsSpawned}
use Rattle.tb_model.proofs.TestLemmas.{any_weaker}
use Rattle.tb_model.specs.declared.event.Event.{Event}

-- xs, in order, is ks and rs mixed
pub data Parts {A : Type 0} : List A → List A → List A → Type 0 where
  none : Parts [] [] []
  stays : {x : A} {xs ks rs : List A} → Parts xs ks rs → Parts (x ∷ xs) (x ∷ ks) rs
  goes : {x : A} {xs ks rs : List A} → Parts xs ks rs → Parts (x ∷ xs) ks (x ∷ rs)

-- all may stay
pub all_stay : {A : Type 0} (xs : List A) → Parts xs xs []
all_stay [] = none
all_stay (x ∷ xs) = stays (all_stay xs)

-- what some of those that stay pass, some of all pass
pub any_up : {A : Type 0} (p : A → Bool) {xs ks rs : List A} → Parts xs ks rs → list_any p ks ≡ true → list_any p xs ≡ true
any_up p none h = h
any_up p (stays {x = x} {xs = xs} {ks = ks} s) h =
    ⊎_elim (λ a. or_left (p x) (list_any p xs) a) (λ b. or_right (p x) (list_any p xs) (any_up p s b)) (or_cases (p x) (list_any p ks) h)
any_up p (goes {x = x} {xs = xs} s) h = or_right (p x) (list_any p xs) (any_up p s h)

-- one that passes stays or goes
pub any_split : {A : Type 0} (p : A → Bool) {xs ks rs : List A} → Parts xs ks rs → list_any p xs ≡ true → (list_any p ks ≡ true) ⊎ (list_any p rs ≡ true)
any_split p none h = inl h
any_split p (stays {x = x} {xs = xs} {ks = ks} s) h =
    ⊎_elim (λ a. inl (or_left (p x) (list_any p ks) a))
    (λ b. ⊎_elim (λ c. inl (or_right (p x) (list_any p ks) c)) (λ d. inr d) (any_split p s b))
    (or_cases (p x) (list_any p xs) h)
any_split p (goes {x = x} {xs = xs} {rs = rs} s) h =
    ⊎_elim (λ a. inr (or_left (p x) (list_any p rs) a))
    (λ b. ⊎_elim (λ c. inl c) (λ d. inr (or_right (p x) (list_any p rs) d)) (any_split p s b))
    (or_cases (p x) (list_any p xs) h)

-- where none of those that go passes, one that passes stays
pub any_stays : {A : Type 0} (p : A → Bool) {xs ks rs : List A} → Parts xs ks rs → list_any p rs ≡ false → list_any p xs ≡ true → list_any p ks ≡ true
any_stays p {rs = rs} s n h = ⊎_elim (λ a. a) (λ b. absurd (both_ways (list_any p rs) n b)) (any_split p s h)

-- ---- the parts of a history

put_none : {A : Type 0} (b : Bool) (x : A) (xs : List A) → b ≡ false → prepend_if b x xs ≡ xs
put_none b x xs e = ap (λ c. prepend_if c x xs) e

-- what no event that goes touches is the same for those that stay: a task's own actions
pub own_same : (t : Name) {H K R : History} → Parts H K R → list_any (is_of t) R ≡ false → own t K ≡ own t H
own_same t none n = refl
own_same t (stays {x = v} s) n = ap (λ acts. prepend_if (is_of t v) v.action acts) (own_same t s n)
own_same t (goes {x = v} {xs = H} {rs = R} s) n =
    let o = or_parts (is_of t v) (list_any (is_of t) R) n in
    own_same t s o.1 ∙ sym (put_none (is_of t v) v.action (own t H) o.0)

-- an action that doesn't store to a cell leaves its value
pub not_stored : (c : ℕ) (a : Action) (y : ℤ) → is_store_to c a ≡ false → stored_or c a y ≡ y
not_stored c (Store d x) y n = rw n
not_stored c _ y n = refl

-- the event stores to cell c
abbrev pub stores_to : ℕ → Event → Bool
stores_to c v = is_store_to c v.action

-- a cell's last value
pub last_same : (first : ℤ) (c : ℕ) {H K R : History} → Parts H K R → list_any (stores_to c) R ≡ false → last first c K ≡ last first c H
last_same first c none n = refl
last_same first c (stays {x = v} s) n = ap (stored_or c v.action) (last_same first c s n)
last_same first c (goes {x = v} {xs = H} {rs = R} s) n =
    let o = or_parts (stores_to c v) (list_any (stores_to c) R) n in
    last_same first c s o.1 ∙ sym (not_stored c v.action (last first c H) o.0)

-- what holds of those that stay holds of all: items
pub items_up : (t : Name) (p : Item → Bool) {H K R : History} → Parts H K R → list_any p (items_of t K) ≡ true → list_any p (items_of t H) ≡ true
items_up t p none h = h
items_up t p (stays {x = v} {xs = H} {ks = K} s) h =
    let mine = items_for t v.action in
    list_any-append p mine (items_of t H)
    ∙ ⊎_elim (λ a. or_left (list_any p mine) (list_any p (items_of t H)) a) (λ b. or_right (list_any p mine) (list_any p (items_of t H)) (items_up t p s b))
    (or_cases (list_any p mine) (list_any p (items_of t K)) (sym (list_any-append p mine (items_of t K)) ∙ h))
items_up t p (goes {x = v} {xs = H} s) h =
    list_any-append p (items_for t v.action) (items_of t H) ∙ or_right (list_any p (items_for t v.action)) (list_any p (items_of t H)) (items_up t p s h)

-- pairs of items
pub meet_up : (test : Relation → Bool) (t u : Name) {H K R : History} → Parts H K R → some_meet test (items_of t K) (items_of u K) ≡ true → some_meet test (items_of t H) (items_of u H) ≡ true
meet_up test t u {H} {K} s h =
    any_weaker (λ i. list_any (meets test i) (items_of u K)) (λ i. list_any (meets test i) (items_of u H)) (λ i. items_up u (meets test i) s) (items_of t H)
    (items_up t (λ i. list_any (meets test i) (items_of u K)) s h)

-- relations of siblings
pub before_up : (u t : Name) {H K R : History} → Parts H K R → before K u t ≡ true → before H u t ≡ true
before_up u t {H} {K} s h =
    let o = and_parts (is_elder u t) (some_meet is_before (items_of t K) (items_of u K)) h in
    and_from (is_elder u t) (some_meet is_before (items_of t H) (items_of u H)) o.0 (meet_up is_before t u s o.1)

-- children that a `taskwait` covers
pub covers_up : (t : Name) (items : List Item) (u : Name) {H K R : History} → Parts H K R → covers K t items u ≡ true → covers H t items u ≡ true
covers_up t items u {H} {K} s h =
    let o = and_parts (is_child t u) (has_no_items items || some_meet is_before items (items_of u K)) h in
    and_from (is_child t u) (has_no_items items || some_meet is_before items (items_of u H)) o.0
    (⊎_elim (λ a. or_left (has_no_items items) _ a)
    (λ b. or_right (has_no_items items) _ (any_weaker (λ i. list_any (meets is_before i) (items_of u K)) (λ i. list_any (meets is_before i) (items_of u H)) (λ i. items_up u (meets is_before i) s) items b))
    (or_cases (has_no_items items) (some_meet is_before items (items_of u K)) o.1))

apart_half : (u t : Name) {H K R : History} → Parts H K R → (is_elder u t && some_meet is_apart (items_of t K) (items_of u K)) ≡ true → (is_elder u t && some_meet is_apart (items_of t H) (items_of u H)) ≡ true
apart_half u t {H} {K} s h =
    let o = and_parts (is_elder u t) (some_meet is_apart (items_of t K) (items_of u K)) h in
    and_from (is_elder u t) (some_meet is_apart (items_of t H) (items_of u H)) o.0 (meet_up is_apart t u s o.1)

-- exclusions
pub apart_up : (u t : Name) {H K R : History} → Parts H K R → apart K u t ≡ true → apart H u t ≡ true
apart_up u t {H} {K} s h =
    let x = is_elder u t && some_meet is_apart (items_of t H) (items_of u H) in
    let y = is_elder t u && some_meet is_apart (items_of u H) (items_of t H) in
    ⊎_elim (λ a. or_left x y (apart_half u t s a)) (λ b. or_right x y (apart_half t u s b))
    (or_cases (is_elder u t && some_meet is_apart (items_of t K) (items_of u K)) (is_elder t u && some_meet is_apart (items_of u K) (items_of t K)) h)

-- tasks that were generated
pub spawned_up : (t : Name) {H K R : History} → Parts H K R → IsSpawned K t → IsSpawned H t
spawned_up [] s h = refl
spawned_up (n ∷ t) s h = any_up (spawns (n ∷ t)) s h
