-- The newest step of a kind is at the last of the indexes that are of the kind.
use Rattle.std.proofs.Common.{◌≡◌, ◌<◌, ◌≤◌, ◌+◌, ◌-◌, ℕ, zero, suc, List, [], ◌∷◌, ◌++◌, Bool, true, false, cond, Option, Some, None, refl, sym, ap, ◌∙◌, length, map, take, get_or, slice_get, reverse, arith}
use Rattle.std.proofs.Math.Seq.{take-length}
use Rattle.std.proofs.lemmas.List.{length-map, length-reverse, length-take-le, reverse-append, reverse-reverse, take_all, take_more, get_or_default}
use Rattle.std.proofs.lemmas.Option.{slice_get_read, slice_get-get_or, get_or_from_slice_get}
use Rattle.tb_model.specs.declared.action.Action.{Action}
use Rattle.tb_model.specs.declared.action.Action.TheVariants.{Store}
use Rattle.tb_model.specs.declared.event.Event.{Event}
use Rattle.tb_model.specs.declared.step_id.StepId.{StepId}
use Rattle.tb_model.specs.Facts.{is_store_to, touches}
use Rattle.tb_model.specs.Lines.{Departure}
use Rattle.tb_model.specs.Needs.{step_of}
use Rattle.tb_places.specs.Where.{places_where}
use Rattle.tb_places.proofs.WhereLemmas.{places_push_yes, places_push_no}
use Rattle.tb_steps.specs.Entries.{Entry, departure}
use Rattle.tb_steps.specs.Scans.{history_of, step_behind, found_step}
use Rattle.tb_steps.proofs.ScanLemmas.{history_more}
use Rattle.tb_core.proofs.RenumberLemmas.{some_entry}
use Rattle.tb_next.specs.Newest.{last_where}

-- ---- lists

last_parts : (xs ys : List ℕ) (x y : ℕ) → xs ++ x ∷ [] ≡ ys ++ y ∷ [] → (xs ≡ ys) × (x ≡ y)
last_parts xs ys x y e =
    let turned : (x ∷ reverse xs) ≡ (y ∷ reverse ys) = sym (reverse-append xs (x ∷ [])) ∙ ap reverse e ∙ reverse-append ys (y ∷ []) in
    let others : reverse xs ≡ reverse ys = cc in
    (sym (reverse-reverse xs) ∙ ap reverse others ∙ reverse-reverse ys, cc)

never_empty : (xs : List ℕ) (x : ℕ) → [] ≡ xs ++ x ∷ [] → ⊥
never_empty [] x e = cc
never_empty (y ∷ xs) x e = cc

cut_last : (xs : List ℕ) (x : ℕ) → slice_get xs (length xs - 1) ≡ Some x → take (length xs - 1) xs ++ x ∷ [] ≡ xs
cut_last [] x h = absurd (none h)
  where
    none : None ≡ Some x → ⊥
    none e = cc
cut_last (y ∷ xs) x h =
    let n : ℕ = length (y ∷ xs) - 1 in
    sym (ap (λ z. take n (y ∷ xs) ++ z ∷ []) (get_or_from_slice_get (y ∷ xs) n x 0 h)) ∙ sym (take_more (y ∷ xs) n 0 (omega arith)) ∙ take_all (n + 1) (y ∷ xs) (omega arith)

-- ---- indexes of the steps that pass a test, among which are all of the kind

module _ (wide : Event → Bool) (passes : Action → Bool) (entries : List Entry) where
  -- the indexes of the steps in front of this index
  abbrev places_before : ℕ → List ℕ
  places_before n = places_where wide (reverse (history_of (take n entries)))

  -- the last of the kind in front of it
  abbrev last_before : ℕ → Option StepId
  last_before n = last_where passes (history_of (take n entries))

  -- so many of these indexes are left: they are those in front of some index, from which on there
  -- is none of the kind
  pub record AreLeft (places : List ℕ) (left : ℕ) : Type 0 where
    pub front : ℕ
    pub within : front ≤ length entries
    pub few : left ≤ length places
    pub are : take left places ≡ places_before front
    pub none : last_before front ≡ last_where passes (history_of entries)

  -- the last of the indexes in front of index n is this, and these are the others
  pub record IsLast (n : ℕ) (others : List ℕ) (at : ℕ) : Type 0 where
    pub within : at < n
    pub here : (e : Entry) → e ≡ get_or entries at e → wide e.event ≡ true
    pub rest : others ≡ places_before at
    pub none : last_before (at + 1) ≡ last_before n

  module _ (wider : (v : Event) → wide v ≡ false → passes v.action ≡ false) where
    -- the entry at index n
    module _ (n : ℕ) (e : Entry) (within : n < length entries) (here : e ≡ get_or entries n e) where
      more : history_of (take (suc n) entries) ≡ e.event ∷ history_of (take n entries)
      more =
          let next : suc n ≡ n + 1 = omega arith in
          ap (λ k. history_of (take k entries)) next ∙ history_more entries n e within here

      turned : reverse (history_of (take (suc n) entries)) ≡ reverse (history_of (take n entries)) ++ e.event ∷ []
      turned = ap reverse more ∙ reverse-append (e.event ∷ []) (history_of (take n entries))

      counted : length (reverse (history_of (take n entries))) ≡ n
      counted =
          length-reverse (history_of (take n entries))
          ∙ length-map (map departure (reverse (take n entries))) (λ (d : Departure). d.event)
          ∙ length-map (reverse (take n entries)) departure
          ∙ length-reverse (take n entries)
          ∙ length-take-le n entries (omega (arith, within))

      places_yes : wide e.event ≡ true → places_before (suc n) ≡ places_before n ++ n ∷ []
      places_yes h = ap (places_where wide) turned ∙ places_push_yes wide (reverse (history_of (take n entries))) e.event h ∙ ap (λ k. places_before n ++ k ∷ []) counted

      places_no : wide e.event ≡ false → places_before (suc n) ≡ places_before n
      places_no h = ap (places_where wide) turned ∙ places_push_no wide (reverse (history_of (take n entries))) e.event h

      last_no : passes e.event.action ≡ false → last_before (suc n) ≡ last_before n
      last_no h = ap (last_where passes) more ∙ ap (λ b. cond b (Some (step_of (history_of (take n entries)) e.event)) (last_before n)) h

      last_yes : passes e.event.action ≡ true → last_before (suc n) ≡ Some (step_of (history_of (take n entries)) e.event)
      last_yes h = ap (last_where passes) more ∙ ap (λ b. cond b (Some (step_of (history_of (take n entries)) e.event)) (last_before n)) h

      -- the step there is the last of the kind, where none comes after it
      pub found_here : passes e.event.action ≡ true → last_before (n + 1) ≡ last_where passes (history_of entries) → found_step entries (Some n) ≡ last_where passes (history_of entries)
      found_here h none =
          let next : suc n ≡ n + 1 = omega arith in
          ap (step_behind (take n entries)) (slice_get_read entries (length entries) n e refl within here) ∙ sym (last_yes h) ∙ ap last_before next ∙ none

    last_place : (n : ℕ) → n ≤ length entries → (others : List ℕ) (at : ℕ) → others ++ at ∷ [] ≡ places_before n → IsLast n others at
    last_place zero within others at e = absurd (never_empty others at (sym e))
    last_place (suc n) within others at e = by (wide x.event) refl (last_place n (omega (arith, within)) others at)
      where
        inside : n < length entries
        inside = omega (arith, within)

        found : (x : Entry) × (x ≡ get_or entries n x)
        found = some_entry entries n inside

        x : Entry
        x = found.0

        by : (b : Bool) → wide x.event ≡ b → (others ++ at ∷ [] ≡ places_before n → IsLast n others at) → IsLast (suc n) others at
        by true h rest =
            let p = last_parts others (places_before n) at n (e ∙ places_yes n x inside found.1 h) in
            let next : at + 1 ≡ suc n = omega (arith, p.1) in
            record {
              within = omega (arith, p.1);
              here = λ y is. ap (λ (z : Entry). wide z.event) (is ∙ ap (λ k. get_or entries k y) p.1 ∙ get_or_default entries n y x inside ∙ sym found.1) ∙ h;
              rest = p.0 ∙ ap places_before (sym p.1);
              none = ap last_before next;
            }
        by false h rest =
            let r = rest (e ∙ places_no n x inside found.1 h) in
            record { within = omega (arith, r.within); here = r.here; rest = r.rest; none = r.none ∙ sym (last_no n x inside found.1 (wider x.event h)) }

    no_place : (n : ℕ) → n ≤ length entries → [] ≡ places_before n → None ≡ last_before n
    no_place zero within e = refl
    no_place (suc n) within e = by (wide x.event) refl (no_place n (omega (arith, within)))
      where
        inside : n < length entries
        inside = omega (arith, within)

        found : (x : Entry) × (x ≡ get_or entries n x)
        found = some_entry entries n inside

        x : Entry
        x = found.0

        by : (b : Bool) → wide x.event ≡ b → ([] ≡ places_before n → None ≡ last_before n) → None ≡ last_before (suc n)
        by true h rest = absurd (never_empty (places_before n) n (e ∙ places_yes n x inside found.1 h))
        by false h rest = rest (e ∙ places_no n x inside found.1 h) ∙ sym (last_no n x inside found.1 (wider x.event h))

    module _ (places : List ℕ) where
      -- ---- the walk over the indexes from their end

      pub all_left : places ≡ places_where wide (reverse (history_of entries)) → AreLeft places (length places)
      all_left is = record {
        front = length entries;
        within = omega arith;
        few = omega arith;
        are = take-length places ∙ is ∙ ap (λ es. places_where wide (reverse (history_of es))) (sym (take-length entries));
        none = ap (λ es. last_where passes (history_of es)) (take-length entries);
      }

      pub none_left : (left : ℕ) → left ≤ 0 → AreLeft places left → None ≡ last_where passes (history_of entries)
      none_left left out l =
          let all : left ≡ 0 = omega (arith, out) in
          no_place l.front l.within (ap (λ n. take n places) (sym all) ∙ l.are) ∙ l.none

      module _ (left : ℕ) (some : 0 < left) (l : AreLeft places left) where
        abbrev at : ℕ
        at = get_or places (left - 1) 0

        next : IsLast l.front (take (left - 1) places) at
        next =
            let same : (left - 1) + 1 ≡ left = omega (arith, some) in
            last_place l.front l.within (take (left - 1) places) at (sym (take_more places (left - 1) 0 (omega (arith, some, l.few))) ∙ ap (λ n. take n places) same ∙ l.are)

        pub next_within : at < length entries
        next_within = omega (arith, next.within, l.within)

        -- what was read there is what the step did
        module _ (a : Action) (read : (e : Entry) → e ≡ get_or entries at e → a ≡ e.event.action) where
          x : (e : Entry) × (e ≡ get_or entries at e)
          x = some_entry entries at next_within

          did : (b : Bool) → passes a ≡ b → passes x.0.event.action ≡ b
          did b h = ap passes (sym (read x.0 x.1)) ∙ h

          pub next_found : passes a ≡ true → found_step entries (Some at) ≡ last_where passes (history_of entries)
          next_found h = found_here at x.0 next_within x.1 (did true h) (next.none ∙ l.none)

          pub next_passed : passes a ≡ false → AreLeft places (left - 1)
          next_passed h =
              let after : suc at ≡ at + 1 = omega arith in
              record {
                front = at;
                within = omega (arith, next_within);
                few = omega (arith, l.few);
                are = next.rest;
                none = sym (last_no at x.0 next_within x.1 (did false h)) ∙ ap last_before after ∙ next.none ∙ l.none;
              }

      -- ---- the last of all the indexes

      module _ (is : places ≡ places_where wide (reverse (history_of entries))) where
        whole : places ≡ places_before (length entries)
        whole = is ∙ ap (λ es. places_where wide (reverse (history_of es))) (sym (take-length entries))

        module _ (at : ℕ) (last : Some at ≡ slice_get places (length places - 1)) where
          last_of_all : IsLast (length entries) (take (length places - 1) places) at
          last_of_all = last_place (length entries) (omega arith) (take (length places - 1) places) at (cut_last places at (sym last) ∙ whole)

          pub last_within : at < length entries
          last_within = last_of_all.within

          pub last_found : ((v : Event) → wide v ≡ true → passes v.action ≡ true) → found_step entries (Some at) ≡ last_where passes (history_of entries)
          last_found exact =
              let k = some_entry entries at last_within in
              found_here at k.0 last_within k.1 (exact _ (last_of_all.here k.0 k.1)) (last_of_all.none ∙ ap (λ es. last_where passes (history_of es)) (take-length entries))

        pub none_of_all : None ≡ slice_get places (length places - 1) → None ≡ last_where passes (history_of entries)
        none_of_all none = no_place (length entries) (omega arith) (empty places none ∙ whole) ∙ ap (λ es. last_where passes (history_of es)) (take-length entries)
          where
            empty : (xs : List ℕ) → None ≡ slice_get xs (length xs - 1) → [] ≡ xs
            empty [] h = refl
            empty (x ∷ xs) h = absurd (some (h ∙ slice_get-get_or (x ∷ xs) (length (x ∷ xs) - 1) 0 (omega arith)))
              where
                some : None ≡ Some (get_or (x ∷ xs) (length (x ∷ xs) - 1) 0) → ⊥
                some e = cc

-- ---- which kinds

-- a step that doesn't touch the cell is no store to it
pub touches_wider : (c : ℕ) (v : Event) → touches c v.action ≡ false → is_store_to c v.action ≡ false
touches_wider c v = by v.action
  where
    by : (a : Action) → touches c a ≡ false → is_store_to c a ≡ false
    by (Store d x) h = h
    by _ h = refl
