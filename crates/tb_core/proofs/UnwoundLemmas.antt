-- What is stored is taken back as the stored steps are that it says.
use Rattle.std.proofs.Common.{◌≡◌, ◌≢◌, ◌<◌, ◌≤◌, ◌+◌, ◌-◌, ℕ, zero, suc, List, [], ◌∷◌, ◌++◌, true, Option, Some, IsSome, length, take, drop, set, get_or, map, reverse, refl, sym, ap, ap₂, ◌∙◌, subst, arith}
use Rattle.std.specs.List.{AllZip, AllByRecursion}
use Rattle.std.specs.Option.{option_to_list}
use Rattle.std.proofs.lemmas.List.{drop-set, drop_more, get_or-take, length-map, length-reverse, length-set, length-take-le, reverse-append, reverse-reverse, take-set, take-take, take_more}
use Rattle.std.proofs.Math.Seq.{drop-length, take-length}
use Rattle.std.proofs.lemmas.Slice.Zip.{AllZip-long}
use Rattle.tb_model.specs.declared.event.Event.{Event}
use Rattle.tb_model.specs.declared.step_id.StepId.{StepId}
use Rattle.tb_model.specs.Lines.{Departure}
use Rattle.tb_places.specs.Renumbering.{goes_at, left_from}
use Rattle.tb_undo.specs.State.{Seen as Tables}
use Rattle.tb_undo.specs.Steps.{Stands, IsWithout}
use Rattle.tb_core.specs.declared.entry.Entry.{Entry as Stored}
use Rattle.tb_core.specs.declared.removed.Removed.{Removed}
use Rattle.tb_core.specs.declared.rollback.Rollback.{Rollback}
use Rattle.tb_steps.specs.Entries.{Entry, departure}
use Rattle.tb_core.specs.Packing.{replaced_in}
use Rattle.tb_core.specs.Rolled.{IsOfHistory, removed_places}
use Rattle.tb_core.specs.Soundness.{names_in}
use Rattle.tb_core.specs.Storing.{IsStored, replaced_stored}
use Rattle.tb_core.specs.Unwinding.{events, AreTied, StayTied, Unwinds}
use Rattle.tb_core.specs.UnwindingStored.{UnwindsAt, UnwoundOf}
use Rattle.tb_core.proofs.HistoryLemmas.{zip_at}
use Rattle.tb_core.proofs.RenumberLemmas.{apart, left_gone, left_kept, left_whole, same_place, some_entry}
use Rattle.tb_core.proofs.StoredLemmas.{same_record, same_event, made}
use Rattle.tb_core.proofs.RolledLemmas.{places_below, stays, stays_tied, goes, goes_tied, gone_tied, some_step, its_name, unwound, first_unwinds, first_tied}

-- at first
pub unwinds_first : (old : List Entry) (before : Tables) (ss : List Stored) (r : Rollback) (n : ℕ) (steps : List StepId) (removed : List Removed)
    → AllZip (IsStored (names_in before)) ss old → IsOfHistory (events (reverse old)) r
    → removed ≡ [] → n ≡ length r.places.items → steps ≡ r.steps.items → UnwindsAt r.step old before ss ss before (take n r.places.items) (drop n r.places.items) steps removed (length ss)
unwinds_first old before ss r n steps removed z ready none all names =
    let whole : take (length ss) old ≡ old = ap (λ m. take m old) (sym (AllZip-long (IsStored (names_in before)) ss old z)) ∙ take-length old in
    let past : drop n r.places.items ≡ [] = ap (λ m. drop m r.places.items) all ∙ drop-length r.places.items in
    record {
      within = omega arith;
      len = refl;
      same = refl;
      others = refl;
      behind = λ at less. ap (goes_at at) past;
      kept = [];
      stay = sym (ap (left_from (length ss) (drop n r.places.items)) (ap (λ m. drop m old) (sym (AllZip-long (IsStored (names_in before)) ss old z)) ∙ drop-length old));
      unwinds = subst (λ l. Unwinds r.step old l [] (take n r.places.items) steps removed) (sym whole) (first_unwinds r old (take n r.places.items) steps removed ready none (ap (λ m. take m r.places.items) all ∙ take-length r.places.items) names);
      tied = subst (λ l. StayTied (reverse old) before ([] ++ reverse l) before) (sym whole) (first_tied old before);
    }

module _ (e : StepId) (old : List Entry) (before : Tables) (ss now : List Stored) (tables : Tables) (ps : List ℕ) (at : ℕ) (done : List ℕ)
    (steps : List StepId) (removed : List Removed) (long : length old ≡ length ss) where
  abbrev UnwindsTo : ℕ → Type 0
  UnwindsTo n = UnwindsAt e old before ss now tables (ps ++ at ∷ []) done steps removed n

  abbrev front : ℕ → List Entry
  front n = take n old

  many : (n : ℕ) → n ≤ length ss → length (front n) ≡ n
  many n within = length-take-le n old (omega (arith, within, long))

  more : (n : ℕ) (u : Entry) → n < length ss → u ≡ get_or old n u → front (n + 1) ≡ front n ++ u ∷ []
  more n u within here = take_more old n u (omega (arith, within, long)) ∙ ap (λ x. front n ++ x ∷ []) (sym here)

  -- the next to go is one of those that are as they were
  next_below : (n : ℕ) → UnwindsTo n → at < n
  next_below n u =
      let flipped : removed_places e (events (reverse (front n))) ≡ at ∷ reverse ps =
      sym (reverse-reverse (removed_places e (events (reverse (front n))))) ∙ ap reverse (sym u.unwinds.places_left) ∙ reverse-append ps (at ∷ []) in
      let below = (subst (AllByRecursion (λ p. p < length (events (reverse (front n))))) flipped (places_below e (events (reverse (front n))))).0 in
      let count = length-map (map departure (reverse (front n))) (λ (d : Departure). d.event) ∙ length-map (reverse (front n)) departure ∙ length-reverse (front n) ∙ many n u.within in
      omega (arith, below, count)

  -- one that stays is passed
  passes : (n : ℕ) → at < n → UnwindsTo (n + 1) → UnwindsTo n
  passes n behind s =
      let within : n < length ss = omega (arith, s.within) in
      let u = some_entry old n (omega (arith, within, long)) in
      let x = some_entry ss n within in
      let off = more n u.0 within u.1 in
      let other : length (front n) ≢ at = λ h. absurd (omega (arith, h, many n (omega (arith, within)), behind)) in
      let none = s.behind n (omega arith) in
      let both : get_or now n x.0 ≡ x.0 =
      sym (get_or-take (n + 1) now n x.0 (omega arith)) ∙ ap (λ l. get_or l n x.0) s.same ∙ get_or-take (n + 1) ss n x.0 (omega arith) ∙ sym x.1 in
      let here : drop n now ≡ x.0 ∷ drop (n + 1) now = drop_more now n x.0 (omega (arith, within, s.len)) ∙ ap (λ y. y ∷ drop (n + 1) now) both in
      let there : drop n ss ≡ x.0 ∷ drop (n + 1) ss = drop_more ss n x.0 within ∙ ap (λ y. y ∷ drop (n + 1) ss) (sym x.1) in
      let next : drop n old ≡ u.0 ∷ drop (n + 1) old = drop_more old n u.0 (omega (arith, within, long)) ∙ ap (λ y. y ∷ drop (n + 1) old) (sym u.1) in
      record {
        within = omega (arith, within);
        len = s.len;
        same = sym (take-take n (n + 1) now (omega arith)) ∙ ap (take n) s.same ∙ take-take n (n + 1) ss (omega arith);
        others =
            ap (left_from n done) here ∙ left_kept n done x.0 (drop (n + 1) now) none ∙ ap (λ l. x.0 ∷ l) s.others
            ∙ sym (ap (left_from n done) there ∙ left_kept n done x.0 (drop (n + 1) ss) none);
        behind = λ j less. s.behind j (omega (arith, less));
        kept = s.kept ++ u.0 ∷ [];
        stay = reverse-append s.kept (u.0 ∷ []) ∙ ap (λ l. u.0 ∷ l) s.stay ∙ sym (ap (left_from n done) next ∙ left_kept n done u.0 (drop (n + 1) old) none);
        unwinds = stays e old (front (n + 1)) (front n) (Some u.0) u.0 off refl s.kept ps (Some at) at refl steps removed s.unwinds other (s.kept ++ u.0 ∷ []) refl;
        tied = stays_tied e old (front (n + 1)) (front n) (Some u.0) u.0 off refl s.kept ps (Some at) at refl steps removed s.unwinds other (s.kept ++ u.0 ∷ []) refl before tables s.tied;
      }

  -- all that stay, down to the next to go
  passes_all : (m : ℕ) → UnwindsTo (at + 1 + m) → UnwindsTo (at + 1)
  passes_all zero s = let same : at + 1 + 0 ≡ at + 1 = omega arith in subst UnwindsTo same s
  passes_all (suc m) s =
      let same : at + 1 + suc m ≡ at + 1 + m + 1 = omega arith in
      passes_all m (passes (at + 1 + m) (omega arith) (subst UnwindsTo same s))

  -- it goes
  module _ (n : ℕ) (state : UnwindsTo n) (zipped : AllZip (IsStored (names_in tables)) ss old) where
    abbrev last : UnwindsTo (at + 1)
    last =
        let below = next_below n state in
        let same : n ≡ at + 1 + (n - (at + 1)) = omega (arith, below) in
        passes_all (n - (at + 1)) (subst UnwindsTo same state)

    pub inside : at < length ss
    inside = omega (arith, last.within)

    pub inside_now : at < length now
    inside_now = omega (arith, last.within, last.len)

    abbrev old_one : (u : Entry) × (u ≡ get_or old at u)
    old_one = some_entry old at (omega (arith, inside, long))

    abbrev u : Entry
    u = old_one.0

    off : front (at + 1) ≡ front at ++ u ∷ []
    off = more at u inside old_one.1

    here : length (front at) ≡ at
    here = many at (omega (arith, inside))

    pub some_name : (steps' : List StepId) (i : Option StepId) → steps ≡ steps' ++ option_to_list i → (0 < length steps → IsSome i) → IsSome i
    some_name steps' i out tells = some_step e old (front (at + 1)) (front at) (Some u) u off refl last.kept ps (Some at) at refl steps removed last.unwinds here steps' i out tells

    module _ (x : Stored) (read : x ≡ get_or now at x) (steps' : List StepId) (i : Option StepId) (id : StepId) (out : steps ≡ steps' ++ option_to_list i)
        (name : i ≡ Some id) where
      is_stored : IsStored (names_in tables) x u
      is_stored =
          zip_at (IsStored (names_in tables)) ss old at x u zipped inside
          (read ∙ sym (get_or-take (at + 1) now at x (omega arith)) ∙ ap (λ l. get_or l at x) last.same ∙ get_or-take (at + 1) ss at x (omega arith)) old_one.1

      its_event : made id.task x.action ≡ u.event
      its_event =
          same_event (names_in tables) x u id is_stored
          (ap (λ (j : StepId). j.task) (its_name e old (front (at + 1)) (front at) (Some u) u off refl last.kept ps (Some at) at refl steps removed last.unwinds here steps' i id out name))

      its_record : replaced_stored x ≡ replaced_in u
      its_record = same_record (names_in tables) x u is_stored

      -- the tables may take it back
      pub goes_stands : AreTied (reverse old) before → Stands tables (made id.task x.action) (replaced_stored x)
      goes_stands tied =
          subst (λ v. Stands tables v (replaced_stored x)) (sym its_event)
          (subst (Stands tables u.event) (sym its_record) (goes_tied e old (front (at + 1)) (front at) (Some u) u off refl last.kept ps (Some at) at refl steps removed last.unwinds here before tables tied last.tied))

      pub goes_stored : (new : Tables) → IsWithout tables (made id.task x.action) (replaced_stored x) new → (removed' : List Removed)
          → removed' ≡ removed ++ (record { id = id; action = x.action }) ∷ []
          → (hollow : Stored) (now' : List Stored) → now' ≡ set now at hollow → (ps' done' : List ℕ) → ps' ≡ ps → done' ≡ at ∷ done → UnwindsAt e old before ss now' new ps' done' steps' removed' at
      goes_stored new without removed' told_more hollow now' put ps' done' fewer grown =
          subst (λ d. UnwindsAt e old before ss now' new ps' d steps' removed' at) (sym grown) (record {
            within = omega (arith, inside);
            len = ap length put ∙ length-set now at hollow ∙ last.len;
            same = ap (take at) put ∙ take-set now at hollow ∙ sym (take-take at (at + 1) now (omega arith)) ∙ ap (take at) last.same ∙ take-take at (at + 1) ss (omega arith);
            others =
                ap (λ l. left_from at (at ∷ done) (drop at l)) put ∙ ap (left_from at (at ∷ done)) (drop-set now at hollow inside_now)
                ∙ left_gone at (at ∷ done) hollow (drop (at + 1) now) itself ∙ last.others ∙ sym (gone_from ss inside);
            behind = λ j less. apart at j less;
            kept = last.kept;
            stay = last.stay ∙ sym (gone_from old (omega (arith, inside, long)));
            unwinds =
                goes e old (front (at + 1)) (front at) (Some u) u off refl last.kept ps (Some at) at refl steps removed last.unwinds here steps' i id out name removed'
                (told_more ∙ ap (λ (v : Event). removed ++ told v ∷ []) its_event) ps' (sym fewer);
            tied =
                gone_tied e old (front (at + 1)) (front at) (Some u) u off refl last.kept ps (Some at) at refl steps removed last.unwinds here before tables new last.tied
                (subst (λ r. IsWithout tables u.event r new) its_record (subst (λ v. IsWithout tables v (replaced_stored x) new) its_event without));
          })
        where
          told : Event → Removed
          told v = record { id = id; action = v.action }

          itself : goes_at at (at ∷ done) ≡ true
          itself = same_place at at refl

          gone_from : {X : Type 0} (xs : List X) → at < length xs → left_from at (at ∷ done) (drop at xs) ≡ left_from (at + 1) done (drop (at + 1) xs)
          gone_from xs l =
              let y = some_entry xs at l in
              ap (left_from at (at ∷ done)) (drop_more xs at y.0 l) ∙ left_gone at (at ∷ done) (get_or xs at y.0) (drop (at + 1) xs) itself

-- ---- the loop over the indexes

module _ (e : StepId) (old : List Entry) (before : Tables) (ss now : List Stored) (tables : Tables) (places : List ℕ) (next : ℕ) (steps : List StepId)
    (removed : List Removed) (count : ℕ) (u : UnwindsAt e old before ss now tables (take next places) (drop next places) steps removed count) where
  -- the next index to go
  pub next_state : (at : ℕ) → 0 < next → next ≤ length places → at ≡ get_or places (next - 1) at
      → UnwindsAt e old before ss now tables (take (next - 1) places ++ at ∷ []) (drop next places) steps removed count
  next_state at some within here =
      let same : next ≡ next - 1 + 1 = omega (arith, some) in
      let last : take next places ≡ take (next - 1) places ++ at ∷ [] =
      ap (λ n. take n places) same ∙ take_more places (next - 1) at (omega (arith, some, within)) ∙ ap (λ p. take (next - 1) places ++ p ∷ []) (sym here) in
      subst (λ l. UnwindsAt e old before ss now tables l (drop next places) steps removed count) last u

  -- none is to go any longer
  pub left_stored : next ≡ 0 → left_from 0 places now ≡ left_from 0 places ss
  left_stored none =
      let going : drop next places ≡ places = ap (λ n. drop n places) none in
      subst (λ gs. left_from 0 gs now ≡ left_from 0 gs ss) going
      (sym (left_whole count (drop next places) now u.behind) ∙ ap₂ (λ l r. l ++ r) u.same u.others ∙ left_whole count (drop next places) ss u.behind)

  pub unwound_of : next ≡ 0 → UnwoundOf e places old before tables removed
  unwound_of none =
      let going : drop next places ≡ places = ap (λ n. drop n places) none in
      record {
        entries = take count old;
        kept = u.kept;
        left = subst (λ gs. take count old ++ reverse u.kept ≡ left_from 0 gs old) going (ap (λ l. take count old ++ l) u.stay ∙ left_whole count (drop next places) old u.behind);
        unwound = unwound e old (take count old) u.kept (take next places) steps removed before tables (ap (λ n. take n places) none) u.unwinds u.tied;
      }

pub next_done : (places : List ℕ) (next at : ℕ) → 0 < next → next ≤ length places → at ≡ get_or places (next - 1) at
    → drop (next - 1) places ≡ at ∷ drop next places
next_done places next at some within here =
    let same : next - 1 + 1 ≡ next = omega (arith, some) in
    drop_more places (next - 1) at (omega (arith, some, within)) ∙ ap₂ (λ p n. p ∷ drop n places) (sym here) same
