-- What is stored says one history alone: that of which the tables are.
use Rattle.std.proofs.Common.{◌≡◌, ◌≢◌, ◌<◌, ℕ, ℤ, zero, suc, List, [], ◌∷◌, ◌++◌, Bool, true, false, cond, length, map, reverse, remove, slice_get, refl, sym, ap, ◌∙◌, subst, arith, Some, None}
use Rattle.std.specs.List.{AllZip}
use Rattle.std.specs.Option.{option_map_or}
use Rattle.std.proofs.lemmas.List.{length-append, reverse-append, reverse-reverse, get_or_append_left}
use Rattle.std.proofs.lemmas.Option.{slice_get_within, slice_get-get_or, get_or_from_slice_get}
use Rattle.std.proofs.lemmas.Slice.Zip.{all_zipped_more}
use Rattle.tb_model.specs.declared.action.Action.{Action}
use Rattle.tb_model.specs.Names.{Name, same_name}
use Rattle.tb_model.specs.Facts.{is_of, own, is_spawned}
use Rattle.tb_model.specs.Legal.{Cells, Legal}
use Rattle.tb_model.specs.Lines.{Departure, events_of, line_of}
use Rattle.tb_model.specs.State.{spawn_of, called_by}
use Rattle.tb_model.proofs.FactsLemmas.{acted_spawned, own_mine, own_other}
use Rattle.tb_model.proofs.TestLemmas.{same_refl, same_true}
use Rattle.tb_undo.specs.State.{Seen as Tables, IsState, known_task}
use Rattle.tb_undo.specs.Steps.{replaced_for}
use Rattle.tb_undo.specs.Tasks.{Task}
use Rattle.tb_wait.specs.Kin.{KeepsNames}
use Rattle.tb_core.specs.declared.entry.Entry.{Entry as Stored}
use Rattle.tb_steps.specs.Entries.{Entry, departure}
use Rattle.tb_core.specs.Packing.{replaced_in}
use Rattle.tb_core.specs.Soundness.{names_in, AreRecords, IsSound}
use Rattle.tb_core.specs.Storing.{IsStored, line_in, name_of, lines_before, entries_of, entries_in}

-- ---- lists that go with each other

zip_reverse : {A B : Type 0} (R : A → B → Type 0) (xs : List A) (ys : List B) → AllZip R xs ys → AllZip R (reverse xs) (reverse ys)
zip_reverse R [] [] z = tt
zip_reverse R [] (y ∷ ys) z = absurd z
zip_reverse R (x ∷ xs) [] z = absurd z
zip_reverse R (x ∷ xs) (y ∷ ys) z =
    subst (λ l. AllZip R l (reverse (y ∷ ys))) (sym (reverse-append (x ∷ []) xs))
    (subst (λ l. AllZip R (reverse xs ++ x ∷ []) l) (sym (reverse-append (y ∷ []) ys)) (all_zipped_more R (reverse xs) (reverse ys) x y (zip_reverse R xs ys z.1) z.0))

pub zip_remove : {A B : Type 0} (R : A → B → Type 0) (xs : List A) (ys : List B) (i : ℕ) → AllZip R xs ys → AllZip R (remove xs i) (remove ys i)
zip_remove R [] [] zero z = tt
zip_remove R [] [] (suc i) z = tt
zip_remove R [] (y ∷ ys) i z = absurd z
zip_remove R (x ∷ xs) [] i z = absurd z
zip_remove R (x ∷ xs) (y ∷ ys) zero z = z.1
zip_remove R (x ∷ xs) (y ∷ ys) (suc i) z = (z.0, zip_remove R xs ys i z.1)

-- ---- names retain their ids

kept_stored : (old new : List Name) (s : Stored) (e : Entry) → (more : List Name) → new ≡ old ++ more → IsStored old s e → IsStored new s e
kept_stored old new s e more grown is =
    let within : s.task < length old = slice_get_within old s.task e.event.task is.task in
    let longer : s.task < length (old ++ more) = omega (arith, within, length-append old more) in
    let t = e.event.task in
    record {
      task =
          ap (λ names. slice_get names s.task) grown ∙ slice_get-get_or (old ++ more) s.task t longer
          ∙ ap (λ n. Some n) (get_or_append_left old more t s.task within ∙ get_or_from_slice_get old s.task t t is.task);
      action = is.action;
      at = is.at;
      number = is.number;
    }

pub all_kept : (old new : Tables) (ss : List Stored) (es : List Entry) → KeepsNames old.waits.tasks new.waits.tasks → AllZip (IsStored (names_in old)) ss es
    → AllZip (IsStored (names_in new)) ss es
all_kept old new [] [] keeps z = tt
all_kept old new [] (e ∷ es) keeps z = absurd z
all_kept old new (s ∷ ss) [] keeps z = absurd z
all_kept old new (s ∷ ss) (e ∷ es) keeps z = (kept_stored (names_in old) (names_in new) s e keeps.0 keeps.1 z.0, all_kept old new ss es keeps z.1)

-- ---- the lines

-- where a task has acted, the line of its body doesn't count
any_body : (t : Name) (b c : ℕ) (D : List Departure) → own t (events_of D) ≢ [] → line_of b t D ≡ line_of c t D
any_body t b c [] acted = absurd (acted refl)
any_body t b c (d ∷ D) acted = by (any_body t b c D) (is_of t d.event) refl
  where
    by : (own t (events_of D) ≢ [] → line_of b t D ≡ line_of c t D) → (x : Bool) → is_of t d.event ≡ x → line_of b t (d ∷ D) ≡ line_of c t (d ∷ D)
    by rest true h = ap (λ x. cond x d.to (line_of b t D)) h ∙ sym (ap (λ x. cond x d.to (line_of c t D)) h)
    by rest false h =
        ap (λ x. cond x d.to (line_of b t D)) h ∙ rest (λ none. acted (own_other t d.event (events_of D) h ∙ none))
        ∙ sym (ap (λ x. cond x d.to (line_of c t D)) h)

-- the tables say the line of each task that has acted
tables_tell : (first : Cells) (root_line : ℕ) (D : List Departure) (tables : Tables) → Legal first (events_of D) → IsState first root_line D tables
    → (t : Name) → own t (events_of D) ≢ []
    → line_in tables t ≡ line_of (called_by root_line (spawn_of t (events_of D))).line t D
tables_tell first root_line D tables legal state t acted =
    let there : is_spawned (events_of D) t ≡ true = acted_spawned first (events_of D) t legal acted in
    ap (λ o. option_map_or (λ (k : Task). k.at) o 0) (state.of_tasks.tasks t ∙ ap (λ b. cond b (Some (known_task root_line D t)) None) there)

-- the lines are those of the history, for who has acted
abbrev AreLines : (Name → ℕ) → (Name → ℕ) → List Departure → Type 0
AreLines lines body D = (t : Name) → own t (events_of D) ≢ [] → lines t ≡ line_of (body t) t D

module _ (names : List Name) (first : Cells) (root_line : ℕ) (body : Name → ℕ) where
  -- one step back
  lines_back : (lines : Name → ℕ) (s : Stored) (e : Entry) (es : List Entry) → IsStored names s e
      → replaced_in e ≡ replaced_for first root_line (map departure es) e.event
      → AreLines lines body (map departure (e ∷ es)) → AreLines (lines_before names lines s) body (map departure es)
  lines_back lines s e es is right told u acted = by (same_name u (name_of names s)) refl
    where
      D : List Departure
      D = map departure es

      here : name_of names s ≡ e.event.task
      here = get_or_from_slice_get names s.task e.event.task [] is.task

      by : (b : Bool) → same_name u (name_of names s) ≡ b → lines_before names lines s u ≡ line_of (body u) u D
      by true h =
          let same : u ≡ e.event.task = same_true u (name_of names s) h ∙ here in
          let bottom : ℕ = (called_by root_line (spawn_of e.event.task (events_of D))).line in
          ap (λ b. cond b s.at (lines u)) h ∙ is.at ∙ ap (λ r. r.at) right
          ∙ ap (λ t. line_of bottom t D) (sym same) ∙ any_body u bottom (body u) D acted
      by false h =
          let other : is_of u e.event ≡ false = apart (same_name e.event.task u) refl in
          ap (λ b. cond b s.at (lines u)) h ∙ told u (λ none. acted (sym (own_other u e.event (events_of D) other) ∙ none))
          ∙ ap (λ b. cond b e.to (line_of (body u) u D)) other
        where
          apart : (b : Bool) → same_name e.event.task u ≡ b → b ≡ false
          apart false q = refl
          apart true q =
              let same : e.event.task ≡ u = same_true e.event.task u q in
              absurd (clash (sym (ap (same_name u) (here ∙ same) ∙ same_refl u) ∙ h))
            where
              clash : true ≡ false → ⊥
              clash z = cc

  made : Name → Action → ℕ → Entry → Entry
  made t a to e = record { event = record { task = t; action = a }; to = to; at = e.at; number = e.number }

  -- what is stored says these stored steps
  stored_say : (lines : Name → ℕ) (ss : List Stored) (es : List Entry) → AllZip (IsStored names) ss es → AreRecords first root_line es
      → AreLines lines body (map departure es) → entries_of names lines ss ≡ es
  stored_say lines [] [] z r told = refl
  stored_say lines [] (e ∷ es) z r told = absurd z
  stored_say lines (s ∷ ss) [] z r told = absurd z
  stored_say lines (s ∷ ss) (e ∷ es) z r told =
      let D : List Departure = map departure es in
      let t : Name = e.event.task in
      let here : name_of names s ≡ t = get_or_from_slice_get names s.task t [] z.0.task in
      let mine : is_of t e.event ≡ true = same_refl t in
      let acted : own t (events_of (departure e ∷ D)) ≢ [] = λ none. some e.event.action (own t (events_of D)) (sym (own_mine t e.event (events_of D) mine) ∙ none) in
      let line : lines (name_of names s) ≡ e.to = ap lines here ∙ told t acted ∙ ap (λ b. cond b e.to (line_of (body t) t D)) mine in
      let rest : entries_of names (lines_before names lines s) ss ≡ es = stored_say (lines_before names lines s) ss es z.1 r.0 (lines_back lines s e es z.0 r.1 told) in
      whole (name_of names s) t s.action e.event.action (lines (name_of names s)) e.to s.at e.at s.number e.number here z.0.action line z.0.at z.0.number _ _ rest
    where
      some : (a : Action) (acts : List Action) → a ∷ acts ≡ [] → ⊥
      some a acts z = cc

      put : Name → Action → ℕ → ℕ → ℤ → Entry
      put t a to at n = record { event = record { task = t; action = a }; to = to; at = at; number = n }

      whole : (t u : Name) (a b : Action) (l m : ℕ) (at bt : ℕ) (n k : ℤ) → t ≡ u → a ≡ b → l ≡ m → at ≡ bt → n ≡ k → (xs ys : List Entry) → xs ≡ ys
          → put t a l at n ∷ xs ≡ put u b m bt k ∷ ys
      whole t u a b l m at bt n k e f g h i xs ys r =
          ap (λ x. put x a l at n ∷ xs) e ∙ ap (λ x. put u x l at n ∷ xs) f ∙ ap (λ x. put u b x at n ∷ xs) g ∙ ap (λ x. put u b m x n ∷ xs) h ∙ ap (λ x. put u b m bt x ∷ xs) i ∙ ap (λ x. put u b m bt k ∷ x) r

-- what a core stores says the stored steps that are sound with its tables
pub entries_are : (first : Cells) (root_line limit : ℕ) (tables : Tables) (ss : List Stored) (es : List Entry) → AllZip (IsStored (names_in tables)) ss es
    → IsSound first root_line limit (reverse es) tables → entries_in tables ss ≡ es
entries_are first root_line limit tables ss es z sound =
    let D : List Departure = map departure (reverse es) in
    ap reverse
    (stored_say (names_in tables) first root_line (λ t. (called_by root_line (spawn_of t (events_of D))).line) (line_in tables) (reverse ss) (reverse es)
    (zip_reverse (IsStored (names_in tables)) ss es z) sound.records (tables_tell first root_line D tables sound.legal sound.state))
    ∙ reverse-reverse es
