-- What holds of a core that stores these stored steps, where the history that they say is known
-- otherwise.
use Rattle.std.proofs.Common.{◌≡◌, ◌<◌, ◌≤◌, ℕ, List, [], ◌∷◌, ◌++◌, Option, Some, length, map, reverse, get_or, slice_get, refl, sym, ap, ◌∙◌, subst, arith}
use Rattle.std.specs.Prelude.{Result, Ok, Err, OnErr}
use Rattle.std.specs.List.{AllZip}
use Rattle.std.proofs.lemmas.List.{length-map, length-reverse}
use Rattle.std.proofs.lemmas.List.Quantifiers.{position-Some}
use Rattle.std.proofs.lemmas.Option.{slice_get-get_or}
use Rattle.std.proofs.lemmas.Slice.Zip.{AllZip-long, all_zipped_more}
use Rattle.tb_model.specs.declared.action.Action.{Action}
use Rattle.tb_model.specs.declared.event.Event.{Event}
use Rattle.tb_model.specs.Names.{Name, same_name}
use Rattle.tb_model.specs.Legal.{Cells, MayFollow}
use Rattle.tb_model.proofs.TestLemmas.{same_true}
use Rattle.tb_store.specs.declared.replaced.Replaced.{Replaced}
use Rattle.tb_wait.specs.Kin.{KeepsNames, place}
use Rattle.tb_undo.specs.State.{Seen as Tables}
use Rattle.tb_undo.specs.Changes.{AreSame, KeepsRoom}
use Rattle.tb_undo.specs.Steps.{IsBehind, IsRecord}
use Rattle.tb_undo.proofs.RoomLemmas.{room_kept}
use Rattle.tb_places.specs.declared.places.Places.{Places}
use Rattle.tb_places.specs.Places.{IsIndexOf, IsNamed, HasRoomAs, event_number}
use Rattle.tb_places.specs.Numbers.{number_of}
use Rattle.tb_core.specs.declared.entry.Entry.{Entry as Stored}
use Rattle.tb_steps.specs.Entries.{Entry, departure}
use Rattle.tb_core.specs.Packing.{packed}
use Rattle.tb_core.specs.Renumbering.{events_in}
use Rattle.tb_core.specs.Outcomes.{grown_by}
use Rattle.tb_core.specs.Seen.{Seen, Held, history}
use Rattle.tb_core.specs.Soundness.{names_in, seen, IsSound, HasReserved}
use Rattle.tb_core.specs.Storing.{IsStored, stored, entries_in}
use Rattle.tb_core.proofs.StoringLemmas.{all_kept, entries_are}
use Rattle.tb_core.proofs.NumberLemmas.{named_next}
use Rattle.tb_core.proofs.TakenLemmas.{sound_same, index_same, index_added, appended, reserved_kept}

-- there are as many as are stored
pub as_many : (names : List Name) (ss : List Stored) (es : List Entry) → AllZip (IsStored names) ss es → length (map departure (reverse es)) ≡ length ss
as_many names ss es z = length-map (reverse es) departure ∙ length-reverse es ∙ AllZip-long (IsStored names) ss es z

-- few stored steps are stored
pub few_stored : (first : Cells) (root_line limit : ℕ) (ss : List Stored) (es : List Entry) (tables : Tables) → AllZip (IsStored (names_in tables)) ss es
    → IsSound first root_line limit (reverse es) tables → length ss ≤ 1000000
few_stored first root_line limit ss es tables z sound = omega (arith, sound.within, sound.bound, length-reverse es, AllZip-long (IsStored (names_in tables)) ss es z)

-- what always holds, and which history is shown
pub record Holds (first : Cells) (root_line limit : ℕ) (ss : List Stored) (es : List Entry) (tables : Tables) (p : Places) : Type 0 where
  pub say : entries_in tables ss ≡ es
  pub sound : IsSound first root_line limit (reverse (entries_in tables ss)) tables
  pub index : IsIndexOf (names_in tables) (events_in (entries_in tables ss)) p
  pub stored : AllZip (IsStored (names_in tables)) ss (entries_in tables ss)

pub held : (first : Cells) (root_line limit : ℕ) (ss : List Stored) (es : List Entry) (tables : Tables) (p : Places)
    → IsSound first root_line limit (reverse es) tables → AllZip (IsStored (names_in tables)) ss es
    → IsIndexOf (names_in tables) (events_in es) p → Holds first root_line limit ss es tables p
held first root_line limit ss es tables p sound z index =
    let same : entries_in tables ss ≡ es = entries_are first root_line limit tables ss es z sound in
    record {
      say = same;
      sound = subst (λ l. IsSound first root_line limit (reverse l) tables) (sym same) sound;
      index = subst (λ l. IsIndexOf (names_in tables) (events_in l) p) (sym same) index;
      stored = subst (AllZip (IsStored (names_in tables)) ss) (sym same) z;
    }

-- where only capacity has changed
pub held_same : (first : Cells) (root_line limit : ℕ) (ss left : List Stored) (was now : Tables) (old new : Places) → left ≡ ss → AreSame was now
    → KeepsNames was.waits.tasks now.waits.tasks
    → ((names : List Name) (events : List Event) → IsIndexOf names events old → IsIndexOf names events new)
    → IsSound first root_line limit (reverse (entries_in was ss)) was → IsIndexOf (names_in was) (events_in (entries_in was ss)) old → AllZip (IsStored (names_in was)) ss (entries_in was ss)
    → Holds first root_line limit left (entries_in was ss) now new
held_same first root_line limit ss left was now old new kept same keeps index_kept sound index z =
    let es : List Entry = entries_in was ss in
    held first root_line limit left es now new (sound_same first root_line limit es was sound es now refl same)
    (subst (λ l. AllZip (IsStored (names_in now)) l es) (sym kept) (all_kept was now ss es keeps z))
    (index_same es es old new was now refl index_kept keeps index)

-- the run that is shown
pub shown_run : (first : Cells) (root_line limit : ℕ) (ss : List Stored) (es : List Entry) (tables : Tables) (p : Places)
    → Holds first root_line limit ss es tables p
    → seen first root_line limit (reverse (entries_in tables ss)) ≡ seen first root_line limit (reverse es)
shown_run first root_line limit ss es tables p h = ap (λ l. seen first root_line limit (reverse l)) h.say

-- ---- only capacities have grown, and what is reserved has its own

module _ (first : Cells) (root_line limit : ℕ) (ss : List Stored) (was : Tables) (old : Places) (reserved : Option Event) (room : ℕ)
    (sound : IsSound first root_line limit (reverse (entries_in was ss)) was) (has : HasReserved reserved room was old)
    (index : IsIndexOf (names_in was) (events_in (entries_in was ss)) old) (z : AllZip (IsStored (names_in was)) ss (entries_in was ss)) where
  abbrev shown : List Stored → Tables → Held
  shown left now = record { run = seen first root_line limit (reverse (entries_in now left)); reserved = reserved }

  pub record Stays (left : List Stored) (more : ℕ) (now : Tables) (new : Places) : Type 0 where
    pub sound' : IsSound first root_line limit (reverse (entries_in now left)) now
    pub has' : HasReserved reserved more now new
    pub index' : IsIndexOf (names_in now) (events_in (entries_in now left)) new
    pub stored' : AllZip (IsStored (names_in now)) left (entries_in now left)
    pub same : shown left now ≡ shown ss was

  pub stays : (left : List Stored) (more : ℕ) (now : Tables) (new : Places) → left ≡ ss → room ≤ more → AreSame was now
      → KeepsNames was.waits.tasks now.waits.tasks → KeepsRoom was now
      → ((names : List Name) (events : List Event) → IsIndexOf names events old → IsIndexOf names events new)
      → ((n : Option ℕ) (a : Action) → HasRoomAs old n a → HasRoomAs new n a) → Stays left more now new
  stays left more now new kept grows same names keeps index_kept places_kept =
      let h = held_same first root_line limit ss left was now old new kept same names index_kept sound index z in
      record {
        sound' = h.sound;
        has' = reserved_kept reserved room more was now old new grows keeps.waits.names (room_kept was now keeps) places_kept has;
        index' = h.index;
        stored' = h.stored;
        same = ap (λ (x : Seen). held_with x reserved) (shown_run first root_line limit left (entries_in was ss) now new h);
      }
    where
      held_with : Seen → Option Event → Held
      held_with x o = record { run = x; reserved = o }

  -- the tables' own too
  pub stays_so : (left : List Stored) (more : ℕ) (new : Places) → left ≡ ss → room ≤ more
      → ((names : List Name) (events : List Event) → IsIndexOf names events old → IsIndexOf names events new)
      → ((n : Option ℕ) (a : Action) → HasRoomAs old n a → HasRoomAs new n a) → Stays left more was new
  stays_so left more new kept grows index_kept places_kept = record {
    sound' = subst (λ l. IsSound first root_line limit (reverse (entries_in was l)) was) (sym kept) sound;
    has' = reserved_kept reserved room more was was old new grows refl (λ v h. h) places_kept has;
    index' = subst (λ l. IsIndexOf (names_in was) (events_in (entries_in was l)) new) (sym kept) (index_kept (names_in was) (events_in (entries_in was ss)) index);
    stored' = subst (λ l. AllZip (IsStored (names_in was)) l (entries_in was l)) (sym kept) z;
    same = ap (λ l. shown l was) kept;
  }

-- ---- one stored step more

name_there : (names : List Name) (t : Name) (n : ℕ) → number_of names t ≡ Some n → slice_get names n ≡ Some t
name_there names t n at =
    let x = position-Some (same_name t) names n [] at in
    slice_get-get_or names n [] x.0 ∙ ap (λ u. Some u) (sym (same_true t (get_or names n []) x.1))

pub more_stored : (was now : Tables) (ss mid more : List Stored) (s : Stored) (es : List Entry) (n : ℕ) (v : Event) (to : ℕ) (r : Replaced) → mid ≡ ss
    → more ≡ mid ++ s ∷ [] → s ≡ stored n v.action r
    → place was.waits.tasks v.task ≡ Some n → KeepsNames was.waits.tasks now.waits.tasks → AllZip (IsStored (names_in was)) ss es → AllZip (IsStored (names_in now)) more (es ++ packed v to r ∷ [])
more_stored was now ss mid more s es n v to r kept added is at keeps z =
    let one : IsStored (names_in was) (stored n v.action r) (packed v to r) = record { task = name_there (names_in was) v.task n at; action = refl; at = refl; number = refl } in
    let all : AllZip (IsStored (names_in was)) (ss ++ stored n v.action r ∷ []) (es ++ packed v to r ∷ []) = all_zipped_more (IsStored (names_in was)) ss es (stored n v.action r) (packed v to r) z one in
    subst (λ l. AllZip (IsStored (names_in now)) l (es ++ packed v to r ∷ [])) (sym (added ∙ ap (λ l. l ++ s ∷ []) kept ∙ ap (λ x. ss ++ x ∷ []) is))
    (all_kept was now (ss ++ stored n v.action r ∷ []) (es ++ packed v to r ∷ []) keeps all)

-- the step is entered
module _ (first : Cells) (root_line limit : ℕ) (ss : List Stored) (was : Tables) (old : Places)
    (sound : IsSound first root_line limit (reverse (entries_in was ss)) was)
    (index : IsIndexOf (names_in was) (events_in (entries_in was ss)) old) (z : AllZip (IsStored (names_in was)) ss (entries_in was ss))
    (s : Seen) (is : seen first root_line limit (reverse (entries_in was ss)) ≡ s) (v : Event) (may : MayFollow s.cells (history s) v) (room : length s.steps < s.limit) where
  abbrev es : List Entry
  es = entries_in was ss

  pub record Entered (to : ℕ) (more : List Stored) (now : Tables) (new : Places) : Type 0 where
    pub sound' : IsSound first root_line limit (reverse (entries_in now more)) now
    pub index' : IsIndexOf (names_in now) (events_in (entries_in now more)) new
    pub stored' : AllZip (IsStored (names_in now)) more (entries_in now more)
    pub run : seen first root_line limit (reverse (entries_in now more)) ≡ grown_by v to s

  pub entered : (to : ℕ) (r : Replaced) (n : ℕ) (mid more : List Stored) (x : Stored) (now : Tables) (at : ℕ) (kept new : Places) → mid ≡ ss
      → more ≡ mid ++ x ∷ [] → x ≡ stored n v.action r
      → place was.waits.tasks v.task ≡ Some n → IsBehind was v to now → IsRecord was v r → KeepsNames was.waits.tasks now.waits.tasks
      → ((names : List Name) (events : List Event) → IsIndexOf names events old → IsIndexOf names events kept)
      → ((names : List Name) (events : List Event) (e : Event) → e.action ≡ v.action → Some n ≡ event_number names e → IsNamed names e → IsIndexOf names events kept → at ≡ length events → IsIndexOf names (events ++ e ∷ []) new)
      → at ≡ length s.steps → Entered to more now new
  entered to r n mid more x now at kept new same added stores numbered behind record_of keeps same_index pushed count =
      let e : Entry = packed v to r in
      let a = appended first root_line limit es was sound s is v may room to r es (es ++ e ∷ []) now refl refl behind record_of in
      let zipped = more_stored was now ss mid more x es n v to r same added stores numbered keeps z in
      let length_is : at ≡ length (map departure (reverse es)) = count ∙ ap (λ (y : Seen). length y.steps) (sym is) in
      let placed =
      index_added es (es ++ e ∷ []) e at (map departure (reverse es)) kept new was now (Some n) refl length_is refl
      (λ names events. pushed names events v refl) (sym numbered) (named_next first root_line limit es was sound s is v may) keeps (same_index (names_in was) (events_in es) index) in
      let h = held first root_line limit more (es ++ e ∷ []) now new a.sound' zipped placed in
      record { sound' = h.sound; index' = h.index; stored' = h.stored; run = shown_run first root_line limit more (es ++ e ∷ []) now new h ∙ a.now }

-- a fact where a call is refused
pub on_err : {A B : Type 0} (r : Result A B) (P : Type 0) → P → OnErr r P
on_err (Ok x) P p = tt
on_err (Err e) P p = p
