-- A lent history is legal, as are those in front of its indexes, and what a task named at its spawn
-- stays.
use Rattle.std.proofs.Common.{◌≡◌, ◌≤◌, ◌<◌, ◌+◌, ◌∙◌, ℕ, suc, List, ◌∷◌, ◌++◌, Bool, Option, Some, None, IfSome, IfNone, slice_get, refl, sym, ap, subst, length, take, drop, reverse, get_or, arith}
use Rattle.std.specs.List.{AllZip}
use Rattle.std.specs.Option.{option_map}
use Rattle.std.proofs.lemmas.Slice.Zip.{AllZip-long}
use Rattle.std.proofs.lemmas.List.{get_or-take, length-map, length-take, take-append-drop, take-take}
use Rattle.std.proofs.lemmas.List.Sums.{count_by-le-length, length-filter}
use Rattle.std.proofs.lemmas.Option.{slice_get-map, slice_get_read}
use Rattle.tb_model.specs.declared.event.Event.{Event}
use Rattle.tb_model.specs.declared.step_id.StepId.{StepId}
use Rattle.tb_model.specs.Names.{Name}
use Rattle.tb_model.specs.Facts.{IsSpawned, is_of, items_of, own}
use Rattle.tb_model.specs.Needs.{step_of}
use Rattle.tb_model.specs.Legal.{Cells, Legal}
use Rattle.tb_model.proofs.FactsLemmas.{grown}
use Rattle.tb_model.proofs.NeedsLemmas.{may_spawned}
use Rattle.tb_model.proofs.SettledLemmas.{spawned_later, items_settled}
use Rattle.tb_places.specs.declared.places.Places.{Places}
use Rattle.tb_places.specs.Places.{IsIndexOf}
use Rattle.tb_places.specs.Where.{IsLastBefore, IsNoneFrom, places_where}
use Rattle.tb_undo.specs.State.{Seen as Tables}
use Rattle.tb_core.specs.declared.entry.Entry.{Entry as Stored}
use Rattle.tb_steps.specs.Entries.{Entry}
use Rattle.tb_core.specs.Lending.{AreLeft, IsLast, IsNoneBetween}
use Rattle.tb_core.specs.Renumbering.{events_in}
use Rattle.tb_steps.specs.Scans.{AreLegal, history_of, step_at}
use Rattle.tb_core.specs.Soundness.{IsSound, names_in}
use Rattle.tb_core.specs.Storing.{IsStored, entries_in}
use Rattle.tb_steps.proofs.ScanLemmas.{history_cut, history_of-append}
use Rattle.tb_steps.proofs.FirstLemmas.{legal_front, front_legal, step_read}
use Rattle.tb_core.proofs.OwnLemmas.{own_count, own_number}

-- the tables of a core are those of its stored steps
pub left : (first : Cells) (root_line limit : ℕ) (tables : Tables) (index : Places) (ss : List Stored)
    → IsSound first root_line limit (reverse (entries_in tables ss)) tables
    → IsIndexOf (names_in tables) (events_in (entries_in tables ss)) index → AreLeft tables index (entries_in tables ss)
left first root_line limit tables index ss s i = record {
  cells = first;
  root_line = root_line;
  legal = s.legal;
  state = s.state;
  places = i;
}

-- ---- the first stored steps

parted : (n : ℕ) (es : List Entry) → history_of es ≡ history_of (drop n es) ++ history_of (take n es)
parted n es = ap history_of (sym (take-append-drop n es)) ∙ history_of-append (take n es) (drop n es)

-- the stored steps that are lent are legal
pub front_left : (tables : Tables) (index : Places) (all front : List Entry) (count : ℕ) → AreLeft tables index all → take count all ≡ front → AreLegal front
front_left tables index all front count left view = record {
  cells = left.cells;
  legal = subst (λ es. Legal left.cells (history_of es)) view (legal_front left.cells (history_of (drop count all)) (history_of (take count all)) (subst (Legal left.cells) (parted count all) left.legal));
}

-- what a task named is known to the tables
pub items_left : (tables : Tables) (index : Places) (all front : List Entry) (count : ℕ) (t : Name) → AreLeft tables index all → take count all ≡ front
    → IsSpawned (history_of front) t → items_of t (history_of all) ≡ items_of t (history_of front)
items_left tables index all front count t left view s =
    let b = history_of (drop count all) in
    let F = history_of (take count all) in
    ap (items_of t) (parted count all)
    ∙ items_settled left.cells b F t (subst (Legal left.cells) (parted count all) left.legal) (subst (λ es. IsSpawned (history_of es) t) (sym view) s)
    ∙ ap (λ es. items_of t (history_of es)) view

pub items_in_front : (entries : List Entry) (k : ℕ) (t : Name) → AreLegal entries → IsSpawned (history_of (take k entries)) t
    → items_of t (history_of entries) ≡ items_of t (history_of (take k entries))
items_in_front entries k t legal s =
    ap (items_of t) (parted k entries) ∙ items_settled legal.cells (history_of (drop k entries)) (history_of (take k entries)) t (subst (Legal legal.cells) (parted k entries) legal.legal) s

-- ---- the task of a stored step was generated in front of it

pub spawned_at : (entries : List Entry) (at : ℕ) (e : Entry) → at < length entries → e ≡ get_or entries at e → AreLegal entries
    → IsSpawned (history_of (take at entries)) e.event.task
spawned_at entries at e within here l =
    let front = history_of (take at entries) in
    let b = history_of (drop (suc at) entries) in
    let legal = legal_front l.cells b (e.event ∷ front) (subst (Legal l.cells) (history_cut entries at e within here) l.legal) in
    may_spawned l.cells front e.event legal.0 legal.1

pub spawned_in : (entries : List Entry) (at : ℕ) (e : Entry) → at < length entries → e ≡ get_or entries at e → AreLegal entries
    → IsSpawned (history_of entries) e.event.task
spawned_in entries at e within here l =
    let front = history_of (take at entries) in
    subst (λ H. IsSpawned H e.event.task) (sym (history_cut entries at e within here))
    (spawned_later e.event.task (history_of (drop (suc at) entries)) (e.event ∷ front) (grown e.event.task e.event front (spawned_at entries at e within here l)))

pub spawned_before : (entries : List Entry) (later at : ℕ) (v u : Entry) → at < later → later < length entries → v ≡ get_or entries later v
    → u ≡ get_or entries at u → AreLegal entries → IsSpawned (history_of (take later entries)) u.event.task
spawned_before entries later at v u behind within last here l =
    spawned_in (take later entries) at u (omega (arith, length-take later entries, behind, within)) (here ∙ sym (get_or-take later entries at u behind)) (front_legal entries later v within last l)

-- ---- what the index says

pub all_within : (names : List Name) (ss : List Stored) (es : List Entry) (count : ℕ) → AllZip (IsStored names) ss es → count ≤ length ss → count ≤ length es
all_within names ss es count z within = omega (arith, within, AllZip-long (IsStored names) ss es z)

module _ (p : Event → Bool) (all front : List Entry) (count : ℕ) (view : take count all ≡ front) (within : count ≤ length all) where
  -- a stored step that is lent is one of all
  read : (k : ℕ) (e : Entry) → k < count → e ≡ get_or front k e → slice_get (events_in all) k ≡ Some e.event
  read k e l here =
      let one : e ≡ get_or all k e = here ∙ ap (λ (es : List Entry). get_or es k e) (sym view) ∙ get_or-take count all k e l in
      slice_get-map (λ (x : Entry). x.event) all k ∙ ap (option_map (λ (x : Entry). x.event)) (slice_get_read all (length all) k e refl (omega (arith, l, within)) one)

  pub none_between : (from to : ℕ) → to ≤ count → IsNoneFrom p (events_in all) from to → IsNoneBetween p front from to
  none_between from to high none k e low l here = none k e.event low l (read k e (omega (arith, l, high)) here)

  last_between : (before at : ℕ) → before ≤ count → IsLastBefore p (events_in all) before at → IsLast p front before at
  last_between before at high last = record {
    front = last.front;
    passes = λ e here. last.passes e.event (read at e (omega (arith, last.front, high)) here);
    none = none_between (at + 1) before high last.none;
  }

  pub some_last : (before : ℕ) (o : Option ℕ) → before ≤ count → IfSome o (IsLastBefore p (events_in all) before) → IfSome o (IsLast p front before)
  some_last before None high h = tt
  some_last before (Some at) high h = last_between before at high h

  pub if_none : (before : ℕ) (o : Option ℕ) → before ≤ count → IfNone o (IsNoneFrom p (events_in all) 0 before) → IfNone o (IsNoneBetween p front 0 before)
  if_none before None high h = none_between 0 before high h
  if_none before (Some at) high h = tt

-- the nth of a task's indexes has n of its steps in front of it
pub ranked : (all front : List Entry) (count : ℕ) (view : take count all ≡ front) (within : count ≤ length all) (at : ℕ) (e : Entry) (own_places : List ℕ) (n d : ℕ) → at < count → e ≡ get_or front at e
    → own_places ≡ places_where (is_of e.event.task) (events_in all) → n < length own_places → get_or own_places n d ≡ at → n ≡ length (own e.event.task (history_of (take at front)))
ranked all front count view within at e own_places n d l here is inside there =
    let one : e ≡ get_or all at e = here ∙ ap (λ (es : List Entry). get_or es at e) (sym view) ∙ get_or-take count all at e l in
    let low : at < length all = omega (arith, l, within) in
    let number = own_number all own_places at e is low one n d inside there (step_of (history_of (take at all)) e.event) (step_read all at e low one) in
    let same : take at all ≡ take at front = sym (take-take at count all (omega (arith, l))) ∙ ap (take at) view in
    omega (arith, number, ap (λ (es : List Entry). length (own e.event.task (history_of es))) same)

-- a stored step in front of which are n of its task has the ordinal n + 1
module _ (entries : List Entry) (at : ℕ) (e : Entry) (n : ℕ) (within : at < length entries) (here : e ≡ get_or entries at e)
    (rank : n ≡ length (own e.event.task (history_of (take at entries)))) where
  pub rank_few : n ≤ at
  rank_few =
      let es = take at entries in
      let t = e.event.task in
      omega (arith, rank, own_count t es, length-filter (is_of t) (events_in es), count_by-le-length (is_of t) (events_in es), length-map es (λ (x : Entry). x.event), length-take at entries)

  pub rank_number : (id : StepId) → step_at entries at ≡ Some id → n + 1 ≡ id.k
  rank_number id step =
      let same = inside (step_of (history_of (take at entries)) e.event) id (sym (step_read entries at e within here) ∙ step) in
      omega (arith, rank, ap (λ (i : StepId). i.k) same)
    where
      inside : (x y : StepId) → Some x ≡ Some y → x ≡ y
      inside x y h = cc
