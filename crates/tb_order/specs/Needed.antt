-- What a step needs immediately, among the steps that it is linked to.
use Rattle.std.specs.Prelude.{ℕ, zero, suc, ◌≡◌, ◌⊎◌, ◌<◌, List, [], ◌++◌, Bool, true, false, not, ◌&&◌, ◌||◌, ◌==◌, nat_lt, nat_le, Option, Some, None, Vec, if◌then◌else◌, length, slice_get, IsTrue}
use Rattle.std.specs.declared.alloc.Global.{Global}
use Rattle.tb_model.specs.declared.action.Action.{Action}
use Rattle.tb_steps.specs.Entries.{Entry}
use Rattle.tb_races.specs.Orders.{AllNeeds}
use Rattle.tb_lanes.specs.declared.tasks.Tasks.{Tasks}
use Rattle.tb_lanes.specs.declared.kept.Kept.{Kept}
use Rattle.tb_lanes.specs.declared.clocks.Clocks.{Clocks}
use Rattle.tb_lanes.specs.declared.step.Step.{Step}
use Rattle.tb_lanes.specs.declared.lane_bound.LaneBound.{LaneBound}
use Rattle.tb_lanes.specs.Bounds.{IsRising, bound_in}
use Rattle.tb_lanes.specs.Clocks.{AreTasks, IsLow, is_after, is_end_at, is_told, kept_in, lanes_of, links_at, previous, reaches, row_in}
use Rattle.tb_lanes.specs.Fewer.{AreFewer, BeginsFor}
use Rattle.tb_lanes.specs.Kept.{is_in_at, is_load, loads_at, slot_of}
use Rattle.tb_lanes.specs.Needing.{IsBelow, IsTouched, place_at}

-- ---- for which steps a later one may ask

abbrev pub some_below : (ℕ → Bool) → ℕ → Bool
some_below f zero = false
some_below f (suc n) = f n || some_below f n

-- the step at p stores or prints what has this index, after that at q
abbrev pub is_over : List Entry → ℕ → ℕ → ℕ → Bool
is_over entries i q x = nat_lt q x && (is_in_at entries i x && not (loads_at entries x))

abbrev pub slot_so : Option Entry → Option ℕ
slot_so None = None
slot_so (Some u) = slot_of u.event.action

abbrev pub uncovered_so : List Entry → ℕ → ℕ → Option ℕ → Bool
uncovered_so entries n q None = false
uncovered_so entries n q (Some i) = not (some_below (is_over entries i q) n)

-- the step at q shares something, and none after it among the first n stores or prints that
abbrev pub is_uncovered : List Entry → ℕ → ℕ → Bool
is_uncovered entries n q = uncovered_so entries n q (slot_so (slice_get entries q))

-- the step at q touches the task of one at n or after it, and none in between does
abbrev pub is_next_from : List Entry → Tasks → ℕ → ℕ → Bool
is_next_from entries tasks n q = some_below (λ p. nat_le n p && (previous tasks p == suc q)) (length entries)

-- one from n on may ask for the step at q
abbrev pub is_pending : List Entry → Tasks → ℕ → ℕ → Bool
is_pending entries tasks n q = is_end_at entries q || (is_next_from entries tasks n q || is_uncovered entries n q)

-- ---- what is shared

-- of the first n steps that share this some that store or print and some that load, from which all such steps are reached; none
-- that stores or prints comes after one of them
pub record Shares (entries : List Entry) (n i : ℕ) (writes loads : List ℕ) : Type 0 where
  pub writes_in : (j : ℕ) → j < length writes
      → (place_at writes j < n) × IsTrue (is_in_at entries i (place_at writes j)) × (loads_at entries (place_at writes j) ≡ false)
  pub loads_in : (j : ℕ) → j < length loads → (place_at loads j < n) × IsTrue (is_in_at entries i (place_at loads j))
  pub by_writes : (x : ℕ) → x < n → IsTrue (is_in_at entries i x) → loads_at entries x ≡ false → IsBelow AllNeeds entries writes x
  pub by_loads : (x : ℕ) → x < n → IsTrue (is_in_at entries i x) → loads_at entries x ≡ true
      → IsBelow AllNeeds entries writes x ⊎ IsBelow AllNeeds entries loads x
  pub new_writes : (j x : ℕ) → j < length writes → place_at writes j < x → x < n → IsTrue (is_in_at entries i x) → loads_at entries x ≡ true
  pub new_loads : (j x : ℕ) → j < length loads → place_at loads j < x → x < n → IsTrue (is_in_at entries i x) → loads_at entries x ≡ true

abbrev pub AreShared : List Entry → ℕ → Kept → Type 0
AreShared entries n kept = (i : ℕ) → Shares entries n i (kept_in kept.writes.items i) (kept_in kept.loads.items i)

abbrev pub places_so : Kept → Option ℕ → Bool → List ℕ
places_so kept None load = []
places_so kept (Some i) load = kept_in kept.writes.items i ++ (if load then [] else kept_in kept.loads.items i)

-- what the action may need for what it shares
abbrev pub shared_places : Kept → Action → List ℕ
shared_places kept a = places_so kept (slot_of a) (is_load a)

-- ---- what is needed immediately

abbrev pub IsAmong : List ℕ → ℕ → Type 0
IsAmong places q = (i : ℕ) × (i < length places) × (place_at places i ≡ q)

abbrev pub own_row : Clocks → Step → List LaneBound
own_row clocks s = row_in clocks.rows.items s.row

-- the row with which the step begins has q
abbrev pub is_known : List Entry → Tasks → Clocks → Step → ℕ → Bool
is_known entries tasks clocks s q = is_told AllNeeds entries tasks (lanes_of clocks) (bound_in (own_row clocks s)) s.lane s.at q

-- the step with the row and the lane with which it begins, where all needs count
pub record IsBegun (entries : List Entry) (tasks : Tasks) (clocks : Clocks) (s : Step) : Type 0 where
  pub by_task : AreTasks entries tasks
  pub front : AreFewer (is_pending entries tasks s.at) AllNeeds entries tasks s.at clocks
  pub at : s.at < length entries
  pub begins : BeginsFor (is_pending entries tasks s.at) AllNeeds entries tasks clocks s.row s.lane s.at

-- the step at p is linked to that at c, and nothing that touches its task reaches it
abbrev pub IsCandidate : List Entry → Tasks → ℕ → ℕ → Type 0
IsCandidate entries tasks p c = (c < p) × IsTrue (links_at AllNeeds entries p c) × IsTrue (is_pending entries tasks p c) × (IsTouched AllNeeds entries p c → ⊥)

abbrev pub AreCandidates : List Entry → Tasks → ℕ → List ℕ → Type 0
AreCandidates entries tasks p found = (c : ℕ) → IsAmong found c → IsCandidate entries tasks p c

-- of these, the newest first, none reaches another
pub record AreApart (entries : List Entry) (places : List ℕ) : Type 0 where
  pub falling : (i j : ℕ) → i < j → j < length places → place_at places j < place_at places i
  pub apart : (i j : ℕ) → i < j → j < length places → reaches AllNeeds entries (place_at places i) (place_at places j) ≡ false

-- what touches the task of the step at p reaches q, or one of these does
abbrev pub IsMet : List Entry → ℕ → List ℕ → ℕ → Type 0
IsMet entries p places q = IsTouched AllNeeds entries p q ⊎ IsBelow AllNeeds entries places q

-- the row tells of steps in front of that at p alone, and of all that these or its task's reach, where somebody asks for them
pub record IsFound (asked : ℕ → Bool) (entries : List Entry) (tasks : Tasks) (clocks : Clocks) (s : Step) (found : List ℕ) (row : List LaneBound) : Type 0 where
  pub rising : IsRising row
  pub low : IsLow (bound_in row) s.at
  pub sound : (q : ℕ) → q < s.at → IsTrue (is_told AllNeeds entries tasks (lanes_of clocks) (bound_in row) s.lane s.at q)
      → IsTrue (is_after AllNeeds entries s.at q)
  pub enough : (q : ℕ) → q < s.at → IsTrue (asked q) → IsMet entries s.at found q
      → IsTrue (is_told AllNeeds entries tasks (lanes_of clocks) (bound_in row) s.lane s.at q)

abbrev pub IsRowFound : List Entry → Tasks → Clocks → Step → List ℕ → Option (Vec LaneBound Global) → Type 0
IsRowFound entries tasks clocks s found None = found ≡ []
IsRowFound entries tasks clocks s found (Some v) = IsFound (is_pending entries tasks s.at) entries tasks clocks s found v.items

-- these are the candidates, and the step that touches the task, that no other reaches
pub record AreNeeded (entries : List Entry) (tasks : Tasks) (p : ℕ) (found places : List ℕ) : Type 0 where
  pub each : (i : ℕ) → i < length places → IsAmong found (place_at places i) ⊎ (previous tasks p ≡ suc (place_at places i))
  pub apart : AreApart entries places
  pub covered : (c : ℕ) → IsAmong found c ⊎ (previous tasks p ≡ suc c) → IsBelow AllNeeds entries places c
