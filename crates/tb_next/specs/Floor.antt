-- The search start: a name in front of which no task can step.
use Rattle.std.specs.Prelude.{◌≡◌, ◌∷◌, ◌⊎◌, Option, Some, None, IsTrue, IsFalse, ⊤}
use Rattle.std.specs.List.{list_any}
use Rattle.tb_model.specs.declared.event.Event.{Event}
use Rattle.tb_model.specs.Names.{Name, is_child}
use Rattle.tb_model.specs.Facts.{History, ends}
use Rattle.tb_model.specs.LeastNames.{IsAtMost}
use Rattle.tb_model.specs.Program.{Program, LegalFor}
use Rattle.tb_model.specs.Hindrances.{can_step}
use Rattle.tb_ready.specs.Tasks.{IsBehind}

-- no task in front of the search start can step; where there is no search start, nothing is known
abbrev pub IsFloor : Program → History → Option Name → Type 0
IsFloor P H None = ⊤
IsFloor P H (Some f) = (u : Name) → IsTrue (can_step P H u) → IsAtMost f u

-- the search start is this name, or none where memory for it was refused
abbrev pub IsRaised : Name → Option Name → Type 0
IsRaised t o = (o ≡ Some t) ⊎ (o ≡ None)

-- the lesser of this name and the former search start, where there was one
abbrev pub IsKeptBelow : Name → Option Name → Option Name → Type 0
IsKeptBelow t old None = old ≡ None
IsKeptBelow t old (Some g) = (f : Name) × (old ≡ Some f) × IsAtMost g f × IsAtMost g t

-- the search start after the end of t: none, or one at most the parent of t, which hasn't ended
abbrev pub IsLowered : History → Name → Option Name → Option Name → Type 0
IsLowered H t old None = ⊤
IsLowered H t old (Some g) = (p : Name) × IsTrue (is_child p t) × IsFalse (list_any (ends p) H) × IsKeptBelow p old (Some g)

-- what was a search start in front of the newest event of a run leaves one after it
abbrev pub IsCarried : History → Option Name → Option Name → Type 0
IsCarried H old new =
    (P : Program) (v : Event) (F : History) → H ≡ v ∷ F → LegalFor P H → IsTrue (can_step P F v.task) → IsFloor P F old → IsFloor P H new

-- no task that was asked can step
abbrev pub IsPassed : Program → History → Option Name → Type 0
IsPassed P H after = (u : Name) → IsTrue (can_step P H u) → IsBehind after u
