-- The tasks that can step, and what the others wait for, as text. Whether the journal is full plays no part.
use Rattle.std.specs.Prelude.{ℕ, List, [], ◌∷◌, ◌++◌, Bool, codes, if◌then◌else◌, Option, Some, None}
use Rattle.tb_model.specs.Names.{Name}
use Rattle.tb_model.specs.Facts.{History}
use Rattle.tb_model.specs.Hindrances.{Hindrance, Refusal, By, refusal_of, can_step}
use Rattle.tb_model.specs.Hindrances.{NoSuchTask as IsMissing, Ended as IsOver}
use Rattle.tb_model.specs.Hindrances.{Undeferred as TheUndeferred, Waiting as IsWaiting, Excluded as IsExcluded, Children as TheChildren, Group as TheGroup}
use Rattle.tb_model.specs.Program.{Program}
use Rattle.tb_model.specs.Spelling.{name_text}
use Rattle.tb_view.specs.Listing.{listed, lines_of}
use Rattle.tb_view.specs.Tasks.{Named, named_tasks}

-- ---- who can step

abbrev pub ready_by : Name → Bool → List (List ℕ)
ready_by t can = if can then name_text t ∷ [] else []

abbrev pub ready_line : Program → History → Named → List (List ℕ)
ready_line P H t = ready_by t.0 (can_step P H t.0)

abbrev pub ready_text : Program → History → List ℕ
ready_text P H = listed (codes "ready") (lines_of (ready_line P H) (named_tasks P.root_line H))

-- ---- who waits, and for whom

-- the kind of the hindrance, and the task that is in the way
abbrev pub hindrance_text : Hindrance → List ℕ
hindrance_text (TheUndeferred u) = codes "Undeferred " ++ name_text u
hindrance_text (IsWaiting u) = codes "Waiting " ++ name_text u
hindrance_text (IsExcluded u) = codes "Excluded " ++ name_text u
hindrance_text (TheChildren u) = codes "Children " ++ name_text u
hindrance_text (TheGroup u) = codes "Group " ++ name_text u

-- a task that has ended waits for nothing
abbrev pub wait_by : Name → Option Refusal → List (List ℕ)
wait_by t (Some (By h)) = (name_text t ++ codes " " ++ hindrance_text h) ∷ []
wait_by t (Some IsOver) = []
wait_by t (Some IsMissing) = []
wait_by t None = []

abbrev pub wait_line : Program → History → Named → List (List ℕ)
wait_line P H t = wait_by t.0 (refusal_of P H t.0)

abbrev pub waits_text : Program → History → List ℕ
waits_text P H = listed (codes "waits") (lines_of (wait_line P H) (named_tasks P.root_line H))
