-- The tasks of a run, and how far each has come, as text.
use Rattle.std.specs.Prelude.{◌≡◌, ℕ, List, [], ◌∷◌, ◌++◌, ℤ, Option, Some, None, codes, length}
use Rattle.std.specs.Fmt.{decimal}
use Rattle.std.specs.BTreeMap.{insert_entry}
use Rattle.std.specs.List.{AllByRecursion}
use Rattle.std.specs.declared.cmp.Ordering.TheVariants.{Less}
use Rattle.tb_model.specs.declared.action.Action.{Action}
use Rattle.tb_model.specs.declared.action.Action.TheVariants.{Spawn}
use Rattle.tb_model.specs.declared.item.Item.{Item}
use Rattle.tb_model.specs.Names.{Name, name_cmp}
use Rattle.tb_model.specs.Facts.{History, own, items_of}
use Rattle.tb_model.specs.State.{Status, Pending, Running, Ended, Faulted, status_of, open_groups}
use Rattle.tb_model.specs.Program.{Program, called, situation}
use Rattle.tb_model.specs.Spelling.{name_text}
use Rattle.tb_view.specs.Lines.{line}
use Rattle.tb_view.specs.Step.{name_at, kind_text, place_text, args_text}
use Rattle.tb_view.specs.Listing.{listed, lines_of}

-- ---- which tasks there are

-- a task, and the line that begins its body
abbrev pub Named : Type 0
Named = Name × ℕ

abbrev pub names_of : List Named → List Name
names_of [] = []
names_of (x ∷ xs) = x.0 ∷ names_of xs

-- each of these names comes before this one
abbrev pub Precede : Name → List Name → Type 0
Precede t us = AllByRecursion (λ u. name_cmp u t ≡ Less) us

-- one task more, at its index in the order of names, where the action generates one
abbrev pub with_spawned : Action → List Named → List Named
with_spawned (Spawn s) tasks = insert_entry name_cmp tasks s.child s.body
with_spawned _ tasks = tasks

-- the root and all that were generated, in the order of names
abbrev pub named_tasks : ℕ → History → List Named
named_tasks root_line [] = ([], root_line) ∷ []
named_tasks root_line (v ∷ H) = with_spawned v.action (named_tasks root_line H)

-- ---- how far a task is

-- a task that is under way is at a line
abbrev pub status_text : ℕ → Status → List ℕ
status_text at Pending = codes "pending"
status_text at Running = codes "running " ++ decimal at
status_text at Ended = codes "ended"
status_text at Faulted = codes "faulted"

-- nothing where there is no number
abbrev pub number_if_any : Option ℕ → List ℕ
number_if_any None = []
number_if_any (Some n) = decimal n

abbrev pub state_text : Program → History → Name → List ℕ
state_text P H t = status_text (situation P t H).line (status_of (own t H))

-- the name of the body that a line begins
abbrev pub body_text : Program → ℕ → List ℕ
body_text P begins = name_at P.bodies begins

-- a task with its body and its state
abbrev pub task_line : Program → History → Named → List (List ℕ)
task_line P H t = (name_text t.0 ++ codes " " ++ body_text P t.1 ++ codes " " ++ state_text P H t.0) ∷ []

-- all tasks
abbrev pub tasks_text : Program → History → List ℕ
tasks_text P H = listed (codes "tasks") (lines_of (task_line P H) (named_tasks P.root_line H))

-- ---- one task

-- a task's name, its body and its state
abbrev pub head_text : Program → History → Name → List ℕ
head_text P H t =
    line (codes "task " ++ name_text t) ++ line (codes "body " ++ body_text P (called P t H).line) ++ line (codes "state " ++ state_text P H t)

-- so many steps, these registers, so many open groups
abbrev pub numbers_text : ℕ → List ℤ → ℕ → List ℕ
numbers_text steps regs groups = line (codes "steps " ++ decimal steps) ++ line (codes "regs" ++ args_text regs) ++ line (codes "groups " ++ decimal groups)

-- the count of steps, the registers and the open groups of the task
abbrev pub own_text : Program → History → Name → List ℕ
own_text P H t = numbers_text (length (own t H)) (situation P t H).regs (length (open_groups (own t H)))

-- a depend item by its type and its location
abbrev pub item_line : Item → List (List ℕ)
item_line i = (kind_text i.kind ++ codes " " ++ place_text i.place) ∷ []

abbrev pub task_text : Program → History → Name → List ℕ
task_text P H t = head_text P H t ++ own_text P H t ++ listed (codes "items") (lines_of item_line (items_of t H))
