-- What each view shows of a session.
use Rattle.std.specs.Prelude.{◌≡◌, ℕ, List, reverse, codes, if◌then◌else◌, Option, Some, None}
use Rattle.tb_model.specs.declared.step_id.StepId.{StepId}
use Rattle.tb_model.specs.Equivalent.{stands}
use Rattle.tb_model.specs.Facts.{is_spawned}
use Rattle.tb_model.specs.Names.{Name}
use Rattle.tb_model.specs.State.{printed}
use Rattle.tb_cause.specs.Chains.{needers, causes_of}
use Rattle.tb_races.specs.Immediate.{immediate_of}
use Rattle.tb_races.specs.Racing.{races}
use Rattle.tb_order.specs.Edges.{edges}
use Rattle.tb_draft.specs.Races.{races_text}
use Rattle.tb_live.specs.Session.{Session, history, cell_numbers}
use Rattle.tb_view.specs.declared.view.View.{View}
use Rattle.tb_view.specs.declared.view.View.TheVariants.{Cells, Out, Hist, Why, Causes, Who, Races, Edges, Tasks, Task, Ready, Waits, Deps, Breaks}
use Rattle.tb_view.specs.declared.view_refusal.ViewRefusal.{ViewRefusal}
use Rattle.tb_view.specs.declared.view_refusal.ViewRefusal.TheVariants.{Memory, NoSuchStep, NoSuchTask}
use Rattle.tb_view.specs.Numbers.{cells_text, out_text}
use Rattle.tb_view.specs.Steps.{history_text, chosen_text}
use Rattle.tb_view.specs.Reasons.{causes_text, edges_text}
use Rattle.tb_view.specs.Tasks.{tasks_text, task_text}
use Rattle.tb_view.specs.Waits.{ready_text, waits_text}
use Rattle.tb_view.specs.Relations.{deps_text}
use Rattle.tb_view.specs.Breaks.{breaks_text}

-- the text of these steps, listed from the newest, that a session has
abbrev pub steps_text : List ℕ → Session → List StepId → List ℕ
steps_text word s steps = chosen_text word s.program (reverse steps) (history s)

abbrev pub view_text : Session → View → List ℕ
view_text s Cells = cells_text (cell_numbers s)
view_text s Out = out_text (reverse (printed (history s)))
view_text s Hist = history_text s.program (history s)
view_text s (Why id) = steps_text (codes "why") s (causes_of id (history s))
view_text s (Causes id) = causes_text s.program (history s) (reverse (immediate_of id (history s)))
view_text s (Who id) = steps_text (codes "who") s (needers id (history s))
view_text s Races = races_text (reverse (races (history s)))
view_text s Edges = edges_text (reverse (edges (history s)))
view_text s Tasks = tasks_text s.program (history s)
view_text s (Task t) = task_text s.program (history s) t
view_text s Ready = ready_text s.program (history s)
view_text s Waits = waits_text s.program (history s)
view_text s (Deps t) = deps_text (history s) t
view_text s Breaks = breaks_text s.program s.control.breakpoints.standing

-- the step has to be there
abbrev pub unless_it_stands : Session → StepId → Option ViewRefusal
unless_it_stands s id = if stands id (history s) then None else Some NoSuchStep

-- the task has to be the root, or spawned in the history
abbrev pub unless_it_is_there : Session → Name → Option ViewRefusal
unless_it_is_there s t = if is_spawned (history s) t then None else Some NoSuchTask

-- why a view isn't shown
abbrev pub view_refusal : Session → View → Option ViewRefusal
view_refusal s (Why id) = unless_it_stands s id
view_refusal s (Causes id) = unless_it_stands s id
view_refusal s (Who id) = unless_it_stands s id
view_refusal s (Task t) = unless_it_is_there s t
view_refusal s (Deps t) = unless_it_is_there s t
view_refusal s _ = None

-- nothing speaks against the view, and this is its text
pub record IsShown (s : Session) (view : View) (text : List ℕ) : Type 0 where
  pub unrefused : view_refusal s view ≡ None
  pub text_is : text ≡ view_text s view

-- a view isn't shown for its reason; memory is wanted only where there is none
abbrev pub IsRefused : Session → View → ViewRefusal → Type 0
IsRefused s view Memory = view_refusal s view ≡ None
IsRefused s view NoSuchStep = view_refusal s view ≡ Some NoSuchStep
IsRefused s view NoSuchTask = view_refusal s view ≡ Some NoSuchTask
