-- Immediate needs and races, as text.
use Rattle.std.specs.Prelude.{ℕ, List, [], ◌∷◌, ◌++◌, length, codes, if◌then◌else◌}
use Rattle.std.specs.Fmt.{decimal}
use Rattle.tb_draft.specs.Races.{conflict_text}
use Rattle.tb_model.specs.declared.step_id.StepId.{StepId}
use Rattle.tb_model.specs.Facts.{History}
use Rattle.tb_model.specs.Needs.{is_step}
use Rattle.tb_model.specs.Program.{Program}
use Rattle.tb_model.specs.Spelling.{step_id_text}
use Rattle.tb_races.specs.declared.cause.Cause.{Cause}
use Rattle.tb_races.specs.declared.need_kind.NeedKind.{NeedKind}
use Rattle.tb_races.specs.declared.need_kind.NeedKind.TheVariants.{Task, Spawn, Conflict as Conflicts, Before, Apart, Wait, Group, Undeferred}
use Rattle.tb_order.specs.declared.edge.Edge.{Edge}
use Rattle.tb_view.specs.Lines.{line, event_line}

-- the kind of a need
abbrev pub need_text : NeedKind → List ℕ
need_text Task = codes "task"
need_text Spawn = codes "spawn"
need_text (Conflicts shares) = conflict_text shares
need_text Before = codes "before"
need_text Apart = codes "apart"
need_text Wait = codes "wait"
need_text Group = codes "group"
need_text Undeferred = codes "undeferred"

-- the line of a step, nothing where it isn't there
abbrev pub line_of : Program → StepId → History → List ℕ
line_of P i [] = []
line_of P i (v ∷ H) = if is_step i H v then event_line P i v else line_of P i H

-- the kind of a need, and the line of the step that is needed
abbrev pub cause_line : Program → History → Cause → List ℕ
cause_line P H c = need_text c.kind ++ codes ": " ++ line_of P c.step H

abbrev pub cause_lines : Program → History → List Cause → List ℕ
cause_lines P H [] = []
cause_lines P H (c ∷ causes) = cause_line P H c ++ cause_lines P H causes

-- how many these are, and the line of each
abbrev pub causes_text : Program → History → List Cause → List ℕ
causes_text P H causes = line (codes "causes " ++ decimal (length causes)) ++ cause_lines P H causes

-- the earlier step, the later one, and the kind of the need
abbrev pub edge_line : Edge → List ℕ
edge_line e = line (step_id_text e.earlier ++ codes " " ++ step_id_text e.later ++ codes " " ++ need_text e.kind)

abbrev pub edge_lines : List Edge → List ℕ
edge_lines [] = []
edge_lines (e ∷ edges) = edge_line e ++ edge_lines edges

-- how many these are, and the line of each
abbrev pub edges_text : List Edge → List ℕ
edges_text edges = line (codes "edges " ++ decimal (length edges)) ++ edge_lines edges
