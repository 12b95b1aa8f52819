-- What a rollback writes: the step and all that need it, in the order of the history.
use Rattle.std.specs.Prelude.{ℕ, List, [], ◌∷◌, ◌++◌, length, codes, if◌then◌else◌, Option, Some}
use Rattle.std.specs.Fmt.{decimal}
use Rattle.tb_model.specs.declared.step_id.StepId.{StepId}
use Rattle.tb_model.specs.Facts.{History}
use Rattle.tb_model.specs.Needs.{removed, is_removed}
use Rattle.tb_model.specs.Program.{Program}
use Rattle.tb_core.specs.declared.removed.Removed.{Removed}
use Rattle.tb_live.specs.Session.{Session, history, last_store, last_print}
use Rattle.tb_view.specs.Lines.{line, step_line, removal_line}
use Rattle.tb_commands.specs.declared.target.Target.{Target}
use Rattle.tb_commands.specs.declared.target.Target.TheVariants.{Step, LastStore, LastPrint}

-- the step that a target names, where there is one
abbrev pub step_named : History → Target → Option StepId
step_named H (Step id) = Some id
step_named H (LastStore c) = last_store c H
step_named H LastPrint = last_print H

-- the lines of the step e and of all that need it
abbrev pub removed_lines : Program → StepId → History → List ℕ
removed_lines P e [] = []
removed_lines P e (v ∷ H) = removed_lines P e H ++ (if is_removed e H v then step_line P H v else [])

-- so many steps are gone, and these are their lines
abbrev pub rolled : ℕ → List ℕ → List ℕ
rolled count lines = line (codes "rolled " ++ decimal count) ++ lines

abbrev pub rolled_text : Session → StepId → List ℕ
rolled_text s e = rolled (length (removed e (history s))) (removed_lines s.program e (history s))

-- ---- the same, of steps that are gone

abbrev pub removal_lines : Program → List Removed → List ℕ
removal_lines P [] = []
removal_lines P (r ∷ rs) = removal_line P r ++ removal_lines P rs

abbrev pub removals_text : Program → List Removed → List ℕ
removals_text P rs = rolled (length rs) (removal_lines P rs)
