-- Why a step, an undo, a rollback or a breakpoint is refused, written: the first reason that holds.
use Rattle.std.specs.Prelude.{ℕ, List, codes, not, if◌then◌else◌, option_map, Option, Some, None}
use Rattle.std.specs.Option.{option_or}
use Rattle.tb_model.specs.declared.step_id.StepId.{StepId}
use Rattle.tb_model.specs.Names.{Name}
use Rattle.tb_model.specs.Needers.{first_needer}
use Rattle.tb_model.specs.Equivalent.{stands}
use Rattle.tb_model.specs.Hindrances.{Hindrance, Refusal, NoSuchTask, Ended, By, Undeferred, Waiting, Excluded, Children, Group}
use Rattle.tb_live.specs.Session.{Session, history, is_full}
use Rattle.tb_live.specs.Moves.{refusal_for}
use Rattle.tb_control.specs.declared.breaks.Break.{Break}
use Rattle.tb_control.specs.declared.break_refusal.BreakRefusal.{BreakRefusal}
use Rattle.tb_control.specs.declared.break_refusal.BreakRefusal.TheVariants.{Memory as OutOfMemory, TooMany, NoSuchBreak, NoSuchBody, NoSuchCell}
use Rattle.tb_live.specs.Breaks.{are_too_many, is_standing}
use Rattle.tb_control.specs.Numbers.{break_number}
use Rattle.tb_live.specs.Pauses.{misplaced}
use Rattle.tb_view.specs.declared.view_refusal.ViewRefusal.{ViewRefusal}
use Rattle.tb_view.specs.declared.view_refusal.ViewRefusal.TheVariants.{Memory, NoSuchStep, NoSuchTask}
use Rattle.tb_view.specs.Refusals.{view_number}
use Rattle.tb_replies.specs.Texts.{refused, refused_for, refused_with}

-- ---- a step

abbrev pub hindrance_line : Hindrance → List ℕ
hindrance_line (Waiting pred) = refused_for 3 (codes "Waiting") pred
hindrance_line (Excluded by) = refused_for 4 (codes "Excluded") by
hindrance_line (Children first) = refused_for 5 (codes "Children") first
hindrance_line (Group first) = refused_for 6 (codes "Group") first
hindrance_line (Undeferred child) = refused_for 13 (codes "Undeferred") child

abbrev pub refusal_line : Refusal → List ℕ
refusal_line NoSuchTask = refused 1 (codes "NoSuchTask")
refusal_line Ended = refused 2 (codes "Ended")
refusal_line (By hindrance) = hindrance_line hindrance

-- what blocks the task itself comes before a full journal
abbrev pub step_refusal : Session → Name → Option (List ℕ)
step_refusal s t = option_or (option_map refusal_line (refusal_for s t)) (if is_full s then Some (refused 7 (codes "Full")) else None)

-- ---- an undo

abbrev pub needed_or : Option StepId → Option (List ℕ) → Option (List ℕ)
needed_or (Some by) other = Some (refused_with 2 (codes "Needed") by)
needed_or None other = other

abbrev pub undo_refusal : Session → StepId → Option (List ℕ)
undo_refusal s id =
    if not (stands id (history s)) then Some (refused 1 (codes "NoSuchStep"))
    else needed_or (first_needer id (history s)) (if is_full s then Some (refused 3 (codes "Full")) else None)

-- ---- a rollback

abbrev pub roll_refusal : Session → StepId → Option (List ℕ)
roll_refusal s id =
    if not (stands id (history s)) then Some (refused 1 (codes "NoSuchStep"))
    else (if is_full s then Some (refused 2 (codes "Full")) else None)

-- ---- a breakpoint

abbrev pub break_word : BreakRefusal → List ℕ
break_word OutOfMemory = codes "Memory"
break_word TooMany = codes "TooMany"
break_word NoSuchBreak = codes "NoSuchBreak"
break_word NoSuchBody = codes "NoSuchBody"
break_word NoSuchCell = codes "NoSuchCell"

abbrev pub break_line : BreakRefusal → List ℕ
break_line r = refused (break_number r) (break_word r)

-- what the program lacks comes before too many breakpoints
abbrev pub break_refusal : Session → Break → Option (List ℕ)
break_refusal s at = option_or (option_map break_line (misplaced s.program at)) (if are_too_many s.control.breakpoints then Some (break_line TooMany) else None)

abbrev pub clear_refusal : Session → ℕ → Option (List ℕ)
clear_refusal s number = if is_standing number s.control.breakpoints then None else Some (break_line NoSuchBreak)

-- ---- a view

abbrev pub view_word : ViewRefusal → List ℕ
view_word Memory = codes "Memory"
view_word NoSuchStep = codes "NoSuchStep"
view_word NoSuchTask = codes "NoSuchTask"

abbrev pub view_line : ViewRefusal → List ℕ
view_line r = refused (view_number r) (view_word r)
