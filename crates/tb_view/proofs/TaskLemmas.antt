-- The tasks of a history, along its stored steps.
use Rattle.std.proofs.Common.{◌≡◌, ◌<◌, ◌+◌, ℕ, List, length, take, sym, ap, ap₂, ◌∙◌, get_or}
use Rattle.tb_model.specs.declared.action.Action.{Action}
use Rattle.tb_steps.specs.Entries.{Entry}
use Rattle.tb_steps.specs.Scans.{history_of}
use Rattle.tb_core.proofs.RenumberLemmas.{some_entry}
use Rattle.tb_steps.proofs.ScanLemmas.{history_more}
use Rattle.tb_view.specs.Tasks.{Named, named_tasks, with_spawned}

-- the action is that of the step at index i
module _ (entries : List Entry) (i : ℕ) (a : Action) (within : i < length entries) (read : (e : Entry) → e ≡ get_or entries i e → a ≡ e.event.action) (root_line : ℕ) where
  step : (e : Entry) × (e ≡ get_or entries i e)
  step = some_entry entries i within

  -- one stored step more among the tasks
  pub named_more : (tasks more : List Named) → tasks ≡ named_tasks root_line (history_of (take i entries)) → more ≡ with_spawned a tasks → more ≡ named_tasks root_line (history_of (take (i + 1) entries))
  named_more tasks more so_far grows = grows ∙ ap₂ with_spawned (read step.0 step.1) so_far ∙ ap (named_tasks root_line) (sym (history_more entries i step.0 within step.1))
