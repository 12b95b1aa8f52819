use Rattle.std.proofs.Common.{◌≡◌, ◌≤◌, ◌+◌, ◌++◌, drop, length}
use Rattle.tb_model.specs.Names.{Name}
use Rattle.tb_model.specs.Hindrances.{can_step}
use Rattle.tb_live.specs.Session.{history}
use Rattle.tb_view.specs.Listing.{joined, lines_of}
use Rattle.tb_view.specs.Waits.{ready_by}
use Rattle.tb_view.proofs.waits.ready_text.Given as goal

-- the text so far, and the lines of the tasks that are left, are the whole, and so are their numbers; a task has one line at most
abbrev pub invariant-tasks : goal.invariant-tasks
invariant-tasks l = record {
  text : l.text ++ joined (lines_of (λ (u : Name). ready_by u (can_step l.live.session.program (history l.live.session) u)) (drop l.task-index l.task-items)) ≡ joined (lines_of (λ (u : Name). ready_by u (can_step l.live.session.program (history l.live.session) u)) l.task-items);
  count : l.count + length (lines_of (λ (u : Name). ready_by u (can_step l.live.session.program (history l.live.session) u)) (drop l.task-index l.task-items)) ≡ length (lines_of (λ (u : Name). ready_by u (can_step l.live.session.program (history l.live.session) u)) l.task-items);
  few : l.count ≤ l.task-index;
}
