use Rattle.std.proofs.Common.{ap, ap₂, ◌∙◌, ℕ, Some, None, if◌then◌else◌}
use Rattle.tb_model.specs.Facts.{History, is_spawned}
use Rattle.tb_model.specs.State.{called_by, spawn_of}
use Rattle.tb_live.specs.Session.{Held, history}
use Rattle.tb_live.proofs.live.Live.body.Goals as goal

pub returns : goal.returns
returns c =
    let left = c.self.invariant.0.leaves ∙ ap (λ (h : Held). history h.session) c.self.view_is in
    let line = c.self.invariant.0.fits.root_line ∙ ap (λ (h : Held). h.session.program.root_line) c.self.view_is in
    c.body.ensures ∙ ap₂ (λ (H : History) (r : ℕ). if is_spawned H c.args.task.now then Some (called_by r (spawn_of c.args.task.now H)).line else None) left line
