use Rattle.std.proofs.Common.{◌≡◌, ◌∙◌, ℕ, Bool, sym, ap, cond, unwrap_or, Option, Some, None}
use Rattle.tb_model.specs.Facts.{is_spawned}
use Rattle.tb_model.specs.State.{called_by, spawn_of}
use Rattle.tb_core.specs.Seen.{history}
use Rattle.tb_view.specs.Tasks.{body_text}
use Rattle.tb_view.proofs.task_text.body_of.Goals as goal

pub returns : goal.returns
returns c =
    let run = c.args.core.now.run in
    let spawn = spawn_of c.args.task.now (history run) in
    let told = c.body.ensures ∙ ap (λ (b : Bool). cond b (Some (called_by run.root_line spawn).line) None) c.requires.there in
    let line = ap (λ o. unwrap_or o c.in-Some.line) (sym c.in-Some.is ∙ told) ∙ ap (λ (r : ℕ). (called_by r spawn).line) c.requires.fits.root_line in
    c.body_name.ensures ∙ ap (body_text c.args.program.now) line

pub unreachable-requires : goal.unreachable-requires
unreachable-requires c =
    let run = c.args.core.now.run in
    let line = (called_by run.root_line (spawn_of c.args.task.now (history run))).line in
    let told = c.body.ensures ∙ ap (λ (b : Bool). cond b (Some line) None) c.requires.there in
    let clash : ◌≡◌ {A = Option ℕ} None (Some line) = sym c.in-None.is ∙ told in
    cc
