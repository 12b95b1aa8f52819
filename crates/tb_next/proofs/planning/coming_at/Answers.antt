use Rattle.std.proofs.Common.{ap, sym, ◌∙◌, subst}
use Rattle.std.proofs.lemmas.Bool.{false≢true}
use Rattle.tb_model.specs.Program.{instr_at, situation}
use Rattle.tb_plan.specs.declared.config.Config.{Config}
use Rattle.tb_plan.specs.Plans.{IsActionOf}
use Rattle.tb_read.specs.Meaning.{IsPosition}
use Rattle.tb_core.specs.Seen.{history}
use Rattle.tb_next.proofs.ComingLemmas.{is_coming}
use Rattle.tb_next.proofs.PlanLemmas.{stands_at, stands_somewhere}
use Rattle.tb_next.proofs.planning.coming_at.Goals as goal

-- a task that isn't over is at a statement
pub unreachable-requires : goal.unreachable-requires
unreachable-requires c =
    let P = c.args.program.now in
    let run = c.args.core.now.run in
    let t = c.args.task.now in
    let f = c.requires.fits in
    let there : IsPosition P (situation P t (history run)).line = stands_somewhere P t (history run) f.well_formed f.followed f.legal c.requires.going in
    absurd (false≢true (c.in-None.ensures.position.1 (subst (IsPosition P) (sym (c.at-at.ensures ∙ ap (λ (k : Config). k.at) (sym c.requires.here) ∙ stands_at P run t f)) there)))

pub returns : goal.returns
returns c =
    let P = c.args.program.now in
    let i = c.in-Some.instr.now in
    let evaluated = subst (λ regs. IsActionOf i c.args.task.now regs c.in_ok-action-in-Some.action) c.regs.ensures c.in_ok-action-in-Some.ensures.evaluated in
    is_coming P c.args.core.now.run c.args.task.now c.args.standing.now i _ c.requires.fits c.requires.there c.requires.going c.requires.here
    (c.in-Some.ensures.instr ∙ ap (instr_at P) c.at-at.ensures) (c.in-Some.ensures.line ∙ c.at-at.ensures) c.in-Some.ensures.cells evaluated c.in_ok-action-in-Some.ensures.allowed c.at-at.ensures c.steps.ensures
    (λ k at. c.line_behind-to.ensures k (at ∙ sym c.at-at.ensures))
