use Rattle.std.proofs.Common.{ap, sym, ◌∙◌, subst}
use Rattle.std.proofs.lemmas.Bool.{false≢true}
use Rattle.tb_model.specs.Program.{instr_at, situation}
use Rattle.tb_plan.specs.declared.config.Config.{Config}
use Rattle.tb_read.specs.Meaning.{IsPosition}
use Rattle.tb_core.specs.Seen.{history}
use Rattle.tb_next.specs.Unevaluated.{hindrance_at}
use Rattle.tb_next.proofs.PlanLemmas.{stands_at, stands_somewhere}
use Rattle.tb_next.proofs.UnevaluatedLemmas.{kept_at, none_at, refused_by_statement}
use Rattle.tb_next.proofs.unevaluated.kept_from.Goals as goal

-- a task that isn't over is at a statement
pub unreachable-requires : goal.unreachable-requires
unreachable-requires c =
    let P = c.args.program.now in
    let run = c.args.core.now.run in
    let t = c.args.task.now in
    let f = c.requires.fits in
    let there : IsPosition P (situation P t (history run)).line = stands_somewhere P t (history run) f.well_formed f.followed f.legal c.requires.going in
    absurd (false≢true (c.in-None.ensures.position.1 (subst (IsPosition P) (sym (c.at.ensures ∙ ap (λ (k : Config). k.at) (sym c.requires.here) ∙ stands_at P run t f)) there)))

pub returns-clause-some : goal.returns-clause-some
returns-clause-some c =
    let P = c.args.program.now in
    let run = c.args.core.now.run in
    let t = c.args.task.now in
    let k = c.args.standing.now in
    kept_at P run t (hindrance_at P.cells (history run) t k.regs c.in-Some.instr.now.statement) c.kept_by.result
    (refused_by_statement P run t k c.in-Some.instr.now c.requires.fits c.requires.there c.requires.going c.requires.here (c.in-Some.ensures.instr ∙ ap (instr_at P) c.at.ensures)) c.kept_by.ensures.some

pub returns-clause-none : goal.returns-clause-none
returns-clause-none c =
    let P = c.args.program.now in
    let run = c.args.core.now.run in
    let t = c.args.task.now in
    let k = c.args.standing.now in
    none_at P run t (hindrance_at P.cells (history run) t k.regs c.in-Some.instr.now.statement) c.kept_by.result
    (refused_by_statement P run t k c.in-Some.instr.now c.requires.fits c.requires.there c.requires.going c.requires.here (c.in-Some.ensures.instr ∙ ap (instr_at P) c.at.ensures)) c.kept_by.ensures.none
