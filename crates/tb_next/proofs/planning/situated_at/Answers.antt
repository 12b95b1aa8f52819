use Rattle.std.proofs.Common.{ap, sym, ◌∙◌, subst}
use Rattle.std.proofs.lemmas.Bool.{false≢true}
use Rattle.tb_model.specs.Program.{situation}
use Rattle.tb_plan.specs.declared.config.Config.{Config}
use Rattle.tb_read.specs.Meaning.{IsPosition}
use Rattle.tb_core.specs.Seen.{history}
use Rattle.tb_next.proofs.PlanLemmas.{stands_at, stands_somewhere}
use Rattle.tb_next.proofs.planning.situated_at.Goals as goal

-- a task that isn't over is at a statement
pub unreachable-requires : goal.unreachable-requires
unreachable-requires c =
    let P = c.args.program.now in
    let run = c.args.core.now.run in
    let t = c.args.config.task in
    let f = c.requires.fits in
    let there : IsPosition P (situation P t (history run)).line = stands_somewhere P t (history run) f.well_formed f.followed f.legal c.requires.going in
    absurd (false≢true (c.in-None.ensures.position.1 (subst (IsPosition P) (sym (ap (λ (k : Config). k.at) c.requires.here ∙ stands_at P run t f)) there)))
