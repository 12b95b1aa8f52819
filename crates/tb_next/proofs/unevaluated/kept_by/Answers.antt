use Rattle.std.proofs.Common.{ℤ, List, ap, refl, option_map}
use Rattle.tb_model.specs.Hindrances.{Children, in_the_way}
use Rattle.tb_core.specs.Seen.{history}
use Rattle.tb_next.specs.Unevaluated.{holding, stand_in}
use Rattle.tb_next.proofs.UnevaluatedLemmas.{kept_first, kept_behind, none_behind}
use Rattle.tb_next.proofs.unevaluated.kept_by.Goals as goal

pub returns-in-Some-clause-some : goal.returns-in-Some-clause-some
returns-in-Some-clause-some c =
    let H = history c.args.core.now.run in
    let t = c.args.task.now in
    let s = c.args.statement.now in
    kept_first (in_the_way H t (stand_in s)) (option_map Children (holding c.args.program.now.cells H t c.args.standing.now.regs s)) c.args.core.now.run t (stand_in s) c.in-Some.refusal refl c.in-Some.ensures.some

pub returns-in-None-clause-some : goal.returns-in-None-clause-some
returns-in-None-clause-some c =
    let P = c.args.program.now in
    let H = history c.args.core.now.run in
    let t = c.args.task.now in
    let s = c.args.statement.now in
    kept_behind (in_the_way H t (stand_in s)) (holding P.cells H t c.regs.result.now s) (holding P.cells H t c.args.standing.now.regs s) c.held_up.result c.in-None.ensures.none
    (ap (λ (regs : List ℤ). holding P.cells H t regs s) c.regs.ensures) c.held_up.ensures.some

pub returns-in-None-clause-none : goal.returns-in-None-clause-none
returns-in-None-clause-none c =
    let P = c.args.program.now in
    let H = history c.args.core.now.run in
    let t = c.args.task.now in
    let s = c.args.statement.now in
    none_behind (in_the_way H t (stand_in s)) (holding P.cells H t c.regs.result.now s) (holding P.cells H t c.args.standing.now.regs s) c.held_up.result c.in-None.ensures.none
    (ap (λ (regs : List ℤ). holding P.cells H t regs s) c.regs.ensures) c.held_up.ensures.none
