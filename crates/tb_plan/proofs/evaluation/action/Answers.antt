use Rattle.std.proofs.Common.{◌≡◌, ◌∙◌, ap, sym, subst, IfOk}
use Rattle.tb_model.specs.Program.{action_of, zero_ℤ}
use Rattle.tb_model.specs.declared.action.Action.{Action}
use Rattle.tb_model.specs.declared.statement.Statement.{Statement}
use Rattle.tb_model.specs.declared.statement.Statement.TheVariants.{Taskwait}
use Rattle.tb_plan.proofs.evaluation.action.Goals as goal

pub returns-in-Load-clause-evaluated : goal.returns-in-Load-clause-evaluated
returns-in-Load-clause-evaluated c all e =
    c.load_action.ensures.evaluated all c.args.task.now e ∙ ap (action_of all c.args.task.now 1 c.args.regs.now zero_ℤ) (sym c.in-Load.is)

pub returns-in-Store-clause-evaluated : goal.returns-in-Store-clause-evaluated
returns-in-Store-clause-evaluated c all e =
    c.store_action.ensures.evaluated all c.args.task.now e ∙ ap (action_of all c.args.task.now 1 c.args.regs.now zero_ℤ) (sym c.in-Store.is)

pub returns-in-Taskwait-clause-evaluated : goal.returns-in-Taskwait-clause-evaluated
returns-in-Taskwait-clause-evaluated c all e =
    let same : Taskwait c.as_slice-in-Taskwait.result.now ≡ c.args.statement.now = ap Taskwait c.as_slice-in-Taskwait.ensures ∙ sym c.in-Taskwait.is in
    subst (λ (s : Statement). IfOk c.wait_action.result (λ (a : Action). a ≡ action_of all c.args.task.now 1 c.args.regs.now zero_ℤ s)) same (c.wait_action.ensures.evaluated all c.args.task.now e)
