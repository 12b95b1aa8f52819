use Rattle.std.proofs.Common.{refl, sym, ap, ◌∙◌, subst}
use Rattle.tb_model.specs.Lines.{events_of}
use Rattle.tb_verdict.specs.Memory.{MayTake}
use Rattle.tb_verdict.specs.Refusals.{refusal_of}
use Rattle.tb_verdict.specs.Values.{AreValues, value_in}
use Rattle.tb_verdict.proofs.FollowLemmas.{follows}
use Rattle.tb_verdict.proofs.RefusalLemmas.{may_if_long, on_err}
use Rattle.tb_verdict.proofs.ValueLemmas.{values_more}
use Rattle.tb_verdict.proofs.HeldLemmas.{is_same}
use Rattle.tb_verdict.proofs.taking.take.Goals as goal

pub returns-in-Some-clause-ok : goal.returns-in-Some-clause-ok
returns-in-Some-clause-ok c = (refl, λ first root_line D run. c.in_ok-refusal.ensures.ok first root_line D run ∙ c.in-Some.is)

pub apply_tasks-requires : goal.apply_tasks-requires
apply_tasks-requires c =
    let first = c.requires.run.0 in
    let root_line = c.requires.run.1 in
    let D = c.requires.run.2 in
    let run = c.requires.run.3 in
    let none = c.in_ok-refusal.ensures.ok first root_line D run ∙ c.in_default.is in
    (first, root_line, D, follows first root_line D c.args.state.now c.args.step c.args.event.now run c.requires.allowed none)

pub returns-clause-ok : goal.returns-clause-ok
returns-clause-ok c first root_line D run =
    let none = c.in_ok-refusal.ensures.ok first root_line D run ∙ c.in_default.is in
    let behind = follows first root_line D c.args.state.now c.args.step c.args.event.now run c.requires.allowed none in (
      none,
      record {
        legal = behind.legal;
        cells = run.cells;
        state = c.in_ok-apply_tasks.ensures.applied first root_line D behind;
        values = values_more first (events_of D) c.args.event.now c.reserve_value.new.values.entries c.set_value.new.values.entries c.set_value.ensures
            (subst (AreValues first (events_of D)) (sym c.reserve_value.ensures.same) run.values);
      },
    )

pub returns-in_err-refusal-clause-memory : goal.returns-in_err-refusal-clause-memory
returns-in_err-refusal-clause-memory c =
    on_err c.from_residual.result (λ first root_line D run.
    may_if_long (refusal_of first (events_of D) c.args.step c.args.event.now) (c.in_err-refusal.ensures.memory first root_line D run))

pub returns-in_err-reserve_value-clause-memory : goal.returns-in_err-reserve_value-clause-memory
returns-in_err-reserve_value-clause-memory c =
    on_err c.from_residual-in_err-reserve_value.result (λ first root_line D run.
    subst MayTake (sym (c.in_ok-refusal.ensures.ok first root_line D run ∙ c.in_default.is)) tt)

pub returns-in_err-apply_tasks-clause-memory : goal.returns-in_err-apply_tasks-clause-memory
returns-in_err-apply_tasks-clause-memory c =
    on_err c.from_residual-in_err-apply_tasks.result (λ first root_line D run.
    subst MayTake (sym (c.in_ok-refusal.ensures.ok first root_line D run ∙ c.in_default.is)) tt)

pub returns-in_err-refusal-clause-err : goal.returns-in_err-refusal-clause-err
returns-in_err-refusal-clause-err c = on_err c.from_residual.result (is_same _ _ refl refl refl)

pub returns-in_err-reserve_value-clause-err : goal.returns-in_err-reserve_value-clause-err
returns-in_err-reserve_value-clause-err c = on_err c.from_residual-in_err-reserve_value.result (is_same _ _ refl refl c.reserve_value.ensures.same)

pub returns-in_err-apply_tasks-clause-err : goal.returns-in_err-apply_tasks-clause-err
returns-in_err-apply_tasks-clause-err c =
    on_err c.from_residual-in_err-apply_tasks.result (record { cells = refl; tables = c.in_err-apply_tasks.ensures.err; values = λ k. ap (λ values. value_in values k) c.reserve_value.ensures.same })
