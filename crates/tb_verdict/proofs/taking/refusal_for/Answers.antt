use Rattle.std.proofs.Common.{subst, sym, ◌∙◌, ap, Some, option_map}
use Rattle.tb_model.specs.Lines.{events_of}
use Rattle.tb_undo.specs.Obstacles.{hindrance_by}
use Rattle.tb_verdict.specs.Memory.{IsLongRefusal}
use Rattle.tb_verdict.specs.Refusals.{out_of_turn}
use Rattle.tb_verdict.proofs.NumberedLemmas.{numbered}
use Rattle.tb_verdict.proofs.RefusalLemmas.{not_there, there, unended, no_task, over, not_its_turn, kept, clear, mapped, on_err, on_err_then}
use Rattle.tb_verdict.proofs.taking.refusal_for.Goals as goal

pub returns-in_default-clause-ok : goal.returns-in_default-clause-ok
returns-in_default-clause-ok c first root_line D run =
    no_task first (events_of D) c.args.step c.args.event.now (not_there root_line D c.args.event.now.task (sym (c.standing.ensures root_line D run.state) ∙ c.in_default.is))

pub returns-then-has_ended_at-clause-ok : goal.returns-then-has_ended_at-clause-ok
returns-then-has_ended_at-clause-ok c first root_line D run =
    let spawned = there root_line D c.args.event.now.task c.in-Some.standing (sym (c.standing.ensures root_line D run.state) ∙ c.in-Some.is) in
    over first (events_of D) c.args.step c.args.event.now spawned.0 (sym (c.has_ended_at.ensures first root_line D run.legal run.state) ∙ c.if-has_ended_at.true)

pub returns-in-Some-out_of_turn-clause-ok : goal.returns-in-Some-out_of_turn-clause-ok
returns-in-Some-out_of_turn-clause-ok c first root_line D run =
    let spawned = there root_line D c.args.event.now.task c.in-Some.standing (sym (c.standing.ensures root_line D run.state) ∙ c.in-Some.is) in
    let going = sym (c.has_ended_at.ensures first root_line D run.legal run.state) ∙ c.if-has_ended_at.false in
    let turn = ap (λ n. out_of_turn c.args.step n c.args.event.now.action) (spawned.1 ∙ sym c.steps.ensures) ∙ sym c.out_of_turn.ensures ∙ c.in-Some-out_of_turn.is in
    not_its_turn first (events_of D) c.args.step c.args.event.now spawned.0 going c.in-Some-out_of_turn.refusal turn

pub named-requires : goal.named-requires
named-requires c =
    let first = c.requires.run.0 in
    let root_line = c.requires.run.1 in
    let D = c.requires.run.2 in
    let run = c.requires.run.3 in
    let t = c.args.event.now.task in
    let spawned = there root_line D t c.in-Some.standing (sym (c.standing.ensures root_line D run.state) ∙ c.in-Some.is) in
    let going = sym (c.has_ended_at.ensures first root_line D run.legal run.state) ∙ c.if-has_ended_at.false in
    let way = c.in_the_way.ensures first root_line D run.legal run.state (unended (events_of D) t spawned.0 going) ∙ ap (option_map (hindrance_by t)) c.in-Some-in_the_way.is in
    numbered first (events_of D) t run.legal c.args.event.now.action c.in-Some-in_the_way.obstacle way

pub returns-in-Some-in_the_way-clause-ok : goal.returns-in-Some-in_the_way-clause-ok
returns-in-Some-in_the_way-clause-ok c first root_line D run =
    let t = c.args.event.now.task in
    let spawned = there root_line D t c.in-Some.standing (sym (c.standing.ensures root_line D run.state) ∙ c.in-Some.is) in
    let going = sym (c.has_ended_at.ensures first root_line D run.legal run.state) ∙ c.if-has_ended_at.false in
    let turn = ap (λ n. out_of_turn c.args.step n c.args.event.now.action) (spawned.1 ∙ sym c.steps.ensures) ∙ sym c.out_of_turn.ensures ∙ c.in_default-out_of_turn.is in
    let way = c.in_the_way.ensures first root_line D run.legal run.state (unended (events_of D) t spawned.0 going) ∙ ap (option_map (hindrance_by t)) c.in-Some-in_the_way.is in
    kept first (events_of D) c.args.step c.args.event.now spawned.0 going turn (hindrance_by t c.in-Some-in_the_way.obstacle) way ∙ ap Some (sym c.in_ok-named.ensures.ok)

pub unfit-requires-clause-there : goal.unfit-requires-clause-there
unfit-requires-clause-there c first root_line D run =
    (there root_line D c.args.event.now.task c.in-Some.standing (sym (c.standing.ensures root_line D run.state) ∙ c.in-Some.is)).0

pub returns-clause-ok : goal.returns-clause-ok
returns-clause-ok c =
    let t = c.args.event.now.task in
    mapped c.unfit.result c.unfit.ensures.ok (λ r is first root_line D run.
    let spawned = there root_line D t c.in-Some.standing (sym (c.standing.ensures root_line D run.state) ∙ c.in-Some.is) in
    let going = sym (c.has_ended_at.ensures first root_line D run.legal run.state) ∙ c.if-has_ended_at.false in
    let turn = ap (λ n. out_of_turn c.args.step n c.args.event.now.action) (spawned.1 ∙ sym c.steps.ensures) ∙ sym c.out_of_turn.ensures ∙ c.in_default-out_of_turn.is in
    let way = c.in_the_way.ensures first root_line D run.legal run.state (unended (events_of D) t spawned.0 going) ∙ ap (option_map (hindrance_by t)) c.in_default-in_the_way.is in
    clear first (events_of D) c.args.step c.args.event.now spawned.0 going turn way ∙ sym (is first root_line D run))

pub returns-in_err-named-clause-memory : goal.returns-in_err-named-clause-memory
returns-in_err-named-clause-memory c =
    on_err c.from_residual.result (λ first root_line D run.
    let t = c.args.event.now.task in
    let spawned = there root_line D t c.in-Some.standing (sym (c.standing.ensures root_line D run.state) ∙ c.in-Some.is) in
    let going = sym (c.has_ended_at.ensures first root_line D run.legal run.state) ∙ c.if-has_ended_at.false in
    let turn = ap (λ n. out_of_turn c.args.step n c.args.event.now.action) (spawned.1 ∙ sym c.steps.ensures) ∙ sym c.out_of_turn.ensures ∙ c.in_default-out_of_turn.is in
    let way = c.in_the_way.ensures first root_line D run.legal run.state (unended (events_of D) t spawned.0 going) ∙ ap (option_map (hindrance_by t)) c.in-Some-in_the_way.is in
    subst IsLongRefusal (sym (kept first (events_of D) c.args.step c.args.event.now spawned.0 going turn (hindrance_by t c.in-Some-in_the_way.obstacle) way)) c.in_err-named.ensures.memory)

pub returns-clause-memory : goal.returns-clause-memory
returns-clause-memory c =
    let t = c.args.event.now.task in
    on_err_then c.unfit.result c.unfit.ensures.memory (λ long first root_line D run.
    let spawned = there root_line D t c.in-Some.standing (sym (c.standing.ensures root_line D run.state) ∙ c.in-Some.is) in
    let going = sym (c.has_ended_at.ensures first root_line D run.legal run.state) ∙ c.if-has_ended_at.false in
    let turn = ap (λ n. out_of_turn c.args.step n c.args.event.now.action) (spawned.1 ∙ sym c.steps.ensures) ∙ sym c.out_of_turn.ensures ∙ c.in_default-out_of_turn.is in
    let way = c.in_the_way.ensures first root_line D run.legal run.state (unended (events_of D) t spawned.0 going) ∙ ap (option_map (hindrance_by t)) c.in_default-in_the_way.is in
    subst IsLongRefusal (sym (clear first (events_of D) c.args.step c.args.event.now spawned.0 going turn way)) (long first root_line D run))
