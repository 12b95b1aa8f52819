use Rattle.std.proofs.Common.{◌≡◌, sym, ap, ◌∙◌, subst, arith}
use Rattle.tb_undo.specs.State.{IsState}
use Rattle.tb_core.specs.Seen.{Held}
use Rattle.tb_core.specs.Naming.{config_with}
use Rattle.tb_core.proofs.ShownLemmas.{not_there, is_there, stands_as, current, stale_refuses, kept_by}
use Rattle.tb_core.proofs.RefusedLemmas.{elsewhere}
use Rattle.tb_core.proofs.run.Core.refusal.Goals as goal

pub returns-in_default-clause-some : goal.returns-in_default-clause-some
returns-in_default-clause-some c =
    let s = c.args.self.now.run in
    let t = c.args.plan.now.config.task in
    let state = subst (λ (h : Held). IsState h.run.cells h.run.root_line h.run.steps c.self.inside.tables) c.self.view_is c.self.invariant.0.state in
    not_there s t c.standing.result (c.standing.ensures s.root_line s.steps state.of_tasks) c.in_default.is

pub returns-then-has_ended-clause-some : goal.returns-then-has_ended-clause-some
returns-then-has_ended-clause-some c =
    let s = c.args.self.now.run in
    let t = c.args.plan.now.config.task in
    let state = subst (λ (h : Held). IsState h.run.cells h.run.root_line h.run.steps c.self.inside.tables) c.self.view_is c.self.invariant.0.state in
    (is_there s t c.standing.result (c.standing.ensures s.root_line s.steps state.of_tasks) c.in-Some.standing c.in-Some.is, sym c.has_ended.ensures ∙ c.if-has_ended.true)

pub returns-then-not-stands_so-clause-some : goal.returns-then-not-stands_so-clause-some
returns-then-not-stands_so-clause-some c =
    let s = c.args.self.now.run in
    let t = c.args.plan.now.config.task in
    let state = subst (λ (h : Held). IsState h.run.cells h.run.root_line h.run.steps c.self.inside.tables) c.self.view_is c.self.invariant.0.state in
    let told = c.standing.ensures s.root_line s.steps state.of_tasks in
    let there = is_there s t c.standing.result told c.in-Some.standing c.in-Some.is in
    let here = stands_as s t c.standing.result told c.in-Some.standing c.in-Some.is in
    let other = elsewhere c.stands_so.result (c.args.plan.now.config ≡ config_with t c.in-Some.standing) c.stands_so.ensures c.if-not-stands_so.true in
    stale_refuses s c.args.plan.now (config_with t c.in-Some.standing) c.stale.result there (sym c.has_ended.ensures ∙ c.if-has_ended.false) here other c.stale.ensures

pub hindrance-requires-clause-there : goal.hindrance-requires-clause-there
hindrance-requires-clause-there c =
    let s = c.args.self.now.run in
    let t = c.args.plan.now.config.task in
    let state = subst (λ (h : Held). IsState h.run.cells h.run.root_line h.run.steps c.self.inside.tables) c.self.view_is c.self.invariant.0.state in
    is_there s t c.standing.result (c.standing.ensures s.root_line s.steps state.of_tasks) c.in-Some.standing c.in-Some.is

pub returns-in-Some-hindrance-clause-some : goal.returns-in-Some-hindrance-clause-some
returns-in-Some-hindrance-clause-some c =
    let s = c.args.self.now.run in
    let t = c.args.plan.now.config.task in
    let state = subst (λ (h : Held). IsState h.run.cells h.run.root_line h.run.steps c.self.inside.tables) c.self.view_is c.self.invariant.0.state in
    let told = c.standing.ensures s.root_line s.steps state.of_tasks in
    let there = is_there s t c.standing.result told c.in-Some.standing c.in-Some.is in
    let here = c.stands_so.ensures.0 c.if-not-stands_so.false ∙ sym (stands_as s t c.standing.result told c.in-Some.standing c.in-Some.is) in
    kept_by s c.args.plan.now c.in-Some-hindrance.hindrance (current s c.args.plan.now there (sym c.has_ended.ensures ∙ c.if-has_ended.false) here) c.in-Some-hindrance.ensures.some

pub returns-then-self-count-clause-some : goal.returns-then-self-count-clause-some
returns-then-self-count-clause-some c =
    let s = c.args.self.now.run in
    let t = c.args.plan.now.config.task in
    let state = subst (λ (h : Held). IsState h.run.cells h.run.root_line h.run.steps c.self.inside.tables) c.self.view_is c.self.invariant.0.state in
    let limit : c.self.inside.limit ≡ s.limit = ap (λ (h : Held). h.run.limit) c.self.view_is in
    let told = c.standing.ensures s.root_line s.steps state.of_tasks in
    let there = is_there s t c.standing.result told c.in-Some.standing c.in-Some.is in
    let over = sym c.has_ended.ensures ∙ c.if-has_ended.false in
    let here = c.stands_so.ensures.0 c.if-not-stands_so.false ∙ sym (stands_as s t c.standing.result told c.in-Some.standing c.in-Some.is) in
    (current s c.args.plan.now there over here, c.in_default-hindrance.ensures.none, omega (arith, limit, c.count.ensures.count, c.if-self-count.true))

pub returns-clause-none : goal.returns-clause-none
returns-clause-none c =
    let s = c.args.self.now.run in
    let t = c.args.plan.now.config.task in
    let state = subst (λ (h : Held). IsState h.run.cells h.run.root_line h.run.steps c.self.inside.tables) c.self.view_is c.self.invariant.0.state in
    let limit : c.self.inside.limit ≡ s.limit = ap (λ (h : Held). h.run.limit) c.self.view_is in
    let told = c.standing.ensures s.root_line s.steps state.of_tasks in
    let there = is_there s t c.standing.result told c.in-Some.standing c.in-Some.is in
    let over = sym c.has_ended.ensures ∙ c.if-has_ended.false in
    let here = c.stands_so.ensures.0 c.if-not-stands_so.false ∙ sym (stands_as s t c.standing.result told c.in-Some.standing c.in-Some.is) in
    record { current = current s c.args.plan.now there over here; clear = c.in_default-hindrance.ensures.none; room = omega (arith, limit, c.count.ensures.count, c.if-self-count.false) }
