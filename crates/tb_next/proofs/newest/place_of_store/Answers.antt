use Rattle.std.proofs.Common.{sym, ◌∙◌}
use Rattle.tb_model.specs.Facts.{is_store_to, touches}
use Rattle.tb_next.proofs.NewestLemmas.{all_left, none_left, next_within, next_found, next_passed, touches_wider}
use Rattle.tb_next.proofs.newest.place_of_store.Goals as goal

pub back-init : goal.back-init
back-init c = all_left (λ v. touches c.args.cell v.action) (is_store_to c.args.cell) c.args.entries.now (touches_wider c.args.cell) c.args.places.now c.requires

pub action-requires : goal.action-requires
action-requires c =
    next_within (λ v. touches c.args.cell v.action) (is_store_to c.args.cell) c.args.entries.now (touches_wider c.args.cell) c.args.places.now c.back.left c.back-test.true c.back.invariant

pub returns-then-is_store_to-clause-step : goal.returns-then-is_store_to-clause-step
returns-then-is_store_to-clause-step c =
    next_found (λ v. touches c.args.cell v.action) (is_store_to c.args.cell) c.args.entries.now (touches_wider c.args.cell) c.args.places.now c.back.left c.back-test.true c.back.invariant
    c.action.result.now c.action.ensures (sym c.is_store_to.ensures ∙ c.if-is_store_to.true)

pub returns-then-is_store_to-clause-within : goal.returns-then-is_store_to-clause-within
returns-then-is_store_to-clause-within c =
    next_within (λ v. touches c.args.cell v.action) (is_store_to c.args.cell) c.args.entries.now (touches_wider c.args.cell) c.args.places.now c.back.left c.back-test.true c.back.invariant

pub back-preserved : goal.back-preserved
back-preserved c =
    next_passed (λ v. touches c.args.cell v.action) (is_store_to c.args.cell) c.args.entries.now (touches_wider c.args.cell) c.args.places.now c.back.left c.back-test.true c.back.invariant
    c.action.result.now c.action.ensures (sym c.is_store_to.ensures ∙ c.if-is_store_to.false)

pub returns-clause-step : goal.returns-clause-step
returns-clause-step c =
    none_left (λ v. touches c.args.cell v.action) (is_store_to c.args.cell) c.args.entries.now (touches_wider c.args.cell) c.args.places.now c.back.left c.back-test.false c.back.invariant
