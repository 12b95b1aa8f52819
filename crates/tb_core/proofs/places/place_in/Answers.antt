use Rattle.std.proofs.Common.{◌∙◌, refl, sym, arith}
use Rattle.std.proofs.lemmas.Bool.{false≢true}
use Rattle.tb_steps.specs.Scans.{history_of}
use Rattle.tb_core.proofs.OwnLemmas.{own_at, own_within, places_counted}
use Rattle.tb_core.proofs.places.place_in.Goals as goal

pub returns-then-not-is_number_of-clause-there : goal.returns-then-not-is_number_of-clause-there
returns-then-not-is_number_of-clause-there c =
    let es = c.args.entries.now in
    let test = c.is_number_of.ensures (history_of es) (places_counted es c.args.own.now c.args.id.now c.requires) in
    ((λ h. absurd (false≢true h)), (λ h. sym c.if-not-is_number_of.true ∙ test ∙ h))

pub overflow_sub-result : goal.overflow_sub-result
overflow_sub-result c = (own_within c.args.entries.now c.args.own.now c.args.id.now c.requires c.is_number_of.result c.is_number_of.ensures c.if-not-is_number_of.false).0

pub bounds-own-id : goal.bounds-own-id
bounds-own-id c =
    let within = own_within c.args.entries.now c.args.own.now c.args.id.now c.requires c.is_number_of.result c.is_number_of.ensures c.if-not-is_number_of.false in
    omega (arith, within.0, within.1)

pub returns-clause-there : goal.returns-clause-there
returns-clause-there c =
    let is = own_at c.args.entries.now c.args.own.now c.args.id.now c.requires c.is_number_of.result 0 c.is_number_of.ensures c.if-not-is_number_of.false in
    ((λ h. is.stands), (λ h. refl))

pub returns-clause-step : goal.returns-clause-step
returns-clause-step c = (own_at c.args.entries.now c.args.own.now c.args.id.now c.requires c.is_number_of.result 0 c.is_number_of.ensures c.if-not-is_number_of.false).step

pub returns-clause-within : goal.returns-clause-within
returns-clause-within c = (own_at c.args.entries.now c.args.own.now c.args.id.now c.requires c.is_number_of.result 0 c.is_number_of.ensures c.if-not-is_number_of.false).within
