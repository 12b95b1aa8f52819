use Rattle.std.proofs.Common.{◌∙◌, refl, sym, ap, arith, unwrap_or}
use Rattle.tb_model.specs.declared.event.Event.{Event}
use Rattle.tb_core.specs.Seen.{Held}
use Rattle.tb_core.specs.Storing.{entries_in}
use Rattle.tb_core.proofs.ShownLemmas.{open_takes, takes_steps}
use Rattle.tb_core.proofs.NumberLemmas.{named_next}
use Rattle.tb_core.proofs.TakenLemmas.{none_reserved, ahead, follows, few_steps, takes_so}
use Rattle.tb_core.proofs.HeldLemmas.{entered}
use Rattle.tb_core.proofs.run.Core.step_reserved.Goals as goal

pub number_in-number-requires : goal.number_in-number-requires
number_in-number-requires c =
    let i = c.self.inside in
    let is = ap (λ (h : Held). h.run) c.self.view_is in
    let held = ap (λ (h : Held). h.reserved) c.self.view_is ∙ c.requires.reserved in
    let event = ap (λ o. unwrap_or o c.in-Some.event) (sym c.in-Some.is ∙ c.take.ensures.value ∙ held) in
    let may = open_takes c.args.self.now.run c.args.plan c.requires.fits c.requires.open in
    named_next i.first.items i.root_line i.limit (entries_in i.tables i.entries.items) i.tables c.self.invariant.0 c.args.self.now.run is c.in-Some.event (follows i.first.items i.root_line i.limit (entries_in i.tables i.entries.items) i.tables c.self.invariant.0 c.args.self.now.run is c.args.plan.config.task c.args.plan.action may c.in-Some.event event)

pub apply-requires : goal.apply-requires
apply-requires c =
    let i = c.self.inside in
    let is = ap (λ (h : Held). h.run) c.self.view_is in
    let held = ap (λ (h : Held). h.reserved) c.self.view_is ∙ c.requires.reserved in
    let event = ap (λ o. unwrap_or o c.in-Some.event) (sym c.in-Some.is ∙ c.take.ensures.value ∙ held) in
    let may = open_takes c.args.self.now.run c.args.plan c.requires.fits c.requires.open in
    ahead i.first.items i.root_line i.limit (entries_in i.tables i.entries.items) i.tables c.self.invariant.0 c.args.self.now.run is c.in-Some.event (follows i.first.items i.root_line i.limit (entries_in i.tables i.entries.items) i.tables c.self.invariant.0 c.args.self.now.run is c.args.plan.config.task c.args.plan.action may c.in-Some.event event) c.requires.open.room

pub overflow_add-result : goal.overflow_add-result
overflow_add-result c =
    let i = c.self.inside in
    let is = ap (λ (h : Held). h.run) c.self.view_is in
    let counted = ap (λ k. k.steps) c.requires.open.current.here in
    let bound = few_steps i.first.items i.root_line i.limit (entries_in i.tables i.entries.items) i.tables c.self.invariant.0 c.args.self.now.run is c.args.plan.config.task c.args.plan.action (open_takes c.args.self.now.run c.args.plan c.requires.fits c.requires.open) in
    omega (arith, bound, counted)

pub invariant_of-self : goal.invariant_of-self
invariant_of-self c =
    let i = c.self.inside in
    let is = ap (λ (h : Held). h.run) c.self.view_is in
    let held = ap (λ (h : Held). h.reserved) c.self.view_is ∙ c.requires.reserved in
    let event = ap (λ o. unwrap_or o c.in-Some.event) (sym c.in-Some.is ∙ c.take.ensures.value ∙ held) in
    let may = open_takes c.args.self.now.run c.args.plan c.requires.fits c.requires.open in
    let follow = follows i.first.items i.root_line i.limit (entries_in i.tables i.entries.items) i.tables c.self.invariant.0 c.args.self.now.run is c.args.plan.config.task c.args.plan.action may c.in-Some.event event in
    let h =
    entered i.first.items i.root_line i.limit i.entries.items i.tables i.places c.self.invariant.0 c.self.invariant.2 c.self.invariant.3 c.args.self.now.run is c.in-Some.event follow c.requires.open.room c.to-to.result c.in-Ok.replaced c.number_in-number.result
    i.entries.items c.push_reserved-2.new.self.items c.new.result c.apply.new.self c.count-at.result i.places c.push_reserved.new.self refl c.push_reserved-2.ensures.items c.new.ensures c.number_in-number.ensures
    c.in-Ok.ensures.applied c.in-Ok.ensures.replaced c.apply.ensures.names (λ ks es index. index) c.push_reserved.ensures.pushed c.count-at.ensures.count in
    (h.sound', none_reserved _ _ _ _ c.take.ensures.after, h.index', h.stored')

pub returns : goal.returns
returns c =
    let i = c.self.inside in
    let is = ap (λ (h : Held). h.run) c.self.view_is in
    let held = ap (λ (h : Held). h.reserved) c.self.view_is ∙ c.requires.reserved in
    let event = ap (λ o. unwrap_or o c.in-Some.event) (sym c.in-Some.is ∙ c.take.ensures.value ∙ held) in
    let may = open_takes c.args.self.now.run c.args.plan c.requires.fits c.requires.open in
    let follow = follows i.first.items i.root_line i.limit (entries_in i.tables i.entries.items) i.tables c.self.invariant.0 c.args.self.now.run is c.args.plan.config.task c.args.plan.action may c.in-Some.event event in
    let h =
    entered i.first.items i.root_line i.limit i.entries.items i.tables i.places c.self.invariant.0 c.self.invariant.2 c.self.invariant.3 c.args.self.now.run is c.in-Some.event follow c.requires.open.room c.to-to.result c.in-Ok.replaced c.number_in-number.result
    i.entries.items c.push_reserved-2.new.self.items c.new.result c.apply.new.self c.count-at.result i.places c.push_reserved.new.self refl c.push_reserved-2.ensures.items c.new.ensures c.number_in-number.ensures
    c.in-Ok.ensures.applied c.in-Ok.ensures.replaced c.apply.ensures.names (λ ks es index. index) c.push_reserved.ensures.pushed c.count-at.ensures.count in
    takes_steps c.args.self.now.run c.args.plan c.to-to.result _ c.in-Some.event _ c.requires.open.current c.requires.open.room
    (takes_so c.args.self.now.run c.args.plan.config.task c.args.plan.action c.to-to.result _ c.in-Some.event event follow h.run) (sym c.to-to.ensures) (ap (λ (v : Event). v.task) event) refl
