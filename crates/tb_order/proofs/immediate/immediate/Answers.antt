use Rattle.std.proofs.Common.{◌≡◌, ◌<◌, ◌∙◌, List, true, is_some, length, sym, ap₂, subst, map, take}
use Rattle.std.specs.List.{All}
use Rattle.tb_model.specs.declared.event.Event.{Event}
use Rattle.tb_steps.specs.Entries.{Entry}
use Rattle.tb_model.specs.Names.{Name}
use Rattle.tb_model.specs.Facts.{IsSpawned}
use Rattle.tb_steps.specs.Scans.{AreLegal, history_of}
use Rattle.tb_steps.proofs.FirstLemmas.{front_legal, there}
use Rattle.tb_core.proofs.LendingLemmas.{spawned_at}
use Rattle.tb_order.specs.Told.{told}
use Rattle.tb_order.proofs.CauseLemmas.{causes_told, event_read, places_near, places_within}
use Rattle.tb_order.proofs.immediate.immediate.Goals as goal

pub causes_at-requires-clause-legal : goal.causes_at-requires-clause-legal
causes_at-requires-clause-legal c =
    let x = there c.args.entries.now c.args.at c.requires.within in
    subst AreLegal (sym c.front-front.ensures) (front_legal c.args.entries.now c.args.at x.0 c.requires.within x.1 c.requires.legal)

pub causes_at-requires-clause-within : goal.causes_at-requires-clause-within
causes_at-requires-clause-within c =
    let x = there c.args.entries.now c.args.at c.requires.within in
    let places = c.deref.result.now in
    subst (λ (front : List Entry). All (λ p. p < length front) places) (sym c.front-front.ensures)
    (places_within (take c.args.at c.args.entries.now) x.0.event places (c.deref.ensures.value ∙ c.in_ok-places.ensures x.0 x.1))

pub causes_at-requires-clause-near : goal.causes_at-requires-clause-near
causes_at-requires-clause-near c =
    let entries = c.args.entries.now in
    let at = c.args.at in
    let x = there entries at c.requires.within in
    let places = c.deref.result.now in
    let read = event_read c.task.result.now c.action.result.now x.0.event (c.task.ensures x.0 x.1) (c.action.ensures x.0 x.1) in
    subst (λ (e : Event). All (λ p. is_some (told c.front-front.result e p) ≡ true) places) (sym read)
    (subst (λ (front : List Entry). All (λ p. is_some (told front x.0.event p) ≡ true) places) (sym c.front-front.ensures)
    (places_near (take at entries) x.0.event places (c.deref.ensures.value ∙ c.in_ok-places.ensures x.0 x.1)))

pub returns : goal.returns
returns c v isv =
    let places = c.deref.result.now in
    let read = event_read c.task.result.now c.action.result.now v.event (c.task.ensures v isv) (c.action.ensures v isv) in
    causes_told (take c.args.at c.args.entries.now) v.event places (c.deref.ensures.value ∙ c.in_ok-places.ensures v isv) c.in_ok-causes.causes.items
    (c.in_ok-causes.ensures ∙ ap₂ (λ (front : List Entry) (e : Event). map (told front e) places) c.front-front.ensures read)

pub causes_at-requires-clause-spawned : goal.causes_at-requires-clause-spawned
causes_at-requires-clause-spawned c =
    let x = there c.args.entries.now c.args.at c.requires.within in
    let spawned = spawned_at c.args.entries.now c.args.at x.0 c.requires.within x.1 c.requires.legal in
    subst (λ (t : Name). IsSpawned (history_of c.front-front.result) t) (sym (c.task.ensures x.0 x.1))
    (subst (λ (es : List Entry). IsSpawned (history_of es) x.0.event.task) (sym c.front-front.ensures) spawned)
