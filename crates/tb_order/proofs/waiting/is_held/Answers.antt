use Rattle.std.proofs.Common.{◌<◌, ◌∷◌, length, take, sym, ap, ◌∙◌, arith}
use Rattle.tb_model.specs.Facts
use Rattle.tb_steps.specs.Scans.{history_of}
use Rattle.tb_lanes.proofs.OwnLemmas.{held_here, held_none}
use Rattle.tb_order.proofs.waiting.is_held.Goals as goal
use Rattle.tb_steps.proofs.FirstLemmas.{there}

pub returns-in-Some : goal.returns-in-Some
returns-in-Some c h v is u =
    let entries = c.args.entries.now in
    let b = c.in-Some.ensures.own in
    let inside : c.in-Some.before < length entries = omega (arith, b.2, c.requires.at) in
    let y = there entries c.in-Some.before inside in
    let older = Facts.own v.event.task (history_of (take c.in-Some.before entries)) in
    ap (λ acts. Facts.holds acts u) (held_here entries c.args.tasks.now c.requires.tasks c.args.at c.requires.at v is c.in-Some.before y.0 inside y.1 b.0 b.1)
    ∙ sym (ap (λ a. Facts.holds (a ∷ older) u) (c.action.ensures y.0 y.1))
    ∙ c.holds_some.ensures h older u

pub returns-in-None : goal.returns-in-None
returns-in-None c h v is u =
    ap (λ acts. Facts.holds acts u) (held_none c.args.entries.now c.args.tasks.now c.requires.tasks c.args.at c.requires.at v is c.in-None.ensures.none)
