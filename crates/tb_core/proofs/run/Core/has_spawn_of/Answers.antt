use Rattle.std.proofs.Common.{◌∙◌, ap, sym, unwrap_or, Some}
use Rattle.tb_core.specs.Filling.{spare_spawn}
use Rattle.tb_core.specs.Seen.{Held}
use Rattle.tb_core.specs.Storing.{entries_in}
use Rattle.tb_core.proofs.ShownLemmas.{open_takes}
use Rattle.tb_core.proofs.TakenLemmas.{run_of, filled, fills}
use Rattle.tb_core.proofs.run.Core.has_spawn_of.Goals as goal

pub is_spawn_of-requires : goal.is_spawn_of-requires
is_spawn_of-requires c =
    let i = c.self.inside in
    let is = ap (λ (h : Held). h.run) c.self.view_is in
    run_of i.first.items i.root_line i.limit (entries_in i.tables i.entries.items) i.tables c.self.invariant.0 c.args.self.now.run is c.args.plan.now.config.task c.args.plan.now.action (open_takes c.args.self.now.run c.args.plan.now c.requires.fits c.requires.ready)

pub returns-in-Some-clause-yes : goal.returns-in-Some-clause-yes
returns-in-Some-clause-yes c h =
    let i = c.self.inside in
    let is = ap (λ (h : Held). h.run) c.self.view_is in
    sym (ap (λ (h : Held). h.reserved) c.self.view_is) ∙ c.in-Some.is
    ∙ ap Some (filled i.first.items i.root_line i.limit (entries_in i.tables i.entries.items) i.tables c.self.invariant.0 c.args.self.now.run is c.args.plan.now.config.task c.args.plan.now.action (open_takes c.args.self.now.run c.args.plan.now c.requires.fits c.requires.ready) c.in-Some.event (c.is_spawn_of.ensures.yes h))

pub returns-in-Some-clause-no : goal.returns-in-Some-clause-no
returns-in-Some-clause-no c h reserved =
    let i = c.self.inside in
    let is = ap (λ (h : Held). h.run) c.self.view_is in
    let held = sym (ap (λ (h : Held). h.reserved) c.self.view_is) ∙ c.in-Some.is in
    let event = ap (λ o. unwrap_or o c.in-Some.event) (sym held ∙ reserved) in
    ap spare_spawn held
    ∙ c.is_spawn_of.ensures.no h (fills i.first.items i.root_line i.limit (entries_in i.tables i.entries.items) i.tables c.self.invariant.0 c.args.self.now.run is c.args.plan.now.config.task c.args.plan.now.action (open_takes c.args.self.now.run c.args.plan.now c.requires.fits c.requires.ready) c.in-Some.event event)
