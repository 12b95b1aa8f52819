use Rattle.std.proofs.Common.{◌∙◌, length, ap, refl, arith}
use Rattle.tb_core.specs.Seen.{Held}
use Rattle.tb_core.specs.Storing.{entries_in}
use Rattle.tb_core.proofs.HeldLemmas.{few_stored}
use Rattle.tb_core.proofs.TakenLemmas.{none_reserved}
use Rattle.tb_core.proofs.RenumberLemmas.{removed_rise}
use Rattle.tb_core.proofs.RolledOutLemmas.{all_out}
use Rattle.tb_core.proofs.run.Core.take_out_all.Goals as goal

pub renumber-requires-clause-bound : goal.renumber-requires-clause-bound
renumber-requires-clause-bound c =
    let i = c.self.inside in
    omega (arith, ap length c.as_slice.ensures.value, few_stored i.first.items i.root_line i.limit i.entries.items (entries_in i.tables i.entries.items) i.tables c.self.invariant.3 c.self.invariant.0)

pub renumber-requires-clause-rise : goal.renumber-requires-clause-rise
renumber-requires-clause-rise c = removed_rise c.args.rollback.step _ _ (c.as_slice-2.ensures.value ∙ c.requires.places)

pub invariant_of-self : goal.invariant_of-self
invariant_of-self c =
    let i = c.self.inside in
    let u = c.unwind-removed in
    let o =
    all_out i.first.items i.root_line i.limit i.entries.items i.tables c.self.invariant.0 c.args.self.now.run (ap (λ (h : Held). h.run) c.self.view_is) c.args.rollback.step c.args.rollback.places.items u.new.tables u.result.items c.self.invariant.3 u.ensures.unwound
    u.new.entries.items u.ensures.left (entries_in i.tables c.as_slice.result.now) (ap (entries_in i.tables) c.as_slice.ensures.value) _ c.renumber.new.places (c.as_slice-2.ensures.value ∙ c.requires.places) u.ensures.names c.renumber.ensures in
    (o.held.sound, none_reserved _ _ u.new.tables _ refl, o.held.index, o.held.stored)

pub returns : goal.returns
returns c =
    let i = c.self.inside in
    let u = c.unwind-removed in
    let o =
    all_out i.first.items i.root_line i.limit i.entries.items i.tables c.self.invariant.0 c.args.self.now.run (ap (λ (h : Held). h.run) c.self.view_is) c.args.rollback.step c.args.rollback.places.items u.new.tables u.result.items c.self.invariant.3 u.ensures.unwound
    u.new.entries.items u.ensures.left (entries_in i.tables c.as_slice.result.now) (ap (entries_in i.tables) c.as_slice.ensures.value) _ c.renumber.new.places (c.as_slice-2.ensures.value ∙ c.requires.places) u.ensures.names c.renumber.ensures in
    o.back c.reverse.new.self.items c.reverse.ensures.items
