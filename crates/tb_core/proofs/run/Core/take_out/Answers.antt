use Rattle.std.proofs.Common.{arith, length, reverse, refl, sym, ap, subst}
use Rattle.tb_core.specs.Outcomes.{TakesBack}
use Rattle.tb_core.specs.Seen.{Held}
use Rattle.tb_core.specs.Soundness.{seen}
use Rattle.tb_core.specs.Storing.{entries_in}
use Rattle.tb_core.proofs.TakenLemmas.{none_reserved}
use Rattle.tb_core.proofs.HeldLemmas.{few_stored}
use Rattle.tb_core.proofs.OutLemmas.{stored_within, stands_stored, out}
use Rattle.tb_core.proofs.run.Core.take_out.Goals as goal

pub take_back-requires : goal.take_back-requires
take_back-requires c =
    let i = c.self.inside in
    stands_stored i.first.items i.root_line i.limit i.entries.items i.tables c.self.invariant.0 c.self.invariant.3 c.args.id c.args.at c.args.self.now.run (ap (λ (h : Held). h.run) c.self.view_is) c.requires.free c.requires.here
    c.remove-entry.result c.remove-entry.ensures.value

pub invariant_of-self : goal.invariant_of-self
invariant_of-self c =
    let i = c.self.inside in
    let o =
    out i.first.items i.root_line i.limit i.entries.items i.tables c.self.invariant.0 c.self.invariant.3 c.args.id c.args.at c.args.self.now.run (ap (λ (h : Held). h.run) c.self.view_is) c.requires.free c.requires.here
    c.remove-entry.result c.remove-entry.ensures.value c.take_back.new.tables c.remove-entry.new.self.items (entries_in i.tables c.as_slice.result.now) _ c.renumber.new.places c.remove-entry.ensures.items (ap (entries_in i.tables) c.as_slice.ensures.value) refl
    c.take_back.ensures.names c.take_back.ensures.without c.renumber.ensures in
    (o.held.sound, none_reserved _ _ _ _ refl, o.held.index, o.held.stored)

pub returns : goal.returns
returns c =
    let i = c.self.inside in
    let o =
    out i.first.items i.root_line i.limit i.entries.items i.tables c.self.invariant.0 c.self.invariant.3 c.args.id c.args.at c.args.self.now.run (ap (λ (h : Held). h.run) c.self.view_is) c.requires.free c.requires.here
    c.remove-entry.result c.remove-entry.ensures.value c.take_back.new.tables c.remove-entry.new.self.items (entries_in i.tables c.as_slice.result.now) _ c.renumber.new.places c.remove-entry.ensures.items (ap (entries_in i.tables) c.as_slice.ensures.value) refl
    c.take_back.ensures.names c.take_back.ensures.without c.renumber.ensures in
    subst (TakesBack c.args.self.now.run c.args.id (seen i.first.items i.root_line i.limit (reverse (entries_in c.take_back.new.tables c.remove-entry.new.self.items)))) (sym c.take_back.ensures.removed) o.back

pub renumber-requires-clause-bound : goal.renumber-requires-clause-bound
renumber-requires-clause-bound c =
    let i = c.self.inside in
    omega (arith, ap length c.as_slice.ensures.value, few_stored i.first.items i.root_line i.limit i.entries.items (entries_in i.tables i.entries.items) i.tables c.self.invariant.3 c.self.invariant.0)

pub remove-entry-requires : goal.remove-entry-requires
remove-entry-requires c =
    let i = c.self.inside in
    omega (arith, stored_within i.first.items i.root_line i.limit i.entries.items i.tables c.self.invariant.0 c.self.invariant.3 c.args.id c.args.at c.args.self.now.run (ap (λ (h : Held). h.run) c.self.view_is) c.requires.free c.requires.here)
