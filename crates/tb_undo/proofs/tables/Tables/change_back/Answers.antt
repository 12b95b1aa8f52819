use Rattle.std.proofs.Common.{refl, sym, subst}
use Rattle.tb_undo.specs.contracts.tables.Tables.{the_view}
use Rattle.tb_undo.specs.Changes.{ActedBack, CanChangeBack}
use Rattle.tb_undo.proofs.ActLemmas.{changed_back}
use Rattle.tb_undo.proofs.tables.Tables.change_back.Goals as goal

pub act_back-requires : goal.act_back-requires
act_back-requires c = subst (λ s. CanChangeBack s c.args.event.now) (sym c.turn_to.ensures) c.requires

pub returns-clause-changed : goal.returns-clause-changed
returns-clause-changed c =
    changed_back c.args.event.now c.args.replaced c.args.self.now c.act_back.new.self c.write_back.new.self (the_view c.self.inside)
    (subst (λ s. ActedBack c.args.event.now s c.act_back.new.self) c.turn_to.ensures c.act_back.ensures.acted)
    c.write_back.ensures.cells c.write_back.ensures.output c.write_back.ensures.rest c.self.view_is
    _ (record { store = refl; waits = refl; marks = refl }) c.retreat.ensures.tasks c.retreat.ensures.holders
