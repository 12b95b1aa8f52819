use Rattle.std.proofs.Common.{◌++◌, ◌∷◌, [], None, refl, sym, ap, ◌∙◌}
use Rattle.tb_clocks.specs.Known.{generated}
use Rattle.tb_stream.proofs.GrowLemmas.{added_alone, added_child, generates_none}
use Rattle.tb_stream.proofs.SeenLemmas.{action_here}
use Rattle.tb_stream.proofs.placing.add.Goals as goal

pub returns-in_ok-push-2-clause-added : goal.returns-in_ok-push-2-clause-added
returns-in_ok-push-2-clause-added c r n lanes are placed event =
    let w = placed.next.within in
    let is = ap generated (sym (action_here r n w c.args.action.now event) ∙ c.in-Spawn.is) in
    added_child r n w lanes c.args.clocks.now are c.args.step placed c.in-Spawn.field-0.child is _ refl c.in_ok-add_last.ensures (c.in_ok-push-2.ensures.items ∙ ap (λ xs. xs ++ None ∷ []) c.set_newest.ensures) c.in_ok-push.ensures.items

pub returns-in_default : goal.returns-in_default
returns-in_default c = record {
  added = λ r n lanes are placed event.
      let w = placed.next.within in
      let is = ap generated (sym (action_here r n w c.args.action.now event)) ∙ generates_none c.args.action.now c.in_default.not-Spawn in
      added_alone r n w lanes c.args.clocks.now are c.args.step placed is _ refl c.in_ok-add_last.ensures c.set_newest.ensures refl;
  rows = refl;
}
