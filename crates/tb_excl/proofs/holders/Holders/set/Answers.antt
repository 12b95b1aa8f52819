use Rattle.tb_excl.proofs.RoomLemmas.{next_room, left_step, room_step, keeps_along}
use Rattle.tb_excl.proofs.holders.Holders.set.Goals as goal

pub set_item-requires-clause-room : goal.set_item-requires-clause-room
set_item-requires-clause-room c =
    λ n e. next_room c.loop-item.self c.args.items.now c.loop-item.item-index _ c.loop-item-test.true (c.loop-item.invariant.room n e)

pub loop-item-preserved : goal.loop-item-preserved
loop-item-preserved c = record {
  left = left_step c.args.self.now c.loop-item.self c.set_item.new.self c.args.items.now c.loop-item.item-index _ c.args.to c.loop-item-test.true c.loop-item.invariant.left c.set_item.ensures.set;
  room = λ n e. room_step c.loop-item.self c.set_item.new.self c.args.items.now c.loop-item.item-index c.loop-item-test.true c.set_item.ensures.keeps (c.loop-item.invariant.room n e);
  kept = keeps_along c.args.self.now c.loop-item.self c.set_item.new.self c.loop-item.invariant.kept c.set_item.ensures.keeps;
}
