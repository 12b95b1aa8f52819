use Rattle.std.proofs.Common.{ap, length, ◌∷◌, [], ◌-◌, inr, arith, length-append, length-take}
use Rattle.tb_model.proofs.BlockLemmas.{more_blocks}
use Rattle.tb_model.proofs.making.cut.Goals as goal

pub blocks-2-preserved : goal.blocks-2-preserved
blocks-2-preserved c =
    let i = c.blocks-2.invariant in
    let more = more_blocks c.blocks-2.near.now c.blocks-2.far.items c.in_ok-block.block c.push.new.self.items c.args.numbers.now c.in_ok-block.ensures c.in_ok-push.ensures.items c.blocks-2-test.true i.is i.full in
    record {
      is = more.0;
      full = more.1;
      some = omega (arith, length-take (length c.blocks-2.near.now - 128) c.blocks-2.near.now, c.blocks-2-test.true);
      deep = inr (omega (arith, ap length c.in_ok-push.ensures.items, length-append c.blocks-2.far.items (c.in_ok-block.block ∷ [])));
    }
