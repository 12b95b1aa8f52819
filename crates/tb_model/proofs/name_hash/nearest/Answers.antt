use Rattle.std.proofs.Common.{◌∙◌, ◌-◌, ap, take, length}
use Rattle.tb_model.specs.NameHash.{mixed}
use Rattle.tb_model.proofs.BlockHashLemmas.{near_only, near_and_next}
use Rattle.tb_model.proofs.name_hash.nearest.Goals as goal

pub returns-then-near-ge-NEAR : goal.returns-then-near-ge-NEAR
returns-then-near-ge-NEAR c = c.mixed.ensures ∙ ap (mixed c.args.depth) (near_only c.args.near.now c.args.next.now c.if-near-ge-NEAR.true)

pub returns : goal.returns
returns c =
    c.mixed-3.ensures ∙ ap (λ d. mixed d (take (16 - length c.args.near.now) c.args.next.now)) c.mixed-2.ensures
    ∙ near_and_next c.args.near.now c.args.next.now c.args.depth c.if-near-ge-NEAR.false
