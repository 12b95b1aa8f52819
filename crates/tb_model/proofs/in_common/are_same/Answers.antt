use Rattle.std.proofs.Common.{◌∙◌, sym}
use Rattle.tb_model.proofs.BlockLemmas.{same_front, other_front, rests_long}
use Rattle.tb_model.proofs.in_common.are_same.Goals as goal

pub returns-then-not-are_so_many_same : goal.returns-then-not-are_so_many_same
returns-then-not-are_so_many_same c =
    let i = c.blocks-2.invariant in
    sym (i.rest ∙ other_front 16 c.blocks-2.left.now c.blocks-2.right.now i.long (sym c.are_so_many_same.ensures ∙ c.if-not-are_so_many_same.true))

pub blocks-2-preserved : goal.blocks-2-preserved
blocks-2-preserved c =
    let i = c.blocks-2.invariant in
    record {
      long = rests_long 16 c.blocks-2.left.now c.blocks-2.right.now i.long;
      rest = i.rest ∙ same_front 16 c.blocks-2.left.now c.blocks-2.right.now i.long (sym c.are_so_many_same.ensures ∙ c.if-not-are_so_many_same.false);
    }

pub returns-then-not-are_so_many_same-2 : goal.returns-then-not-are_so_many_same-2
returns-then-not-are_so_many_same-2 c =
    let i = c.fours.invariant in
    sym (i.rest ∙ other_front 4 c.fours.left.now c.fours.right.now i.long (sym c.are_so_many_same-in-fours.ensures ∙ c.if-not-are_so_many_same-2.true))

pub fours-preserved : goal.fours-preserved
fours-preserved c =
    let i = c.fours.invariant in
    record {
      long = rests_long 4 c.fours.left.now c.fours.right.now i.long;
      rest = i.rest ∙ same_front 4 c.fours.left.now c.fours.right.now i.long (sym c.are_so_many_same-in-fours.ensures ∙ c.if-not-are_so_many_same-2.false);
    }
