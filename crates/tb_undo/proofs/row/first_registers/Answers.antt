use Rattle.std.proofs.Common.{◌++◌, drop, length, replicate, ap, ◌∙◌}
use Rattle.tb_model.specs.Program.{zero_ℤ}
use Rattle.tb_undo.proofs.RowLemmas.{padded}
use Rattle.tb_undo.proofs.row.first_registers.Goals as goal

pub returns : goal.returns
returns c =
    ap (λ front. front ++ drop (length c.args.args.now) (replicate 16 zero_ℤ)) c.copy_from_slice.ensures.after
    ∙ padded c.args.args.now c.requires
