use Rattle.std.proofs.Common.{rules, ap₂, ◌∙◌}
use Rattle.std.proofs.lemmas.Nat.{le_bytes_8}
use Rattle.tb_model.specs.Names.{same_name}
use Rattle.tb_model.proofs.InCommonLemmas.{by_number}
use Rattle.tb_model.proofs.in_common.are_eight_same.Goals as goal

pub returns : goal.returns
returns c =
    let own = c.copy_from_slice.new.self in
    let others = c.copy_from_slice-2.new.self in
    by_number own others _ _ c.from_le_bytes.ensures c.from_le_bytes-2.ensures
    (le_bytes_8 own _ (search rules) (search rules) c.from_le_bytes.ensures)
    (le_bytes_8 others _ (search rules) (search rules) c.from_le_bytes-2.ensures)
    ∙ ap₂ same_name c.copy_from_slice.ensures.after c.copy_from_slice-2.ensures.after
