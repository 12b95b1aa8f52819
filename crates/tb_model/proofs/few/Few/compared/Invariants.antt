use Rattle.std.proofs.Common.{◌≡◌, length}
use Rattle.tb_model.specs.Names.{name_cmp}
use Rattle.tb_model.proofs.few.Few.compared.Given as goal

-- what is left of both says their order
abbrev pub invariant-levels : goal.invariant-levels
invariant-levels l = name_cmp l.self l.other ≡ name_cmp l.own l.others

abbrev pub decreases-levels : goal.decreases-levels
decreases-levels l = length l.own
