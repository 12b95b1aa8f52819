use Rattle.std.proofs.Common.{◌≡◌, rules, sym, subst}
use Rattle.tb_work.specs.Receipts.{HaveNumbers}
use Rattle.tb_team.proofs.Losses.{numbers_on}
use Rattle.tb_team.proofs.lending.work.Goals as goal

pub work_as-requires-clause-numbers : goal.work_as-requires-clause-numbers
work_as-requires-clause-numbers g c =
    let same : c.as_mut_slice.result.now ≡ c.args.seats.now.items = search rules in
    λ κs within. numbers_on _ _ (subst HaveNumbers (sym same) c.requires.numbers)
