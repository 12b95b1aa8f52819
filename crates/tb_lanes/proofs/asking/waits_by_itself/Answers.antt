use Rattle.std.proofs.Common.{◌∙◌, ap}
use Rattle.tb_races.specs.Kinds
use Rattle.tb_lanes.proofs.StartLemmas.{none_listed, waits_for_none}
use Rattle.tb_lanes.proofs.asking.waits_by_itself.Goals as goal

pub returns-in-Start : goal.returns-in-Start
returns-in-Start c none H t u is =
    let nobody = none_listed c.args.items.now c.is_empty.result c.is_empty.ensures none in
    ap (λ a. Kinds.wait_kind H t a u) c.in-Start.is ∙ waits_for_none H t u c.args.items.now nobody is
