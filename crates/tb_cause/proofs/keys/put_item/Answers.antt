use Rattle.std.proofs.Common.{◌&&◌, ◌||◌, nat_eq, ap, ◌∙◌}
use Rattle.indexmap.specs.IndexSet.{contains}
use Rattle.tb_model.specs.Names.{same_name}
use Rattle.tb_cause.specs.Keys.{same_item_key}
use Rattle.tb_cause.proofs.SetLemmas.{put_in}
use Rattle.tb_cause.proofs.keys.put_item.Goals as goal

pub returns : goal.returns
returns c p n q =
    put_in ((same_name c.in_ok-clone.field-0 p && nat_eq c.args.number n) && nat_eq c.args.cell q) (contains same_item_key c.args.set.now (p, n, q))
    _ (c.in_ok-insert.ensures.updates.0 (p, n, q))
    ∙ ap (λ w. ((same_name w p && nat_eq c.args.number n) && nat_eq c.args.cell q) || contains same_item_key c.args.set.now (p, n, q)) c.in_ok-clone.ensures.cases
