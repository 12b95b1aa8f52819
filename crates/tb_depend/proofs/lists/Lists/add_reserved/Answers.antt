use Rattle.std.proofs.Common.{subst, sym}
use Rattle.tb_depend.specs.Table.{HasRoomFor}
use Rattle.tb_depend.proofs.lists.Lists.add_reserved.Goals as goal

pub push_row-requires-clause-its_items : goal.push_row-requires-clause-its_items
push_row-requires-clause-its_items c =
    let r = subst (λ t. HasRoomFor t c.args.items.now) (sym c.self.view_is) c.requires in
    record { items = r.its_items; links = r.its_links; heads = r.its_heads }
