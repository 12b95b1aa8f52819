use Rattle.std.proofs.Common.{subst, sym}
use Rattle.std.proofs.lemmas.Bool.{false≢true}
use Rattle.tb_depend.specs.Table.{HasRoomFor}
use Rattle.tb_depend.proofs.lists.Lists.reserve_add.Goals as goal

pub returns-in_err-reserve-2-clause-succeeds : goal.returns-in_err-reserve-2-clause-succeeds
returns-in_err-reserve-2-clause-succeeds c room =
    let r = subst (λ t. HasRoomFor t c.args.items.now) (sym c.self.view_is) room in
    absurd (false≢true (c.in_err-reserve-2.ensures.succeeds (record { items = r.its_items; links = r.its_links; heads = r.its_heads })))
