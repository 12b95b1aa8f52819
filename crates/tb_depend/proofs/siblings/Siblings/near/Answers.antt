use Rattle.std.proofs.Common.{◌≡◌, rules}
use Rattle.tb_depend.specs.Nearness.{AreNear, is_among}
use Rattle.tb_depend.specs.Numbers.{numbers_where}
use Rattle.tb_depend.proofs.NearestLemmas.{near_listed}
use Rattle.tb_depend.proofs.siblings.Siblings.near.Goals as goal

pub returns : goal.returns
returns c =
    let listed : c.of.result ≡ numbers_where (is_among c.in_ok-near.near.items) c.len-k-end.result = search rules in
    let near : AreNear c.args.self.now.siblings c.args.n c.in_ok-near.near.items = search rules in
    near_listed c.args.self.now.siblings c.args.n c.in_ok-near.near.items c.of.result c.len-k-end.result c.len-k-end.ensures listed near
