use Rattle.tb_depend.proofs.ChainLemmas.{before_met}
use Rattle.std.proofs.Common.{length, subst, sym}
use Rattle.tb_depend.specs.Chains.{IsLast, is_of}
use Rattle.tb_depend.proofs.chain.Chain.link.Goals as goal

pub returns : goal.returns
returns c =
    let i = c.self.inside in
    let items = c.args.self.now.items in record {
      same = subst (λ t. IsLast (is_of c.args.item.place) t.items (length t.items) c.head.result) c.self.view_is
          (subst (IsLast (is_of c.args.item.place) i.items.items (length i.items.items)) (sym c.head.ensures) (c.self.invariant.headed c.args.item.place));
      meeting = c.last_met-meeting.ensures;
      before = before_met c.args.item items (length items) c.last_met-meeting.result c.last_before.result c.last_met-meeting.ensures c.last_before.ensures;
    }
