use Rattle.std.proofs.Common.{◌≡◌, true, sym, subst, ap, length}
use Rattle.tb_depend.specs.Chains.{IsLink}
use Rattle.tb_depend.specs.Table.{is_named}
use Rattle.tb_depend.proofs.ChainLemmas.{pushed_chained}
use Rattle.tb_depend.proofs.chain.Chain.push.Goals as goal

pub invariant_of-self : goal.invariant_of-self
invariant_of-self c =
    pushed_chained c.self.inside.items.items c.self.inside.links.items c.self.inside.heads c.self.invariant c.args.item c.link-link.result (subst (λ t. IsLink t.items (length t.items) c.args.item c.link-link.result) (sym c.self.view_is) c.link-link.ensures)
    _ _ c.set.new.self _ c.push_reserved.ensures.items c.push_reserved-2.ensures.items (ap length c.as_slice.ensures.value) c.set.ensures.set

pub set-requires : goal.set-requires
set-requires c = subst (λ t. is_named t.cells c.args.item.place ≡ true) (sym c.self.view_is) c.requires.a_head
