use Rattle.tb_depend.proofs.ChainLemmas.{popped_named, popped_chained}
use Rattle.tb_depend.proofs.chain.Chain.pop.Goals as goal

pub set-requires : goal.set-requires
set-requires c =
    popped_named c.self.inside.items.items c.pop.new.self.items c.self.inside.links.items c.pop-2.new.self.items c.self.inside.heads c.self.inside.heads
    c.in-Some-Some.item c.in-Some-Some.link c.in-Some-Some.ensures.items c.in-Some-Some.ensures'.items c.self.invariant

pub invariant_of-self : goal.invariant_of-self
invariant_of-self c =
    popped_chained c.self.inside.items.items c.pop.new.self.items c.self.inside.links.items c.pop-2.new.self.items c.self.inside.heads c.set.new.self
    c.in-Some-Some.item c.in-Some-Some.link c.in-Some-Some.ensures.items c.in-Some-Some.ensures'.items c.self.invariant c.set.ensures.set
