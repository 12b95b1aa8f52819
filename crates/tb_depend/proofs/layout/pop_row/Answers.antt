use Rattle.std.proofs.Common.{arith}
use Rattle.tb_depend.proofs.LayoutLemmas.{popped_rows, popped_ends, popped_length}
use Rattle.tb_depend.proofs.layout.pop_row.Goals as goal

pub returns-in-Some-clause-rows : goal.returns-in-Some-clause-rows
returns-in-Some-clause-rows c =
    popped_rows c.args.ends.now.items c.pop.new.self.items c.args.chain.now.items c.truncate.new.self.items c.requires.ends
    c.in-Some._end c.end_of.result c.in-Some.ensures.items (rw c.deref.ensures.value at c.end_of.ensures) c.truncate.ensures.items

pub returns-in-Some-clause-ends : goal.returns-in-Some-clause-ends
returns-in-Some-clause-ends c =
    popped_ends c.args.ends.now.items c.pop.new.self.items c.args.chain.now.items c.truncate.new.self.items c.requires.ends
    c.in-Some._end c.end_of.result c.in-Some.ensures.items (rw c.deref.ensures.value at c.end_of.ensures) c.truncate.ensures.items

pub returns-in-Some-clause-item_places : goal.returns-in-Some-clause-item_places
returns-in-Some-clause-item_places c =
    let same = popped_length c.args.ends.now.items c.pop.new.self.items c.args.chain.now.items c.truncate.new.self.items c.requires.ends
    c.in-Some._end c.end_of.result c.in-Some.ensures.items (rw c.deref.ensures.value at c.end_of.ensures) c.truncate.ensures.items
    in omega (arith, same, c.truncate.ensures.item_places)

pub returns-in-Some-clause-link_places : goal.returns-in-Some-clause-link_places
returns-in-Some-clause-link_places c =
    let same = popped_length c.args.ends.now.items c.pop.new.self.items c.args.chain.now.items c.truncate.new.self.items c.requires.ends
    c.in-Some._end c.end_of.result c.in-Some.ensures.items (rw c.deref.ensures.value at c.end_of.ensures) c.truncate.ensures.items
    in omega (arith, same, c.truncate.ensures.link_places)
