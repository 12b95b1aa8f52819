use Rattle.std.proofs.Common.{arith, sym, ap, ◌∙◌, ◌+◌}
use Rattle.std.specs.Option.{option_copied_mut}
use Rattle.tb_cause.proofs.CountLemmas.{count_there, counts_there}
use Rattle.tb_cause.proofs.counting.count_behind.Goals as goal

pub overflow_add-count : goal.overflow_add-count
overflow_add-count c =
    let value = sym c.get_index_mut.ensures.value ∙ ap option_copied_mut c.in-Some.is in
    let number = count_there c.args.counts.now c.args.task.now _ c.in-Some.count.now c.get_index_mut.ensures.unique (c.stands_at.ensures c.if-stands_at.true) value in
    omega (arith, number, c.requires.few)

pub returns-in-Some-clause-number : goal.returns-in-Some-clause-number
returns-in-Some-clause-number c =
    let value = sym c.get_index_mut.ensures.value ∙ ap option_copied_mut c.in-Some.is in
    let number = count_there c.args.counts.now c.args.task.now _ c.in-Some.count.now c.get_index_mut.ensures.unique (c.stands_at.ensures c.if-stands_at.true) value in
    omega (arith, number)

pub returns-in-Some-clause-counts : goal.returns-in-Some-clause-counts
returns-in-Some-clause-counts c =
    let value = sym c.get_index_mut.ensures.value ∙ ap option_copied_mut c.in-Some.is in
    counts_there c.args.counts.now c.args.task.now _ c.in-Some.count.now c.get_index_mut.ensures.unique (c.stands_at.ensures c.if-stands_at.true) value (c.in-Some.count.now + 1) (omega arith)
