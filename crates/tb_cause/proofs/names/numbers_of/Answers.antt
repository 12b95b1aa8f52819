use Rattle.std.proofs.Common.{◌<◌, ◌+◌, cond, length, ap, ◌∙◌, arith}
use Rattle.indexmap.specs.IndexMap.{get}
use Rattle.tb_model.specs.Names.{same_name}
use Rattle.tb_cause.specs.Indexes.{count_in}
use Rattle.tb_cause.proofs.NameLemmas.{still_room, counted_more, numbered_one}
use Rattle.tb_cause.proofs.names.numbers_of.Goals as goal
use Rattle.tb_steps.proofs.FirstLemmas.{there}

pub count_step-requires : goal.count_step-requires
count_step-requires c =
    let l = c.loop-at in
    let t = c.task.result.now in
    let within : l.at < length c.args.entries.now = omega (arith, c.loop-at-test.true, c.len-at-end.ensures) in
    record { few = still_room c.args.entries.now l.at t (count_in (get same_name l.counts) t) within c.requires.bound (l.invariant.counted t) }

pub loop-at-preserved : goal.loop-at-preserved
loop-at-preserved c =
    let l = c.loop-at in
    let entries = c.args.entries.now in
    let within : l.at < length entries = omega (arith, c.loop-at-test.true, c.len-at-end.ensures) in
    let e = there entries l.at within in
    let task = c.task.ensures e.0 e.1 in
    let old = count_in (get same_name l.counts) in
    let new = count_in (get same_name c.count_step.new.counts) in
    record {
      counted = counted_more entries l.at e.0 within e.1 old new l.invariant.counted
          (λ t. c.in_ok-k.ensures.counts t ∙ ap (λ n. cond (same_name n t) (old n + 1) (old t)) task);
      numbered = numbered_one entries l.at e.0 within e.1 l.numbers.items c.push.new.self.items c.in_ok-k.k l.invariant.numbered
          (c.in_ok-k.ensures.number ∙ ap (λ n. old n + 1) task ∙ ap (λ n. n + 1) (l.invariant.counted e.0.event.task))
          c.in_ok-push.ensures.items;
    }
