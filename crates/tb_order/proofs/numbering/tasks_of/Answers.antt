use Rattle.std.proofs.Common.{◌<◌, ◌+◌, cond, length, ap, ◌∙◌, arith}
use Rattle.tb_model.specs.Facts.{is_spawn_of}
use Rattle.tb_lanes.specs.Numbering.{place_of}
use Rattle.tb_lanes.proofs.AfterLemmas.{at, at_is}
use Rattle.tb_lanes.proofs.NumberLemmas.{newest_spawn}
use Rattle.tb_races.specs.Orders.{Synchronised}
use Rattle.tb_order.proofs.numbering.tasks_of.Goals as goal

pub loop-at-preserved : goal.loop-at-preserved
loop-at-preserved c =
    let entries = c.args.entries.now in
    let n = c.loop-at.at in
    let within : n < length entries = omega (arith, c.loop-at-test.true, c.len-at-end.ensures) in
    let done = c.action.ensures (at Synchronised entries n within) (at_is Synchronised entries n within) in
    let old = c.previous_of.new.newest.entries in
    record {
      newest = newest_spawn entries n within old c.note_spawn.new.newest.entries c.in_ok-previous.ensures.newest (λ t.
          c.in_ok-note_spawn.ensures t ∙ ap (λ a. cond (is_spawn_of t a) (n + 1) (place_of old t)) done);
      numbered = c.in_ok-count.ensures;
    }
