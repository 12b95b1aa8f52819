use Rattle.tb_lanes.proofs.EndLemmas.{fit_more}
use Rattle.tb_lanes.proofs.ends.note_end.Goals as goal

pub returns-clause-fit : goal.returns-clause-fit
returns-clause-fit c =
    fit_more c.args.at c.args.ends.now c.requires.marked c.requires.skips c.first_skipped-from.result (record { places = c.push.new.self; skips = c.push-2.new.self }) (record {
      places = c.in_ok-push.ensures.items;
      skips = c.in_ok-push-2.ensures.items;
    }) c.first_skipped-from.ensures.within c.requires.low

pub returns-clause-more : goal.returns-clause-more
returns-clause-more c = record {
  from = c.first_skipped-from.result;
  more = record {
    places = c.in_ok-push.ensures.items;
    skips = c.in_ok-push-2.ensures.items;
  };
  few = c.first_skipped-from.ensures.within;
  newest = c.requires.low;
  reached = c.first_skipped-from.ensures.reached;
}
