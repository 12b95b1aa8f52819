use Rattle.std.proofs.Common.{refl, sym, ap, ◌∙◌, subst, arith, length, ◌∷◌, [], IsTrue}
use mathlib.Core.Path.{fun_ext}
use Rattle.tb_lanes.specs.Bounds.{IsRising, bound_in}
use Rattle.tb_lanes.specs.Clocks.{IsEnd, IsSound, TellsEnds, is_told}
use Rattle.tb_lanes.proofs.SoundLemmas.{no_ends_told}
use Rattle.tb_lanes.proofs.TableLemmas.{row_kept}
use Rattle.std.proofs.lemmas.List.{length-append}
use Rattle.tb_stream.specs.Ends.{IsNoted}
use Rattle.tb_stream.specs.Placing.{row_of}
use Rattle.tb_stream.specs.Seen.{order}
use Rattle.tb_stream.proofs.GrowLemmas.{rows_on, stored_on}
use Rattle.tb_stream.proofs.placing.finish.Goals as goal

pub returns-then-not-may_wait-clause-past : goal.returns-then-not-may_wait-clause-past
returns-then-not-may_wait-clause-past c r n lanes past now begun = record { exclusion = past.exclusion; clocks = past.clocks; ends = past.ends; rows = past.rows }

pub returns-in-None-clause-past : goal.returns-in-None-clause-past
returns-in-None-clause-past c r n lanes past now begun = record { exclusion = past.exclusion; clocks = past.clocks; ends = past.ends; rows = past.rows }

pub returns-then-not-may_wait-clause-placed : goal.returns-then-not-may_wait-clause-placed
returns-then-not-may_wait-clause-placed c r n lanes past now begun =
    c.stay.ensures r n lanes (record { exclusion = past.exclusion; clocks = past.clocks; ends = past.ends; rows = past.rows }) begun
    (no_ends_told (order r) r.entries r.tasks r.by_task n now.within lanes past.clocks.are c.args.step.lane begun.lane.own (row_of c.args.order.now.clocks.rows.items c.args.step) (λ x l e h. c.may_wait.ensures c.if-not-may_wait.true r n now x l e h))

pub returns-in-None-clause-placed : goal.returns-in-None-clause-placed
returns-in-None-clause-placed c r n lanes past now begun =
    let waited = c.in_ok-joined.ensures r n lanes (record { exclusion = past.exclusion; clocks = past.clocks; ends = past.ends; rows = past.rows }) now begun in
    c.stay-in-None.ensures r n lanes (record { exclusion = past.exclusion; clocks = past.clocks; ends = past.ends; rows = past.rows }) begun (subst (λ row. TellsEnds (order r) r.entries r.tasks lanes row c.args.step.lane n) (waited.same c.in-None.is) waited.ends)

pub returns-in_ok-mark-in-Some-clause-past : goal.returns-in_ok-mark-in-Some-clause-past
returns-in_ok-mark-in-Some-clause-past c r n lanes past now begun =
    let old = c.args.order.now.clocks.rows.items in
    let new = c.go_on.new.clocks.rows.items in
    let row = c.shrink_to_fit.new.self in
    let more = c.in_ok-mark-in-Some.ensures.rows in
    let long = ap length more ∙ length-append old (row ∷ []) in record {
      exclusion = past.exclusion;
      clocks = c.in_ok-mark-in-Some.ensures.clocks r n lanes past.clocks;
      ends = stored_on r n lanes lanes (λ p l. refl) (λ p l. refl) old new (λ i l. row_kept old new row i more l) (omega (arith, long)) n (omega arith) (IsEnd r.entries n) c.args.order.now.ends past.ends;
      rows = rows_on r n lanes lanes (λ p l. refl) (λ p l. refl) old new (λ i l. row_kept old new row i more l) (omega (arith, long)) n (omega arith) (IsNoted r n) c.args.order.now.rows.entries past.rows;
    }

pub returns-in_ok-mark-in-Some-clause-placed : goal.returns-in_ok-mark-in-Some-clause-placed
returns-in_ok-mark-in-Some-clause-placed c r n lanes past now begun =
    let waited = c.in_ok-joined.ensures r n lanes (record { exclusion = past.exclusion; clocks = past.clocks; ends = past.ends; rows = past.rows }) now begun in
    let end = waited.are.end c.in-Some.end c.in-Some.is in
    let rows = c.in_ok-joined.joined.rows.items in
    let same = fun_ext (λ j. sym (c.in_ok-row-in-Some.ensures.bounds j) ∙ ap (λ xs. bound_in xs j) (sym c.shrink_to_fit.ensures.items)) in
    c.in_ok-mark-in-Some.ensures.placed r n lanes past.clocks (record {
      begun = begun;
      mark = end.full.mark;
      over = end.over;
      told = subst (λ x. IsTrue (is_told (order r) r.entries r.tasks lanes x c.args.step.lane n c.in-Some.end.at)) same end.told;
      rising = subst IsRising (sym c.shrink_to_fit.ensures.items) (c.in_ok-row-in-Some.ensures.rising waited.are.rising);
      sound = subst (λ x. IsSound (order r) r.entries r.tasks lanes x c.args.step.lane n) same waited.are.sound;
      ends = subst (λ x. TellsEnds (order r) r.entries r.tasks lanes x c.args.step.lane n) same waited.ends;
    })
