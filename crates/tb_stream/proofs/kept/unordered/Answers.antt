use Rattle.std.proofs.Common.{◌-◌, ◌+◌, ◌<◌, length, get_or, sym, ap, ◌∙◌, arith, ⊎_elim}
use Rattle.std.specs.Prelude.{slice_index_or}
use Rattle.std.proofs.lemmas.Bool.{cases_eq}
use Rattle.std.proofs.lemmas.List.{length-map}
use Rattle.tb_lanes.specs.Clocks.{reaches}
use Rattle.tb_stream.specs.declared.access.Access.{Access}
use Rattle.tb_stream.specs.Keeping.{places}
use Rattle.tb_stream.specs.Seen.{order}
use Rattle.tb_stream.proofs.ListLemmas.{map_read}
use Rattle.tb_lanes.proofs.RowLemmas.{got_here}
use Rattle.tb_stream.proofs.kept.unordered.Goals as goal

pub back-init : goal.back-init
back-init c = record {
  within = omega arith;
  passed = λ r n lanes added marks j l m. absurd (omega (arith, l, m, length-map c.args.row.now (λ (a : Access). a.mark.at)));
}

pub back-preserved : goal.back-preserved
back-preserved c =
    let l = c.back in
    let row = c.args.row.now in
    let i = l.left - 1 in
    let a = get_or row i (record { mark = record { at = 0; lane = 0; row = 0; task = 0 }; k = 0 }) in
    let inside : i < length row = omega (arith, l.invariant.within, c.back-test.true) in
    let here = got_here row i _ inside in record {
      within = omega (arith, l.invariant.within);
      passed = λ r n lanes added marks j low m.
          ⊎_elim
          (λ e. ap (λ p. reaches (order r) r.entries p (slice_index_or (places row) j 0)) (sym added.at)
          ∙ ap (reaches (order r) r.entries c.args.mark.at) (ap (λ k. slice_index_or (places row) k 0) e ∙ map_read (λ (x : Access). x.mark.at) row i a 0 here)
          ∙ sym (c.reaches.ensures r (n + 1) lanes added.clocks_are added.full (marks i a here)) ∙ c.if-reaches.true)
          (λ d. l.invariant.passed r n lanes added marks j (omega (arith, low, d)) m)
          (cases_eq j i);
    }

pub returns-else-reaches-clause-cut : goal.returns-else-reaches-clause-cut
returns-else-reaches-clause-cut c r n lanes added marks =
    let l = c.back in
    let row = c.args.row.now in
    let i = l.left - 1 in
    let a = get_or row i (record { mark = record { at = 0; lane = 0; row = 0; task = 0 }; k = 0 }) in
    record {
      few = omega (arith, l.invariant.within, length-map row (λ (x : Access). x.mark.at));
      last = λ some.
          (let inside : i < length row = omega (arith, l.invariant.within, some) in
          let here = got_here row i _ inside in
          ap (λ p. reaches (order r) r.entries p (slice_index_or (places row) i 0)) (sym added.at)
          ∙ ap (reaches (order r) r.entries c.args.mark.at) (map_read (λ (x : Access). x.mark.at) row i a 0 here)
          ∙ sym (c.reaches.ensures r (n + 1) lanes added.clocks_are added.full (marks i a here)) ∙ c.if-reaches.false);
      passed = l.invariant.passed r n lanes added marks;
    }

pub returns-after-back-clause-cut : goal.returns-after-back-clause-cut
returns-after-back-clause-cut c r n lanes added marks = record {
  few = omega (arith, c.back.invariant.within, length-map c.args.row.now (λ (x : Access). x.mark.at));
  last = λ some. absurd (omega (arith, some, c.back-test.false));
  passed = c.back.invariant.passed r n lanes added marks;
}
