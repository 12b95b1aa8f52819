use Rattle.std.proofs.Common.{◌≡◌, ◌==◌, false, length, refl, sym, ap, ◌∙◌}
use Rattle.tb_lanes.specs.Clocks.{IsEnd}
use Rattle.tb_lanes.specs.Rows.{same_key}
use Rattle.tb_stream.specs.Exclusion.{excludes_some}
use Rattle.tb_stream.specs.Keeping.{touched_of}
use Rattle.tb_stream.specs.Seen.{front}
use Rattle.tb_stream.proofs.CopyLemmas.{found_copied, key_same, zipped}
use Rattle.tb_stream.proofs.ExclusionLemmas.{strict}
use Rattle.tb_stream.proofs.LooseLemmas.{clocks_same, rows_same, stored_same, touched_so}
use Rattle.tb_stream.proofs.half.Half.without_exclusion.Goals as goal

pub returns : goal.returns
returns c H none is r begins =
    let old = c.args.self.now in
    let n = length H in
    let of = is (strict r) (record { exclusion_is = refl; within = begins.within; front_is = begins.front_is }) in
    let no : excludes_some (front r n) ≡ false = ap excludes_some begins.front_is ∙ none in
    let same = c.in_ok-clocks.ensures in
    let rows = old.order.clocks.rows.items in
    let copied = c.in_ok-clocks.clocks.rows.items in
    let ends = zipped _ (λ x y e. e) _ _ c.in_ok-ends.ensures.cases.0 in record {
      lanes = of.lanes;
      past = record {
        exclusion = sym begins.exclusion_is;
        clocks = clocks_same r begins.exclusion_is n begins.within no of.lanes rows copied same.rows old.order.clocks c.in_ok-clocks.clocks refl refl same.newest same.origins same.lasts of.past.clocks;
        ends = stored_same r begins.exclusion_is n begins.within no of.lanes rows copied same.rows (IsEnd r.entries n) (λ x e. e.0) old.order.ends c.in_ok-ends.ends ends of.past.ends;
        rows = rows_same r begins.exclusion_is n begins.within no of.lanes rows copied same.rows old.order.rows.entries c.in_ok-rows.rows.entries
            (λ k. found_copied _ (λ v w. w.items ≡ v.items) (same_key k) _ _ c.in_ok-rows.ensures.cases (λ p q h. (key_same k p.0 q.0 h.0, zipped _ (λ x y e. e) _ _ h.1.0)))
            of.past.rows;
      };
      kept = λ i.
          touched_so r begins.exclusion_is n begins.within no of.lanes i (touched_of old.kept.entries i) (touched_of c.in_ok-kept.kept.entries i)
          (found_copied _ (λ v w. (w.writes.items ≡ v.writes.items) × (w.loads.items ≡ v.loads.items)) (λ j. i == j) _ _ c.in_ok-kept.ensures.cases
          (λ p q h. (ap (λ j. i == j) h.0, (zipped _ (λ x y e. e) _ _ h.1.0.0, zipped _ (λ x y e. e) _ _ h.1.1.0))))
          (of.kept i);
    }
