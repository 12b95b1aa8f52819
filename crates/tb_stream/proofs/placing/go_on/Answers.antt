use Rattle.std.proofs.Common.{refl, ap, ◌∙◌, ◌≡◌, ◌⊎◌, subst, arith, length, ◌∷◌, []}
use Rattle.std.specs.Prelude.{slice_index_or}
use Rattle.std.proofs.lemmas.List.{length-append}
use Rattle.tb_lanes.proofs.TableLemmas.{row_kept}
use Rattle.tb_stream.proofs.GrowLemmas.{clocks_on}
use Rattle.tb_stream.proofs.PlaceLemmas.{placed_going}
use Rattle.tb_stream.proofs.placing.go_on.Goals as goal

pub returns-clause-clocks : goal.returns-clause-clocks
returns-clause-clocks c r n lanes are =
    let old = c.args.clocks.now in
    let new = c.push.new.self.items in
    let more = c.in_ok-push.ensures.items in
    let long = ap length more ∙ length-append old.rows.items (c.args.row ∷ []) in
    clocks_on r n lanes old (record { newest = old.newest; origins = old.origins; rows = c.push.new.self; lasts = old.lasts }) (λ i l. row_kept old.rows.items new c.args.row i more l) (omega (arith, long)) refl refl refl are

pub returns-clause-placed : goal.returns-clause-placed
returns-clause-placed c r n lanes are going =
    placed_going r n lanes c.args.clocks.now are going.begun.next.within c.args.step c.args.end c.args.row going c.push.new.self.items c.in_ok-push.ensures.items c.len.result (omega (arith, c.len.ensures, c.push.new.self.ok)) c.lane_behind-lane.result (subst (λ xs. (c.lane_behind-lane.result ≡ c.args.step.lane) ⊎ ((c.args.step.lane ≡ length xs) × (c.lane_behind-lane.result ≡ c.args.end.lane) × (c.args.end.at ≡ slice_index_or xs c.args.end.lane 0))) c.deref.ensures.value c.lane_behind-lane.ensures)
