use Rattle.std.proofs.Common.{◌+◌, IsSome, Some, refl, sym, ap, ◌∙◌, subst}
use Rattle.std.specs.Option.{option_copied_mut}
use Rattle.tb_lanes.proofs.AskedLemmas.{on_ok_map}
use Rattle.tb_lanes.proofs.NumberLemmas.{on_ok}
use Rattle.tb_stream.specs.Ends.{AtStage, IsRowOf}
use Rattle.tb_stream.proofs.NoteLemmas.{moved_writes, rows_written, stored_none}
use Rattle.tb_stream.proofs.noting.note.Goals as goal

pub returns-in-Some : goal.returns-in-Some
returns-in-Some c =
    let found = sym c.get_mut.ensures.value ∙ ap option_copied_mut c.in-Some.is in
    let v = c.note_end.new.ends in
    let written = c.get_mut.follows.holds v in
    on_ok_map c.note_end.result _ _
    (λ more r n lanes stage added rows.
    rows_written r (n + 1) lanes c.args.clocks.now.rows.items (AtStage r n stage) n c.args.key c.args.rows.now.entries _ v ((written.3 (subst IsSome (sym found) refl)).0)
    (more r n lanes (Some (stage, c.args.key)) added (subst (IsRowOf r (n + 1) lanes c.args.clocks.now.rows.items (AtStage r n stage c.args.key)) found (rows c.args.key))) rows)
    c.note_end.ensures

pub returns : goal.returns
returns c r n lanes stage added rows =
    let updates = on_ok c.insert.result _ (c.insert.ensures.succeeds c.in_ok-reserve.ensures.ok) c.insert.ensures.updates in
    let v = c.note_end-2.new.ends in
    let old = c.args.rows.now.entries in
    let none = sym c.get_mut.ensures.value ∙ ap option_copied_mut c.in_default.is in
    rows_written r (n + 1) lanes c.args.clocks.now.rows.items (AtStage r n stage) n c.args.key old _ v (moved_writes c.args.key old _ _ v (c.reserve.ensures.entries ∙ ap (λ m. m.entries) c.get_mut.follows.holds-at-none) updates.0)
    (c.in_ok-note_end.ensures r n lanes (Some (stage, c.args.key)) added
    (stored_none r (n + 1) lanes c.args.clocks.now.rows.items (AtStage r n stage c.args.key) c.new-row.result c.new-row.ensures.items (subst (IsRowOf r (n + 1) lanes c.args.clocks.now.rows.items (AtStage r n stage c.args.key)) none (rows c.args.key))))
    rows
