use Rattle.std.proofs.Common.{IsSome, refl, sym, ap, ◌∙◌, subst}
use Rattle.std.specs.Option.{option_copied_mut}
use Rattle.tb_lanes.proofs.AskedLemmas.{on_ok_map}
use Rattle.tb_lanes.proofs.NumberLemmas.{on_ok}
use Rattle.tb_lanes.proofs.RowLemmas.{inserts_row, moved_writes, writes_fit, writes_row}
use Rattle.tb_order.proofs.noting.note.Goals as goal

pub note_end-requires-clause-low : goal.note_end-requires-clause-low
note_end-requires-clause-low c = (c.requires.fit c.args.key c.in-Some.row.now (sym c.get_mut.ensures.value ∙ ap option_copied_mut c.in-Some.is)).low

pub note_end-requires-clause-marked : goal.note_end-requires-clause-marked
note_end-requires-clause-marked c = (c.requires.fit c.args.key c.in-Some.row.now (sym c.get_mut.ensures.value ∙ ap option_copied_mut c.in-Some.is)).listed

pub note_end-requires-clause-skips : goal.note_end-requires-clause-skips
note_end-requires-clause-skips c = (c.requires.fit c.args.key c.in-Some.row.now (sym c.get_mut.ensures.value ∙ ap option_copied_mut c.in-Some.is)).skips

pub returns-in-Some-clause-fit : goal.returns-in-Some-clause-fit
returns-in-Some-clause-fit c =
    let found = sym c.get_mut.ensures.value ∙ ap option_copied_mut c.in-Some.is in
    let v = c.note_end.new.ends in
    let written = c.get_mut.follows.holds v in
    on_ok_map c.note_end.result _ _ (λ fit. writes_fit c.args.tasks.now c.args.clocks.now c.args.key c.args.at c.args.rows.now.entries _ v ((written.3 (subst IsSome (sym found) refl)).0) c.requires.fit fit) c.note_end.ensures.fit

pub returns-in-Some-clause-more : goal.returns-in-Some-clause-more
returns-in-Some-clause-more c =
    let found = sym c.get_mut.ensures.value ∙ ap option_copied_mut c.in-Some.is in
    let v = c.note_end.new.ends in
    let written = c.get_mut.follows.holds v in
    on_ok_map c.note_end.result _ _ (λ more. writes_row c.args.tasks.now c.args.clocks.now c.args.key c.args.at c.args.rows.now.entries _ v ((written.3 (subst IsSome (sym found) refl)).0) c.in-Some.row.now found more) c.note_end.ensures.more

pub returns-clause-fit : goal.returns-clause-fit
returns-clause-fit c =
    let updates = on_ok c.insert.result _ (c.insert.ensures.succeeds c.in_ok-reserve.ensures.ok) c.insert.ensures.updates in
    let v = c.note_end-2.new.ends in
    let old = c.args.rows.now.entries in
    writes_fit c.args.tasks.now c.args.clocks.now c.args.key c.args.at old _ v (moved_writes c.args.key old _ _ v (c.reserve.ensures.entries ∙ ap (λ m. m.entries) c.get_mut.follows.holds-at-none) updates.0) c.requires.fit c.in_ok-note_end.ensures.fit

pub returns-clause-more : goal.returns-clause-more
returns-clause-more c =
    let updates = on_ok c.insert.result _ (c.insert.ensures.succeeds c.in_ok-reserve.ensures.ok) c.insert.ensures.updates in
    let v = c.note_end-2.new.ends in
    let old = c.args.rows.now.entries in
    let none = sym c.get_mut.ensures.value ∙ ap option_copied_mut c.in_default.is in
    inserts_row c.args.tasks.now c.args.clocks.now c.args.key c.args.at old _ v (moved_writes c.args.key old _ _ v (c.reserve.ensures.entries ∙ ap (λ m. m.entries) c.get_mut.follows.holds-at-none) updates.0) none c.no_ends-row.result c.no_ends-row.ensures.places c.no_ends-row.ensures.skips c.in_ok-note_end.ensures.more
