use Rattle.std.proofs.Common.{IsSome, refl, sym, ap, ◌∙◌, subst}
use Rattle.std.specs.Option.{option_copied_mut}
use Rattle.tb_lanes.proofs.AskedLemmas.{on_ok_map}
use Rattle.tb_lanes.proofs.NumberLemmas.{on_ok}
use Rattle.tb_stream.specs.Keeping.{AreTouchedSo}
use Rattle.tb_stream.proofs.TouchLemmas.{added_inside, found_none, if_ok_map, kept_none, all_written, moved_writes, known_is, touched_none}
use Rattle.tb_stream.proofs.kept.meet.Goals as goal

pub returns-in_default-clause-newest : goal.returns-in_default-clause-newest
returns-in_default-clause-newest c r n lanes next added extends event kept =
    found_none r n (added_inside r n next c.args.clocks.now c.args.access.mark added) lanes next extends c.args.action.now event (sym c.slot_of.ensures ∙ c.in_default.is)

pub returns-in_default-clause-kept : goal.returns-in_default-clause-kept
returns-in_default-clause-kept c r n lanes next added extends event access kept =
    kept_none r n (added_inside r n next c.args.clocks.now c.args.access.mark added) lanes next extends c.args.action.now event (sym c.slot_of.ensures ∙ c.in_default.is) c.args.kept.now.entries kept

pub returns-in-Some-get_mut-clause-newest : goal.returns-in-Some-get_mut-clause-newest
returns-in-Some-get_mut-clause-newest c =
    let i = c.in-Some.slot in
    let found = sym c.get_mut.ensures.value ∙ ap option_copied_mut c.in-Some-get_mut.is in
    if_ok_map c.touch.result _ _
    (λ o f r n lanes next added extends event kept.
    let w = added_inside r n next c.args.clocks.now c.args.access.mark added in
    f r n i lanes next added extends (known_is r n w lanes next extends c.args.action.now event i _ (sym c.slot_of.ensures ∙ c.in-Some.is) c.is_load.ensures) (subst (AreTouchedSo r n lanes i) found (kept i)))
    c.touch.ensures.newest

pub returns-in-Some-get_mut-clause-kept : goal.returns-in-Some-get_mut-clause-kept
returns-in-Some-get_mut-clause-kept c =
    let i = c.in-Some.slot in
    let found = sym c.get_mut.ensures.value ∙ ap option_copied_mut c.in-Some-get_mut.is in
    let v = c.touch.new.touched in
    let written = c.get_mut.follows.holds v in
    on_ok_map c.touch.result _ _
    (λ f r n lanes next added extends event access kept.
    let w = added_inside r n next c.args.clocks.now c.args.access.mark added in
    let slot = sym c.slot_of.ensures ∙ c.in-Some.is in
    all_written r n w lanes next extends c.args.action.now event i slot c.args.kept.now.entries _ v ((written.3 (subst IsSome (sym found) refl)).0) kept
    (f r n i lanes next added extends (known_is r n w lanes next extends c.args.action.now event i _ slot c.is_load.ensures) access (subst (AreTouchedSo r n lanes i) found (kept i))))
    c.touch.ensures.kept

pub returns-clause-newest : goal.returns-clause-newest
returns-clause-newest c r n lanes next added extends event kept =
    let i = c.in-Some.slot in
    let none = sym c.get_mut.ensures.value ∙ ap option_copied_mut c.in_default-get_mut.is in
    let w = added_inside r n next c.args.clocks.now c.args.access.mark added in
    c.in_ok-newest.ensures.newest r n i lanes next added extends (known_is r n w lanes next extends c.args.action.now event i _ (sym c.slot_of.ensures ∙ c.in-Some.is) c.is_load-2.ensures)
    (touched_none r n lanes i _ c.new.ensures.items c.new-2.ensures.items (subst (AreTouchedSo r n lanes i) none (kept i)))

pub returns-clause-kept : goal.returns-clause-kept
returns-clause-kept c r n lanes next added extends event access kept =
    let i = c.in-Some.slot in
    let none = sym c.get_mut.ensures.value ∙ ap option_copied_mut c.in_default-get_mut.is in
    let w = added_inside r n next c.args.clocks.now c.args.access.mark added in
    let slot = sym c.slot_of.ensures ∙ c.in-Some.is in
    let updates = on_ok c.insert.result _ (c.insert.ensures.succeeds c.in_ok-reserve.ensures.ok) c.insert.ensures.updates in
    let v = c.touch-2.new.touched in
    let old = c.args.kept.now.entries in
    all_written r n w lanes next extends c.args.action.now event i slot old _ v (moved_writes i old _ _ v (c.reserve.ensures.entries ∙ ap (λ m. m.entries) c.get_mut.follows.holds-at-none) updates.0) kept
    (c.in_ok-newest.ensures.kept r n i lanes next added extends (known_is r n w lanes next extends c.args.action.now event i _ slot c.is_load-2.ensures) access
    (touched_none r n lanes i _ c.new.ensures.items c.new-2.ensures.items (subst (AreTouchedSo r n lanes i) none (kept i))))
