use Rattle.std.proofs.Common.{◌≡◌, ◌-◌, ◌++◌, ◌∷◌, [], length, take, drop, get_or, refl, sym, ap, ◌∙◌, subst, arith}
use Rattle.std.proofs.lemmas.Slice.Zip.{AllZip-long}
use Rattle.tb_wait.proofs.RowLemmas.{keep_names, names_along}
use Rattle.tb_places.specs.Renumbering.{left_from}
use Rattle.tb_core.specs.Soundness.{names_in}
use Rattle.tb_core.specs.Storing.{IsStored, entries_in}
use Rattle.tb_core.proofs.StoringLemmas.{all_kept}
use Rattle.tb_core.proofs.UnwoundLemmas.{unwinds_first, next_state, next_done, inside_now, some_name, goes_stands, goes_stored, left_stored, unwound_of}
use Rattle.tb_core.proofs.unwinding.unwind.Goals as goal

pub back-init : goal.back-init
back-init c =
    let ss = c.args.entries.now.items in
    let before = c.args.tables.now in
    let r = c.args.rollback in
    record {
      unwinds = (length ss, unwinds_first (entries_in before ss) before ss r c.len-next.result r.steps.items r.removed.items c.requires.stored c.requires.ready r.none_removed (omega (arith, c.len-next.ensures, r.places.ok.0, r.places.ok.1)) refl);
      names = keep_names before.waits.tasks;
      within = omega (arith, c.len-next.ensures, r.places.ok.0, r.places.ok.1);
      room = omega (arith, c.len-next.ensures, r.removed_room, ap length r.none_removed, r.removed.ok.0, r.removed.ok.1);
    }

pub index_mut-requires : goal.index_mut-requires
index_mut-requires c =
    let b = c.back in
    let ss = c.args.entries.now.items in
    let before = c.args.tables.now in
    let old = entries_in before ss in
    let places = c.args.rollback.places.items in
    let at = c.index.result.now in
    let long = AllZip-long (IsStored (names_in before)) ss old c.requires.stored in
    let zipped = all_kept before b.tables ss old b.invariant.names c.requires.stored in
    let state =
    next_state c.args.rollback.step old before ss b.entries.items b.tables places b.next b.steps.items b.removed.items b.invariant.unwinds.0 b.invariant.unwinds.1 at c.back-test.true b.invariant.within c.index.ensures in
    let inside = inside_now c.args.rollback.step old before ss b.entries.items b.tables (take (b.next - 1) places) at (drop b.next places) b.steps.items b.removed.items long b.invariant.unwinds.0 state zipped in
    omega (arith, inside, b.entries.ok.0, b.entries.ok.1)

pub unwrap-id-requires : goal.unwrap-id-requires
unwrap-id-requires c =
    let b = c.back in
    let ss = c.args.entries.now.items in
    let before = c.args.tables.now in
    let old = entries_in before ss in
    let places = c.args.rollback.places.items in
    let at = c.index.result.now in
    let long = AllZip-long (IsStored (names_in before)) ss old c.requires.stored in
    let zipped = all_kept before b.tables ss old b.invariant.names c.requires.stored in
    let state =
    next_state c.args.rollback.step old before ss b.entries.items b.tables places b.next b.steps.items b.removed.items b.invariant.unwinds.0 b.invariant.unwinds.1 at c.back-test.true b.invariant.within c.index.ensures in
    some_name c.args.rollback.step old before ss b.entries.items b.tables (take (b.next - 1) places) at (drop b.next places) b.steps.items b.removed.items long b.invariant.unwinds.0 state zipped
    c.pop.new.self.items c.pop.result c.pop.ensures.items (λ some. c.pop.ensures.variant.1 (omega (arith, some)))

pub take_back-requires : goal.take_back-requires
take_back-requires c =
    let b = c.back in
    let ss = c.args.entries.now.items in
    let before = c.args.tables.now in
    let old = entries_in before ss in
    let places = c.args.rollback.places.items in
    let at = c.index.result.now in
    let long = AllZip-long (IsStored (names_in before)) ss old c.requires.stored in
    let zipped = all_kept before b.tables ss old b.invariant.names c.requires.stored in
    let state =
    next_state c.args.rollback.step old before ss b.entries.items b.tables places b.next b.steps.items b.removed.items b.invariant.unwinds.0 b.invariant.unwinds.1 at c.back-test.true b.invariant.within c.index.ensures in
    goes_stands c.args.rollback.step old before ss b.entries.items b.tables (take (b.next - 1) places) at (drop b.next places) b.steps.items b.removed.items long b.invariant.unwinds.0 state zipped
    c.replace-entry.result (subst (λ x. x ≡ get_or b.entries.items at x) (sym c.replace-entry.ensures.value) c.index_mut.ensures.value) c.pop.new.self.items c.pop.result c.unwrap-id.result c.pop.ensures.items c.unwrap-id.ensures c.requires.tied

pub back-preserved : goal.back-preserved
back-preserved c =
    let b = c.back in
    let ss = c.args.entries.now.items in
    let before = c.args.tables.now in
    let old = entries_in before ss in
    let places = c.args.rollback.places.items in
    let at = c.index.result.now in
    let long = AllZip-long (IsStored (names_in before)) ss old c.requires.stored in
    let zipped = all_kept before b.tables ss old b.invariant.names c.requires.stored in
    let state =
    next_state c.args.rollback.step old before ss b.entries.items b.tables places b.next b.steps.items b.removed.items b.invariant.unwinds.0 b.invariant.unwinds.1 at c.back-test.true b.invariant.within c.index.ensures in
    record {
      unwinds = (
        at,
        goes_stored c.args.rollback.step old before ss b.entries.items b.tables (take (b.next - 1) places) at (drop b.next places) b.steps.items b.removed.items long b.invariant.unwinds.0 state zipped
            c.replace-entry.result (subst (λ x. x ≡ get_or b.entries.items at x) (sym c.replace-entry.ensures.value) c.index_mut.ensures.value) c.pop.new.self.items c.pop.result c.unwrap-id.result c.pop.ensures.items c.unwrap-id.ensures
            c.take_back.new.tables c.take_back.ensures.without c.push_reserved.new.self.items (c.push_reserved.ensures.items ∙ ap (λ r. b.removed.items ++ r ∷ []) c.take_back.ensures.removed) _ _ refl
            (take (b.next - 1) places) (drop (b.next - 1) places) refl (next_done places b.next at c.back-test.true b.invariant.within c.index.ensures),
      );
      names = names_along before.waits.tasks b.tables.waits.tasks c.take_back.new.tables.waits.tasks b.invariant.names c.take_back.ensures.names;
      within = omega (arith, b.invariant.within);
      room = omega (arith, b.invariant.room, c.back-test.true, c.push_reserved.ensures.len, c.push_reserved.ensures.capacity);
    }

pub returns-clause-left : goal.returns-clause-left
returns-clause-left c =
    let b = c.back in
    let ss = c.args.entries.now.items in
    let before = c.args.tables.now in
    c.close.ensures ∙ ap (λ gs. left_from 0 gs b.entries.items) c.deref.ensures.value
    ∙ left_stored c.args.rollback.step (entries_in before ss) before ss b.entries.items b.tables c.args.rollback.places.items b.next b.steps.items b.removed.items b.invariant.unwinds.0 b.invariant.unwinds.1 (omega (arith, c.back-test.false))

pub returns-clause-unwound : goal.returns-clause-unwound
returns-clause-unwound c =
    let b = c.back in
    let ss = c.args.entries.now.items in
    let before = c.args.tables.now in
    unwound_of c.args.rollback.step (entries_in before ss) before ss b.entries.items b.tables c.args.rollback.places.items b.next b.steps.items b.removed.items b.invariant.unwinds.0 b.invariant.unwinds.1 (omega (arith, c.back-test.false))
