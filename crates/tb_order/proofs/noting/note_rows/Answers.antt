use Rattle.std.proofs.Common.{◌≡◌, ◌+◌, Some, get_or, length, slice_get, sym, ap, ◌∙◌, subst, arith}
use Rattle.tb_model.specs.declared.item.Item.{Item}
use Rattle.tb_model.specs.declared.kind.Kind.TheVariants.{In}
use Rattle.tb_model.specs.declared.place.Place.TheVariants.{Cell}
use Rattle.tb_races.specs.Orders.{Synchronised}
use Rattle.tb_lanes.specs.Rows.{AddsTo, AreRows, IsNoted, child_key, item_key, items_at, items_so, parent}
use Rattle.tb_lanes.proofs.AfterLemmas.{at_read}
use Rattle.tb_lanes.proofs.RowLemmas.{SoFar, WithOne, first_back, first_there, got_here, last_back, last_there, next_back, next_there, rows_more, rows_same}
use Rattle.tb_lanes.proofs.OwnLemmas.{H}
use Rattle.tb_order.proofs.noting.note_rows.Goals as goal

pub loop-item-init : goal.loop-item-init
loop-item-init c =
    let entries = c.args.entries.now in
    let tasks = c.args.tasks.now in
    let p = c.args.at in
    let adds = subst (λ g. AddsTo tasks c.args.clocks.now (child_key g) p c.args.rows.now.entries c.note.new.rows.entries) c.parent_of-parent.ensures c.in_ok-note.ensures.more in record {
      fit = c.in_ok-note.ensures.fit;
      rows = λ o told rows.
          rows_same o entries (WithOne (IsNoted entries tasks p) (child_key (parent tasks p)) p) (SoFar entries tasks p 0) _ (first_there entries tasks p) (first_back entries tasks p)
          (rows_more o entries tasks c.requires.tasks c.args.clocks.now p told (IsNoted entries tasks p) (child_key (parent tasks p)) c.args.rows.now.entries _ adds rows);
    }

pub loop-item-preserved : goal.loop-item-preserved
loop-item-preserved c =
    let l = c.loop-item in
    let entries = c.args.entries.now in
    let tasks = c.args.tasks.now in
    let p = c.args.at in
    let items = c.items_of-items.result.now in
    let y : Item = get_or items l.item-index (record { kind = In; place = Cell 0 }) in
    let named : items ≡ items_at entries p =
    c.items_of-items.ensures p (omega arith) c.requires.at _ (at_read Synchronised entries p c.requires.at) ∙ sym (ap (items_so (H entries p)) (at_read Synchronised entries p c.requires.at)) in
    let got : slice_get (items_at entries p) l.item-index ≡ Some y = subst (λ xs. slice_get xs l.item-index ≡ Some y) named (got_here items l.item-index _ (omega (arith, c.loop-item-test.true))) in
    let key = c.item_key-key.ensures ∙ ap (λ g. item_key g y.kind y.place) c.parent_of-parent.ensures in
    let adds = subst (λ k. AddsTo tasks c.args.clocks.now k p l.rows.entries c.note-in-loop-item.new.rows.entries) key c.in_ok-note-2.ensures.more in record {
      fit = c.in_ok-note-2.ensures.fit;
      rows = λ o told rows.
          rows_same o entries (WithOne (SoFar entries tasks p l.item-index) (item_key (parent tasks p) y.kind y.place) p) (SoFar entries tasks p (l.item-index + 1)) _ (next_there entries tasks p l.item-index y got) (next_back entries tasks p l.item-index y got)
          (rows_more o entries tasks c.requires.tasks c.args.clocks.now p told (SoFar entries tasks p l.item-index) (item_key (parent tasks p) y.kind y.place) l.rows.entries _ adds (l.invariant.rows o told rows));
    }

pub returns : goal.returns
returns c o told rows =
    let l = c.loop-item in
    let entries = c.args.entries.now in
    let tasks = c.args.tasks.now in
    let p = c.args.at in
    let named = c.items_of-items.ensures p (omega arith) c.requires.at _ (at_read Synchronised entries p c.requires.at) ∙ sym (ap (items_so (H entries p)) (at_read Synchronised entries p c.requires.at)) in
    let all : l.item-index ≡ length (items_at entries p) = omega (arith, c.loop-item-test.false, l.auto.item-index-end, ap length named) in
    rows_same o entries (SoFar entries tasks p (length (items_at entries p))) (IsNoted entries tasks (p + 1)) l.rows.entries (last_there entries tasks p c.requires.over) (last_back entries tasks p)
    (subst (λ n. AreRows o entries (SoFar entries tasks p n) l.rows.entries) all (l.invariant.rows o told rows))
