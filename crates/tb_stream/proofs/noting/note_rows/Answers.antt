use Rattle.std.proofs.Common.{◌≡◌, ◌<◌, ◌+◌, Some, None, get_or, length, slice_get, ap, subst, arith}
use Rattle.tb_model.specs.declared.item.Item.{Item}
use Rattle.tb_model.specs.declared.kind.Kind.TheVariants.{In}
use Rattle.tb_model.specs.declared.place.Place.TheVariants.{Cell}
use Rattle.tb_lanes.specs.Rows.{child_key, item_key, items_at}
use Rattle.tb_lanes.proofs.RowLemmas.{got_here}
use Rattle.tb_stream.specs.Ends.{AreRows, IsNoted, SoFar, WithOne}
use Rattle.tb_stream.proofs.NoteLemmas.{first_back, first_there, last_back, last_there, next_back, next_there, rows_so}
use Rattle.tb_stream.proofs.noting.note_rows.Goals as goal

pub loop-item-init : goal.loop-item-init
loop-item-init c =
    let g = c.args.parent in record {
      rows = λ r n lanes added named rows.
          rows_so r (n + 1) lanes c.args.clocks.now.rows.items (WithOne (IsNoted r n) (child_key g) n) (SoFar r n g 0) _ (first_there r n g) (first_back r n g) (c.in_ok-note.ensures r n lanes None added rows);
    }

pub loop-item-preserved : goal.loop-item-preserved
loop-item-preserved c =
    let l = c.loop-item in
    let g = c.args.parent in
    let i = l.item-index in
    let items = c.args.items.now in
    let y : Item = get_or items i (record { kind = In; place = Cell 0 }) in record {
      rows = λ r n lanes added named rows.
          let got : slice_get (items_at r.entries n) i ≡ Some y = subst (λ xs. slice_get xs i ≡ Some y) named (got_here items i _ (omega (arith, c.loop-item-test.true))) in
          rows_so r (n + 1) lanes c.args.clocks.now.rows.items (WithOne (SoFar r n g i) (item_key g y.kind y.place) n) (SoFar r n g (i + 1)) _ (next_there r n g i y got) (next_back r n g i y got)
          (subst (λ k. AreRows r (n + 1) lanes c.args.clocks.now.rows.items (WithOne (SoFar r n g i) k n) c.note-in-loop-item.new.rows.entries) c.item_key.ensures (c.in_ok-note-2.ensures r n lanes (Some (g, i)) added (l.invariant.rows r n lanes added named rows)));
    }

pub returns : goal.returns
returns c r n lanes added over child named rows =
    let l = c.loop-item in
    let g = c.args.parent in
    let all : l.item-index ≡ length (items_at r.entries n) = omega (arith, c.loop-item-test.false, l.auto.item-index-end, ap length named) in
    let k = added.clocks_are.within in
    let w : n < length r.entries = omega (arith, k) in
    rows_so r (n + 1) lanes c.args.clocks.now.rows.items (SoFar r n g (length (items_at r.entries n))) (IsNoted r (n + 1)) l.rows.entries (last_there r n g w over child) (last_back r n g w over child)
    (subst (λ m. AreRows r (n + 1) lanes c.args.clocks.now.rows.items (SoFar r n g m) l.rows.entries) all (l.invariant.rows r n lanes added named rows))
