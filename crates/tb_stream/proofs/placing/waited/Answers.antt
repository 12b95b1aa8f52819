use Rattle.std.proofs.Common.{◌≡◌, ℕ, Option, Some, None, sym, ap, ◌∙◌, subst}
use mathlib.Core.Path.{fun_ext}
use Rattle.tb_lanes.specs.Bounds.{IsRising, bound_among, bound_in}
use Rattle.tb_lanes.specs.Clocks.{row_in}
use Rattle.tb_lanes.proofs.BoundLemmas.{first_bound, none_rising}
use Rattle.tb_lanes.proofs.TableLemmas.{sound_same}
use Rattle.tb_stream.specs.declared.mark.Mark.{Mark}
use Rattle.tb_stream.specs.Placing.{row_of}
use Rattle.tb_stream.specs.Seen.{order}
use Rattle.tb_stream.proofs.placing.waited.Goals as goal

pub returns : goal.returns
returns c r n lanes past now begun =
    let rows = c.args.order.now.clocks.rows.items in
    let own : c.in_ok-own.own.items ≡ row_in rows c.args.step.row = c.in_ok-own.ensures.items ∙ c.row.ensures ∙ ap (λ xs. row_in xs c.args.step.row) c.deref.ensures.value in
    let first = λ (j : ℕ). first_bound c.new.result.items c.new.ensures.items j (bound_among c.add_row.new.rows.items j) (bound_in c.in_ok-own.own.items j) (c.in_ok-add_row.ensures.bounds j) in
    let merges = c.in_ok-merge_all.ensures r n lanes (record {
      past = past;
      now = now;
      next = begun.next;
      lane = begun.lane;
      parent = λ v g. c.whose_children.ensures r n now v g;
      from = λ x e h. c.first_asked.ensures r n now x e h;
    }) (record {
      rising = c.in_ok-add_row.ensures.rising (none_rising c.new.result.items c.new.ensures.items) (subst IsRising (sym own) begun.rising);
      sound = sound_same (order r) r.entries r.tasks lanes (row_of rows c.args.step) (bound_among c.add_row.new.rows.items) c.args.step.lane n (λ j. ap (λ x. bound_in x j) (sym own) ∙ sym (first j)) begun.sound;
      end = λ m e. absurd (no_some m e);
    }) in record {
      are = merges.are;
      ends = λ x l e h. merges.told x l (l, e) h;
      same = λ e. ap bound_among (merges.same e).0 ∙ fun_ext first ∙ ap bound_in own;
    }
  where
    no_some : (m : Mark) → ◌≡◌ {A = Option Mark} None (Some m) → ⊥
    no_some m e = cc
