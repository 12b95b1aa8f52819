use Rattle.std.proofs.Common.{◌≡◌, ◌≤◌, ◌+◌, suc, Some, length, take, slice_get, sym, ap, ◌∙◌, subst}
use Rattle.std.proofs.lemmas.List.{length-append}
use Rattle.tb_steps.specs.Entries.{Entry}
use Rattle.tb_steps.specs.Scans.{history_of}
use Rattle.tb_model.specs.Facts
use Rattle.tb_lanes.specs.Clocks.{AreOrdinals}
use Rattle.tb_lanes.proofs.TableLemmas.{numbers_more}
use Rattle.tb_order.proofs.ordinals.ordinals_of.Goals as goal

pub loop-at-preserved : goal.loop-at-preserved
loop-at-preserved c =
    let l = c.loop-at in
    let entries = c.args.entries.now in
    let told = subst (AreOrdinals entries l.at) (sym c.deref.ensures.value) l.invariant.told in
    let next = c.next_ordinal-next.ensures in record {
      listed = ap length c.in_ok-push.ensures.items ∙ length-append l.ordinals.items _ ∙ ap (λ m. m + 1) l.invariant.listed;
      low = numbers_more (λ p k. k ≤ p + 1) l.ordinals.items c.push.new.self.items c.next_ordinal-next.result l.at l.invariant.listed c.in_ok-push.ensures.items l.invariant.low next.low;
      told = numbers_more (λ p k. (v : Entry) → slice_get entries p ≡ Some v → k ≡ suc (length (Facts.own v.event.task (history_of (take p entries))))) l.ordinals.items c.push.new.self.items c.next_ordinal-next.result l.at l.invariant.listed c.in_ok-push.ensures.items l.invariant.told (next.told entries c.requires.tasks told);
    }
