use Rattle.std.proofs.Common.{◌≡◌, ◌<◌, ◌||◌, List, Bool, true, false, length, sym, ap, ◌∙◌, subst, arith, IsTrue}
use Rattle.std.proofs.lemmas.Bool.{both_ways}
use Rattle.tb_model.specs.declared.action.Action.TheVariants.{Start, Wait}
use Rattle.tb_model.specs.declared.item.Item.{Item}
use Rattle.tb_races.specs.Kinds.{wait_kind}
use Rattle.tb_races.specs.Orders.{Synchronised, counts_some}
use Rattle.tb_lanes.specs.Clocks.{IsEnd, links_at}
use Rattle.tb_lanes.specs.Linking.{order_of}
use Rattle.tb_lanes.specs.Rows.{IsAsked, IsTold}
use Rattle.tb_lanes.proofs.AfterLemmas.{at_is, at_read}
use Rattle.tb_lanes.proofs.AskedLemmas.{is_starting, not_starting, on_ok_map, other_waits, row_told, some_items, start_asked, wait_asked, waits_is, waits_links}
use Rattle.tb_order.proofs.JoinedLemmas.{joins_none}
use Rattle.tb_lanes.proofs.OwnLemmas.{H, ev}
use Rattle.tb_order.proofs.asked.merge_waited.Goals as goal

or_second : (a b : Bool) → a ≡ false → (a || b) ≡ true → b ≡ true
or_second a b e h = sym (ap (λ c. c || b) e) ∙ h

pub returns-in-Start-clause-told : goal.returns-in-Start-clause-told
returns-in-Start-clause-told c =
    let x = c.args.past.now.exclusion in
    let entries = c.args.entries.now in
    let tasks = c.args.tasks.now in
    let are = c.requires.waiting.by_task in
    let legal = c.requires.waiting.legal in
    let p = c.args.waiter.now.at in
    let w = c.requires.waiting.at in
    let acts = sym (c.action.ensures _ (at_is Synchronised entries p w)) ∙ c.in-Start.is in
    let named = c.items_of-items.ensures p (omega arith) w _ (at_read Synchronised entries p w) in
    on_ok_map c.merge_items.result _ _
    (λ told y end h.
    let asked = start_asked x entries tasks are legal p y w end acts c.items_of-items.result.now named h in
    told y (subst (λ g. IsAsked (order_of x) entries tasks p g y) (sym (c.requires.waiting.whose.start (is_starting x entries tasks are legal p y w end acts))) asked.0) asked.1)
    c.merge_items.ensures.told

pub returns-then-is_empty-clause-told : goal.returns-then-is_empty-clause-told
returns-then-is_empty-clause-told c =
    let x = c.args.past.now.exclusion in
    let entries = c.args.entries.now in
    let tasks = c.args.tasks.now in
    let are = c.requires.waiting.by_task in
    let legal = c.requires.waiting.legal in
    let p = c.args.waiter.now.at in
    let w = c.requires.waiting.at in
    let acts = sym (c.action.ensures _ (at_is Synchronised entries p w)) ∙ c.in-Wait.is in
    on_ok_map c.merge_children.result _ _
    (λ told y end h.
    let asked = wait_asked x entries tasks are legal p y w end c.in-Wait.items (λ t m. ap (λ a. wait_kind (H entries p) t a m) acts) h in
    told y (subst (λ g. IsAsked (order_of x) entries tasks p g y) (sym (c.requires.waiting.whose.other (not_starting x entries tasks are legal p y w end (λ s. no_wait c.in-Wait.items (sym acts ∙ s))))) asked.0))
    c.merge_children.ensures.told
  where
    no_wait : (items : List Item) → Wait items ≡ Start → ⊥
    no_wait items e = cc

pub returns-else-is_empty-clause-told : goal.returns-else-is_empty-clause-told
returns-else-is_empty-clause-told c =
    let x = c.args.past.now.exclusion in
    let entries = c.args.entries.now in
    let tasks = c.args.tasks.now in
    let are = c.requires.waiting.by_task in
    let legal = c.requires.waiting.legal in
    let p = c.args.waiter.now.at in
    let w = c.requires.waiting.at in
    let acts = sym (c.action.ensures _ (at_is Synchronised entries p w)) ∙ c.in-Wait.is in
    let some = some_items c.as_slice-items.result.now c.is_empty.result c.is_empty.ensures c.if-is_empty.false in
    on_ok_map c.merge_items-else-is_empty.result _ _
    (λ told y end h.
    let asked = wait_asked x entries tasks are legal p y w end c.as_slice-items.result.now (λ t m. ap (λ a. wait_kind (H entries p) t a m) (acts ∙ ap Wait (sym c.as_slice-items.ensures))) h in
    told y (subst (λ g. IsAsked (order_of x) entries tasks p g y) (sym (c.requires.waiting.whose.other (not_starting x entries tasks are legal p y w end (λ s. no_wait c.in-Wait.items (sym acts ∙ s))))) asked.0) (or_second _ _ some asked.1))
    c.merge_items-else-is_empty.ensures.told
  where
    no_wait : (items : List Item) → Wait items ≡ Start → ⊥
    no_wait items e = cc

pub returns-in-Close-clause-told : goal.returns-in-Close-clause-told
returns-in-Close-clause-told c =
    let x = c.args.past.now.exclusion in
    let entries = c.args.entries.now in
    let tasks = c.args.tasks.now in
    let p = c.args.waiter.now.at in
    on_ok_map c.merge.result _ _
    (λ told y end h.
    row_told (order_of x) entries (IsEnd entries p) c.args.past.now.ends c.requires.waiting.front.ends (λ z. IsTrue (links_at (order_of x) entries p z)) (IsTold entries tasks c.args.past.now c.args.waiter.now.lane p c.merge.new.joined) told y end
    (waits_links x entries tasks c.requires.waiting.by_task c.requires.waiting.legal p y c.requires.waiting.at end h))
    c.merge.ensures.told

pub returns-in_default : goal.returns-in_default
returns-in_default c =
    let x = c.args.past.now.exclusion in
    let entries = c.args.entries.now in
    let p = c.args.waiter.now.at in
    let w = c.requires.waiting.at in
    let acts = sym (c.action.ensures _ (at_is Synchronised entries p w)) in record {
      more = joins_none entries c.args.tasks.now c.args.past.now c.args.waiter.now.lane p c.args.joined.now c.requires.joined;
      told = λ y end h.
          let i : y < length entries = omega (arith, end.0, w) in
          absurd (both_ways _ (ap (counts_some (order_of x)) (ap (λ a. wait_kind (H entries p) (ev entries p w).task a (ev entries y i).task) acts ∙ other_waits (H entries p) (ev entries p w).task (ev entries y i).task c.action.result.now c.in_default.not-Start c.in_default.not-Wait c.in_default.not-Close)) (sym (waits_is (order_of x) entries p y w i) ∙ h));
    }
