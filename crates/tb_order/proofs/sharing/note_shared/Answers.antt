use Rattle.std.proofs.Common.{◌≡◌, ◌+◌, ◌++◌, ◌∷◌, [], length, take, sym, ap, ap₂, ◌∙◌, subst, arith}
use Rattle.std.proofs.lemmas.List.{take_all}
use Rattle.tb_lanes.specs.Clocks.{kept_in}
use Rattle.tb_lanes.specs.Kept.{is_load, slot_of}
use Rattle.tb_order.specs.Needed.{Shares}
use Rattle.tb_order.proofs.SharedLemmas.{load_shares, shares_none, shares_rest, write_shares}
use Rattle.tb_order.proofs.sharing.note_shared.Goals as goal
use Rattle.tb_steps.proofs.FirstLemmas.{there}

pub returns-in_default : goal.returns-in_default
returns-in_default c i =
    let entries = c.args.entries.now in
    let x = there entries c.args.at c.requires.at in
    shares_none entries c.args.at c.requires.at x.0 x.1 (ap slot_of (sym (c.action-action.ensures x.0 x.1)) ∙ sym c.slot_of.ensures ∙ c.in_default.is) i _ _ (c.requires.shared i)

pub returns-then-is_load : goal.returns-then-is_load
returns-then-is_load c =
    let entries = c.args.entries.now in
    let n = c.args.at in
    let i = c.in-Some.slot in
    let x = there entries n c.requires.at in
    let action = c.action-action.ensures x.0 x.1 in
    let slot = ap slot_of (sym action) ∙ sym c.slot_of.ensures ∙ c.in-Some.is in
    let load = ap is_load (sym action) ∙ sym c.is_load.ensures ∙ c.if-is_load.true in
    let loads = kept_in c.args.kept.now.loads.items i in
    let count : length c.places_in-count.result.now ≡ length loads = ap length (c.places_in-count.ensures ∙ ap (λ r. kept_in r i) c.deref.ensures.value ∙ c.in_ok-grow-2.ensures.same i) in
    let new : kept_in c.put.new.rows.items i ≡ loads ++ n ∷ [] = c.in_ok-put.ensures.row ∙ ap₂ (λ m r. take m r ++ n ∷ []) count (c.in_ok-grow-2.ensures.same i) ∙ ap (λ r. r ++ n ∷ []) (take_all (length loads) loads (omega arith)) in
    shares_rest entries n c.requires.at x.0 x.1 i slot (kept_in c.args.kept.now.writes.items) (kept_in c.args.kept.now.loads.items) (kept_in c.grow.new.rows.items) (kept_in c.put.new.rows.items) c.requires.shared
    (subst (λ r. Shares entries (n + 1) i r (kept_in c.put.new.rows.items i)) (sym (c.in_ok-grow.ensures.same i))
    (subst (λ r. Shares entries (n + 1) i (kept_in c.args.kept.now.writes.items i) r) (sym new) (load_shares entries n c.requires.at x.0 x.1 i slot load _ loads (c.requires.shared i))))
    (λ j d. c.in_ok-grow.ensures.same j) (λ j d. c.in_ok-put.ensures.others j d ∙ c.in_ok-grow-2.ensures.same j)

pub returns : goal.returns
returns c =
    let entries = c.args.entries.now in
    let n = c.args.at in
    let i = c.in-Some.slot in
    let x = there entries n c.requires.at in
    let action = c.action-action.ensures x.0 x.1 in
    let slot = ap slot_of (sym action) ∙ sym c.slot_of.ensures ∙ c.in-Some.is in
    let load = ap is_load (sym action) ∙ sym c.is_load.ensures ∙ c.if-is_load.false in
    shares_rest entries n c.requires.at x.0 x.1 i slot (kept_in c.args.kept.now.writes.items) (kept_in c.args.kept.now.loads.items) (kept_in c.put-2.new.rows.items) (kept_in c.cut.new.rows.items) c.requires.shared
    (subst (λ r. Shares entries (n + 1) i r (kept_in c.cut.new.rows.items i)) (sym c.in_ok-put-2.ensures.row)
    (subst (λ r. Shares entries (n + 1) i (n ∷ []) r) (sym c.cut.ensures.row) (write_shares entries n c.requires.at x.0 x.1 i slot load _ _ (c.requires.shared i))))
    (λ j d. c.in_ok-put-2.ensures.others j d ∙ c.in_ok-grow.ensures.same j) (λ j d. c.cut.ensures.others j d ∙ c.in_ok-grow-2.ensures.same j)
