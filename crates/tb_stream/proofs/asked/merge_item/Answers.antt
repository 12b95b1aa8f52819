use Rattle.std.proofs.Common.{◌≡◌, ℕ, Bool, Option, sym, ap, ◌∙◌, subst, IsTrue}
use Rattle.tb_stream.specs.Seen.{Run}
use Rattle.std.specs.List.{list_any}
use Rattle.tb_model.specs.declared.kind.Kind.{Kind}
use Rattle.tb_model.specs.declared.kind.Kind.TheVariants.{In, Out, Inout, Mutexinoutset, Inoutset}
use Rattle.tb_lanes.specs.Rows.{items_at, may_meet}
use Rattle.tb_lanes.proofs.AskedLemmas.{on_ok_map}
use Rattle.tb_stream.specs.Joins.{HasMet, IsChildEnd}
use Rattle.tb_stream.proofs.MergeLemmas.{merges_so}
use Rattle.tb_stream.proofs.WaitLemmas.{asked_of, merges_kinds, met_of}
use Rattle.tb_stream.proofs.asked.merge_item.Goals as goal

pub returns-in_default : goal.returns-in_default
returns-in_default c =
    on_ok_map c.merge_children.result _ _
    (λ merges r n lanes wait are.
    merges_so r n lanes c.args.order.now.clocks.rows.items c.args.waiter.now.step.lane (IsChildEnd r n c.args.waiter.now.parent)
    (λ x. IsChildEnd r n c.args.waiter.now.parent x × IsTrue (list_any (may_meet r.exclusion c.args.item) (items_at r.entries x))) c.args.joined.now _ (λ x l q h. q.0) (merges r n lanes wait are))
    c.merge_children.ensures

same_met : (r : Run) (n g cell x : ℕ) (e : Bool) (new old : Kind) (asked : Option Kind) → asked ≡ asked_of e new old → e ≡ r.exclusion → IsChildEnd r n g x × HasMet r (asked_of r.exclusion new old) cell x → IsChildEnd r n g x × HasMet r asked cell x
same_met r n g cell x e new old asked is f (child, met) = (child, subst (λ o. HasMet r o cell x) (sym (is ∙ ap (λ b. asked_of b new old) f)) met)

pub returns : goal.returns
returns c =
    let k = c.args.waiter.now.step.lane in
    let rows = c.args.order.now.clocks.rows.items in
    let g = c.args.waiter.now.parent in
    let cell = c.in-Cell.cell in
    let new = c.args.item.kind in
    on_ok_map c.merge_kind-5.result _ _
    (λ merges r n lanes wait are.
    let m1 = c.in_ok-merge_kind.ensures r n lanes wait are in
    let m2 = c.in_ok-merge_kind-2.ensures r n lanes wait m1.are in
    let m3 = c.in_ok-merge_kind-3.ensures r n lanes wait m2.are in
    let m4 = c.in_ok-merge_kind-4.ensures r n lanes wait m3.are in
    let m5 = merges r n lanes wait m4.are in
    let P = λ (old : Kind) (x : ℕ). IsChildEnd r n g x × HasMet r (asked_of r.exclusion new old) cell x in
    merges_kinds r n lanes rows k P (λ x. IsChildEnd r n g x × IsTrue (list_any (may_meet r.exclusion c.args.item) (items_at r.entries x))) c.args.joined.now _ _ _ _ _
    (merges_so r n lanes rows k _ (P In) _ _ (λ x l q h. same_met r n g cell x c.args.order.now.exclusion new In c.kind_asked-asked.result c.kind_asked-asked.ensures wait.past.exclusion q) m1)
    (merges_so r n lanes rows k _ (P Out) _ _ (λ x l q h. same_met r n g cell x c.args.order.now.exclusion new Out c.kind_asked-asked-2.result c.kind_asked-asked-2.ensures wait.past.exclusion q) m2)
    (merges_so r n lanes rows k _ (P Inout) _ _ (λ x l q h. same_met r n g cell x c.args.order.now.exclusion new Inout c.kind_asked-asked-3.result c.kind_asked-asked-3.ensures wait.past.exclusion q) m3)
    (merges_so r n lanes rows k _ (P Mutexinoutset) _ _ (λ x l q h. same_met r n g cell x c.args.order.now.exclusion new Mutexinoutset c.kind_asked-asked-4.result c.kind_asked-asked-4.ensures wait.past.exclusion q) m4)
    (merges_so r n lanes rows k _ (P Inoutset) _ _ (λ x l q h. same_met r n g cell x c.args.order.now.exclusion new Inoutset c.kind_asked-asked-5.result c.kind_asked-asked-5.ensures wait.past.exclusion q) m5)
    (λ x s. met_of r n g x c.args.item cell c.in-Cell.is s))
    c.merge_kind-5.ensures
