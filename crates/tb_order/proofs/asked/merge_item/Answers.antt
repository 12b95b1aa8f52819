use Rattle.std.proofs.Common.{◌≡◌, Some, true, ap, sym, ◌∙◌}
use Rattle.tb_model.specs.declared.kind.Kind.TheVariants.{In, Out, Inout, Mutexinoutset, Inoutset}
use Rattle.tb_lanes.specs.Rows.{IsTold, asks}
use Rattle.tb_lanes.proofs.AskedLemmas.{each_kind, item_told, kind_some, on_ok_both, on_ok_map}
use Rattle.tb_order.proofs.JoinedLemmas.{joins_trans}
use Rattle.tb_order.proofs.asked.merge_item.Goals as goal

pub returns-clause-more : goal.returns-clause-more
returns-clause-more c =
    let trans = joins_trans c.args.entries.now c.args.tasks.now c.args.past.now c.args.waiter.now.lane c.args.waiter.now.at in
    on_ok_map c.merge_kind-5.result _ _
    (λ last.
    trans _ _ _ c.in_ok-merge_kind.ensures.more
    (trans _ _ _ c.in_ok-merge_kind-2.ensures.more (trans _ _ _ c.in_ok-merge_kind-3.ensures.more (trans _ _ _ c.in_ok-merge_kind-4.ensures.more last))))
    c.merge_kind-5.ensures.more

pub returns-clause-told : goal.returns-clause-told
returns-clause-told c =
    let told1 = c.in_ok-merge_kind.ensures.told in
    let told2 = c.in_ok-merge_kind-2.ensures.told in
    let told3 = c.in_ok-merge_kind-3.ensures.told in
    let told4 = c.in_ok-merge_kind-4.ensures.told in
    let kept2 = c.in_ok-merge_kind-2.ensures.more.kept in
    let kept3 = c.in_ok-merge_kind-3.ensures.more.kept in
    let kept4 = c.in_ok-merge_kind-4.ensures.more.kept in
    let asked1 = kind_some c.kind_asked-asked.result _ In c.kind_asked-asked.ensures in
    let asked2 = kind_some c.kind_asked-asked-2.result _ Out c.kind_asked-asked-2.ensures in
    let asked3 = kind_some c.kind_asked-asked-3.result _ Inout c.kind_asked-asked-3.ensures in
    let asked4 = kind_some c.kind_asked-asked-4.result _ Mutexinoutset c.kind_asked-asked-4.ensures in
    let asked5 = kind_some c.kind_asked-asked-5.result _ Inoutset c.kind_asked-asked-5.ensures in
    on_ok_both c.merge_kind-5.result _ _ _
    (λ more told5 x a meets.
    let l = a.end.0 in
    item_told c.args.past.now.exclusion c.args.entries.now x c.args.item c.in-Cell.cell _ c.in-Cell.is meets (λ kind i j h got is place.
    each_kind (λ k. asks c.args.past.now.exclusion c.args.item.kind k ≡ true → j.kind ≡ k → IsTold c.args.entries.now c.args.tasks.now c.args.past.now c.args.waiter.now.lane c.args.waiter.now.at c.merge_kind-5.new.joined x)
    (λ h is. more.kept x l (kept4 x l (kept3 x l (kept2 x l (told1 x i j a got (asked1 h ∙ ap Some (sym is)) place)))))
    (λ h is. more.kept x l (kept4 x l (kept3 x l (told2 x i j a got (asked2 h ∙ ap Some (sym is)) place))))
    (λ h is. more.kept x l (kept4 x l (told3 x i j a got (asked3 h ∙ ap Some (sym is)) place)))
    (λ h is. more.kept x l (told4 x i j a got (asked4 h ∙ ap Some (sym is)) place))
    (λ h is. told5 x i j a got (asked5 h ∙ ap Some (sym is)) place)
    kind h is))
    c.merge_kind-5.ensures.more c.merge_kind-5.ensures.told
