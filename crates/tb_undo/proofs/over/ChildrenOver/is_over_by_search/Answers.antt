use Rattle.std.proofs.Common.{◌≡◌, subst, arith, ◌⊎◌}
use Rattle.tb_undo.proofs.OverLemmas.{clamped, told_none, told_some}
use Rattle.tb_undo.proofs.over.ChildrenOver.is_over_by_search.Goals as goal

pub returns-in-None : goal.returns-in-None
returns-in-None c =
    let low = clamped c.try_from.result c.saturating_sub.result c.unwrap_or-low.result c.try_from.ensures c.unwrap_or-low.ensures in
    told_none c.args.self.now.waits.now.tasks c.args.self.now.parent.now c.args.child c.unwrap_or-low.result c.next_unended.result c.next_unended.ensures c.in-None.is
    (omega (arith, low.0, c.saturating_sub.ensures))

pub returns-in-Some : goal.returns-in-Some
returns-in-Some c =
    let low = clamped c.try_from.result c.saturating_sub.result c.unwrap_or-low.result c.try_from.ensures c.unwrap_or-low.ensures in
    told_some c.args.self.now.waits.now.tasks c.args.self.now.parent.now c.args.child c.unwrap_or-low.result c.in-Some.next c.next_unended.result c.next_unended.ensures c.in-Some.is
    (omega (arith, low.0, c.saturating_sub.ensures)) (subst (λ v. (c.unwrap_or-low.result ≡ v) ⊎ (c.unwrap_or-low.result ≡ 4294967295)) c.saturating_sub.ensures low.1) (omega arith)
