use Rattle.std.proofs.Common.{◌+◌, sym, ap, subst}
use Rattle.std.specs.Option.{option_copied}
use Rattle.tb_ready.specs.Order.{IsFirstBehind}
use Rattle.tb_ready.proofs.NextLemmas.{behind_itself, behind_others, place_of_itself}
use Rattle.tb_ready.proofs.order.place_behind.Goals as goal

pub returns-then-is_named : goal.returns-then-is_named
returns-then-is_named c =
    let p = c.args.walk in
    let named = c.is_named.ensures.named c.if-is_named.true in
    subst (λ q. IsFirstBehind c.args.names.now.tasks c.args.order.now.items q (p + 1)) (sym (ap option_copied c.in-Some.is))
    (behind_itself c.args.names.now.tasks c.args.order.now.items c.requires c.in-Some.name.now p
    (place_of_itself c.args.names.now.tasks c.args.order.now.items c.requires c.in-Some.name.now p named.0 named.1) named.0 named.1)

pub returns-then-is_named-2 : goal.returns-then-is_named-2
returns-then-is_named-2 c =
    let p = c.saturating_sub-before.result in
    let named = c.is_named-2.ensures.named c.if-is_named-2.true in
    subst (λ q. IsFirstBehind c.args.names.now.tasks c.args.order.now.items q (p + 1)) (sym (ap option_copied c.in-Some.is))
    (behind_itself c.args.names.now.tasks c.args.order.now.items c.requires c.in-Some.name.now p
    (place_of_itself c.args.names.now.tasks c.args.order.now.items c.requires c.in-Some.name.now p named.0 named.1) named.0 named.1)

pub returns-then-is_named-3 : goal.returns-then-is_named-3
returns-then-is_named-3 c =
    let p = c.saturating_sub-farther.result in
    let named = c.is_named-3.ensures.named c.if-is_named-3.true in
    subst (λ q. IsFirstBehind c.args.names.now.tasks c.args.order.now.items q (p + 1)) (sym (ap option_copied c.in-Some.is))
    (behind_itself c.args.names.now.tasks c.args.order.now.items c.requires c.in-Some.name.now p
    (place_of_itself c.args.names.now.tasks c.args.order.now.items c.requires c.in-Some.name.now p named.0 named.1) named.0 named.1)

pub returns-then-is_named-4 : goal.returns-then-is_named-4
returns-then-is_named-4 c =
    let p = c.place_of-place.result in
    let named = c.is_named-4.ensures.named c.if-is_named-4.true in
    subst (λ q. IsFirstBehind c.args.names.now.tasks c.args.order.now.items q (p + 1)) (sym (ap option_copied c.in-Some.is))
    (behind_itself c.args.names.now.tasks c.args.order.now.items c.requires c.in-Some.name.now p c.place_of-place.ensures named.0 named.1)

pub returns-else-is_named-4 : goal.returns-else-is_named-4
returns-else-is_named-4 c =
    let p = c.place_of-place.result in
    subst (λ q. IsFirstBehind c.args.names.now.tasks c.args.order.now.items q p) (sym (ap option_copied c.in-Some.is))
    (behind_others c.args.names.now.tasks c.args.order.now.items c.requires c.in-Some.name.now p c.place_of-place.ensures
    (c.is_named-4.ensures.other c.if-is_named-4.false))
