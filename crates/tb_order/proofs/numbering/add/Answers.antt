use Rattle.std.proofs.Common.{◌≡◌, ◌-◌, ◌∙◌, ap, arith, subst}
use Rattle.tb_lanes.specs.Clocks.{number, origin}
use Rattle.tb_lanes.specs.Numbering.{IsAdded}
use Rattle.tb_lanes.proofs.AfterLemmas.{at_read}
use Rattle.tb_lanes.proofs.ClockLemmas.{within_any}
use Rattle.tb_lanes.proofs.NumberLemmas.{previous_low, numbered_own, numbered_new}
use Rattle.tb_races.specs.Orders.{Synchronised}
use Rattle.tb_order.proofs.numbering.add.Goals as goal

pub is_own-requires-clause-previous : goal.is_own-requires-clause-previous
is_own-requires-clause-previous c =
    previous_low c.args.entries.now c.requires.legal c.args.at c.requires.at c.args.previous (c.requires.previous _ (at_read Synchronised c.args.entries.now c.args.at c.requires.at))

pub index-number-requires : goal.index-number-requires
index-number-requires c =
    let b = c.is_own.ensures.own c.if-is_own.true in
    let low = previous_low c.args.entries.now c.requires.legal c.args.at c.requires.at c.args.previous (c.requires.previous _ (at_read Synchronised c.args.entries.now c.args.at c.requires.at)) in
    omega (arith, b.1, low, c.requires.numbered.numbers_listed)

pub index-origin-requires : goal.index-origin-requires
index-origin-requires c =
    let b = c.is_own.ensures.own c.if-is_own.true in
    let low = previous_low c.args.entries.now c.requires.legal c.args.at c.requires.at c.args.previous (c.requires.previous _ (at_read Synchronised c.args.entries.now c.args.at c.requires.at)) in
    omega (arith, b.1, low, c.requires.numbered.origins_listed)

pub returns-in_ok-push : goal.returns-in_ok-push
returns-in_ok-push c =
    let entries = c.args.entries.now in
    let old = c.args.tasks.now in
    let b = c.is_own.ensures.own c.if-is_own.true in
    let told = c.requires.previous _ (at_read Synchronised entries c.args.at c.requires.at) in
    let low = previous_low entries c.requires.legal c.args.at c.requires.at c.args.previous told in
    let less : c.args.previous - 1 ≡ b.0 = omega (arith, b.1) in
    let k : c.index-number.result.now ≡ number old b.0 = within_any old.numbers.items (c.args.previous - 1) 0 c.index-number.result.now (omega (arith, b.1, low, c.requires.numbered.numbers_listed)) c.index-number.ensures ∙ ap (number old) less in
    let g : c.index-origin.result.now ≡ origin old b.0 = within_any old.origins.items (c.args.previous - 1) 0 c.index-origin.result.now (omega (arith, b.1, low, c.requires.numbered.origins_listed)) c.index-origin.ensures ∙ ap (origin old) less in
    let added = subst (λ n. IsAdded old c.args.previous (number old b.0) n c.push.new.tasks) g (subst (λ n. IsAdded old c.args.previous n c.index-origin.result.now c.push.new.tasks) k c.in_ok-push.ensures) in
    numbered_own entries c.requires.legal c.args.at c.requires.at c.args.previous told c.args.count old c.push.new.tasks c.requires.numbered b.0 b.1 b.2 added

pub returns-in_ok-push-2 : goal.returns-in_ok-push-2
returns-in_ok-push-2 c =
    let entries = c.args.entries.now in
    let told = c.requires.previous _ (at_read Synchronised entries c.args.at c.requires.at) in
    numbered_new entries c.requires.legal c.args.at c.requires.at c.args.previous told c.args.count c.args.tasks.now c.push-else-is_own.new.tasks c.requires.numbered (c.is_own.ensures.other c.if-is_own.false) c.in_ok-push-2.ensures
