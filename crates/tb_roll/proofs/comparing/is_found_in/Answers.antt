use Rattle.std.proofs.Common.{◌≡◌, ℕ, List, length, sym, subst, IfSome, Vec, Global}
use Rattle.tb_roll.specs.Comparing.{AreMatched}
use Rattle.tb_roll.proofs.OrderLemmas.{found_in}
use Rattle.tb_roll.proofs.comparing.is_found_in.Goals as goal

pub returns-in-Some : goal.returns-in-Some
returns-in-Some c =
    let entries = c.args.entries.now in
    let others = c.args.others.now in
    let matched = subst (λ o. IfSome o (λ (v : Vec ℕ Global). AreMatched entries v.items others)) c.in-Some.is c.in_ok-places.ensures.matched in
    let count = subst (λ o. IfSome o (λ (v : Vec ℕ Global). length v.items ≡ length entries)) c.in-Some.is c.in_ok-places.ensures.count in
    found_in entries others c.in-Some.places.items c.is_in_order.result count matched (c.is_in_order.ensures others (subst (λ (l : List ℕ). AreMatched entries l others) (sym c.deref.ensures.value) matched))
