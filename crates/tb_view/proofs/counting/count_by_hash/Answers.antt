use Rattle.std.proofs.Common.{rules, IsSome, refl, sym, ap, ◌∙◌, ◌+◌, ◌≡◌, subst, suc, arith, unwrap_or}
use Rattle.std.specs.Option.{option_copied_mut}
use Rattle.tb_view.specs.Steps.{count_of}
use Rattle.tb_view.proofs.CountLemmas.{writes_count, inserts_count, on_ok}
use Rattle.tb_view.proofs.counting.count_by_hash.Goals as goal

pub returns-in-Some-clause-counts : goal.returns-in-Some-clause-counts
returns-in-Some-clause-counts c =
    let found = sym c.get_mut.ensures.value ∙ ap option_copied_mut c.in-Some.is in
    let written = c.get_mut.follows.holds (c.in-Some.count.now + 1) in
    let number : count_of c.args.counts.now.entries c.args.task.now ≡ c.in-Some.count.now = ap (λ o. unwrap_or o 0) found in
    let next : c.in-Some.count.now + 1 ≡ suc (count_of c.args.counts.now.entries c.args.task.now) = omega (arith, number) in
    writes_count _ _ c.args.task.now (c.in-Some.count.now + 1) next ((written.3 (subst IsSome (sym found) refl)).0)

pub returns-clause-counts : goal.returns-clause-counts
returns-clause-counts c =
    let none = sym c.get_mut.ensures.value ∙ ap option_copied_mut c.in_default.is in
    let updates = on_ok c.insert.result _ (c.insert.ensures.succeeds (c.in_ok-reserve.ensures.ok)) c.insert.ensures.updates in
    inserts_count c.args.counts.now.entries _ _ c.args.task.now _ (search rules) (c.reserve.ensures.entries ∙ ap (λ m. m.entries) c.get_mut.follows.holds-at-none) none updates.0
