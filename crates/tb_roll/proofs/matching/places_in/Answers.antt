use Rattle.std.proofs.Common.{ℕ, [], ◌∷◌, length, sym, ap, ◌∙◌, subst, arith}
use Rattle.std.proofs.lemmas.List.{length-append}
use Rattle.std.specs.List.{slice_get}
use Rattle.tb_roll.specs.Comparing.{IsSameStep}
use Rattle.tb_roll.proofs.MatchingLemmas.{one_pushed}
use Rattle.tb_roll.proofs.matching.places_in.Goals as goal

pub place_in-requires-clause-matched : goal.place_in-requires-clause-matched
place_in-requires-clause-matched c p q h = c.loop-at.invariant.matched p q (ap (λ l. slice_get l p) (sym c.deref.ensures.value) ∙ h)

pub loop-at-preserved : goal.loop-at-preserved
loop-at-preserved c =
    let inv = c.loop-at.invariant in
    let pushed = c.push_reserved.ensures in
    let last = subst (λ (n : ℕ). IsSameStep c.args.entries.now n c.args.others.now c.in-Some.place) (sym inv.count) c.in-Some.ensures.same in
    record {
      count = omega (arith, inv.count, ap length pushed.items, length-append c.loop-at.places.items (c.in-Some.place ∷ []));
      matched = λ p q h.
          one_pushed (λ n m. IsSameStep c.args.entries.now n c.args.others.now m) c.loop-at.places.items c.in-Some.place inv.matched last p q (ap (λ l. slice_get l p) (sym pushed.items) ∙ h);
      room = omega (arith, inv.room, pushed.capacity);
    }
