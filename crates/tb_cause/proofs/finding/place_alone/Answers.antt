use Rattle.std.proofs.Common.{◌<◌, ◌≤◌, ◌+◌, ◌++◌, ◌∷◌, [], length, ap, ◌∙◌, arith}
use Rattle.tb_cause.proofs.ConeLemmas.{found_first, found_all, all_pushed}
use Rattle.tb_cause.proofs.finding.place_alone.Goals as goal

pub returns : goal.returns
returns c =
    let entries = c.args.entries.now in
    let at = c.args.at in
    let places = c.push.new.self.items in
    let one = c.in_ok-push.ensures.items ∙ ap (λ xs. xs ++ at ∷ []) c.new-places.ensures.items in
    record {
      found = found_all c.args._step.now entries (at + 1) places c.requires.newest (found_first entries at c.args._step.now c.requires.within c.requires.here places one);
      inside = all_pushed (λ p. p < length entries) [] places at one (λ k d h. absurd (omega (arith, h))) c.requires.within;
      behind = all_pushed (λ p. at ≤ p) [] places at one (λ k d h. absurd (omega (arith, h))) (omega arith);
    }
