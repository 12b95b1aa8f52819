use Rattle.std.proofs.Common.{◌≡◌, ◌<◌, ℕ, List, [], length, true, nat_lt, ap, ◌∙◌, sym, arith, rules}
use Rattle.std.proofs.lemmas.Bool.Decides.{nat_tests}
use Rattle.std.proofs.lemmas.List.{length-map}
use Rattle.tb_model.specs.declared.action.Action.{Action}
use Rattle.tb_model.specs.Facts.{groups, own}
use Rattle.tb_model.specs.State.{open_groups, children_since}
use Rattle.tb_model.proofs.GroupsLemmas.{groups_since}
use Rattle.tb_core.specs.Seen.{history}
use Rattle.tb_core_tests.proofs.taking.fits.Goals as goal

-- where so many are open, one is the innermost
some_open : (acts : List Action) (n : ℕ) → n ≡ length (open_groups acts) → nat_lt 0 n ≡ true → groups acts ≡ [] → ⊥
some_open acts n counted some none =
    let none_left : length (open_groups acts) ≡ 0 = sym (length-map (open_groups acts) (λ k. children_since k acts)) ∙ ap length (sym (groups_since acts) ∙ none) in
    let least : 0 < n = grind (arith, nat_tests) in
    omega (arith, counted, none_left, least)

pub returns-else-not-matches : goal.returns-else-not-matches
returns-else-not-matches c some = record {
  cells = search rules;
  starts = λ here. search rules;
  closes = λ here close. some_open (own c.args.plan.now.config.task (history c.args.core.now.run)) c.groups.result c.groups.ensures some;
}
