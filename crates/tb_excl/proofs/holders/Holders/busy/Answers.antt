use Rattle.std.proofs.Common.{subst, ap, sym, ◌∙◌, Some, None}
use Rattle.tb_model.specs.Names.{child}
use Rattle.tb_model.specs.LeastNames.{IsLeastName}
use Rattle.tb_excl.specs.Holders.{Excludes, ExcludesTask}
use Rattle.tb_excl.proofs.SearchLemmas.{least_child}
use Rattle.tb_excl.proofs.holders.Holders.busy.Goals as goal

pub returns-in-None-clause-busy : goal.returns-in-None-clause-busy
returns-in-None-clause-busy c =
    least_child c.args.self.now.parent (Excludes c.args.self.now c.args.items.now) None c.in-None.ensures

pub returns-in_ok-child-in-Some-clause-busy : goal.returns-in_ok-child-in-Some-clause-busy
returns-in_ok-child-in-Some-clause-busy c =
    let parent = ap (λ v. v.parent) c.self.view_is in
    let name = c.in_ok-child-in-Some.ensures.child ∙ ap (λ t. child t c.in-Some.number) parent in
    subst (IsLeastName (ExcludesTask c.args.self.now c.args.items.now)) (ap Some (sym name))
    (least_child c.args.self.now.parent (Excludes c.args.self.now c.args.items.now) (Some c.in-Some.number) c.in-Some.ensures)
