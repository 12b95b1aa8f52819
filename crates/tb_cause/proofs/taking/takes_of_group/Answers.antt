use Rattle.std.proofs.Common.{sym, ap, ◌∙◌, rules}
use Rattle.indexmap.specs.IndexSet.{contains}
use Rattle.tb_model.specs.declared.action.Action.TheVariants.{Spawn}
use Rattle.tb_model.specs.Names.{same_name}
use Rattle.tb_steps.specs.Scans.{history_of}
use Rattle.tb_cause.proofs.GroupLemmas.{behind_open, behind_member, behind_other}
use Rattle.tb_cause.proofs.taking.takes_of_group.Goals as goal

pub back-preserved-else-closed-eq0 : goal.back-preserved-else-closed-eq0
back-preserved-else-closed-eq0 c =
    record {
      found =
          behind_open c.args.task.now (contains same_name c.args.set.now) (history_of c.back.rest) (history_of c.in-Some.older) _ c.in-Some.ensures.some (sym c.eq.ensures ∙ c.if-eq.true) c.back.closed c.back.found
          c.in-Open.is c.if-closed-eq0.false
          ∙ c.back.invariant.found;
      fits = search rules;
    }

pub back-preserved-then-contains : goal.back-preserved-then-contains
back-preserved-then-contains c =
    let s = c.get.result.now in
    let is = c.in-Spawn.is ∙ ap (λ x. Spawn x) (sym c.get.ensures) in
    record {
      found =
          behind_member c.args.task.now (contains same_name c.args.set.now) (history_of c.back.rest) (history_of c.in-Some.older) _ c.in-Some.ensures.some (sym c.eq.ensures ∙ c.if-eq.true) c.back.closed c.back.found
          s is (sym c.contains.ensures ∙ c.if-contains.true)
          ∙ c.back.invariant.found;
      fits = search rules;
    }

pub back-preserved-else-contains : goal.back-preserved-else-contains
back-preserved-else-contains c =
    let s = c.get.result.now in
    let is = c.in-Spawn.is ∙ ap (λ x. Spawn x) (sym c.get.ensures) in
    record {
      found =
          behind_other c.args.task.now (contains same_name c.args.set.now) (history_of c.back.rest) (history_of c.in-Some.older) _ c.in-Some.ensures.some (sym c.eq.ensures ∙ c.if-eq.true) c.back.closed c.back.found
          s is (sym c.contains.ensures ∙ c.if-contains.false)
          ∙ c.back.invariant.found;
      fits = search rules;
    }
