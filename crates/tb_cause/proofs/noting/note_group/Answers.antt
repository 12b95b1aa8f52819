use Rattle.std.proofs.Common.{true, sym, ap, ◌∙◌, rules}
use Rattle.indexmap.specs.IndexSet.{contains}
use Rattle.tb_model.specs.declared.action.Action.TheVariants.{Spawn}
use Rattle.tb_model.specs.Names.{same_name}
use Rattle.tb_model.specs.Facts.{own}
use Rattle.tb_steps.specs.Scans.{history_of}
use Rattle.tb_cause.proofs.GroupLemmas.{behind_open, behind_close, behind_spawn, member_behind}
use Rattle.tb_cause.proofs.HasLemmas.{or_turned}
use Rattle.tb_cause.proofs.noting.note_group.Goals as goal

pub back-preserved-else-closed-eq0 : goal.back-preserved-else-closed-eq0
back-preserved-else-closed-eq0 c =
    let l = c.back in
    let mine = sym c.eq.ensures ∙ c.if-eq.true in
    record {
      put = λ q.
          behind_open c.args.task.now (λ x. same_name x q) (history_of l.rest) (history_of c.in-Some.older) _ c.in-Some.ensures.some mine l.closed (contains same_name l.set q) c.in-Open.is c.if-closed-eq0.false
          ∙ l.invariant.put q;
      stays = behind_open c.args.task.now (λ x. true) (history_of l.rest) (history_of c.in-Some.older) _ c.in-Some.ensures.some mine l.closed true c.in-Open.is c.if-closed-eq0.false ∙ l.invariant.stays;
      fits = search rules;
    }

pub back-preserved-in-Close : goal.back-preserved-in-Close
back-preserved-in-Close c =
    let l = c.back in
    let mine = sym c.eq.ensures ∙ c.if-eq.true in
    record {
      put = λ q.
          behind_close c.args.task.now (λ x. same_name x q) (history_of l.rest) (history_of c.in-Some.older) _ c.in-Some.ensures.some mine l.closed (contains same_name l.set q) c.in-Close.is
          ∙ l.invariant.put q;
      stays = behind_close c.args.task.now (λ x. true) (history_of l.rest) (history_of c.in-Some.older) _ c.in-Some.ensures.some mine l.closed true c.in-Close.is ∙ l.invariant.stays;
      fits = search rules;
    }

pub back-preserved-in_ok-put-in-Spawn : goal.back-preserved-in_ok-put-in-Spawn
back-preserved-in_ok-put-in-Spawn c =
    let l = c.back in
    let s = c.get.result.now in
    let is = c.in-Spawn.is ∙ ap (λ x. Spawn x) (sym c.get.ensures) in
    let mine = sym c.eq.ensures ∙ c.if-eq.true in
    record {
      put = λ q.
          ap (λ b. member_behind l.closed b (own c.args.task.now (history_of c.in-Some.older)) (λ x. same_name x q))
          (c.in_ok-put-in-Spawn.ensures q ∙ or_turned (same_name s.child q) (contains same_name l.set q))
          ∙ behind_spawn c.args.task.now (λ x. same_name x q) (history_of l.rest) (history_of c.in-Some.older) _ c.in-Some.ensures.some mine l.closed (contains same_name l.set q) s is
          ∙ l.invariant.put q;
      stays = behind_spawn c.args.task.now (λ x. true) (history_of l.rest) (history_of c.in-Some.older) _ c.in-Some.ensures.some mine l.closed true s is ∙ l.invariant.stays;
      fits = search rules;
    }
