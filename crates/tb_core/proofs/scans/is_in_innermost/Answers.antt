use Rattle.std.proofs.Common.{sym, ap, ◌∙◌, rules}
use Rattle.tb_model.specs.declared.action.Action.TheVariants.{Spawn}
use Rattle.tb_steps.specs.Scans.{history_of}
use Rattle.tb_steps.proofs.MemberLemmas.{behind_open, behind_member, behind_other}
use Rattle.tb_core.proofs.scans.is_in_innermost.Goals as goal

pub back-preserved-else-closed-eq0 : goal.back-preserved-else-closed-eq0
back-preserved-else-closed-eq0 c =
    record {
      found =
          behind_open c.args.t.now c.args.m.now (history_of c.back.rest) (history_of c.in-Some.older) _ c.in-Some.ensures.some (sym c.eq.ensures ∙ c.if-eq.true) c.back.closed c.back.found
          c.in-Open.is c.if-closed-eq0.false
          ∙ c.back.invariant.found;
      fits = search rules;
    }

pub back-preserved-then-is_within : goal.back-preserved-then-is_within
back-preserved-then-is_within c =
    record {
      found =
          behind_member c.args.t.now c.args.m.now (history_of c.back.rest) (history_of c.in-Some.older) _ c.in-Some.ensures.some (sym c.eq.ensures ∙ c.if-eq.true) c.back.closed c.back.found
          c.get.result.now (c.in-Spawn.is ∙ ap (λ x. Spawn x) (sym c.get.ensures)) (sym c.is_within.ensures ∙ c.if-is_within.true)
          ∙ c.back.invariant.found;
      fits = search rules;
    }

pub back-preserved-else-is_within : goal.back-preserved-else-is_within
back-preserved-else-is_within c =
    record {
      found =
          behind_other c.args.t.now c.args.m.now (history_of c.back.rest) (history_of c.in-Some.older) _ c.in-Some.ensures.some (sym c.eq.ensures ∙ c.if-eq.true) c.back.closed c.back.found
          c.get.result.now (c.in-Spawn.is ∙ ap (λ x. Spawn x) (sym c.get.ensures)) (sym c.is_within.ensures ∙ c.if-is_within.false)
          ∙ c.back.invariant.found;
      fits = search rules;
    }
