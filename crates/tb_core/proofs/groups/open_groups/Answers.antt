use Rattle.std.proofs.Common.{rules, ◌∙◌, ◌++◌, ◌∷◌, [], sym, ap, arith, length}
use Rattle.tb_steps.specs.Scans.{history_of}
use Rattle.tb_core.proofs.GroupLemmas.{one_more, behind_open, behind_inner, behind_close, behind_plain, plain_unless, other_behind, open_behind}
use Rattle.tb_core.proofs.groups.open_groups.Goals.{in-Open+then-closed-eq0+in_ok-step-in-Open+in_ok-push-in-Open, in-Open+else-closed-eq0, in-Close, in_default-action}
use Rattle.tb_core.proofs.groups.open_groups.Goals as goal

pub back-preserved : goal.back-preserved
back-preserved c =
    let t = c.args.t.now in
    let same = other_behind t (history_of c.back.rest) (history_of c.in-Some.older) _ c.in-Some.ensures.some (sym c.eq.ensures ∙ c.if-eq.false) in
    record {
      found = ap (λ acts. c.back.ids.items ++ open_behind t c.back.closed acts) same ∙ c.back.invariant.found;
      counted = c.back.invariant.counted ∙ ap length (sym same);
      fits = search rules;
      few = c.back.invariant.few;
    }

pub back-preserved-after-action : goal.back-preserved-after-action
back-preserved-after-action c =
    let t = c.args.t.now in
    let rest = history_of c.back.rest in
    let older = history_of c.in-Some.older in
    let more = c.in-Some.ensures.some in
    let mine = sym c.eq.ensures ∙ c.if-eq.true in
    let one = one_more t rest older _ more mine in
    elim c.match-action.branch [
      | in-Open+then-closed-eq0+in_ok-step-in-Open+in_ok-push-in-Open w ↦ rw (w.ids-is, w.closed-is) (record {
        found =
            behind_open t rest older _ more mine c.back.closed c.back.left c.back.ids.items w.push.new.self.items w.in-Open.is w.if-closed-eq0.true c.back.invariant.counted
            (w.in_ok-push-in-Open.ensures.items ∙ ap (λ x. c.back.ids.items ++ x ∷ []) w.in_ok-step-in-Open.ensures)
            ∙ c.back.invariant.found;
        counted = omega (arith, one, c.back.invariant.counted);
        fits = search rules;
        few = search rules;
      })
      | in-Open+else-closed-eq0 w ↦ rw (w.ids-is, w.closed-is) (record {
        found = ap (λ l. c.back.ids.items ++ l) (behind_inner t rest older _ more mine c.back.closed w.in-Open.is w.if-closed-eq0.false) ∙ c.back.invariant.found;
        counted = omega (arith, one, c.back.invariant.counted);
        fits = search rules;
        few = search rules;
      })
      | in-Close w ↦ rw (w.ids-is, w.closed-is) (record {
        found = ap (λ l. c.back.ids.items ++ l) (behind_close t rest older _ more mine c.back.closed w.in-Close.is) ∙ c.back.invariant.found;
        counted = omega (arith, one, c.back.invariant.counted);
        fits = search rules;
        few = search rules;
      })
      | in_default-action w ↦ rw (w.ids-is, w.closed-is) (record {
        found = ap (λ l. c.back.ids.items ++ l) (behind_plain t rest older _ more mine c.back.closed (plain_unless _ w.in_default-action.not-Open w.in_default-action.not-Close)) ∙ c.back.invariant.found;
        counted = omega (arith, one, c.back.invariant.counted);
        fits = search rules;
        few = search rules;
      })
    ]
