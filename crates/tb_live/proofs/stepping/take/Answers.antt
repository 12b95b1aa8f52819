use Rattle.std.proofs.Common.{◌∙◌, ◌++◌, ◌∷◌, [], ap, subst}
use Rattle.tb_model.specs.declared.entry.Entry.TheVariants.{Stepped}
use Rattle.tb_core.specs.Outcomes.{Takes}
use Rattle.tb_live.proofs.stepping.take.Goals as goal

pub returns-then-stands_apart-clause-ok : goal.returns-then-stands_apart-clause-ok
returns-then-stands_apart-clause-ok c =
    let taken = c.in_ok-event.ensures.taken in
    record {
      taken = subst (Takes c.args.core.now.run c.args.task.now c.args.action c.args.to c.step_copied.new.self.run) taken.event taken;
      grows = c.push_step.ensures.items ∙ ap (λ v. c.args.journal.now.items ++ Stepped c.args.seat v ∷ []) taken.event;
    }
