-- Small runs by computation: each step is the task's next by what the definitions compute.
use Rattle.std.proofs.Common.{◌≡◌, ◌∷◌, subst, None, IsTrue}
use Rattle.tb_model.specs.declared.event.Event.{Event}
use Rattle.tb_model.specs.Facts.{History}
use Rattle.tb_model.specs.WellFormed.{WellFormed}
use Rattle.tb_model.specs.Hindrances.{next_event, can_step, least_ready}
use Rattle.tb_model.specs.Program.{Program, LegalFor, IsNext}
use Rattle.tb_laws.proofs.NextStepLemmas.{can_next, done_ended}
use Rattle.tb_model.proofs.NeedsLemmas.{may_spawned}
use Rattle.tb_model.proofs.TestLemmas.{same_refl}
use Rattle.tb_one_run.specs.Outcomes.{IsFinished}
use Rattle.tb_one_run.proofs.OnceLemmas.{no_more}

module _ (P : Program) (w : WellFormed P) where
  -- one step more
  pub step : {H : History} → LegalFor P H → (v : Event) → IsTrue (can_step P H v.task) → next_event P H v.task ≡ v → LegalFor P (v ∷ H)
  step {H} l v c e =
      let n = subst (IsNext P H) e ((can_next P H v.task w l).0 c) in ((l.0, n.may), (l.1, n.follows))

  -- nobody is left to step
  pub finished : (H : History) → LegalFor P H → least_ready P H ≡ None → IsFinished P H
  finished H l e v n =
      let over = (done_ended P H w l).0 e v.task (may_spawned P.cells H v l.0 n.may) in
      no_more P.cells H v v.task l.0 n.may (same_refl v.task) over
