use Rattle.std.proofs.Common.{◌≡◌, Bool, sym, subst, None, Result}
use Rattle.std.specs.Prelude.{IfOk, IsFalse}
use Rattle.std.specs.declared.alloc.AllocError.{AllocError}
use Rattle.std.proofs.lemmas.Bool.{false≢true}
use Rattle.tb_live.specs.Moves.{least_task}
use Rattle.tb_live.specs.Session.{is_full}
use Rattle.tb_team.specs.Turns.{why_idle}
use Rattle.tb_team.proofs.Idle.{not_idle}
use Rattle.tb_team.proofs.stopping.is_done.Goals as goal
use Rattle.tb_team.proofs.stopping.is_done.Goals.{in-Done, in_default}

pub returns-clause-going : goal.returns-clause-going
returns-clause-going c =
    let s = c.args.live.now.session in
    let Tells : Result Bool AllocError → Type 0 = λ r. IfOk r (λ done. IsFalse done → why_idle (least_task s) (is_full s) ≡ None) in
    elim c.match-branch-2.branch [
      | in-Done w ↦ subst Tells (sym w.result-is) (λ not_done. absurd (false≢true (sym not_done)))
      | in_default w ↦ subst Tells (sym w.result-is) (λ not_done. not_idle s c.claim.new.self.session 1 c.in_ok-claim.field-0 c.in_ok-claim.ensures.ok c.requires.going c.requires.room w.in_default.not-Done)
    ]
