use Rattle.std.proofs.Common.{◌≡◌, ◌≤◌, ◌-◌}
use Rattle.tb_replies.specs.Course.{course, behind}
use Rattle.tb_draft.specs.Written.{Told}
use Rattle.tb_replies.proofs.CourseLemmas.{Going}
use Rattle.tb_replies.proofs.running.take_steps.Given as goal

-- the rest of the course is after the steps so far, and no call failed
abbrev pub invariant-steps : goal.invariant-steps
invariant-steps g l = record {
  within : l.count ≤ l.most;
  told : Told (g.K.Sink.taken l.initial.sink) (g.K.Sink.taken l.sink) l.text
      (λ told. Going (behind l.initial.text 0 (course l.most l.initial.live.session)) told l.count (l.most - l.count) l.live.session);
  failures : g.K.Sink.failures l.sink ≡ g.K.Sink.failures l.initial.sink;
}

abbrev pub decreases-steps : goal.decreases-steps
decreases-steps g l = l.most - l.count
