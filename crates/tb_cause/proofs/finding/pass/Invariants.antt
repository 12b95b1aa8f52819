use Rattle.std.proofs.Common.{◌<◌, ◌≤◌, ◌-◌, length}
use Rattle.std.specs.List.{All}
use Rattle.tb_cause.specs.Chains.{AreGivenAt}
use Rattle.tb_cause.specs.Keys.{IsOfTask, has}
use Rattle.tb_cause.proofs.ConeLemmas.{Found}
use Rattle.tb_cause.proofs.finding.pass.Given as goal

abbrev pub invariant-forward : goal.invariant-forward
invariant-forward l = record {
  order : l.at < l.later;
  within : l.later ≤ length l.indexed;
  found : Found l._step l.indexed l.later l.places.items;
  given : AreGivenAt l.indexed l.places.items (has l.keys);
  inside : All (λ p. p < length l.indexed) l.places.items;
  behind : All (λ p. l.at ≤ p) l.places.items;
  of_task : IsOfTask l.indexed (l.later - 1) (has l.keys) l.of_task;
}

abbrev pub decreases-forward : goal.decreases-forward
decreases-forward l = length l.indexed - l.later
