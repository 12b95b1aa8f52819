use Rattle.std.proofs.Common.{◌≡◌, ◌≤◌, length}
use Rattle.std.specs.Prelude.{vec_len, vec_capacity}
use Rattle.tb_live.specs.Runs.{unclaimed}
use Rattle.tb_live.proofs.RunsLemmas.{SoFar}
use Rattle.tb_live.proofs.live.Live.run.Given as goal

abbrev pub invariant-loop-one : goal.invariant-loop-one
invariant-loop-one l = record {
  so_far : SoFar l.moves (unclaimed l.fn.self.session) l.one-index l.self.session l.answers.items;
  count : vec_len l.answers ≡ l.one-index;
  room : length l.moves ≤ vec_capacity l.answers;
}
