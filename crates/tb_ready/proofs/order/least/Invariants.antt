use Rattle.std.proofs.Common.{◌≡◌, ◌<◌, ℕ, true}
use Rattle.std.specs.Prelude.{slice_index}
use Rattle.std.specs.List.{list_any}
use Rattle.tb_model.specs.Names.{same_name}
use Rattle.tb_ready.specs.Layout.{name_at}
use Rattle.tb_ready.proofs.order.least.Given as goal

-- the names so far are to be skipped
abbrev pub invariant-loop-k : goal.invariant-loop-k
invariant-loop-k l =
    (a : ℕ) → a < l.k → list_any (λ s. same_name s (name_at l.names.tasks (slice_index l.order.items a))) l.skip ≡ true
