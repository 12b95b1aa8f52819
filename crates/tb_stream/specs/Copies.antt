-- Copies of clocks.
use Rattle.std.specs.Prelude.{◌≡◌, Vec, map}
use Rattle.std.specs.declared.alloc.Global.{Global}
use Rattle.tb_lanes.specs.declared.lane_bound.LaneBound.{LaneBound}
use Rattle.tb_stream.specs.declared.clocks.Clocks.{Clocks}

-- the second says what the first says, in memory of its own
pub record IsCopy (old new : Clocks) : Type 0 where
  pub newest : new.newest.items ≡ old.newest.items
  pub origins : new.origins.items ≡ old.origins.items
  pub rows : map (λ (v : Vec LaneBound Global). v.items) new.rows.items ≡ map (λ (v : Vec LaneBound Global). v.items) old.rows.items
  pub lasts : new.lasts.items ≡ old.lasts.items
