use Rattle.std.proofs.Common.{◌≡◌, ◌+◌, ◌-◌, ◌&&◌, ℕ, None, nat_le, if◌then◌else◌, refl, subst, arith}
use Rattle.tb_model.specs.Program.{Program}
use Rattle.tb_plan.specs.Strips.{strip_at}
use Rattle.tb_read.specs.Strips.{private_at, first_line}
use Rattle.tb_read.proofs.StripLemmas.{near_lines}
use Rattle.tb_read.proofs.strip.strip_around.Goals as goal

pub returns : goal.returns
returns c m =
    let P : Program = c.args.program.now in
    let first : ℕ = c.first_line-first.result in
    let last : ℕ = c.last_line-last.result in
    let near = near_lines (private_at P) c.lines_from.result first last (last - first + 1) m (omega (arith, c.first_line-first.ensures.above, c.last_line-last.ensures.below)) refl c.lines_from.ensures in
    let shown = strip_at (record { first = first; lines = c.lines_from.result }) m in
    let by_first = subst (λ (low : ℕ). shown ≡ (if nat_le low m && nat_le m last then private_at P m else None)) c.first_line-first.ensures.line near in
    subst (λ (high : ℕ). shown ≡ (if nat_le (first_line P c.args.at 63) m && nat_le m high then private_at P m else None)) c.last_line-last.ensures.line by_first
