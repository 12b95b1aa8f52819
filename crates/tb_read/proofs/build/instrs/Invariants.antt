use Rattle.std.proofs.Common.{◌≡◌, ◌+◌, ◌<◌, ℕ, map, length, drop, reverse, slice_index_or}
use Rattle.tb_model.specs.Program.{no_instr}
use Rattle.tb_read.specs.Meaning.{IsInstrAt}
use Rattle.tb_read.specs.Shown.{shown_line, shown_instr, ArePlaced}
use Rattle.tb_read.proofs.build.instrs.Given as goal

-- the instructions so far
abbrev pub invariant-loop-at : goal.invariant-loop-at
invariant-loop-at l = record {
  left_count : length l.left.items + l.at ≡ length l.fn.lines.items;
  left : drop l.at l.fn.lines.items ≡ reverse l.left.items;
  count : length l.instrs.items ≡ l.at;
  instrs : (n : ℕ) → n < l.at → IsInstrAt (map shown_line l.fn.lines.items) n (slice_index_or (map shown_instr l.instrs.items) n no_instr);
  placed : ArePlaced l.cells l.instrs.items;
}
