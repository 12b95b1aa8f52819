use Rattle.std.proofs.Common.{◌≡◌, ◌++◌, drop}
use Rattle.tb_view.specs.Reasons.{edge_lines, edges_text}
use Rattle.tb_view.proofs.reasons.edges_text.Given as goal

-- the text so far, and the lines of the needs that are left, are the whole text
abbrev pub invariant-edges : goal.invariant-edges
invariant-edges l = l.text ++ edge_lines (drop l.edge-index l.edges) ≡ edges_text l.edges
