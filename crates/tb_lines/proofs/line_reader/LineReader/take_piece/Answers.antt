use Rattle.tb_lines.proofs.PieceLemmas.{takes_with_feed, takes_all}
use Rattle.tb_lines.proofs.line_reader.LineReader.take_piece.Goals as goal

pub returns-then-len-held-clause-ok : goal.returns-then-len-held-clause-ok
returns-then-len-held-clause-ok c =
    rw (← c.self.view_is) (takes_with_feed c.self.inside.start c.self.inside.end _ c.self.inside.buffer _ _ c.self.invariant.0 c.line_len-len.ensures.len c.if-len-held.true c.in_ok-extend_from_slice.ensures.items)

pub returns-clause-ok : goal.returns-clause-ok
returns-clause-ok c =
    rw (← c.self.view_is) (takes_all c.self.inside.start c.self.inside.end _ c.self.inside.buffer _ _ c.self.invariant.0 c.line_len-len.ensures.len c.if-len-held.false c.line_len-len.ensures.within c.in_ok-extend_from_slice.ensures.items)
