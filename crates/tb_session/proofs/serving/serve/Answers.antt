use Rattle.std.proofs.Common.{rules, refl}
use Rattle.tb_replies.proofs.SeatLemmas.{line_seats}
use Rattle.tb_session.proofs.ServeLemmas.{serve_starts, serve_read, serve_memory, serve_halts, serve_more, serve_ends}
use Rattle.tb_session.proofs.serving.serve.Goals as goal

pub lines-init : goal.lines-init
lines-init g c = record {
  can = tt;
  ends = tt;
  seats = c.requires.seats;
  served = serve_starts c.args.limit c.args.live.session _ _;
  reads = refl;
  writes = refl;
}

pub returns-in-Err-Read-clause-served : goal.returns-in-Err-Read-clause-served
returns-in-Err-Read-clause-served g c = serve_read c.args.limit _ _ _ _ _ _ _ _ c.in-Err-Read.field-0 c.lines.invariant.served c.in-Err-Read.ensures.line

pub returns-in-Err-Memory-clause-served : goal.returns-in-Err-Memory-clause-served
returns-in-Err-Memory-clause-served g c = serve_memory c.args.limit _ _ _ _ _ _ _ _ c.in-Err-Memory.field-0 c.lines.invariant.served c.in-Err-Memory.ensures.line

pub returns-in-Err-clause-served : goal.returns-in-Err-clause-served
returns-in-Err-clause-served g c =
    serve_halts c.args.limit _ _ _ _ _ _ _ _ _ _ c.in-Ok.line_end c.in-Err.halt c.lines.invariant.served c.in-Ok.ensures.line c.deref.ensures.value c.in-Err.ensures.answered

pub lines-preserved : goal.lines-preserved
lines-preserved g c = record {
  can = tt;
  ends = tt;
  seats = line_seats c.args.limit c.lines.live.session c.in-Ok-answer_line.live.session _ _ c.in-Ok-answer_line.ensures.answered.0 c.lines.invariant.seats c.deref.ensures.value c.in-Ok-answer_line.ensures.answered.1;
  served = serve_more c.args.limit _ _ c.in-Ok-answer_line.live _ _ _ _ _ _ _ _ c.in-Ok.line_end c.lines.invariant.served c.in-Ok.ensures.line c.deref.ensures.value c.in-Ok-answer_line.ensures.answered c.in-Feed.is;
  reads = search rules;
  writes = search rules;
}

pub returns-in-Input-clause-served : goal.returns-in-Input-clause-served
returns-in-Input-clause-served g c =
    serve_ends c.args.limit _ _ c.in-Ok-answer_line.live _ _ _ _ _ _ _ _ c.in-Ok.line_end c.lines.invariant.served c.in-Ok.ensures.line c.deref.ensures.value c.in-Ok-answer_line.ensures.answered c.in-Input.is
