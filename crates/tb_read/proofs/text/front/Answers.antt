use Rattle.std.proofs.Common.{sym, inl, inr}
use Rattle.tb_read.proofs.PieceLemmas.{printed_front}
use Rattle.tb_read.proofs.text.front.Goals as goal

pub returns-then-printed-bytes-clause-len : goal.returns-then-printed-bytes-clause-len
returns-then-printed-bytes-clause-len c = (printed_front c.args.bytes.now c.printed_len-printed.result c.printed_len-printed.ensures.len (inl c.if-printed-bytes.true)).0

pub returns-then-printed-bytes-clause-text : goal.returns-then-printed-bytes-clause-text
returns-then-printed-bytes-clause-text c = sym (printed_front c.args.bytes.now c.printed_len-printed.result c.printed_len-printed.ensures.len (inl c.if-printed-bytes.true)).1

pub returns-then-is_blank-clause-len : goal.returns-then-is_blank-clause-len
returns-then-is_blank-clause-len c = (printed_front c.args.bytes.now c.printed_len-printed.result c.printed_len-printed.ensures.len (inr (sym c.if-is_blank.ensures))).0

pub returns-then-is_blank-clause-text : goal.returns-then-is_blank-clause-text
returns-then-is_blank-clause-text c = sym (printed_front c.args.bytes.now c.printed_len-printed.result c.printed_len-printed.ensures.len (inr (sym c.if-is_blank.ensures))).1
