use Rattle.std.proofs.Common.{Err, rules, refl, sym, ap, ◌∙◌}
use Rattle.tb_taskcheck.proofs.ReadLemmas.{Feeds, Finds, fed_by, no_memory, not_read, read_whole, reading_on, reading_starts}
use Rattle.tb_taskcheck.proofs.reading.read_text.Goals as goal

pub lines-init : goal.lines-init
lines-init g c = record {
  can = tt;
  ends = tt;
  reading = reading_starts _ _ _ _ c.new-reader.ensures c.new-judge.ensures c.in-Ok.ensures;
  failures = refl;
}

pub returns-in-Err-next_line_within-clause-taken : goal.returns-in-Err-next_line_within-clause-taken
returns-in-Err-next_line_within-clause-taken g c =
    let gave = c.in-Err-next_line_within.ensures in
    not_read _ _ _ _ _ _ c.lines.invariant.reading _ c.in-Err-next_line_within.fault gave.line (λ is. (gave.read (ap Err is)).1)

pub returns-then-is_err-clause-taken : goal.returns-then-is_err-clause-taken
returns-then-is_err-clause-taken g c =
    no_memory _ _ _ _ _ _ c.lines.invariant.reading _ c.in-Ok-next_line_within.stop c.in-Ok-next_line_within.ensures.line

pub returns-then-is_last-clause-taken : goal.returns-then-is_last-clause-taken
returns-then-is_last-clause-taken g c =
    let stop = c.in-Ok-next_line_within.stop in
    let fine = sym c.is_err.ensures.value ∙ c.if-is_err.false in
    let feeds = fed_by (Feeds c.lines.judge c.take_line.new.judge stop) _ _ c.take_line.result c.take_line.ensures.judged fine c.deref.ensures.value in
    let finds = fed_by (Finds c.lines.judge c.lines.found c.take_line.new.found stop) _ _ c.take_line.result c.take_line.ensures.found fine c.deref.ensures.value in
    read_whole _ _ _ _ _ _ c.lines.invariant.reading _ stop c.take_line.new.judge c.take_line.new.found c.verdict.result c.in-Ok-next_line_within.ensures.line
    feeds finds (sym c.is_last.ensures ∙ c.if-is_last.true) c.verdict.ensures

pub lines-preserved : goal.lines-preserved
lines-preserved g c =
    let stop = c.in-Ok-next_line_within.stop in
    let fine = sym c.is_err.ensures.value ∙ c.if-is_err.false in
    let feeds = fed_by (Feeds c.lines.judge c.take_line.new.judge stop) _ _ c.take_line.result c.take_line.ensures.judged fine c.deref.ensures.value in
    let finds = fed_by (Finds c.lines.judge c.lines.found c.take_line.new.found stop) _ _ c.take_line.result c.take_line.ensures.found fine c.deref.ensures.value in
    let going = sym c.is_last.ensures ∙ c.if-is_last.false in record {
      can = tt;
      ends = tt;
      reading =
          reading_on _ _ _ c.lines.judge c.take_line.new.judge c.lines.found c.take_line.new.found _ stop c.lines.invariant.reading
          c.in-Ok-next_line_within.ensures.line feeds finds going;
      failures = search rules;
    }
