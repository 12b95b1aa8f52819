use Rattle.std.proofs.Common.{◌∙◌, ◌++◌, ap, sym, append-nil}
use Rattle.tb_read.proofs.ClauseLemmas.{clauses_short}
use Rattle.tb_read.proofs.meaning.clauses_of.Goals as goal

pub returns-clause-clauses : goal.returns-clause-clauses
returns-clause-clauses c =
    sym (append-nil c.loop-left.clauses) ∙ ap (λ more. c.loop-left.clauses ++ more) (sym (clauses_short c.args.on_wait c.loop-left.left.now c.in_default.len_below)) ∙ c.loop-left.invariant.clauses
