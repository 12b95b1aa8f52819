use Rattle.std.proofs.Common.{◌∙◌, ◌||◌, ap, sym}
use Rattle.tb_read.specs.Misfits.{has}
use Rattle.tb_read.proofs.ClauseLemmas.{misplaced_short}
use Rattle.tb_read.proofs.clauses.add_clauses.Goals as goal

pub returns : goal.returns
returns c fault =
    c.add_rest.ensures fault
    ∙ ap (λ more. has c.loop-left.found fault || more) (sym (misplaced_short fault c.args.on_wait c.loop-left.left.now c.in_default.len_below))
    ∙ c.loop-left.invariant fault
