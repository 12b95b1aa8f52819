use Rattle.std.proofs.Common.{[], ◌∷◌, ◌++◌, Some, sym, ap, ◌∙◌, subst}
use Rattle.tb_undo.specs.Places.{AreInPlace}
use Rattle.tb_undo.proofs.ComingLemmas.{placed_root}
use Rattle.tb_undo.proofs.rows.root_row.Goals as goal

pub returns-clause-placed : goal.returns-clause-placed
returns-clause-placed c tasks keys =
    subst (AreInPlace tasks) (sym (c.push_reserved.ensures.items ∙ ap (λ rows. rows ++ Some c.new-row.result ∷ []) c.in_ok-rows.ensures.items))
    (placed_root c.new-row.result (c.new-row.ensures.name ∙ c.root-root.ensures) tasks keys)
