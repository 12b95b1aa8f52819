use Rattle.std.proofs.Common.{◌∙◌, sym, ap}
use Rattle.std.specs.Option.{option_map}
use Rattle.tb_undo.specs.declared.copies.Copies.{Copies}
use Rattle.tb_undo.proofs.StateLemmas.{copied_test}
use Rattle.tb_undo.proofs.tables.Tables.has_copies.Goals as goal

pub returns-in-Some : goal.returns-in-Some
returns-in-Some c =
    copied_test c.args.self.now.copied c.in-Some.copies.of_holders c.args.child.now c.eq.result
    (sym (ap (option_map (λ (x : Copies). x.of_holders)) c.in-Some.is) ∙ ap (λ s. s.copied) c.self.view_is) c.eq.ensures
