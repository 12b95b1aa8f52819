use Rattle.std.proofs.Common.{◌+◌, List, get_or, sym, ap, ◌∙◌}
use Rattle.tb_steps.specs.Entries.{Entry}
use Rattle.tb_cause.specs.Keys.{has}
use Rattle.tb_cause.proofs.TaskKeyLemmas.{of_same_task}
use Rattle.tb_cause.proofs.indexed.Indexed.is_of_earlier.Goals as goal

pub returns-then-are_of_one : goal.returns-then-are_of_one
returns-then-are_of_one c =
    of_same_task c.args.self.now (c.args.at + 1) c.args.at (has c.args.keys.now) c.args.of_last c.requires.within c.requires.last
    (λ e d at_e at_d.
    sym
    (c.are_of_one.ensures e d (at_e ∙ ap (λ (es : List Entry). get_or es c.args.at e) (sym c.self.view_is)) (at_d ∙ ap (λ (es : List Entry). get_or es (c.args.at + 1) d) (sym c.self.view_is)))
    ∙ c.if-are_of_one.true)
