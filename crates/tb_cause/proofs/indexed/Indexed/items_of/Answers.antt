use Rattle.std.proofs.Common.{◌∙◌, List, sym, ap, subst}
use Rattle.tb_model.specs.Facts.{IsSpawned, items_of}
use Rattle.tb_model.proofs.StateLemmas.{items_of_spawn}
use Rattle.tb_steps.specs.Entries.{Entry}
use Rattle.tb_steps.specs.Scans.{history_of}
use Rattle.tb_cause.proofs.indexed.Indexed.items_of.Goals as goal

pub returns : goal.returns
returns c =
    let H = history_of c.args.self.now in
    c.items.ensures (subst (λ (es : List Entry). IsSpawned (history_of es) c.args.task.now) (sym c.self.view_is) c.requires)
    ∙ ap (λ (es : List Entry). items_of c.args.task.now (history_of es)) c.self.view_is
    ∙ items_of_spawn c.history_is_legal.ensures.legal.cells H c.args.task.now c.history_is_legal.ensures.legal.legal
