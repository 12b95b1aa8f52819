use Rattle.std.proofs.Common.{◌∙◌, ap, refl, reverse}
use Rattle.tb_order.specs.Edges.{edges}
use Rattle.tb_view.specs.Reasons.{edges_text}
use Rattle.tb_view.proofs.ShownLemmas.{ok_then}
use Rattle.tb_view.proofs.showing.needed_in_all.Goals as goal

pub returns-in-Ok-clause-shown : goal.returns-in-Ok-clause-shown
returns-in-Ok-clause-shown c =
    ok_then c.told.result _ _
    (λ given is. record { unrefused = refl; text_is = is ∙ ap edges_text (c.deref.ensures.value ∙ c.in-Ok.ensures ∙ ap (λ H. reverse (edges H)) c.core.ensures.history) })
    (c.told.ensures.ok _ c.edges_text.ensures)
