use Rattle.std.proofs.Common.{◌∙◌, ap, refl, reverse}
use Rattle.tb_draft.specs.Races.{races_text}
use Rattle.tb_races.specs.Racing.{races}
use Rattle.tb_view.proofs.ShownLemmas.{ok_then}
use Rattle.tb_view.proofs.showing.raced.Goals as goal

pub returns-in-Ok-clause-shown : goal.returns-in-Ok-clause-shown
returns-in-Ok-clause-shown c =
    ok_then c.told.result _ _
    (λ given is. record { unrefused = refl; text_is = is ∙ ap races_text (c.deref.ensures.value ∙ c.in-Ok.ensures ∙ ap (λ H. reverse (races H)) c.core.ensures.history) })
    (c.told.ensures.ok _ c.races_text.ensures)
