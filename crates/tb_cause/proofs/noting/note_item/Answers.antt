use Rattle.tb_cause.proofs.HasLemmas.{five_kinds}
use Rattle.tb_cause.proofs.noting.note_item.Goals as goal

pub returns : goal.returns
returns c p n d =
    five_kinds _ _ _ _ _ _ _ _ _ _ _ (c.in_ok-note_kind.ensures p n d) (c.in_ok-note_kind-2.ensures p n d) (c.in_ok-note_kind-3.ensures p n d) (c.in_ok-note_kind-4.ensures p n d)
    (c.in_ok-note_kind-5.ensures p n d)
