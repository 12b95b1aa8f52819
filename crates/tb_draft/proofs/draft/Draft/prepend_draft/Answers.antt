use Rattle.std.proofs.Common.{ap, ◌∙◌, ◌++◌, string_bytes}
use Rattle.tb_draft.proofs.PassageLemmas.{draft_first}
use Rattle.tb_draft.proofs.draft.Draft.prepend_draft.Goals as goal

pub returns : goal.returns
returns c =
    draft_first c.front.inside.passages.items c.self.inside.passages.items _ (string_bytes c.front.inside.text) _ _ c.args.self.now _ c.in_ok-append.ensures.items c.front.view_is (c.in_ok-prepend.ensures.ok ∙ ap (λ t. t ++ c.args.self.now) c.as_str.ensures.value) c.self.view_is
