use Rattle.std.proofs.Common.{ap, ◌∙◌, ◌++◌, string_bytes}
use Rattle.tb_model.specs.Spelling.{name_text}
use Rattle.tb_draft.specs.Passages.{passages_text}
use Rattle.tb_draft.proofs.PassageLemmas.{deep_pushed}
use Rattle.tb_draft.proofs.draft.Draft.push_deep.Goals as goal

pub returns-clause-ok : goal.returns-clause-ok
returns-clause-ok c =
    deep_pushed _ _ _ (string_bytes c.self.inside.text) c.args.name.now _ c.push_reserved.ensures.items (ap string_bytes c.replace-text.ensures.value) c.in_ok-name.ensures.cases (ap string_bytes c.replace-text.ensures.after ∙ c.new.ensures.bytes)
    ∙ ap (λ ps. (passages_text ps ++ string_bytes c.self.inside.text) ++ name_text c.args.name.now) c.reserve.ensures.items
    ∙ ap (λ t. t ++ name_text c.args.name.now) c.self.view_is
