use Rattle.std.proofs.Common.{ap, ap₂, rules, ◌∙◌, ◌++◌, string_bytes}
use Rattle.tb_draft.specs.Passages.{passages_text}
use Rattle.tb_draft.proofs.PassageLemmas.{draft_cut_first, draft_cut_second, draft_cut_last}
use Rattle.tb_draft.proofs.WrittenLemmas.{on_err}
use Rattle.tb_draft.proofs.draft.Draft.write.Goals as goal

pub returns-in_err-put_passages-clause-err : goal.returns-in_err-put_passages-clause-err
returns-in_err-put_passages-clause-err g c =
    let seen = ap (λ ps. passages_text ps ++ string_bytes c.self.inside.text) c.deref.ensures.value ∙ c.self.view_is in
    on_err c.from_residual.result _ (draft_cut_first _ _ c.new-waiting.result.items _ _ c.args.self.now c.new-waiting.ensures seen c.in_err-put_passages.ensures.err.0, search rules)

pub returns-in_err-put-clause-err : goal.returns-in_err-put-clause-err
returns-in_err-put-clause-err g c =
    let seen = ap₂ (λ ps t. passages_text ps ++ t) c.deref.ensures.value c.as_bytes-2.ensures.value ∙ c.self.view_is in
    on_err c.from_residual-in_err-put.result _
    (draft_cut_second _ _ c.new-waiting.result.items _ c.as_bytes-2.result.now c.args.self.now c.new-waiting.ensures seen _ _ c.in_ok-put_passages.ensures.ok.0 c.in_err-put.ensures.err.0, search rules)

pub returns-in_err-write_whole-clause-err : goal.returns-in_err-write_whole-clause-err
returns-in_err-write_whole-clause-err g c =
    let seen = ap₂ (λ ps t. passages_text ps ++ t) c.deref.ensures.value c.as_bytes-2.ensures.value ∙ c.self.view_is in
    on_err c.from_residual-in_err-write_whole.result _
    (draft_cut_last _ _ c.new-waiting.result.items _ c.as_bytes-2.result.now c.args.self.now c.new-waiting.ensures seen _ _ c.in_ok-put_passages.ensures.ok.0 _ c.in_ok-put.ensures.ok.0 _ _ c.as_slice.ensures.value c.in_err-write_whole.ensures.err.0, search rules)
