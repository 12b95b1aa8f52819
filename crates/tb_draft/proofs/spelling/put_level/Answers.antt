use Rattle.std.proofs.Common.{ap, sym, refl, rules, decimal, ◌∙◌, ◌∷◌, []}
use Rattle.tb_draft.proofs.WrittenLemmas.{first_cut, second_cut, both_told, on_err}
use Rattle.tb_draft.proofs.spelling.put_level.Goals as goal

pub returns-in_err-put-clause-err : goal.returns-in_err-put-clause-err
returns-in_err-put-clause-err g c =
    on_err c.from_residual.result _ (first_cut _ _ c.args.waiting.now.items (46 ∷ []) (decimal c.args.n) _ refl c.in_err-put.ensures.err.0, search rules)

pub returns-in_err-put-2-clause-err : goal.returns-in_err-put-2-clause-err
returns-in_err-put-2-clause-err g c =
    let is = ap (λ d. 46 ∷ d) (sym (c.as_bytes.ensures.value ∙ c.format.ensures.text)) in
    on_err c.from_residual-in_err-put-2.result _ (second_cut _ _ c.args.waiting.now.items (46 ∷ []) c.as_bytes.result.now _ is _ _ c.in_ok-put.ensures.ok.0 c.in_err-put-2.ensures.err.0, search rules)

pub returns-clause-ok : goal.returns-clause-ok
returns-clause-ok g c =
    let is = ap (λ d. 46 ∷ d) (sym (c.as_bytes.ensures.value ∙ c.format.ensures.text)) in
    (both_told _ _ c.args.waiting.now.items (46 ∷ []) c.as_bytes.result.now _ is _ _ _ c.in_ok-put.ensures.ok.0 c.in_ok-put-2.ensures.ok.0, search rules)
