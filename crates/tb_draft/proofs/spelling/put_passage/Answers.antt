use Rattle.std.proofs.Common.{ap, sym, rules, ◌++◌}
use Rattle.tb_model.specs.Spelling.{name_text}
use Rattle.tb_draft.proofs.WrittenLemmas.{first_cut, second_cut, both_told, on_err}
use Rattle.tb_draft.proofs.spelling.put_passage.Goals as goal

pub returns-in_err-put-clause-err : goal.returns-in_err-put-clause-err
returns-in_err-put-clause-err g c =
    let is = ap (λ t. t ++ name_text c.args.passage.now.name) (sym c.as_bytes.ensures.value) in
    on_err c.from_residual.result _ (first_cut _ _ c.args.waiting.now.items c.as_bytes.result.now (name_text c.args.passage.now.name) _ is c.in_err-put.ensures.err.0, search rules)

pub returns-in_err-put_name-clause-err : goal.returns-in_err-put_name-clause-err
returns-in_err-put_name-clause-err g c =
    let is = ap (λ t. t ++ name_text c.args.passage.now.name) (sym c.as_bytes.ensures.value) in
    on_err c.from_residual-in_err-put_name.result _ (second_cut _ _ c.args.waiting.now.items c.as_bytes.result.now _ _ is _ _ c.in_ok-put.ensures.ok.0 c.in_err-put_name.ensures.err.0, search rules)

pub returns-clause-ok : goal.returns-clause-ok
returns-clause-ok g c =
    let is = ap (λ t. t ++ name_text c.args.passage.now.name) (sym c.as_bytes.ensures.value) in
    (both_told _ _ c.args.waiting.now.items c.as_bytes.result.now _ _ is _ _ _ c.in_ok-put.ensures.ok.0 c.in_ok-put_name.ensures.ok.0, search rules)
