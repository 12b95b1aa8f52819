use Rattle.std.proofs.Common.{◌≡◌, ◌∷◌, ◌++◌, ◌+◌, ◌∙◌, [], suc, drop, subst, sym, ap, ap₂, append_assoc, drop-cons, arith}
use Rattle.std.specs.BTreeMap.{insert_entry}
use Rattle.tb_model.specs.Names.{name_cmp}
use Rattle.tb_core.specs.Listed.{Rises}
use Rattle.tb_view.specs.Tasks.{names_of}
use Rattle.tb_view.proofs.NamedLemmas.{insert_behind, precede_next, rises_front}
use Rattle.tb_view.proofs.named_tasks.put_all.Goals as goal

pub returns-in_err-clone-clause-rises : goal.returns-in_err-clone-clause-rises
returns-in_err-clone-clause-rises c = rises_front c.tasks.map.entries (drop c.tasks.name-index c.args.row.now) (subst (λ es. Rises (names_of es)) (sym c.tasks.invariant) c.requires)

pub returns-in_err-insert-clause-rises : goal.returns-in_err-insert-clause-rises
returns-in_err-insert-clause-rises c =
    let before = rises_front c.tasks.map.entries (drop c.tasks.name-index c.args.row.now) (subst (λ es. Rises (names_of es)) (sym c.tasks.invariant) c.requires) in
    subst (λ es. Rises (names_of es)) (sym c.in_err-insert.ensures.err) before

pub tasks-preserved : goal.tasks-preserved
tasks-preserved c =
    let map = c.tasks.map.entries in
    let row = c.args.row.now in
    let item = c.tasks-item.result in
    let rest = drop (c.tasks.name-index + 1) row in
    let next : suc c.tasks.name-index ≡ c.tasks.name-index + 1 = omega arith in
    let split = drop-cons row c.tasks.name-index item c.tasks-test.true ∙ ap₂ (λ y k. y ∷ drop k row) (sym c.tasks-item.is) next in
    let whole = ap (λ r. map ++ r) (sym split) ∙ c.tasks.invariant in
    let before = precede_next map item rest (subst (λ es. Rises (names_of es)) (sym whole) c.requires) in
    let grown = c.in_ok-insert.ensures.entries ∙ ap (λ k. insert_entry name_cmp map k item.1) c.in_ok-clone.ensures.cases ∙ insert_behind map item.0 item.1 before in
    ap (λ m. m ++ rest) grown ∙ append_assoc map (item ∷ []) rest ∙ whole
