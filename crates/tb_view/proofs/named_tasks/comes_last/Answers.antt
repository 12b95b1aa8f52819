use Rattle.std.proofs.Common.{◌++◌, ◌-◌, ◌∙◌, length, slice_get, sym, ap, is_lt}
use Rattle.tb_model.specs.Names.{name_cmp}
use Rattle.tb_view.proofs.NamedLemmas.{below_front, below_last, last_of_both, less_by}
use Rattle.tb_view.proofs.named_tasks.comes_last.Goals as goal

pub returns-in-Some : goal.returns-in-Some
returns-in-Some c = λ yes.
    let map = c.args.map.now.entries in
    let row = c.args.row.now.items in
    let last = c.in-Some.field-0.now in
    let name = c.args.name.now in
    let less = less_by (name_cmp last.0 name) (ap is_lt (sym c.cmp.ensures) ∙ sym c.is_lt.ensures ∙ yes) in
    let here = sym (c.in-Some.ensures.value ∙ ap (λ xs. slice_get xs (length xs - 1)) c.deref.ensures.value) in
    below_last (map ++ row) last name c.requires (last_of_both map row last here) less

pub returns-in-Some-last_key_value : goal.returns-in-Some-last_key_value
returns-in-Some-last_key_value c = λ yes.
    let map = c.args.map.now.entries in
    let row = c.args.row.now.items in
    let last = c.in-Some-last_key_value.last.now in
    let body = c.in-Some-last_key_value.field-0-1.now in
    let name = c.args.name.now in
    let less = less_by (name_cmp last name) (ap is_lt (sym c.cmp-in-Some-last_key_value.ensures) ∙ sym c.is_lt-in-Some-last_key_value.ensures ∙ yes) in
    let none = sym (c.in_default.ensures.value ∙ ap (λ xs. slice_get xs (length xs - 1)) c.deref.ensures.value) in
    below_front map row (last, body) name c.requires none c.in-Some-last_key_value.ensures.last less
