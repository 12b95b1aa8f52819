use Rattle.std.proofs.Common.{◌∙◌, ◌<◌, length, subst, sym}
use Rattle.tb_draft.proofs.ShortTextLemmas.{name_put, only_run}
use Rattle.tb_draft.proofs.short_text.ShortText.prepend_name.Goals as goal

pub returns-in-Some-clause-some : goal.returns-in-Some-clause-some
returns-in-Some-clause-some c =
    name_put c.prepend_levels.new.self c.prepend.new.self c.args.self.now c.args.name.now c.in-Some.numbers.now c.prepend.result
    (sym c.in-Some.ensures.some) c.in_ok-prepend_levels.ensures.some c.prepend.ensures.some

pub returns-clause-some : goal.returns-clause-some
returns-clause-some c =
    let none = subst (λ n. length n < 1) c.as_slice-2.ensures c.in-empty.len_below in
    let run = only_run c.args.name.now c.take_run-run.result c.take_run-run.new.self c.take_run.result (sym c.parts-parts.ensures ∙ c.take_run-run.ensures.split) c.take_run.ensures.none none in
    name_put c.prepend_levels-2.new.self c.prepend-2.new.self c.args.self.now c.args.name.now c.as_slice-3.result.now c.prepend-2.result
    (run ∙ sym c.as_slice-3.ensures) c.in_ok-prepend_levels-2.ensures.some c.prepend-2.ensures.some

pub returns-in-Some-few-clause-some : goal.returns-in-Some-few-clause-some
returns-in-Some-few-clause-some c =
    name_put c.prepend_small_levels.new.self c.prepend-in-Some-few.new.self c.args.self.now c.args.name.now c.in-Some-few.numbers.now c.prepend-in-Some-few.result
    (sym c.in-Some-few.ensures) c.in_ok-prepend_small_levels.ensures c.prepend-in-Some-few.ensures.some
