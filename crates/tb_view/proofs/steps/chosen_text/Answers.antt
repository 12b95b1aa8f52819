use Rattle.std.proofs.Common.{◌≡◌, ◌<◌, ◌≤◌, ◌++◌, ◌∷◌, ◌∙◌, [], length, take, codes, sym, ap, append_assoc, arith}
use Rattle.std.specs.Fmt.{decimal}
use Rattle.std.proofs.lemmas.List.{take_all}
use Rattle.tb_steps.specs.Scans.{history_of}
use Rattle.tb_view.specs.Lines.{line}
use Rattle.tb_view.specs.Steps.{chosen_lines}
use Rattle.tb_view.proofs.ChosenLemmas.{all_lines, each_line, line_more, stands_there}
use Rattle.tb_view.proofs.steps.chosen_text.Goals as goal

pub append_step-requires-clause-there : goal.append_step-requires-clause-there
append_step-requires-clause-there c = stands_there c.args.steps.now (history_of c.args.entries.now) c.requires.steps c.loop-step.step-index c.step-item.result (omega (arith, c.loop-step-test.true)) c.step-item.is

pub loop-step-preserved : goal.loop-step-preserved
loop-step-preserved c =
    let P = c.args.program.now in
    let H = history_of c.args.entries.now in
    let steps = c.args.steps.now in
    let n = c.loop-step.step-index in
    let head = line (c.args.word.now ++ codes " " ++ decimal (length steps)) in
    c.in_ok-append_step.ensures
    ∙ ap (λ x. x ++ chosen_lines P (c.step-item.result ∷ []) H) c.loop-step.invariant
    ∙ append_assoc head (each_line P (take n steps) H) (chosen_lines P (c.step-item.result ∷ []) H)
    ∙ ap (λ x. head ++ x) (line_more P steps n c.step-item.result H (omega (arith, c.loop-step-test.true)) c.step-item.is)

pub returns : goal.returns
returns c =
    let P = c.args.program.now in
    let H = history_of c.args.entries.now in
    let steps = c.args.steps.now in
    let n = c.loop-step.step-index in
    let head = line (c.args.word.now ++ codes " " ++ decimal (length steps)) in
    let all : length steps ≤ n = omega (arith, c.loop-step-test.false) in
    c.loop-step.invariant ∙ ap (λ S. head ++ each_line P S H) (take_all n steps all) ∙ ap (λ x. head ++ x) (sym (all_lines P steps H c.requires.steps))
