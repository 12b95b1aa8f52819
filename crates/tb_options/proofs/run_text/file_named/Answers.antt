use Rattle.std.proofs.Common.{rules, ap, ap₂, refl, sym, subst, codes, true, map, Err, IfErr, IsErrAnd, Ok, Result, ◌≡◌, ◌∙◌}
use Rattle.clap.proofs.OnLiterals.{clap_on_literals}
use Rattle.clap.proofs.WalkLemmas.{first_value-rows}
use Rattle.clap.specs.Simple.{on_top}
use Rattle.clap.specs.Words.{App, app_of, first_of, found_of, is_simple, kind_of, matches_of, new_app, rule_of, takes, with_rule}
use Rattle.clap.specs.declared.error.kind.ErrorKind.TheVariants.{OutOfMemory}
use Rattle.tb_options.specs.Commands.{file_rule, run_command}
use Rattle.tb_options.proofs.run_text.file_named.Goals as goal

abbrev bare : App
bare = on_top (λ s. record s { has_version = true }) (new_app (codes "taskcheck"))

simple : is_simple run_command ≡ true
unfolding clap_on_literals
simple = refl

passed_up : {T E : Type 0} (r : Result T E) (e : E) (P : E → Type 0) → IsErrAnd r (λ y. y ≡ e) → P e → IfErr r P
passed_up (Ok x) e P h p = absurd h
passed_up (Err y) e P h p = subst P (sym h) p

pub returns-clause-file : goal.returns-clause-file
returns-clause-file g c =
    let file_is : rule_of c.action-file.result ≡ file_rule = search rules in
    let bare_is : app_of c.after_help.result ≡ bare = search rules in
    let command_is : app_of c.in_ok-command.command ≡ run_command = c.in_ok-command.ensures.shape (search rules) ∙ ap₂ with_rule bare_is file_is in
    let rows = (c.in_ok-matches.ensures.matches (ap is_simple command_is ∙ simple)).0 in
    c.get_str.ensures ∙ first_value-rows (found_of c.in_ok-matches.matches) (codes "FILE")
    ∙ ap (first_of (codes "FILE")) (rows ∙ ap (λ (a : App). matches_of a (map g.S.AsStr.text c.args.words.now)) command_is)

pub returns-in_err-matches-clause-refused : goal.returns-in_err-matches-clause-refused
returns-in_err-matches-clause-refused g c =
    let file_is : rule_of c.action-file.result ≡ file_rule = search rules in
    let bare_is : app_of c.after_help.result ≡ bare = search rules in
    let command_is : app_of c.in_ok-command.command ≡ run_command = c.in_ok-command.ensures.shape (search rules) ∙ ap₂ with_rule bare_is file_is in
    let is_taken = ap (λ (a : App). takes a (map g.S.AsStr.text c.args.words.now)) command_is in
    passed_up c.from_residual-in_err-matches.result _ (λ error. takes run_command (map g.S.AsStr.text c.args.words.now) ≡ true → kind_of error ≡ OutOfMemory)
    c.from_residual-in_err-matches.ensures.1 (λ t. c.in_err-matches.ensures.passes (is_taken ∙ t))
