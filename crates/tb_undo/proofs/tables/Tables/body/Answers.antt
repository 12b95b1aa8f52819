use Rattle.std.proofs.Common.{Some, None, sym, ap, ◌∙◌, subst}
use Rattle.std.specs.Option.{option_map, option_copied}
use Rattle.tb_undo.specs.State.{IsTaskState}
use Rattle.tb_undo.specs.Tasks.{Task, seen_row}
use Rattle.tb_undo.proofs.ReadingLemmas.{body_told}
use Rattle.tb_undo.proofs.tables.Tables.body.Goals as goal

pub returns-in-Some : goal.returns-in-Some
returns-in-Some c root_line D state =
    let s = subst (IsTaskState root_line D) (sym c.self.view_is) state in
    let here = sym c.get.ensures.value ∙ ap option_copied c.in-Some.is in
    let known = sym (s.tasks c.args.name.now) ∙ ap (option_map seen_row) here in
    sym (ap (option_map (λ (k : Task). k.body)) known) ∙ body_told root_line D c.args.name.now

pub returns-in-None : goal.returns-in-None
returns-in-None c root_line D state =
    let s = subst (IsTaskState root_line D) (sym c.self.view_is) state in
    let here = sym c.get.ensures.value ∙ ap option_copied c.in-None.is in
    let known = sym (s.tasks c.args.name.now) ∙ ap (option_map seen_row) here in
    sym (ap (option_map (λ (k : Task). k.body)) known) ∙ body_told root_line D c.args.name.now
