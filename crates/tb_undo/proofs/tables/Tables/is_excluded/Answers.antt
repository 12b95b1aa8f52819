use Rattle.std.proofs.Common.{◌≡◌, None, IsTrue, sym, ap, ◌∙◌, subst}
use Rattle.std.specs.Option.{option_copied}
use Rattle.tb_model.specs.Lines.{events_of}
use Rattle.tb_model.specs.Hindrances.{in_the_way}
use Rattle.tb_excl.specs.Holders.{IsLeastNumber, Excludes}
use Rattle.tb_undo.specs.State.{IsTaskState}
use Rattle.tb_undo.proofs.StartLemmas.{keeps_excluded}
use Rattle.tb_undo.proofs.tables.Tables.is_excluded.Goals as goal

pub returns-then-own-eq0 : goal.returns-then-own-eq0
returns-then-own-eq0 c first root_line D legal state unended some none =
    let st = subst (IsTaskState root_line D) (sym c.self.view_is) state in
    let mine = sym c.get.ensures.value ∙ ap option_copied c.in-Some.is in
    let number = sym c.ordinal.ensures ∙ c.in-Some-ordinal.is in
    let found = sym c.get-2.ensures.value ∙ ap option_copied c.in-Some-get.is in
    keeps_excluded first root_line D _ legal st c.args.name.now c.in-Some-ordinal.n c.in-Some.own.now c.in-Some-get.parent.now unended mine number found c.busy_number.result
    (subst IsTrue c.is_some.ensures some) c.if-own-eq0.true
    (subst (λ items. IsLeastNumber (Excludes c.in-Some-get.parent.now.holders items) c.busy_number.result) c.items.ensures c.busy_number.ensures)
    (subst (λ a. in_the_way (events_of D) c.args.name.now a ≡ None) c.in-Start.is none)
