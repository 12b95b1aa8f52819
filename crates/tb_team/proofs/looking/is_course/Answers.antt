use Rattle.std.proofs.Common.{◌≡◌, ◌-◌, ℕ, true, drop, length, reverse, sym, ap, ◌∙◌}
use Rattle.std.specs.List.{list_all}
use Rattle.std.proofs.lemmas.Bool.{false≢true}
use Rattle.tb_journal.specs.Journals.{is_turn}
use Rattle.tb_live.specs.Session.{history}
use Rattle.tb_team.specs.Looking.{none_met}
use Rattle.tb_team.proofs.Looked.{same_length}
use Rattle.tb_team.proofs.Turned.{turns_stand}
use Rattle.tb_team.proofs.looking.is_course.Goals as goal

pub returns-then-not-are_turns_from : goal.returns-then-not-are_turns_from
returns-then-not-are_turns_from c = ((λ e. absurd (false≢true e)), (λ course. absurd (false≢true (c.if-not-are_turns_from.ensures ∙ course.turns))))

pub none_met_before-requires : goal.none_met_before-requires
none_met_before-requires c =
    let s = c.args.live.now.session in
    let long : c.len.result ≡ length s.journal = c.len.ensures ∙ same_length c.journal.result.now.items s.journal c.journal.ensures in
    turns_stand c.args.workers c.args.from c.len.result s.journal (sym c.if-not-are_turns_from.ensures) long

pub returns : goal.returns
returns c =
    let s = c.args.live.now.session in
    let long : c.len.result ≡ length s.journal = c.len.ensures ∙ same_length c.journal.result.now.items s.journal c.journal.ensures in
    let same = ap (λ (n : ℕ). none_met s.program s.control.breakpoints.standing (n - c.args.from - 1) (drop 1 (history s))) long in
    let e = c.none_met_before.ensures ∙ same in
    ((λ met. record { turns = sym c.if-not-are_turns_from.ensures; unmet = sym e ∙ met }), (λ course. e ∙ course.unmet))
