use Rattle.std.proofs.Common.{◌≡◌, ◌+◌, rules, refl, subst, true, false}
use Rattle.tb_replies.specs.Alone.{TakesTurn}
use Rattle.tb_replies.proofs.AloneLemmas.{begun, starts}
use Rattle.tb_draft.proofs.WrittenLemmas.{on_err}
use Rattle.tb_replies.proofs.ToldLemmas.{turn_waits, turns_begin, turns_cut, turns_told}
use Rattle.tb_draft.proofs.WrittenLemmas.{told_nothing, told_passed}
use Rattle.tb_replies.proofs.going.take_turns.Goals as goal

pub turns-init : goal.turns-init
turns-init g c =
    let first = begun c.args.most c.args.live.now.session c.withdraw_all.new.self.session c.resume_for.new.self.session c.withdraw_all.ensures c.resume_for.ensures in record {
      told = told_nothing _ _ _ (starts c.args.most c.args.live.now.session c.resume_for.new.self.session c.args.text.now first c.requires.seats c.requires.empty);
      failures = refl;
    }

pub turns-preserved : goal.turns-preserved
turns-preserved g c =
    let s = c.turns.live.session in
    let new = c.take_turn.new.live.session in
    let flag : c.in_ok-take_turn.field-0 ≡ true = search rules in
    let turn = subst (TakesTurn s c.turns.text c.take_turn.new.text new) flag c.in_ok-take_turn.ensures in
    let waits = turn_waits _ _ c.resume_for.new.self.session s new c.args.most c.turns.count _ _ c.turns-test.true c.turns.invariant.told turn in record {
      told = told_passed _ _ _ _ _ _ waits c.in_ok-pass_on.ensures.ok.0;
      failures = search rules;
    }

pub returns-in_err-take_turn-clause-err : goal.returns-in_err-take_turn-clause-err
returns-in_err-take_turn-clause-err g c =
    let old = c.args.live.now.session in
    let first = c.resume_for.new.self.session in
    let begins = begun c.args.most old c.withdraw_all.new.self.session first c.withdraw_all.ensures c.resume_for.ensures in
    on_err c.from_residual.result _ (turns_begin _ _ c.args.most c.turns.count old first c.turns.live.session _ begins c.turns.invariant.told)

pub returns-in_err-settle-clause-err : goal.returns-in_err-settle-clause-err
returns-in_err-settle-clause-err g c =
    let old = c.args.live.now.session in
    let first = c.resume_for.new.self.session in
    let begins = begun c.args.most old c.withdraw_all.new.self.session first c.withdraw_all.ensures c.resume_for.ensures in
    on_err c.from_residual-in_err-settle.result _ (turns_begin _ _ c.args.most c.turns.count old first c.turns.live.session _ begins c.turns.invariant.told)

pub returns-in_err-pass_on-clause-err : goal.returns-in_err-pass_on-clause-err
returns-in_err-pass_on-clause-err g c =
    let old = c.args.live.now.session in
    let first = c.resume_for.new.self.session in
    let s = c.turns.live.session in
    let new = c.take_turn.new.live.session in
    let begins = begun c.args.most old c.withdraw_all.new.self.session first c.withdraw_all.ensures c.resume_for.ensures in
    let flag : c.in_ok-take_turn.field-0 ≡ true = search rules in
    let turn = subst (TakesTurn s c.turns.text c.take_turn.new.text new) flag c.in_ok-take_turn.ensures in
    let waits = turn_waits _ _ first s new c.args.most c.turns.count _ _ c.turns-test.true c.turns.invariant.told turn in
    on_err c.from_residual-in_err-pass_on.result _ (turns_cut _ _ _ c.args.most (c.turns.count + 1) old first new _ begins waits c.in_err-pass_on.ensures.err.0)

pub returns-in_err-settle-2-clause-err : goal.returns-in_err-settle-2-clause-err
returns-in_err-settle-2-clause-err g c =
    let old = c.args.live.now.session in
    let first = c.resume_for.new.self.session in
    let begins = begun c.args.most old c.withdraw_all.new.self.session first c.withdraw_all.ensures c.resume_for.ensures in
    on_err c.from_residual-in_err-settle-2.result _ (turns_begin _ _ c.args.most c.turns.count old first c.turns.live.session _ begins c.turns.invariant.told)

pub returns-then-not-branch-clause-told : goal.returns-then-not-branch-clause-told
returns-then-not-branch-clause-told g c =
    let old = c.args.live.now.session in
    let first = c.resume_for.new.self.session in
    let s = c.turns.live.session in
    let at = c.take_turn.new.live.session in
    let begins = begun c.args.most old c.withdraw_all.new.self.session first c.withdraw_all.ensures c.resume_for.ensures in
    let flag : c.in_ok-take_turn.field-0 ≡ false = search rules in
    let none = subst (TakesTurn s c.turns.text c.take_turn.new.text at) flag c.in_ok-take_turn.ensures in
    turns_told _ _ c.args.most c.turns.count old first s at c.settle.new.live.session _ _ c.in_ok-settle.field-0 begins c.turns.invariant.told none.1 none.2 c.in_ok-settle.ensures

pub returns-clause-told : goal.returns-clause-told
returns-clause-told g c =
    let old = c.args.live.now.session in
    let first = c.resume_for.new.self.session in
    let s = c.turns.live.session in
    let begins = begun c.args.most old c.withdraw_all.new.self.session first c.withdraw_all.ensures c.resume_for.ensures in
    turns_told _ _ c.args.most c.turns.count old first s s c.settle-2.new.live.session _ _ c.in_ok-settle-2.field-0 begins c.turns.invariant.told refl refl c.in_ok-settle-2.ensures
