use Rattle.std.proofs.Common.{◌∙◌, ap, inl, inr, subst}
use Rattle.std.proofs.lemmas.Result.{IfOk-weaker}
use Rattle.tb_live.specs.Session.{Session}
use Rattle.tb_team.specs.Gone.{IsGone}
use Rattle.tb_team.specs.Looking.{IsLooked}
use Rattle.tb_team.specs.Losing.{IsUnlent}
use Rattle.tb_team.proofs.Counting.{some_of}
use Rattle.tb_team.proofs.Losses.{astray}
use Rattle.tb_team.proofs.Looked.{same_length, seats_stay, seats_back, still_there, gone_from}
use Rattle.tb_team.proofs.several.go_several.Goals as goal

pub lend-requires-clause-seats : goal.lend-requires-clause-seats
lend-requires-clause-seats g c = λ κs within. seats_stay c.args.live.session c.withdraw_all.new.self.session c.requires.seats c.withdraw_all.ensures

pub lend-requires-clause-some : goal.lend-requires-clause-some
lend-requires-clause-some g c = λ κs within. some_of c.args.workers c.requires.several

pub lend-requires-clause-few : goal.lend-requires-clause-few
lend-requires-clause-few g c = λ κs within. c.requires.few

pub look-requires : goal.look-requires
look-requires g c =
    let s = c.args.live.session in
    let mid = c.withdraw_all.new.self.session in
    let back = c.in-Ok.live.session in
    let free = c.withdraw_all.ensures in
    record {
      seats = seats_back mid back (seats_stay s mid c.requires.seats free) c.in-Ok.ensures.back;
      from = still_there s mid back c.len-from.result free (c.len-from.ensures ∙ same_length c.journal.result.now.items s.journal c.journal.ensures) c.in-Ok.ensures.back;
    }

pub returns-in-Err-clause-lost : goal.returns-in-Err-clause-lost
returns-in-Err-clause-lost g c =
    inl (subst (λ (z : Session). IsUnlent c.args.workers z c.in-Err.why) c.withdraw_all.ensures c.in-Err.ensures.lost)

pub returns-clause-gone : goal.returns-clause-gone
returns-clause-gone g c =
    let s = c.args.live.session in
    let mid = c.withdraw_all.new.self.session in
    let back = c.in-Ok.live.session in
    let from = c.len-from.result in
    IfOk-weaker c.look.result (IsLooked c.args.workers c.args.most from back) (IsGone c.args.workers c.args.most s)
    (λ gone looked. gone_from c.args.workers c.args.most s mid back from gone c.requires.several c.withdraw_all.ensures
    (c.len-from.ensures ∙ same_length c.journal.result.now.items s.journal c.journal.ensures) c.in-Ok.ensures.back looked) c.look.ensures.looked

pub returns-clause-lost : goal.returns-clause-lost
returns-clause-lost g c =
    let s = c.args.live.session in
    let e = c.journal_is_sound.ensures in
    astray c.args.workers c.args.most c.len-from.result s c.withdraw_all.new.self.session c.in-Ok.live.session c.look.result c.withdraw_all.ensures
    (c.len-from.ensures ∙ same_length c.journal.result.now.items s.journal c.journal.ensures) c.in-Ok.ensures.back e.sound e.within c.look.ensures.astray
