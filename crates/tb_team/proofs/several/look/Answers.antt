use Rattle.std.proofs.Common.{◌≡◌, ◌≤◌, ◌<◌, ◌+◌, ◌-◌, ℕ, false, length, refl, sym, ap, subst, ◌∙◌, arith}
use Rattle.std.proofs.lemmas.Bool.{false≢true}
use Rattle.tb_live.specs.Modes.{is_paused}
use Rattle.tb_live.specs.Session.{Session}
use Rattle.tb_team.specs.Gone.{HasSeats}
use Rattle.tb_team.specs.Losing.{IsAstray, IsUnstopped}
use Rattle.tb_team.proofs.Counting.{counted_back, small_count}
use Rattle.tb_team.proofs.Looked.{same_length, looked_of}
use Rattle.tb_team.proofs.Losses.{unstopped}
use Rattle.tb_team.proofs.several.look.Goals as goal

pub returns-in-Ok-clause-looked : goal.returns-in-Ok-clause-looked
returns-in-Ok-clause-looked c =
    let s = c.args.live.session in
    let long = c.len.ensures ∙ same_length c.journal.result.now.items s.journal c.journal.ensures in
    let e = c.journal_is_sound.ensures in
    let course = c.if-not-is_course.ensures.0 refl in
    let counted = counted_back _ _ c.args.from long c.requires.from in
    looked_of c.args.workers c.args.most c.args.from s c.resume.new.self.session c.stop_after.new.live.session _ c.core-core.ensures.fits.well_formed e.sound e.within course counted
    c.if-most-count.false c.resume.ensures c.in-Ok.ensures.why c.in-Ok.ensures.kept c.withdraw_all.ensures

pub returns-then-not-is_course-clause-astray : goal.returns-then-not-is_course-clause-astray
returns-then-not-is_course-clause-astray c =
    subst (IsAstray c.args.workers c.args.most c.args.from c.args.live.session) (sym c.lose.ensures) (λ course. absurd (false≢true (c.if-not-is_course.ensures.1 course)))

pub returns-then-most-count-clause-astray : goal.returns-then-most-count-clause-astray
returns-then-most-count-clause-astray c =
    let s = c.args.live.session in
    let long : c.len.result ≡ length s.journal = c.len.ensures ∙ same_length c.journal.result.now.items s.journal c.journal.ensures in
    let many : c.args.most + c.args.from < length s.journal = omega (arith, long, c.if-most-count.true, c.requires.from) in
    subst (IsAstray c.args.workers c.args.most c.args.from s) (sym c.lose-then-most-count.ensures) (c.if-not-is_course.ensures.0 refl, many)

pub returns-in-Err-clause-astray : goal.returns-in-Err-clause-astray
returns-in-Err-clause-astray c =
    let s = c.args.live.session in
    let long : c.len.result ≡ length s.journal = c.len.ensures ∙ same_length c.journal.result.now.items s.journal c.journal.ensures in
    let within : length s.journal ≤ c.args.most + c.args.from = omega (arith, long, c.if-most-count.false, c.requires.from) in
    let count : c.len.result - c.args.from ≡ length s.journal - c.args.from = ap (λ n. n - c.args.from) long in
    let why = subst (λ (z : Session). IsUnstopped (c.len.result - c.args.from) c.args.most z c.in-Err.why) c.resume.ensures c.in-Err.ensures.lost in
    subst (IsAstray c.args.workers c.args.most c.args.from s) (sym c.lose-in-Err.ensures)
    (unstopped c.args.workers c.args.most c.args.from s c.in-Err.why (c.if-not-is_course.ensures.0 refl) within (subst (λ n. IsUnstopped n c.args.most s c.in-Err.why) count why))

pub is_course-requires : goal.is_course-requires
is_course-requires c = c.requires.from

pub overflow_sub-count : goal.overflow_sub-count
overflow_sub-count c = subst (λ n. c.args.from ≤ n) (sym (c.len.ensures ∙ same_length c.journal.result.now.items c.args.live.session.journal c.journal.ensures)) c.requires.from

pub overflow_cast-count : goal.overflow_cast-count
overflow_cast-count c =
    let e = c.journal_is_sound.ensures in
    small_count _ _ _ c.args.from (c.len.ensures ∙ same_length c.journal.result.now.items c.args.live.session.journal c.journal.ensures) e.within e.bound

pub stop_after-requires : goal.stop_after-requires
stop_after-requires c = record {
  seats = subst HasSeats (sym c.resume.ensures) c.requires.seats;
  going = ap (λ (z : Session). is_paused z.control.mode) c.resume.ensures;
}
