use Rattle.std.proofs.Common.{ℕ, suc, ◌≡◌, ◌+◌, List, ◌∷◌, [], ◌++◌, length, length-append, Some, None, ap, sym, subst, ◌∙◌, arith}
use Rattle.std.proofs.lemmas.Option.{none-some}
use Rattle.std.specs.Vec.Iter.{into_iter_items}
use Rattle.tb_plan.specs.declared.planned.Plan.{Plan}
use Rattle.tb_live.specs.Commits.{MayCommit}
use Rattle.tb_live.specs.Session.{Session}
use Rattle.tb_work.specs.Bursts.{CommitsEach, TakesEach, stepped_on}
use Rattle.tb_work.specs.Receipts.{Seated}
use Rattle.tb_work.specs.Refusing.{RefusesPlan}
use Rattle.tb_work.proofs.Bursting.{each_more, each_before, takes_more, takes_no_more, taken_front}
use Rattle.tb_work.proofs.desk.Desk.commit_each.Goals as goal

pub loop-plan-preserved : goal.loop-plan-preserved
loop-plan-preserved g c =
    let at = c.loop-plan in
    let first = length c.args.self.now.live.session.journal in
    let place = c.in-Ok.ensures.place in
    let more : CommitsEach g.N.Team.program (suc at.taken) first (at.yielded ++ c.in-Some.plan ∷ []) c.args.seat.now c.commit_more.new.seat =
    each_more g.N.Team.program at.taken first c.in-Ok.field-0 at.yielded c.in-Some.plan c.args.seat.now at.seat c.commit_more.new.seat at.invariant.each at.invariant.all (omega (arith, place.0, at.invariant.place)) c.in-Ok.ensures.ok in
    let next : suc at.taken ≡ at.taken + 1 = omega arith in
    let seat = c.args.seat.now.number in
    let run = c.args.self.now.live.session in
    let may : MayCommit at.self.live.session seat c.in-Some.plan = subst (λ (n : ℕ). MayCommit at.self.live.session n c.in-Some.plan) at.invariant.number c.in-Ok.ensures.may in
    let stepped : c.commit_more.new.self.live.session ≡ stepped_on seat at.self.live.session c.in-Some.plan =
    c.in-Ok.ensures.taken ∙ ap (λ (n : ℕ). stepped_on n at.self.live.session c.in-Some.plan) at.invariant.number in
    let takes : TakesEach seat (suc at.taken) (at.yielded ++ c.in-Some.plan ∷ []) None run c.commit_more.new.self.live.session =
    takes_more seat at.taken at.yielded c.in-Some.plan run at.self.live.session c.commit_more.new.self.live.session at.invariant.takes at.invariant.all may stepped in
    record {
      each = subst (λ (n : ℕ). CommitsEach g.N.Team.program n first (at.yielded ++ c.in-Some.plan ∷ []) c.args.seat.now c.commit_more.new.seat) next more;
      takes = subst (λ (n : ℕ). TakesEach seat n (at.yielded ++ c.in-Some.plan ∷ []) None run c.commit_more.new.self.live.session) next takes;
      number = c.in-Ok.ensures.ok.grew.number ∙ at.invariant.number;
      all = length-append at.yielded (c.in-Some.plan ∷ []) ∙ ap (λ n. n + 1) at.invariant.all;
      place = omega (arith, place.0, place.1, at.invariant.place);
    }

pub returns-in-Err-clause-each : goal.returns-in-Err-clause-each
returns-in-Err-clause-each g c =
    let at = c.loop-plan in
    let first = length c.args.self.now.live.session.journal in
    let rest = into_iter_items c.next.new.self in
    let given : into_iter_items c.into_iter-plan-iterator.result ≡ c.args.plans.items = c.into_iter-plan-iterator.ensures.into_iter_gives.0 in
    let front : into_iter_items c.into_iter-plan-iterator.result ≡ at.yielded ++ into_iter_items at.plan-iterator = taken_front c.into_iter-plan-iterator.result at.yielded at.plan-iterator at.yielded_by in
    let step : into_iter_items at.plan-iterator ≡ c.in-Some.plan ∷ rest = c.in-Some.ensures.steps.0 in
    let whole : at.yielded ++ c.in-Some.plan ∷ rest ≡ c.args.plans.items = ap (λ (l : List Plan). at.yielded ++ l) (sym step) ∙ sym front ∙ given in
    let here : CommitsEach g.N.Team.program at.taken first at.yielded c.args.seat.now c.commit_more.new.seat =
    subst (λ (s : Seated). CommitsEach g.N.Team.program at.taken first at.yielded c.args.seat.now s) (sym c.in-Err.ensures.err) at.invariant.each in
    subst (λ (l : List Plan). CommitsEach g.N.Team.program at.taken first l c.args.seat.now c.commit_more.new.seat) whole (each_before g.N.Team.program at.taken first at.yielded (c.in-Some.plan ∷ rest) c.args.seat.now c.commit_more.new.seat here)

pub returns-in-Err-clause-whole : goal.returns-in-Err-clause-whole
returns-in-Err-clause-whole g c =
    let at = c.loop-plan in
    let rest = into_iter_items c.next.new.self in
    let given : into_iter_items c.into_iter-plan-iterator.result ≡ c.args.plans.items = c.into_iter-plan-iterator.ensures.into_iter_gives.0 in
    let front : into_iter_items c.into_iter-plan-iterator.result ≡ at.yielded ++ into_iter_items at.plan-iterator = taken_front c.into_iter-plan-iterator.result at.yielded at.plan-iterator at.yielded_by in
    let step : into_iter_items at.plan-iterator ≡ c.in-Some.plan ∷ rest = c.in-Some.ensures.steps.0 in
    let whole : at.yielded ++ c.in-Some.plan ∷ rest ≡ c.args.plans.items = ap (λ (l : List Plan). at.yielded ++ l) (sym step) ∙ sym front ∙ given in
    let long : length c.args.plans.items ≡ length at.yielded + suc (length rest) = ap length (sym whole) ∙ length-append at.yielded (c.in-Some.plan ∷ rest) in
    ((λ is. absurd (none-some c.in-Err.refusal (sym is))), (λ is. absurd (omega (arith, is, long, at.invariant.all))))

pub returns-in-Err-clause-run : goal.returns-in-Err-clause-run
returns-in-Err-clause-run g c =
    let at = c.loop-plan in
    let seat = c.args.seat.now.number in
    let run = c.args.self.now.live.session in
    let rest = into_iter_items c.next.new.self in
    let given : into_iter_items c.into_iter-plan-iterator.result ≡ c.args.plans.items = c.into_iter-plan-iterator.ensures.into_iter_gives.0 in
    let front : into_iter_items c.into_iter-plan-iterator.result ≡ at.yielded ++ into_iter_items at.plan-iterator = taken_front c.into_iter-plan-iterator.result at.yielded at.plan-iterator at.yielded_by in
    let step : into_iter_items at.plan-iterator ≡ c.in-Some.plan ∷ rest = c.in-Some.ensures.steps.0 in
    let whole : at.yielded ++ c.in-Some.plan ∷ rest ≡ c.args.plans.items = ap (λ (l : List Plan). at.yielded ++ l) (sym step) ∙ sym front ∙ given in
    let why : RefusesPlan seat at.self.live.session c.in-Some.plan c.in-Err.refusal = subst (λ (n : ℕ). RefusesPlan n at.self.live.session c.in-Some.plan c.in-Err.refusal) at.invariant.number c.in-Err.ensures.refused in
    let taken : TakesEach seat at.taken c.args.plans.items (Some c.in-Err.refusal) run at.self.live.session =
    subst (λ (l : List Plan). TakesEach seat at.taken l (Some c.in-Err.refusal) run at.self.live.session) whole (takes_no_more seat at.taken at.yielded rest c.in-Some.plan c.in-Err.refusal run at.self.live.session at.invariant.takes at.invariant.all why) in
    subst (λ (s : Session). TakesEach seat at.taken c.args.plans.items (Some c.in-Err.refusal) run s) (sym c.in-Err.ensures.stays) taken
