use Rattle.std.proofs.Common.{arith, inl, inr, ⊎_elim, sym, ◌∙◌}
use Rattle.std.proofs.lemmas.Bool.{false≢true}
use Rattle.tb_wait.proofs.PlaceLemmas.{known_place}
use Rattle.tb_wait.proofs.WaitLemmas.{on_ok_from}
use Rattle.tb_undo.proofs.ComingLemmas.{place_known}
use Rattle.tb_undo.proofs.rows.reserve_place.Goals as goal

pub returns-then-len-capacity-clause-ok : goal.returns-then-len-capacity-clause-ok
returns-then-len-capacity-clause-ok c = inr (omega (arith, c.if-len-capacity.true, c.len.ensures, c.capacity.ensures, c.args.rows.now.ok))

pub returns-then-is_known-clause-ok : goal.returns-then-is_known-clause-ok
returns-then-is_known-clause-ok c = inl (known_place c.args.waits.now.tasks c.args.child.now (sym c.is_known.ensures ∙ c.if-is_known.true))

pub returns-clause-ok : goal.returns-clause-ok
returns-clause-ok c = on_ok_from c.reserve.result (λ room. inr (omega (arith, room, c.reserve.new.self.ok))) c.reserve.ensures.ok

pub returns-clause-succeeds : goal.returns-clause-succeeds
returns-clause-succeeds c can =
    absurd (⊎_elim
    (λ some. false≢true (sym c.if-is_known.false ∙ c.is_known.ensures ∙ place_known c.args.waits.now.tasks c.args.child.now some))
    (λ room. omega (arith, room, c.if-len-capacity.false, c.len.ensures, c.capacity.ensures, c.args.rows.now.ok))
    can)
