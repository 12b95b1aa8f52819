-- Plans that a seat commits one after another.
use Rattle.std.proofs.Common.{ℕ, zero, suc, ◌+◌, ◌≡◌, List, [], ◌∷◌, ◌++◌, refl, ap, subst, ◌∙◌, arith, length}
use Rattle.std.specs.Prelude.{Some, None}
use Rattle.std.specs.Iterator.{Yields}
use Rattle.std.specs.Vec.Iter.{into_iter_items, into_iter_steps}
use Rattle.std.specs.declared.vec.IntoIter.{IntoIter}
use Rattle.tb_model.specs.Program.{Program}
use Rattle.tb_plan.specs.declared.planned.Plan.{Plan}
use Rattle.tb_live.specs.declared.commit_refusal.CommitRefusal.{CommitRefusal}
use Rattle.tb_live.specs.Commits.{MayCommit}
use Rattle.tb_live.specs.Session.{Session}
use Rattle.tb_work.specs.declared.burst.Burst.{Burst}
use Rattle.tb_work.specs.declared.refused.Refused.{Refused}
use Rattle.tb_work.specs.Bursts.{CommitsEach, CommitsBurst, TakesEach, stepped_on}
use Rattle.tb_work.specs.Refusing.{RefusesPlan}
use Rattle.tb_work.specs.Changes.{Commits}
use Rattle.tb_work.specs.Growing.{GrewBySteps}
use Rattle.tb_work.specs.Receipts.{Seated}
use Rattle.tb_work.proofs.Growing.{grew_none, grew_same, grew_both, grew_committed}

-- one plan more
pub each_more : (P : Program) (taken place at : ℕ) (ps : List Plan) (p : Plan) (old mid new : Seated) → CommitsEach P taken place ps old mid → length ps ≡ taken → at ≡ place + taken → Commits P p mid new at → CommitsEach P (suc taken) place (ps ++ p ∷ []) old new
each_more P zero place at [] p old mid new each all there one =
    (new, subst (λ n. Commits P p old new n) (let same : at ≡ place = omega (arith, there) in same) (subst (λ (s : Seated). Commits P p s new at) each one), refl)
each_more P zero place at (q ∷ ps) p old mid new each all there one = absurd (omega (arith, all))
each_more P (suc taken) place at [] p old mid new each all there one = absurd each
each_more P (suc taken) place at (q ∷ ps) p old mid new each all there one =
    (each.0, each.1, each_more P taken (suc place) at ps p each.0 mid new each.2 (omega (arith, all)) (omega (arith, there)) one)

-- plans after those that were committed change nothing of it
pub each_before : (P : Program) (taken place : ℕ) (ps qs : List Plan) (old new : Seated) → CommitsEach P taken place ps old new → CommitsEach P taken place (ps ++ qs) old new
each_before P zero place ps qs old new each = each
each_before P (suc taken) place [] qs old new each = absurd each
each_before P (suc taken) place (p ∷ ps) qs old new each = (each.0, each.1, each_before P taken (suc place) ps qs each.0 new each.2)

-- a burst grows the receipts by steps of the seat's own
pub grew_each : (P : Program) (taken place : ℕ) (ps : List Plan) (old new : Seated) → CommitsEach P taken place ps old new → GrewBySteps old new
grew_each P zero place ps old new each = grew_same old old new (grew_none old) each
grew_each P (suc taken) place [] old new each = absurd each
grew_each P (suc taken) place (p ∷ ps) old new each = grew_both old each.0 new (grew_committed P p old each.0 place each.1) (grew_each P taken (suc place) ps each.0 new each.2)

pub grew_burst : (P : Program) (ps : List Plan) (old new : Seated) (b : Burst) → CommitsBurst P ps old new b → GrewBySteps old new
grew_burst P ps old new b c = grew_each P b.taken c.place ps old new c.each

-- one plan more is taken
pub takes_more : (seat taken : ℕ) (ps : List Plan) (p : Plan) (s last new : Session) → TakesEach seat taken ps None s last → length ps ≡ taken → MayCommit last seat p → new ≡ stepped_on seat last p → TakesEach seat (suc taken) (ps ++ p ∷ []) None s new
takes_more seat zero [] p s last new each all may now =
    (subst (λ (z : Session). MayCommit z seat p) each may, now ∙ ap (λ (z : Session). stepped_on seat z p) each)
takes_more seat zero (q ∷ ps) p s last new each all may now = absurd (omega (arith, all))
takes_more seat (suc taken) [] p s last new each all may now = absurd each
takes_more seat (suc taken) (q ∷ ps) p s last new each all may now = (each.0, takes_more seat taken ps p (stepped_on seat s q) last new each.1 (omega (arith, all)) may now)

-- the next one is refused
pub takes_no_more : (seat taken : ℕ) (ps qs : List Plan) (p : Plan) (r : Refused CommitRefusal) (s last : Session) → TakesEach seat taken ps None s last → length ps ≡ taken → RefusesPlan seat last p r → TakesEach seat taken (ps ++ p ∷ qs) (Some r) s last
takes_no_more seat zero [] qs p r s last each all why = (each, subst (λ (z : Session). RefusesPlan seat z p r) each why)
takes_no_more seat zero (q ∷ ps) qs p r s last each all why = absurd (omega (arith, all))
takes_no_more seat (suc taken) [] qs p r s last each all why = absurd each
takes_no_more seat (suc taken) (q ∷ ps) qs p r s last each all why = (each.0, takes_no_more seat taken ps qs p r (stepped_on seat s q) last each.1 (omega (arith, all)) why)

-- what the iterator of a vector has given is a front of its items
pub taken_front : {X A : Type 0} (s : IntoIter X A) (xs : List X) (t : IntoIter X A) → Yields into_iter_steps s xs t → into_iter_items s ≡ xs ++ into_iter_items t
taken_front s [] t y = ap into_iter_items y
taken_front s (x ∷ xs) t y = y.1.0 ∙ ap (λ ys. x ∷ ys) (taken_front y.0 xs t y.2)
