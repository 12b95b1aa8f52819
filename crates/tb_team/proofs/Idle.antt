-- Why no step follows, by what a claim returned.
use Rattle.std.proofs.Common.{◌≡◌, ◌≢◌, ℕ, Bool, true, false, ◌||◌, Option, Some, None, refl, sym, ap₂, ◌∙◌}
use Rattle.std.specs.Prelude.{IsTrue, IsFalse}
use Rattle.std.proofs.lemmas.Bool.{false≢true}
use Rattle.std.proofs.lemmas.Option.{none-some}
use Rattle.tb_model.specs.Names.{Name}
use Rattle.tb_model.specs.Hindrances.{can_step}
use Rattle.tb_model.proofs.LeastNameLemmas.{least_found}
use Rattle.tb_next.specs.declared.claim.Claim.{Claim}
use Rattle.tb_next.specs.declared.claim.Claim.TheVariants.{Work as Works, Later, Done, Stopped}
use Rattle.tb_next.proofs.ReadyLemmas.{can_spawned}
use Rattle.tb_live.specs.Modes.{is_paused}
use Rattle.tb_live.specs.Moves.{least_task}
use Rattle.tb_live.specs.Session.{Session, history, is_full}
use Rattle.tb_live.specs.Working.{ClaimsWork}
use Rattle.tb_team.specs.Turns.{why_idle}

-- some task can step, and there is a slot
busy : (o : Option Name) (full : Bool) → o ≢ None → full ≡ false → why_idle o full ≡ None
busy None full some room = absurd (some refl)
busy (Some t) true some room = absurd (false≢true (sym room))
busy (Some t) false some room = refl

some_least : (s : Session) (t : Name) → IsTrue (can_step s.program (history s) t) → least_task s ≢ None
some_least s t can none =
    let l = (least_found (history s) (can_step s.program (history s)) (can_spawned s.program (history s))).least t can in
    none-some l.0 (sym none ∙ l.1)

-- another answer than that none can step
pub not_idle : (s new : Session) (seat : ℕ) (claim : Claim) → ClaimsWork s seat new claim → IsFalse (is_paused s.control.mode) → IsFalse (is_full s) → claim ≢ Done → why_idle (least_task s) (is_full s) ≡ None
not_idle s new seat (Works w) claims going room ne = busy (least_task s) (is_full s) (some_least s w.config.task (claims.1.found w.config.task refl).0) room
not_idle s new seat Later claims going room ne = busy (least_task s) (is_full s) claims.2 room
not_idle s new seat Done claims going room ne = absurd (ne refl)
not_idle s new seat Stopped claims going room ne = absurd (false≢true (sym (ap₂ (λ a b. a || b) going room) ∙ claims.0))
