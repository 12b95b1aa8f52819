-- What a call answers, by what it leaves and what its refusal says.
use Rattle.std.proofs.Common.{ℕ, ◌≡◌, Result, Ok, IfOk, OnOk, OnErr}
use Rattle.std.specs.Prelude.{Err, IfErr, Vec}
use Rattle.std.specs.declared.alloc.AllocError.{AllocError}
use Rattle.std.specs.declared.alloc.Global.{Global}
use Rattle.tb_model.specs.declared.entry.Entry.TheVariants.{Rolled}
use Rattle.tb_model.specs.declared.step_id.StepId.{StepId}
use Rattle.tb_core.specs.declared.removed.Removed.{Removed}
use Rattle.tb_core.specs.declared.undo_refusal.UndoRefusal.{UndoRefusal}
use Rattle.tb_roll.specs.declared.roll_refusal.RollRefusal.{RollRefusal}
use Rattle.tb_next.specs.declared.claim.Claim.{Claim}
use Rattle.tb_next.specs.declared.offer.Offer.{Offer}
use Rattle.tb_live.specs.Moves.{RollsFor, UndoesFor}
use Rattle.tb_live.specs.Session.{Session}
use Rattle.tb_live.specs.Working.{ClaimsWork, IsOffered}
use Rattle.tb_work.specs.declared.refused.Refused.{Refused}
use Rattle.tb_work.specs.Answering.{ClaimsBy, OffersBy, RollsBy, Takes, UndoesBy}
use Rattle.tb_work.specs.Receipts.{Seated}
use Rattle.tb_work.specs.Refusing.{RefusesRoll, RefusesUndo}

pub claimed_by : (s new : Session) (seat : ℕ) (r : Result Claim AllocError) → IfOk r (ClaimsWork s seat new) → OnErr r (new ≡ s) → ClaimsBy seat r s new
claimed_by s new seat (Ok c) work stays = work
claimed_by s new seat (Err e) work stays = stays

pub offered_by : (s new : Session) (seat : ℕ) (r : Result Offer AllocError) → IfOk r (IsOffered s seat new) → OnErr r (new ≡ s) → OffersBy seat r s new
offered_by s new seat (Ok o) offered stays = offered
offered_by s new seat (Err e) offered stays = stays

pub rolled_by : (s new : Session) (i : StepId) (r : Result (Vec Removed Global) (Refused RollRefusal)) (old seat : Seated)
    → IfOk r (λ removed. RollsFor old.number s i new removed.items) → OnOk r (Takes s (Rolled old.number i) old seat) → OnErr r (new ≡ s) → OnErr r (seat ≡ old) → IfErr r (RefusesRoll s i)
    → RollsBy old seat i r s new
rolled_by s new i (Ok removed) old seat rolled takes stays kept refused = (rolled, takes)
rolled_by s new i (Err e) old seat rolled takes stays kept refused = (stays, kept, refused)

pub undone_by : (s new : Session) (i : StepId) (r : Result Removed (Refused UndoRefusal)) (old seat : Seated)
    → IfOk r (UndoesFor old.number s i new) → OnOk r (Takes s (Rolled old.number i) old seat) → OnErr r (new ≡ s) → OnErr r (seat ≡ old) → IfErr r (RefusesUndo old.number s i)
    → UndoesBy old seat i r s new
undone_by s new i (Ok removed) old seat undone takes stays kept refused = (undone, takes)
undone_by s new i (Err e) old seat undone takes stays kept refused = (stays, kept, refused)
