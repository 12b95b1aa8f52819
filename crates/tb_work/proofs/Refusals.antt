-- Why a change isn't made that a seat asks for.
use Rattle.std.proofs.Common.{ℕ, ◌≡◌, Bool, true, false, refl, sym, ap, subst, ◌∙◌, List, length, Option, Some, None, Ok, not, cond}
use Rattle.std.specs.Prelude.{IsTrue, IsFalse, Err}
use Rattle.std.specs.List.{list_any}
use Rattle.std.proofs.lemmas.Option.{none-some}
use Rattle.tb_model.specs.declared.entry.Entry.{Entry}
use Rattle.tb_model.specs.declared.step_id.StepId.{StepId}
use Rattle.tb_model.specs.Equivalent.{stands}
use Rattle.tb_model.specs.Facts.{History, is_spawned, ends}
use Rattle.tb_model.specs.Hindrances.{Refusal, NoSuchTask, Ended, By}
use Rattle.tb_model.specs.Needers.{first_needer}
use Rattle.tb_plan.specs.declared.planned.Plan.{Plan}
use Rattle.tb_core.specs.declared.step_refusal.StepRefusal.TheVariants.{Memory}
use Rattle.tb_core.specs.declared.undo_refusal.UndoRefusal.{UndoRefusal}
use Rattle.tb_core.specs.declared.undo_refusal.UndoRefusal.TheVariants.{Memory as NoMemory, NoSuchStep, Needed, Full}
use Rattle.tb_core.specs.Outcomes.{Keeps, IsFree}
use Rattle.tb_core.specs.Seen.{Seen}
use Rattle.tb_core.specs.Seen as core
use Rattle.tb_core.specs.declared.removed.Removed.{Removed}
use Rattle.tb_core.specs.Naming.{IsLongName}
use Rattle.tb_live.specs.declared.commit_refusal.CommitRefusal.{CommitRefusal}
use Rattle.tb_live.specs.declared.commit_refusal.CommitRefusal.TheVariants.{Step}
use Rattle.tb_live.specs.Commits.{MayCommit, RefusesCommit, entry_to_come}
use Rattle.tb_live.specs.Moves.{KeepsAll, MayUndo, RollsFor, UndoesFor, UndoneFor}
use Rattle.tb_live.specs.Session.{Session, history, with_entry}
use Rattle.tb_roll.specs.declared.roll_refusal.RollRefusal.{RollRefusal}
use Rattle.tb_roll.specs.declared.roll_refusal.RollRefusal.TheVariants.{Memory as NoRoom, Full as NoPlace}
use Rattle.tb_work.specs.declared.refused.Refused.{Refused}
use Rattle.tb_work.specs.declared.refused.Refused.TheVariants.{Run, CellTaken}
use Rattle.tb_work.specs.Answering.{CommitsBy, Takes}
use Rattle.tb_work.specs.Bursts.{stepped_on}
use Rattle.tb_work.specs.Receipts.{Seated, Grew}
use Rattle.tb_work.specs.Refusing.{RefusesPlan, RefusesRoll, RefusesUndo}

-- a task that nothing blocks from its step is there, and goes on
goes_on : (there over : Bool) (o : Option Refusal) → cond (not there) (Some NoSuchTask) (cond over (Some Ended) o) ≡ None → (there ≡ true) × (over ≡ false)
goes_on true false o is = (refl, refl)
goes_on true true o is = absurd (none-some Ended (sym is))
goes_on false over o is = absurd (none-some NoSuchTask (sym is))

-- a plan that might be committed is refused for want of memory
pub short_of_memory : (s : Session) (seat : ℕ) (p : Plan) → MayCommit s seat p → RefusesCommit s seat p (Step Memory)
short_of_memory s seat p m =
    let task = goes_on (is_spawned (history s) p.config.task) (list_any (ends p.config.task) (history s)) _ m.may.unrefused in
    (m.claimed, (task.0, task.1, (λ u n. m.may.room), (λ h u is. absurd (none-some (By h) (sym m.may.unrefused ∙ is)))))

-- what blocks the step, as the run says it
pub kept_step : (run : Seen) (s : Session) (seat : ℕ) (i : StepId) (e : UndoRefusal) → core.history run ≡ history s → Keeps run i e → UndoneFor seat s i s (Err e)
kept_step run s seat i NoSuchStep same k = (refl, subst (λ (H : History). IsFalse (stands i H)) same k)
kept_step run s seat i (Needed by) same k = (refl, subst (λ (H : History). IsTrue (stands i H)) same k.0, subst (λ (H : History). first_needer i H ≡ Some by) same k.1)
kept_step run s seat i NoMemory same k =
    let needed : first_needer i (history s) ≡ Some k.1.0 = subst (λ (H : History). first_needer i H ≡ Some k.1.0) same k.1.1 in (
      refl,
      subst (λ (H : History). IsTrue (stands i H)) same k.0,
      (λ none. absurd (none-some k.1.0 (sym none ∙ needed))),
      λ by is. subst (λ (j : StepId). IsLongName j.task) (let other : k.1.0 ≡ by = cc (needed, is) in other) k.1.2,
    )
kept_step run s seat i Full same k = absurd k

-- a full journal, where nothing needs the step
pub no_place : (run : Seen) (s : Session) (seat : ℕ) (i : StepId) → core.history run ≡ history s → IsFree run i → KeepsAll s i NoPlace → UndoneFor seat s i s (Err Full)
no_place run s seat i same free k = (refl, k.0, subst (λ (H : History). first_needer i H ≡ None) same free.unneeded, k.1)

pub no_room : (run : Seen) (s : Session) (seat : ℕ) (i : StepId) → core.history run ≡ history s → IsFree run i → KeepsAll s i NoRoom → UndoneFor seat s i s (Err NoMemory)
no_room run s seat i same free k =
    (refl, k.0, (λ none. k.1), (λ by is. absurd (none-some by (sym free.unneeded ∙ (ap (λ (H : History). first_needer i H) same ∙ is)))))

-- ---- the same after what left the run as it was, for the seat of this number

pub plan_kept : (s mid : Session) (n seat : ℕ) (p : Plan) (r : Refused CommitRefusal) → mid ≡ s → n ≡ seat → RefusesPlan n mid p r → RefusesPlan seat s p r
plan_kept s mid n seat p r same named why =
    subst (λ (z : Session). RefusesPlan seat z p r) same (subst (λ (m : ℕ). RefusesPlan m mid p r) named why)

-- the entry that the seat takes away, in front of what left the run as it was
pub takes_now : (s mid : Session) (at : ℕ) (e f : Entry) (old seat : Seated) → mid ≡ s → at ≡ length mid.journal → e ≡ f → Grew old seat at e → Takes s f old seat
takes_now s mid at e f old seat same there is grew =
    subst (λ (k : ℕ). Grew old seat k f) (there ∙ ap (λ (z : Session). length z.journal) same) (subst (λ (x : Entry). Grew old seat at x) is grew)

pub committed_now : (s mid new : Session) (n m place at : ℕ) (p : Plan) (e : Entry) (old seat : Seated) → mid ≡ s → n ≡ old.number → m ≡ old.number → MayCommit mid n p → place ≡ length mid.journal
    → new ≡ with_entry mid (entry_to_come m mid p) → at ≡ length mid.journal → e ≡ entry_to_come n mid p → Grew old seat at e → CommitsBy old seat p (Ok place) s new
committed_now s mid new n m place at p e old seat same named again may there now next is grew =
    let taken = takes_now s mid at e (entry_to_come old.number mid p) old seat same next (is ∙ ap (λ (k : ℕ). entry_to_come k mid p) named) grew in (
      subst (λ (z : Session). MayCommit z old.number p) same (subst (λ (k : ℕ). MayCommit mid k p) named may),
      there ∙ ap (λ (z : Session). length z.journal) same,
      subst (λ (z : Session). new ≡ with_entry z (entry_to_come old.number z p)) same (subst (λ (k : ℕ). new ≡ with_entry mid (entry_to_come k mid p)) again now),
      subst (λ (z : Session). Takes s (entry_to_come old.number z p) old seat) same taken,
    )

pub stepped_now : (s mid new : Session) (n seat : ℕ) (p : Plan) → mid ≡ s → n ≡ seat → new ≡ stepped_on n mid p → new ≡ stepped_on seat s p
stepped_now s mid new n seat p same named now =
    subst (λ (z : Session). new ≡ stepped_on seat z p) same (subst (λ (k : ℕ). new ≡ stepped_on k mid p) named now)

pub roll_kept : (s mid : Session) (i : StepId) (r : Refused RollRefusal) → mid ≡ s → RefusesRoll mid i r → RefusesRoll s i r
roll_kept s mid i r same why = subst (λ (z : Session). RefusesRoll z i r) same why

pub rolled_now : (s mid new : Session) (n seat : ℕ) (i : StepId) (removed : List Removed) → mid ≡ s → n ≡ seat → RollsFor n mid i new removed → RollsFor seat s i new removed
rolled_now s mid new n seat i removed same named now =
    subst (λ (z : Session). RollsFor seat z i new removed) same (subst (λ (k : ℕ). RollsFor k mid i new removed) named now)

pub undo_kept : (s mid : Session) (n seat : ℕ) (i : StepId) (r : Refused UndoRefusal) → mid ≡ s → n ≡ seat → RefusesUndo n mid i r → RefusesUndo seat s i r
undo_kept s mid n seat i r same named why =
    subst (λ (z : Session). RefusesUndo seat z i r) same (subst (λ (k : ℕ). RefusesUndo k mid i r) named why)

pub undone_now : (s mid new : Session) (n seat : ℕ) (i : StepId) (removed : Removed) → mid ≡ s → n ≡ seat → UndoesFor n mid i new removed → UndoesFor seat s i new removed
undone_now s mid new n seat i removed same named now =
    subst (λ (z : Session). UndoesFor seat z i new removed) same (subst (λ (k : ℕ). UndoesFor k mid i new removed) named now)

-- an undo that might be made is refused for want of memory
pub undo_short_of_memory : (s : Session) (seat : ℕ) (i : StepId) → MayUndo s i → UndoneFor seat s i s (Err NoMemory)
undo_short_of_memory s seat i m = (refl, m.stands, (λ none. m.room), (λ by is. absurd (none-some by (sym m.unneeded ∙ is))))

pub taken_now : (s mid : Session) (n : ℕ) (p : Plan) (old seat : Seated) → mid ≡ s → n ≡ old.number → seat ≡ old → MayCommit mid n p → CommitsBy old seat p (Err CellTaken) s mid
taken_now s mid n p old seat same named kept may = (same, kept, plan_kept s mid n old.number p CellTaken same named may)

pub short_now : (s mid : Session) (n : ℕ) (p : Plan) (old seat : Seated) → mid ≡ s → n ≡ old.number → seat ≡ old → MayCommit mid n p → CommitsBy old seat p (Err (Run (Step Memory))) s mid
short_now s mid n p old seat same named kept may = (same, kept, plan_kept s mid n old.number p (Run (Step Memory)) same named (short_of_memory mid n p may))

pub run_refuses : (s mid : Session) (n : ℕ) (p : Plan) (e : CommitRefusal) (old : Seated) → mid ≡ s → n ≡ old.number → RefusesCommit s n p e → CommitsBy old old p (Err (Run e)) s mid
run_refuses s mid n p e old same named why = (same, refl, plan_kept s s n old.number p (Run e) refl named why)
