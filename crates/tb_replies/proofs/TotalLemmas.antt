-- Each line has one reply, and leaves a sound journal sound.
use Rattle.std.proofs.Common.{◌≡◌, ◌<◌, ◌≤◌, arith, ℕ, zero, suc, List, [], refl, sym, ap, ◌∙◌, subst, Option, Some, None, Bool, true, false, not, cond, IsTrue}
use Rattle.std.specs.Prelude.{option_map}
use Rattle.std.specs.Option.{option_or}
use Rattle.tb_model.specs.declared.step_id.StepId.{StepId}
use Rattle.tb_model.specs.Names.{Name}
use Rattle.tb_model.specs.Equivalent.{stands}
use Rattle.tb_model.specs.declared.entry.Entry.TheVariants.{Rolled}
use Rattle.tb_model.specs.Hindrances.{Refusal}
use Rattle.tb_model.specs.Program.{Program, IsNext}
use Rattle.tb_laws.proofs.JournalLemmas.{journal_legal}
use Rattle.tb_laws.proofs.NextStepLemmas.{refused_next, least_next}
use Rattle.tb_read.specs.Text.{numbered}
use Rattle.tb_read.proofs.WellFormedLemmas.{accepted_well_formed}
use Rattle.tb_control.specs.declared.breaks.Break.{Break}
use Rattle.tb_control.specs.declared.breaks.Break.TheVariants.{Body as AtBody}
use Rattle.tb_live.specs.Breaks.{with_break, without_break}
use Rattle.tb_live.specs.Pauses.{with_points}
use Rattle.tb_live.specs.Runs.{resumed}
use Rattle.tb_live.specs.Session.{Session, opened, history, is_full, with_entry}
use Rattle.tb_live.specs.Moves.{refusal_for, least_task, coming}
use Rattle.tb_commands.specs.Commands.{asked, AsksSeveral}
use Rattle.tb_commands.proofs.WorkersLemmas.{HasWorkers, asked_has_workers}
use Rattle.tb_replies.specs.Texts.{told_step, stepped}
use Rattle.tb_team.specs.Turns.{stepped_by}
use Rattle.tb_replies.specs.Turns.{IsGo}
use Rattle.tb_replies.proofs.TurnLemmas.{go_sound, some_go_of, one_go_of}
use Rattle.tb_replies.specs.Refusals.{refusal_line, step_refusal, undo_refusal, roll_refusal, break_refusal, clear_refusal}
use Rattle.tb_replies.specs.Bodies.{body_line}
use Rattle.tb_replies.specs.Rolled.{step_named, rolled_text}
use Rattle.tb_replies.specs.Course.{Course, stopped, behind, next_step, course, course_text}
use Rattle.tb_replies.specs.Replies.{Answers, ReplyTo, Reply, StepReply, UndoReply, RollReply, RolledReply, GoReply, BreakReply, BodyReply, ClearReply}
use Rattle.tb_replies.specs.Reading.{IsProgram}
use Rattle.tb_replies.specs.Laws.{IsSound}
use Rattle.tb_commands.specs.declared.command.Command.{Command}
use Rattle.tb_commands.specs.declared.command.Command.TheVariants.{Step, Undo, Roll, Run, Break as AddBreak, BreakBody, Clear, Show}
use Rattle.tb_team.specs.declared.stop.Stop.TheVariants.{Full}
use Rattle.tb_commands.specs.declared.asked.Asked.{Asked}
use Rattle.tb_commands.specs.declared.asked.Asked.TheVariants.{Nothing, Command as Asks, Go, Fault}

-- ---- each reply leaves a sound journal

pub opened_sound : (text : List ℕ) (P : Program) (limit : ℕ) → IsProgram text P → IsSound (opened P limit 65)
opened_sound text P limit h = record { well_formed = accepted_well_formed (numbered text) P h.0 h.1; sound = refl }

resumed_sound : (s : Session) → IsSound s → IsSound (resumed s)
resumed_sound s h = record { well_formed = h.well_formed; sound = h.sound }

-- after the next event of a task
stepped_sound : (seat : ℕ) (s : Session) (t : Name) → IsSound s → IsNext s.program (history s) (coming s t) → IsSound (stepped_by seat s t)
stepped_sound seat s t h next = record { well_formed = h.well_formed; sound = (h.sound, next) }

-- what isn't refused has no reason
no_reason : (o : Option Refusal) (other : Option (List ℕ)) → option_or (option_map refusal_line o) other ≡ None → o ≡ None
no_reason None other e = refl
no_reason (Some r) other e = cc

step_sound : (s new : Session) (t : Name) (out : List ℕ) (refusal : Option (List ℕ)) → step_refusal s t ≡ refusal → IsSound s → StepReply refusal s t out new → IsSound new
step_sound s new t out (Some r) e h reply = subst IsSound (sym reply.1) h
step_sound s new t out None e h reply =
    let legal = journal_legal s.program s.journal h.sound in
    let next = (refused_next s.program (history s) t h.well_formed legal).0 (no_reason (refusal_for s t) _ e) in
    subst IsSound (sym reply.1) (stepped_sound 0 s t h next)

next_sound : (s : Session) (o : Option Name) (most : ℕ) → ((u : Session) → IsSound u → IsSound (course most u).session) → least_task s ≡ o → IsSound s → IsSound (next_step o s (course most)).session
next_sound s None most rest e h = h
next_sound s (Some t) most rest e h = by_room (is_full s)
  where
    by_room : (full : Bool) → IsSound (cond full (stopped Full s) (behind (told_step s t) 1 (course most (stepped s t)))).session
    by_room true = h
    by_room false =
        let legal = journal_legal s.program s.journal h.sound in
        rest (stepped s t) (stepped_sound 0 s t h ((least_next s.program (history s) h.well_formed legal).found t e))

course_sound : (most : ℕ) (s : Session) → IsSound s → IsSound (course most s).session
course_sound zero s h = h
course_sound (suc most) s h = next_sound (resumed s) (least_task s) most (course_sound most) refl (resumed_sound s h)

-- what isn't refused is there
stands_unless : (b : Bool) (first other : Option (List ℕ)) (r : List ℕ) → first ≡ Some r → cond (not b) first other ≡ None → IsTrue b
stands_unless true first other r e h = refl
stands_unless false first other r e h = cc

undo_sound : (s new : Session) (id : StepId) (out : List ℕ) (refusal : Option (List ℕ)) → undo_refusal s id ≡ refusal → IsSound s → UndoReply refusal s id out new → IsSound new
undo_sound s new id out (Some r) e h reply = subst IsSound (sym reply.1) h
undo_sound s new id out None e h reply =
    subst IsSound (sym reply.1) (record { well_formed = h.well_formed; sound = (h.sound, stands_unless (stands id (history s)) _ _ _ refl e) })

rolled_sound : (s new : Session) (id : StepId) (out : List ℕ) (refusal : Option (List ℕ)) → roll_refusal s id ≡ refusal → IsSound s → RolledReply refusal s id out new → IsSound new
rolled_sound s new id out (Some r) e h reply = subst IsSound (sym reply.1) h
rolled_sound s new id out None e h reply =
    subst IsSound (sym reply.1) (record { well_formed = h.well_formed; sound = (h.sound, stands_unless (stands id (history s)) _ _ _ refl e) })

roll_sound : (s new : Session) (found : Option StepId) (out : List ℕ) → IsSound s → RollReply s found out new → IsSound new
roll_sound s new None out h reply = subst IsSound (sym reply.1) h
roll_sound s new (Some id) out h reply = rolled_sound s new id out (roll_refusal s id) refl h reply

-- breakpoints leave the journal as it is
break_sound : (s new : Session) (at : Break) (out : List ℕ) (refusal : Option (List ℕ)) → IsSound s → BreakReply refusal s at out new → IsSound new
break_sound s new at out (Some r) h reply = subst IsSound (sym reply.1) h
break_sound s new at out None h reply = subst IsSound (sym reply.1) (record { well_formed = h.well_formed; sound = h.sound })

body_sound : (s new : Session) (found : Option ℕ) (out : List ℕ) → IsSound s → BodyReply found s out new → IsSound new
body_sound s new (Some at) out h reply = break_sound s new (AtBody at) out (break_refusal s (AtBody at)) h reply
body_sound s new None out h reply = subst IsSound (sym reply.1) h

clear_sound : (s new : Session) (number : ℕ) (out : List ℕ) (refusal : Option (List ℕ)) → IsSound s → ClearReply refusal s number out new → IsSound new
clear_sound s new number out (Some r) h reply = subst IsSound (sym reply.1) h
clear_sound s new number out None h reply = subst IsSound (sym reply.1) (record { well_formed = h.well_formed; sound = h.sound })

reply_sound : (s new : Session) (command : Command) (out : List ℕ) → IsSound s → Reply s command out new → IsSound new
reply_sound s new (Step t) out h reply = step_sound (resumed s) new t out (step_refusal (resumed s) t) refl (resumed_sound s h) reply
reply_sound s new (Undo id) out h reply = undo_sound s new id out (undo_refusal s id) refl h reply
reply_sound s new (Roll target) out h reply = roll_sound s new (step_named (history s) target) out h reply
reply_sound s new (Run most) out h reply = subst IsSound (sym reply.1) (course_sound most (resumed s) (resumed_sound s h))
reply_sound s new (AddBreak at) out h reply = break_sound s new at out (break_refusal s at) h reply
reply_sound s new (BreakBody name) out h reply = body_sound s new (body_line name s.program) out h reply
reply_sound s new (Clear number) out h reply = clear_sound s new number out (clear_refusal s number) h reply
reply_sound s new (Show view) out h reply = subst IsSound (sym reply.1) h

reply_to_sound : (s new : Session) (asks : Asked) (out : List ℕ) → IsSound s → ReplyTo s asks out new → IsSound new
reply_to_sound s new Nothing out h reply = subst IsSound (sym reply.1) h
reply_to_sound s new (Asks command) out h reply = reply_sound s new command out h reply
reply_to_sound s new (Go workers most) out h reply = subst IsSound (sym reply.2.1) (go_sound workers most s reply.0 h reply.1)
reply_to_sound s new (Fault fault) out h reply = subst IsSound (sym reply.1) h

pub answer_sound : (limit : ℕ) (s new : Session) (bytes out : List ℕ) → IsSound s → Answers limit s bytes out new → IsSound new
answer_sound limit s new bytes out h reply = reply_to_sound s new (asked limit bytes) out h reply

-- ---- each line has a reply

some_step : (s : Session) (t : Name) (refusal : Option (List ℕ)) → (out : List ℕ) × (new : Session) × StepReply refusal s t out new
some_step s t (Some r) = (r, s, (refl, refl))
some_step s t None = (told_step s t, stepped s t, (refl, refl))

some_undo : (s : Session) (id : StepId) (refusal : Option (List ℕ)) → (out : List ℕ) × (new : Session) × UndoReply refusal s id out new
some_undo s id (Some r) = (r, s, (refl, refl))
some_undo s id None = (_, with_entry s (Rolled 0 id), (refl, refl))

some_rolled : (s : Session) (id : StepId) (refusal : Option (List ℕ)) → (out : List ℕ) × (new : Session) × RolledReply refusal s id out new
some_rolled s id (Some r) = (r, s, (refl, refl))
some_rolled s id None = (rolled_text s id, with_entry s (Rolled 0 id), (refl, refl))

some_roll : (s : Session) (found : Option StepId) → (out : List ℕ) × (new : Session) × RollReply s found out new
some_roll s None = (_, s, (refl, refl))
some_roll s (Some id) = some_rolled s id (roll_refusal s id)

some_break : (s : Session) (at : Break) (refusal : Option (List ℕ)) → (out : List ℕ) × (new : Session) × BreakReply refusal s at out new
some_break s at (Some r) = (r, s, (refl, refl))
some_break s at None = (_, with_points s (with_break s.control.breakpoints at), (refl, refl))

some_body : (s : Session) (found : Option ℕ) → (out : List ℕ) × (new : Session) × BodyReply found s out new
some_body s (Some at) = some_break s (AtBody at) (break_refusal s (AtBody at))
some_body s None = (_, s, (refl, refl))

some_clear : (s : Session) (number : ℕ) (refusal : Option (List ℕ)) → (out : List ℕ) × (new : Session) × ClearReply refusal s number out new
some_clear s number (Some r) = (r, s, (refl, refl))
some_clear s number None = (_, with_points s (without_break number s.control.breakpoints), (refl, refl))

some_gone : (s : Session) (workers most : ℕ) → (c : Course) × IsGo workers most s c → (out : List ℕ) × (new : Session) × GoReply workers most s out new
some_gone s workers most g = (course_text g.0, g.0.session, (g.0, g.1, (refl, refl)))

some_reply : (s : Session) (command : Command) → (out : List ℕ) × (new : Session) × Reply s command out new
some_reply s (Step t) = some_step (resumed s) t (step_refusal (resumed s) t)
some_reply s (Undo id) = some_undo s id (undo_refusal s id)
some_reply s (Roll target) = some_roll s (step_named (history s) target)
some_reply s (Run most) = (_, (course most (resumed s)).session, (refl, refl))
some_reply s (AddBreak at) = some_break s at (break_refusal s at)
some_reply s (BreakBody name) = some_body s (body_line name s.program)
some_reply s (Clear number) = some_clear s number (clear_refusal s number)
some_reply s (Show view) = (_, s, (refl, refl))

some_reply_to : (s : Session) (asks : Asked) → HasWorkers asks → (out : List ℕ) × (new : Session) × ReplyTo s asks out new
some_reply_to s Nothing h = ([], s, (refl, refl))
some_reply_to s (Asks command) h = some_reply s command
some_reply_to s (Go workers most) h = some_gone s workers most (some_go_of workers most s h)
some_reply_to s (Fault fault) h = (_, s, (refl, refl))

pub some_answer : (limit : ℕ) (s : Session) (bytes : List ℕ) → (out : List ℕ) × (new : Session) × Answers limit s bytes out new
some_answer limit s bytes = some_reply_to s (asked limit bytes) (asked_has_workers limit bytes)

-- ---- and one alone

one_step : (s new other : Session) (t : Name) (out more : List ℕ) (refusal : Option (List ℕ)) → StepReply refusal s t out new → StepReply refusal s t more other → (out ≡ more) × (new ≡ other)
one_step s new other t out more (Some r) a b = (a.0 ∙ sym b.0, a.1 ∙ sym b.1)
one_step s new other t out more None a b = (a.0 ∙ sym b.0, a.1 ∙ sym b.1)

one_undo : (s new other : Session) (id : StepId) (out more : List ℕ) (refusal : Option (List ℕ)) → UndoReply refusal s id out new → UndoReply refusal s id more other → (out ≡ more) × (new ≡ other)
one_undo s new other id out more (Some r) a b = (a.0 ∙ sym b.0, a.1 ∙ sym b.1)
one_undo s new other id out more None a b = (a.0 ∙ sym b.0, a.1 ∙ sym b.1)

one_rolled : (s new other : Session) (id : StepId) (out more : List ℕ) (refusal : Option (List ℕ)) → RolledReply refusal s id out new → RolledReply refusal s id more other → (out ≡ more) × (new ≡ other)
one_rolled s new other id out more (Some r) a b = (a.0 ∙ sym b.0, a.1 ∙ sym b.1)
one_rolled s new other id out more None a b = (a.0 ∙ sym b.0, a.1 ∙ sym b.1)

one_roll : (s new other : Session) (found : Option StepId) (out more : List ℕ) → RollReply s found out new → RollReply s found more other → (out ≡ more) × (new ≡ other)
one_roll s new other None out more a b = (a.0 ∙ sym b.0, a.1 ∙ sym b.1)
one_roll s new other (Some id) out more a b = one_rolled s new other id out more (roll_refusal s id) a b

one_break : (s new other : Session) (at : Break) (out more : List ℕ) (refusal : Option (List ℕ)) → BreakReply refusal s at out new → BreakReply refusal s at more other → (out ≡ more) × (new ≡ other)
one_break s new other at out more (Some r) a b = (a.0 ∙ sym b.0, a.1 ∙ sym b.1)
one_break s new other at out more None a b = (a.0 ∙ sym b.0, a.1 ∙ sym b.1)

one_body : (s new other : Session) (found : Option ℕ) (out more : List ℕ) → BodyReply found s out new → BodyReply found s more other → (out ≡ more) × (new ≡ other)
one_body s new other (Some at) out more a b = one_break s new other (AtBody at) out more (break_refusal s (AtBody at)) a b
one_body s new other None out more a b = (a.0 ∙ sym b.0, a.1 ∙ sym b.1)

one_clear : (s new other : Session) (number : ℕ) (out more : List ℕ) (refusal : Option (List ℕ)) → ClearReply refusal s number out new → ClearReply refusal s number more other → (out ≡ more) × (new ≡ other)
one_clear s new other number out more (Some r) a b = (a.0 ∙ sym b.0, a.1 ∙ sym b.1)
one_clear s new other number out more None a b = (a.0 ∙ sym b.0, a.1 ∙ sym b.1)

one_reply : (s new other : Session) (command : Command) (out more : List ℕ) → Reply s command out new → Reply s command more other → (out ≡ more) × (new ≡ other)
one_reply s new other (Step t) out more a b = one_step (resumed s) new other t out more (step_refusal (resumed s) t) a b
one_reply s new other (Undo id) out more a b = one_undo s new other id out more (undo_refusal s id) a b
one_reply s new other (Roll target) out more a b = one_roll s new other (step_named (history s) target) out more a b
one_reply s new other (Run most) out more a b = (a.0 ∙ sym b.0, a.1 ∙ sym b.1)
one_reply s new other (AddBreak at) out more a b = one_break s new other at out more (break_refusal s at) a b
one_reply s new other (BreakBody name) out more a b = one_body s new other (body_line name s.program) out more a b
one_reply s new other (Clear number) out more a b = one_clear s new other number out more (clear_refusal s number) a b
one_reply s new other (Show view) out more a b = (a.0 ∙ sym b.0, a.1 ∙ sym b.1)

one_reply_to : (s new other : Session) (asks : Asked) (out more : List ℕ) → HasWorkers asks → ((workers most : ℕ) → asks ≡ Go workers most → 1 < workers → ⊥)
    → ReplyTo s asks out new → ReplyTo s asks more other → (out ≡ more) × (new ≡ other)
one_reply_to s new other Nothing out more some few a b = (a.0 ∙ sym b.0, a.1 ∙ sym b.1)
one_reply_to s new other (Asks command) out more some few a b = one_reply s new other command out more a b
one_reply_to s new other (Go workers most) out more some few a b =
    let alone : workers ≡ 1 = le_antisymm (at_most_one workers (few workers most refl)) some in
    let same : a.0 ≡ b.0 = one_go_of workers most s a.0 b.0 alone a.1 b.1 in
    (a.2.0 ∙ (ap course_text same ∙ sym b.2.0), a.2.1 ∙ (ap (λ (c : Course). c.session) same ∙ sym b.2.1))
  where
    at_most_one : (n : ℕ) → (1 < n → ⊥) → n ≤ 1
    at_most_one zero h = omega arith
    at_most_one (suc zero) h = omega arith
    at_most_one (suc (suc n)) h = absurd (h (omega arith))

    le_antisymm : {n : ℕ} → n ≤ 1 → 1 ≤ n → n ≡ 1
    le_antisymm a b = omega (arith, a, b)
one_reply_to s new other (Fault fault) out more some few a b = (a.0 ∙ sym b.0, a.1 ∙ sym b.1)

-- a line has one answer, but for a go of several workers
pub one_answer : (limit : ℕ) (s new other : Session) (bytes out more : List ℕ) → (AsksSeveral limit bytes → ⊥) → Answers limit s bytes out new → Answers limit s bytes more other → (out ≡ more) × (new ≡ other)
one_answer limit s new other bytes out more few a b =
    one_reply_to s new other (asked limit bytes) out more (asked_has_workers limit bytes) (λ workers most e several. few (workers, most, e, several)) a b
