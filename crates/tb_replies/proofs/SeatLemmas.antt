-- A session retains its seats.
use Rattle.std.proofs.Common.{lit<, ◌≡◌, ◌<◌, ℕ, zero, suc, List, [], ◌∷◌, length, Bool, true, false, cond, Option, Some, None, refl, sym, ap, ◌∙◌, subst}
use Rattle.std.proofs.lemmas.List.{length-map}
use Rattle.tb_model.specs.declared.step_id.StepId.{StepId}
use Rattle.tb_model.specs.declared.entry.Entry.TheVariants.{Rolled}
use Rattle.tb_model.specs.Names.{Name, same_name}
use Rattle.tb_model.specs.Program.{Program}
use Rattle.tb_core.specs.Rolled.{removals}
use Rattle.tb_control.specs.declared.breaks.Break.{Break}
use Rattle.tb_control.specs.declared.breaks.Break.TheVariants.{Body as AtBody}
use Rattle.tb_live.specs.Claims.{unless, is_hit}
use Rattle.tb_live.specs.Runs.{resumed}
use Rattle.tb_live.specs.Session.{Session, opened, history, is_full, with_entry}
use Rattle.tb_live.specs.Moves.{least_task}
use Rattle.tb_commands.specs.Commands.{asked}
use Rattle.tb_replies.specs.Texts.{told_step, stepped}
use Rattle.tb_replies.specs.Refusals.{step_refusal, undo_refusal, roll_refusal, break_refusal, clear_refusal}
use Rattle.tb_replies.specs.Bodies.{body_line}
use Rattle.tb_replies.specs.Rolled.{step_named}
use Rattle.tb_replies.specs.Course.{Course, stopped, behind, next_step, course}
use Rattle.tb_replies.specs.Replies.{Answers, ReplyTo, Reply, StepReply, UndoReply, RollReply, RolledReply, BreakReply, BodyReply, ClearReply}
use Rattle.tb_replies.specs.Turns.{Goes, IsGo}
use Rattle.tb_team.specs.Gone.{HasSeats}
use Rattle.tb_team.specs.Turns.{turned, started}
use Rattle.tb_commands.specs.declared.command.Command.{Command}
use Rattle.tb_commands.specs.declared.command.Command.TheVariants.{Step, Undo, Roll, Run, Break as AddBreak, BreakBody, Clear, Show}
use Rattle.tb_team.specs.declared.stop.Stop.TheVariants.{Full}
use Rattle.tb_commands.specs.declared.asked.Asked.{Asked}
use Rattle.tb_commands.specs.declared.asked.Asked.TheVariants.{Nothing, Command as Asks, Go, Fault}
use Rattle.tb_replies.proofs.AloneLemmas.{unclaimed_seats, turned_seats}

abbrev seats : Session → ℕ
seats s = length s.control.claims

-- where nothing has changed
kept : (s new : Session) → new ≡ s → seats new ≡ seats s
kept s new e = ap seats e

stepped_seats : (s : Session) (t : Name) → seats (stepped s t) ≡ seats s
stepped_seats s t = length-map s.control.claims (unless (same_name t))

rolled_seats : (s : Session) (id : StepId) → seats (with_entry s (Rolled 0 id)) ≡ seats s
rolled_seats s id = length-map s.control.claims (unless (is_hit (removals id (history s))))

step_seats : (s new : Session) (t : Name) (out : List ℕ) (refusal : Option (List ℕ)) → StepReply refusal s t out new → seats new ≡ seats s
step_seats s new t out (Some r) h = kept s new h.1
step_seats s new t out None h = ap seats h.1 ∙ stepped_seats s t

undo_seats : (s new : Session) (id : StepId) (out : List ℕ) (refusal : Option (List ℕ)) → UndoReply refusal s id out new → seats new ≡ seats s
undo_seats s new id out (Some r) h = kept s new h.1
undo_seats s new id out None h = ap seats h.1 ∙ rolled_seats s id

rolled_back_seats : (s new : Session) (id : StepId) (out : List ℕ) (refusal : Option (List ℕ)) → RolledReply refusal s id out new → seats new ≡ seats s
rolled_back_seats s new id out (Some r) h = kept s new h.1
rolled_back_seats s new id out None h = ap seats h.1 ∙ rolled_seats s id

roll_seats : (s new : Session) (found : Option StepId) (out : List ℕ) → RollReply s found out new → seats new ≡ seats s
roll_seats s new None out h = kept s new h.1
roll_seats s new (Some id) out h = rolled_back_seats s new id out (roll_refusal s id) h

next_seats : (s : Session) (o : Option Name) (most : ℕ) → ((u : Session) → seats (course most u).session ≡ seats u) → seats (next_step o s (course most)).session ≡ seats s
next_seats s None most rest = refl
next_seats s (Some t) most rest = by_room (is_full s)
  where
    by_room : (full : Bool) → seats (cond full (stopped Full s) (behind (told_step s t) 1 (course most (stepped s t)))).session ≡ seats s
    by_room true = refl
    by_room false = rest (stepped s t) ∙ stepped_seats s t

course_seats : (most : ℕ) (s : Session) → seats (course most s).session ≡ seats s
course_seats zero s = refl
course_seats (suc most) s = next_seats (resumed s) (least_task s) most (course_seats most)

goes_seats : (workers : ℕ) (turns : List (ℕ × Name)) (s : Session) (c : Course) → Goes workers turns s c → seats c.session ≡ seats s
goes_seats workers [] s c g = ap (λ (d : Course). seats d.session) g.2 ∙ unclaimed_seats s
goes_seats workers (turn ∷ turns) s c g =
    ap (λ (d : Course). seats d.session) g.2.2 ∙ (goes_seats workers turns (turned turn.0 s turn.1) g.2.0 g.2.1 ∙ turned_seats turn.0 s turn.1)

go_seats : (workers most : ℕ) (s : Session) (c : Course) → IsGo workers most s c → seats c.session ≡ seats s
go_seats workers most s c g = goes_seats workers g.0 (started most s) c g.1 ∙ unclaimed_seats s

break_seats : (s new : Session) (at : Break) (out : List ℕ) (refusal : Option (List ℕ)) → BreakReply refusal s at out new → seats new ≡ seats s
break_seats s new at out (Some r) h = kept s new h.1
break_seats s new at out None h = ap seats h.1

body_seats : (s new : Session) (found : Option ℕ) (out : List ℕ) → BodyReply found s out new → seats new ≡ seats s
body_seats s new (Some at) out h = break_seats s new (AtBody at) out (break_refusal s (AtBody at)) h
body_seats s new None out h = kept s new h.1

clear_seats : (s new : Session) (number : ℕ) (out : List ℕ) (refusal : Option (List ℕ)) → ClearReply refusal s number out new → seats new ≡ seats s
clear_seats s new number out (Some r) h = kept s new h.1
clear_seats s new number out None h = ap seats h.1

reply_seats : (s new : Session) (command : Command) (out : List ℕ) → Reply s command out new → seats new ≡ seats s
reply_seats s new (Step t) out h = step_seats (resumed s) new t out (step_refusal (resumed s) t) h
reply_seats s new (Undo id) out h = undo_seats s new id out (undo_refusal s id) h
reply_seats s new (Roll target) out h = roll_seats s new (step_named (history s) target) out h
reply_seats s new (Run most) out h = ap seats h.1 ∙ course_seats most (resumed s)
reply_seats s new (AddBreak at) out h = break_seats s new at out (break_refusal s at) h
reply_seats s new (BreakBody name) out h = body_seats s new (body_line name s.program) out h
reply_seats s new (Clear number) out h = clear_seats s new number out (clear_refusal s number) h
reply_seats s new (Show view) out h = kept s new h.1

reply_to_seats : (s new : Session) (asks : Asked) (out : List ℕ) → ReplyTo s asks out new → seats new ≡ seats s
reply_to_seats s new Nothing out h = kept s new h.1
reply_to_seats s new (Asks command) out h = reply_seats s new command out h
reply_to_seats s new (Go workers most) out h = ap seats h.2.1 ∙ go_seats workers most s h.0 h.1
reply_to_seats s new (Fault fault) out h = kept s new h.1

pub answer_seats : (limit : ℕ) (s new : Session) (bytes out : List ℕ) → HasSeats s → Answers limit s bytes out new → HasSeats new
answer_seats limit s new bytes out has h = subst (λ n. 64 < n) (sym (reply_to_seats s new (asked limit bytes) out h)) has

-- a session begins with a seat for itself and one for each worker
pub opened_seats : (s : Session) (P : Program) (limit : ℕ) → s ≡ opened P limit 65 → HasSeats s
opened_seats s P limit e = subst HasSeats (sym e) (lit< tt)

-- after the line that was seen
pub line_seats : (limit : ℕ) (mid new : Session) (line seen reply : List ℕ) → HasSeats mid → seen ≡ line → Answers limit mid seen reply new → HasSeats new
line_seats limit mid new line seen reply has same h = answer_seats limit mid new seen reply has h
