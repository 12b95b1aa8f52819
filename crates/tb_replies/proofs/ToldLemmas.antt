-- A reply that goes out in pieces.
use Rattle.std.proofs.Common.{◌≡◌, ◌<◌, ◌+◌, ◌-◌, ℕ, true, List, [], ◌++◌, take, drop, length, refl, sym, ap, ap₂, ◌∙◌, append_assoc, append-nil, subst, Option, Err}
use Rattle.std.proofs.Math.Seq.{take-append_seam}
use Rattle.std.proofs.lemmas.List.{take-append-drop}
use Rattle.std.specs.Fmt.{decimal}
use Rattle.std.specs.Prelude.{codes}
use Rattle.std.specs.Io.KnownBytes.{Appends}
use Rattle.tb_lines.proofs.KnownLemmas.{appends_nil, appends_trans}
use Rattle.tb_model.specs.declared.step_id.StepId.{StepId}
use Rattle.tb_core.specs.declared.step_refusal.StepRefusal.TheVariants.{Full as NoPlace}
use Rattle.tb_live.specs.Moves.{LeastStepsFor}
use Rattle.tb_live.specs.Runs.{resumed}
use Rattle.tb_live.specs.Session.{Session}
use Rattle.tb_view.specs.Lines.{line}
use Rattle.tb_team.specs.declared.stop.Stop.{Stop}
use Rattle.tb_team.specs.declared.stop.Stop.TheVariants.{Full}
use Rattle.tb_team.specs.Stops.{stop_word}
use Rattle.tb_team.specs.Turns.{started}
use Rattle.tb_replies.specs.declared.running.Taken.{Taken}
use Rattle.tb_replies.specs.Alone.{IsWhole, Stops, TakesTurn}
use Rattle.tb_replies.specs.Course.{Course, IsCourse, behind, course, course_text}
use Rattle.tb_replies.specs.Replies.{GoReply, RunReply}
use Rattle.tb_replies.specs.Turns.{Goes, IsGo}
use Rattle.tb_replies.specs.Told.{Begins}
use Rattle.tb_draft.specs.Written.{Told, WroteFront}
use Rattle.tb_draft.proofs.WrittenLemmas.{told_on, longer}
use Rattle.tb_replies.specs.Texts.{newest_line, told_step}
use Rattle.tb_replies.proofs.AloneLemmas.{UnderWay, ends, turns_on}
use Rattle.tb_replies.proofs.CourseLemmas.{Going, IsTaken, behind_nothing, course_ends_full, course_goes_on}
use Rattle.tb_replies.proofs.TurnLemmas.{some_goes}

-- ---- a beginning of a reply

-- each such text is the beginning of a reply
abbrev pub Extends : (List ℕ → Type 0) → (List ℕ → Session → Type 0) → Type 0
Extends IsText IsReply = (told : List ℕ) → IsText told → (reply : List ℕ) × (new : Session) × (rest : List ℕ) × IsReply reply new × (reply ≡ told ++ rest)

-- of what waits, one piece was written
begins_by : (a b c : Option (List ℕ)) (rest piece later : List ℕ) (IsText : List ℕ → Type 0) (IsReply : List ℕ → Session → Type 0)
    → Told a b rest IsText → rest ≡ piece ++ later → Appends b c piece → Extends IsText IsReply → Begins IsReply a c
begins_by a b c rest piece later IsText IsReply t split wrote on =
    let g = on (t.front ++ rest) t.whole in
    let all : List ℕ = t.front ++ piece in
    let whole : g.0 ≡ all ++ (later ++ g.2) =
    g.4 ∙ (ap (λ l. (t.front ++ l) ++ g.2) split ∙ (ap (λ l. l ++ g.2) (sym (append_assoc t.front piece later)) ∙ append_assoc all later g.2)) in
    let cut : take (length all) g.0 ≡ all = ap (take (length all)) whole ∙ take-append_seam all (later ++ g.2) in
    (g.0, g.1, length all, g.3, subst (Appends a c) (sym cut) (appends_trans a b c t.front piece t.wrote wrote))

-- nothing that waits was written
pub begins_told : (a b : Option (List ℕ)) (rest : List ℕ) (IsText : List ℕ → Type 0) (IsReply : List ℕ → Session → Type 0) → Told a b rest IsText → Extends IsText IsReply → Begins IsReply a b
begins_told a b rest IsText IsReply t on = begins_by a b b rest [] rest IsText IsReply t refl (appends_nil b) on

-- a front of it was written
pub begins_cut : (a b c : Option (List ℕ)) (rest : List ℕ) (IsText : List ℕ → Type 0) (IsReply : List ℕ → Session → Type 0) → Told a b rest IsText → WroteFront b c rest → Extends IsText IsReply → Begins IsReply a c
begins_cut a b c rest IsText IsReply t w on =
    begins_by a b c rest (take w.0 rest) (drop w.0 rest) IsText IsReply t (sym (take-append-drop w.0 rest)) w.1 on

-- a whole reply is its own beginning
pub reply_extends : (IsReply : List ℕ → Session → Type 0) (new : Session) → Extends (λ told. IsReply told new) IsReply
reply_extends IsReply new told h = (told, new, [], h, sym (append-nil told))

-- ---- `run`

abbrev last_line : ℕ → Stop → List ℕ
last_line count stop = line (codes "ran " ++ decimal count ++ codes " " ++ stop_word stop)

abbrev end_of : Course → List ℕ
end_of c = last_line c.count c.stop

-- the steps so far begin the course
pub steps_extend : (all : Course) (count left : ℕ) (s : Session) → Extends (λ told. Going all told count left s) (RunReply all)
steps_extend all count left s told going =
    let rest : Course = course left s in
    let lines : all.lines ≡ told ++ rest.lines = ap (λ (c : Course). c.lines) going in
    (course_text all, all.session, rest.lines ++ end_of all, (refl, refl), ap (λ l. l ++ end_of all) lines ∙ append_assoc told rest.lines (end_of all))

-- of a course after a text, so many steps were executed
module _ (start : List ℕ) (most : ℕ) (old : Session) where
  -- one more was taken, and its line waits
  pub step_waits : (a b : Option (List ℕ)) (count : ℕ) (s new : Session) (text more : List ℕ) (i : StepId)
      → count < most → Told a b text (λ told. Going (behind start 0 (course most old)) told count (most - count) s) → IsTaken s new i → more ≡ text ++ newest_line new i
      → Told a b more (λ told. Going (behind start 0 (course most old)) told (count + 1) (most - (count + 1)) new)
  step_waits a b count s new text more i within t taken e =
      told_on a b text more _ _ t
      (λ front going. course_goes_on (behind start 0 (course most old)) most count s new (front ++ text) (front ++ more) i within going taken (longer front text (newest_line new i) more e))

  -- no more are written
  pub steps_begin : (a b : Option (List ℕ)) (count : ℕ) (s : Session) (text : List ℕ) → Told a b text (λ told. Going (behind start 0 (course most old)) told count (most - count) s) → Begins (RunReply (behind start 0 (course most old))) a b
  steps_begin a b count s text t = begins_told a b text _ _ t (steps_extend (behind start 0 (course most old)) count (most - count) s)

  pub steps_cut : (a b c : Option (List ℕ)) (count : ℕ) (s : Session) (text : List ℕ) → Told a b text (λ told. Going (behind start 0 (course most old)) told count (most - count) s) → WroteFront b c text → Begins (RunReply (behind start 0 (course most old))) a c
  steps_cut a b c count s text t w = begins_cut a b c text _ _ t w (steps_extend (behind start 0 (course most old)) count (most - count) s)

  -- the journal is full
  pub steps_full : (a b : Option (List ℕ)) (count : ℕ) (s r new : Session) (text : List ℕ) → count < most → r ≡ resumed s → LeastStepsFor 0 r new (Err NoPlace)
      → Told a b text (λ told. Going (behind start 0 (course most old)) told count (most - count) s) → Told a b text (λ told. behind start 0 (course most old) ≡ record { lines = told; count = count; stop = Full; session = new })
  steps_full a b count s r new text within e h t =
      told_on a b text text _ _ t (λ front going. course_ends_full (behind start 0 (course most old)) most count s r new (front ++ text) within e h going)

-- the whole course, without its last line
pub course_extends : (all : Course) (taken : Taken) (new : Session) → Extends (λ told. IsCourse all told taken new) (RunReply all)
course_extends all taken new told is =
    (course_text all, all.session, end_of all, (refl, refl), ap (λ (c : Course). c.lines ++ end_of all) is)

-- with its last line the course is written
pub course_told : (all : Course) (told : List ℕ) (taken : Taken) (new : Session) → IsCourse all told taken new
    → RunReply all (told ++ last_line taken.count taken.stop) new
course_told all told taken new is = (sym (ap course_text is), sym (ap (λ (c : Course). c.session) is))

-- the course of a `run`, which begins with no text
module _ (s r : Session) (most : ℕ) (old : List ℕ) (resumes : r ≡ resumed s) (none : old ≡ []) where
  same : behind old 0 (course most r) ≡ course most (resumed s)
  same = ap₂ (λ l z. behind l 0 (course most z)) none resumes ∙ behind_nothing (course most (resumed s))

  pub run_begins : (a b : Option (List ℕ)) → Begins (RunReply (behind old 0 (course most r))) a b → Begins (RunReply (course most (resumed s))) a b
  run_begins a b h = subst (λ c. Begins (RunReply c) a b) same h

  pub run_extends : (taken : Taken) (new : Session) → Extends (λ told. IsCourse (behind old 0 (course most r)) told taken new) (RunReply (course most (resumed s)))
  run_extends taken new told is = course_extends (course most (resumed s)) taken new told (sym same ∙ is)

  pub run_told : (a b : Option (List ℕ)) (text more : List ℕ) (taken : Taken) (new : Session) → Told a b text (λ told. IsCourse (behind old 0 (course most r)) told taken new)
      → more ≡ text ++ last_line taken.count taken.stop → Told a b more (λ out. RunReply (course most (resumed s)) out new)
  run_told a b text more taken new t e =
      let all : Course = course most (resumed s) in
      told_on a b text more _ _ t
      (λ front is. subst (λ l. RunReply all l new) (sym (longer front text (last_line taken.count taken.stop) more e)) (course_told all (front ++ text) taken new (sym same ∙ is)))

-- ---- `go` of one worker

-- the turns so far begin a course
pub turns_extend : (most count : ℕ) (old first s : Session) → first ≡ started most old → Extends (λ told. UnderWay first most count told s) (GoReply 1 most old)
turns_extend most count old first s begins told u =
    let further = some_goes (most - count) s u.left in
    let rest = further.1.0 in
    let whole = u.going further.0 rest further.1.1 in
    let all : Course = behind told count rest in
    let go : IsGo 1 most old all = (whole.0, subst (λ z. Goes 1 whole.0 z all) begins whole.1) in
    (course_text all, all.session, rest.lines ++ end_of all, (all, go, (refl, refl)), append_assoc told rest.lines (end_of all))

-- a turn was executed, and its line waits
pub turn_waits : (a b : Option (List ℕ)) (first s new : Session) (most count : ℕ) (text more : List ℕ)
    → count < most → Told a b text (λ told. UnderWay first most count told s) → TakesTurn s text more new true → Told a b more (λ told. UnderWay first most (count + 1) told new)
turn_waits a b first s new most count text more within t h =
    told_on a b text more _ _ t (λ front u. turns_on first s new most count (front ++ text) (front ++ more) within u
    (h.0, (h.1.0, h.1.1, longer front text (told_step s h.1.0) more h.1.2, h.1.3)))

-- no more are written
pub turns_begin : (a b : Option (List ℕ)) (most count : ℕ) (old first s : Session) (text : List ℕ) → first ≡ started most old → Told a b text (λ told. UnderWay first most count told s) → Begins (GoReply 1 most old) a b
turns_begin a b most count old first s text begins t = begins_told a b text _ _ t (turns_extend most count old first s begins)

pub turns_cut : (a b c : Option (List ℕ)) (most count : ℕ) (old first s : Session) (text : List ℕ) → first ≡ started most old → Told a b text (λ told. UnderWay first most count told s) → WroteFront b c text → Begins (GoReply 1 most old) a c
turns_cut a b c most count old first s text begins t w = begins_cut a b c text _ _ t w (turns_extend most count old first s begins)

-- all of them, without their last line
pub whole_extends : (most : ℕ) (old new : Session) (taken : Taken) → Extends (λ told. IsWhole most old told new taken) (GoReply 1 most old)
whole_extends most old new taken told go =
    let all : Course = record { lines = told; count = taken.count; stop = taken.stop; session = new } in
    (course_text all, new, end_of all, (all, go, (refl, refl)), refl)

-- with their last line
pub whole_told : (most : ℕ) (old new : Session) (taken : Taken) (told : List ℕ) → IsWhole most old told new taken
    → GoReply 1 most old (told ++ last_line taken.count taken.stop) new
whole_told most old new taken told go = (record { lines = told; count = taken.count; stop = taken.stop; session = new }, go, (refl, refl))

-- nothing more is written but the last line
pub turns_told : (a b : Option (List ℕ)) (most count : ℕ) (old first s at new : Session) (text last : List ℕ) (taken : Taken) → first ≡ started most old → Told a b text (λ told. UnderWay first most count told s)
    → last ≡ text → at ≡ s → Stops at count new taken → Told a b last (λ told. IsWhole most old told new taken)
turns_told a b most count old first s at new text last taken begins t same claim h =
    told_on a b text last _ _ t (λ front u. ends most old first s at new (front ++ text) (front ++ last) count taken begins u (ap (λ l. front ++ l) same) claim h)

pub go_told : (a b : Option (List ℕ)) (most : ℕ) (old new : Session) (text more : List ℕ) (taken : Taken) → Told a b text (λ told. IsWhole most old told new taken) → more ≡ text ++ last_line taken.count taken.stop
    → Told a b more (λ out. GoReply 1 most old out new)
go_told a b most old new text more taken t e =
    told_on a b text more _ _ t (λ front go. subst (λ l. GoReply 1 most old l new) (sym (longer front text (last_line taken.count taken.stop) more e)) (whole_told most old new taken (front ++ text) go))
