-- What several workers did is a course of their turns, known by the newest steps.
use Rattle.std.proofs.Common.{◌≡◌, ◌≤◌, ◌+◌, ℕ, suc, List, [], ◌∷◌, ◌++◌, length, map, reverse, Some, refl, sym, ap, ap₂, ◌∙◌, arith, append_assoc, append-nil}
use Rattle.std.proofs.lemmas.List.{length-map, length-reverse}
use Rattle.tb_model.specs.Names.{Name}
use Rattle.tb_model.specs.Lines.{events_of}
use Rattle.tb_steps.specs.Entries.{Entry, departure}
use Rattle.tb_core.specs.Seen.{Seen}
use Rattle.tb_core.specs.Seen as core
use Rattle.tb_steps.specs.Scans.{history_of}
use Rattle.tb_live.specs.Session.{Session, history}
use Rattle.tb_view.specs.Steps.{newest_lines}
use Rattle.tb_team.specs.declared.gone.Gone.{Gone}
use Rattle.tb_team.specs.declared.stop.Stop.{Stop}
use Rattle.tb_team.specs.Gone.{IsGone}
use Rattle.tb_team.specs.Turns.{AreTurns, started, settled, stop_of, turned}
use Rattle.tb_replies.specs.Course.{Course, stopped, course_text}
use Rattle.tb_replies.specs.Replies.{GoReply}
use Rattle.tb_replies.specs.Texts.{told_step}
use Rattle.tb_replies.specs.Turns.{Goes}

-- the lines of the turns
abbrev told : List (ℕ × Name) → Session → List ℕ
told [] s = []
told (turn ∷ turns) s = told_step s turn.1 ++ told turns (turned turn.0 s turn.1)

abbrev course_of : List (ℕ × Name) → Session → Stop → Session → Course
course_of turns s why at = record { lines = told turns s; count = length turns; stop = why; session = settled at }

goes : (workers : ℕ) (turns : List (ℕ × Name)) (s at : Session) (why : Stop) → AreTurns workers turns s at → stop_of at ≡ Some why → Goes workers turns s (course_of turns s why at)
goes workers [] s at why are stops = (why, sym (ap stop_of are) ∙ stops, ap (λ z. stopped why (settled z)) are)
goes workers (turn ∷ turns) s at why are stops =
    let next = turned turn.0 s turn.1 in
    let one : length (turn ∷ turns) ≡ 1 + length turns = omega arith in
    (are.0, are.1, (course_of turns next why at, goes workers turns next at why are.2 stops, ap (λ n. record { lines = told (turn ∷ turns) s; count = n; stop = why; session = settled at }) one))

-- the newest steps are those of the turns
told_newest : (workers : ℕ) (turns : List (ℕ × Name)) (s at : Session) (j : ℕ) → AreTurns workers turns s at
    → newest_lines s.program (length turns + j) (history at) ≡ newest_lines s.program j (history s) ++ told turns s
told_newest workers [] s at j are =
    ap₂ (λ n (z : Session). newest_lines s.program n (history z)) (let e : 0 + j ≡ j = omega arith in e) are ∙ sym (append-nil (newest_lines s.program j (history s)))
told_newest workers (turn ∷ turns) s at j are =
    let next = turned turn.0 s turn.1 in
    let n : length (turn ∷ turns) + j ≡ length turns + suc j = omega arith in
    ap (λ k. newest_lines s.program k (history at)) n ∙ told_newest workers turns next at (suc j) are.2
    ∙ append_assoc (newest_lines s.program j (history s)) (told_step s turn.1) (told turns next)

longer : (workers : ℕ) (turns : List (ℕ × Name)) (s at : Session) → AreTurns workers turns s at → length turns ≤ length (history at)
longer workers turns s at are = more turns s are
  where
    counted : (turns : List (ℕ × Name)) (s : Session) → AreTurns workers turns s at → length turns + length (history s) ≡ length (history at)
    counted [] s are = (let e = ap (λ (z : Session). length (history z)) are in omega (arith, e))
    counted (turn ∷ turns) s are =
        let rest = counted turns (turned turn.0 s turn.1) are.2 in
        let one : length (history (turned turn.0 s turn.1)) ≡ suc (length (history s)) = refl in
        omega (arith, rest, one)

    more : (turns : List (ℕ × Name)) (s : Session) → AreTurns workers turns s at → length turns ≤ length (history at)
    more turns s are = omega (arith, counted turns s are)

program_stays : (workers : ℕ) (turns : List (ℕ × Name)) (s at : Session) → AreTurns workers turns s at → at.program ≡ s.program
program_stays workers [] s at are = ap (λ (z : Session). z.program) are
program_stays workers (turn ∷ turns) s at are = program_stays workers turns (turned turn.0 s turn.1) at are.2

-- the history has as many steps
pub few_steps : (workers most : ℕ) (s : Session) (gone : Gone) → IsGone workers most s gone → gone.count ≤ length (history gone.live.session)
few_steps workers most s gone g =
    let long = longer workers g.turns (started most s) g.at g.are in
    let same : length (history gone.live.session) ≡ length (history g.at) = ap (λ (z : Session). length (history z)) g.now in
    omega (arith, long, same, g.counted)

-- ---- the reply

abbrev pub newest_course : Session → ℕ → Stop → Course
newest_course s count why = record { lines = newest_lines s.program count (history s); count = count; stop = why; session = s }

pub gone_reply : (workers most : ℕ) (s : Session) (gone : Gone) (text : List ℕ) → IsGone workers most s gone → text ≡ course_text (newest_course gone.live.session gone.count gone.stop) → GoReply workers most s text gone.live.session
gone_reply workers most s gone text g is =
    let first = started most s in
    let c = course_of g.turns first gone.stop g.at in
    let lines : newest_lines gone.live.session.program gone.count (history gone.live.session) ≡ told g.turns first =
    ap (λ (z : Session). newest_lines z.program gone.count (history z)) g.now
    ∙ ap₂ (λ P n. newest_lines P n (history g.at)) (program_stays workers g.turns first g.at g.are) (sym g.counted ∙ (let e : length g.turns ≡ length g.turns + 0 = omega arith in e))
    ∙ told_newest workers g.turns first g.at 0 g.are in
    (c, (g.turns, goes workers g.turns first g.at gone.stop g.are g.stops), (is ∙ ap₂ (λ l n. course_text (record { lines = l; count = n; stop = gone.stop; session = settled g.at })) lines (sym g.counted), g.now))

-- ---- the entries of the history

pub as_many : (entries : List Entry) (run : Seen) (s : Session) → map departure (reverse entries) ≡ run.steps → core.history run ≡ history s → length entries ≡ length (history s)
as_many entries run s steps same =
    sym (length-reverse entries) ∙ (sym (length-map (reverse entries) departure) ∙ (sym (length-map (map departure (reverse entries)) _) ∙ (ap (λ D. length (events_of D)) steps ∙ ap length same)))

pub same_history : (entries : List Entry) (run : Seen) (s : Session) → map departure (reverse entries) ≡ run.steps → core.history run ≡ history s → history_of entries ≡ history s
same_history entries run s steps same = ap events_of steps ∙ same
