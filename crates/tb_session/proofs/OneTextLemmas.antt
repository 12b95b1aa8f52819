-- Of a program text and commands there is one answer.
use Rattle.std.proofs.Common.{◌≡◌, ◌<◌, ◌≤◌, ◌+◌, add-one, ℕ, zero, suc, List, [], ◌∷◌, ◌++◌, refl, sym, ap, ap₂, ◌∙◌, subst, length, get_or, Option, Some, None, arith, slice_get, slice_index_or}
use Rattle.std.proofs.lemmas.List.{ext_get_or, length-append}
use Rattle.std.proofs.lemmas.Option.{slice_get_past}
use Rattle.tb_model.specs.declared.statement.Statement.{Statement}
use Rattle.tb_model.specs.declared.statement.Statement.TheVariants.{Start, Let, Compute, Load, Store, Print, Task, Taskwait, Taskgroup, EndTaskgroup, Test, End}
use Rattle.tb_model.specs.Program.{Program, Instr, no_instr}
use Rattle.tb_read.specs.Flow.{Line, Passed, Stands, Else, EndIf, EndWhile, Arrives, stands, passed, ended, turned_over, back, outside, LeadsTo, end_of, levels_behind}
use Rattle.tb_read.specs.Meaning.{IsInstrOf, IsProgramOf, lines_in, lines_until, line_at}
use Rattle.tb_read.specs.Text.{lines_of}
use Rattle.tb_live.specs.Session.{Session, opened}
use Rattle.tb_replies.specs.Replies.{Answers}
use Rattle.tb_replies.proofs.TotalLemmas.{one_answer, some_answer}
use Rattle.tb_session.specs.Answer.{RunOf, Replies, IsAnswer, command_lines}
use Rattle.tb_session.specs.Laws.{AskNoSeveral}

-- ---- commands

pub some_replies : (workers : ℕ) (s : Session) (lines : List (List ℕ)) → (out : List ℕ) × Replies workers s lines out
some_replies workers s [] = ([], (s, (refl, refl)))
some_replies workers s (line ∷ lines) =
    let first = some_answer workers s line in
    let rest = some_replies workers first.1 lines in
    (first.0 ++ rest.0, (rest.1.0, (first.0, first.1, rest.0, first.2, rest.1.1, refl)))

one_run : (workers : ℕ) (lines : List (List ℕ)) (s new other : Session) (out more : List ℕ) → AskNoSeveral workers lines → RunOf (Answers workers) s lines out new → RunOf (Answers workers) s lines more other → out ≡ more
one_run workers [] s new other out more few a b = a.0 ∙ sym b.0
one_run workers (line ∷ lines) s new other out more few a b =
    let first = one_answer workers s a.1 b.1 line a.0 b.0 few.0 a.3 b.3 in
    let rest = one_run workers lines b.1 new other a.2 b.2 few.1 (subst (λ mid. RunOf (Answers workers) mid lines a.2 new) first.1 a.4) b.4 in
    a.5 ∙ ap₂ (λ x y. x ++ y) first.0 rest ∙ sym b.5

pub one_text : (workers : ℕ) (s : Session) (lines : List (List ℕ)) (out more : List ℕ) → AskNoSeveral workers lines → Replies workers s lines out → Replies workers s lines more → out ≡ more
one_text workers s lines out more few a b = one_run workers lines s a.0 b.0 out more few a.1 b.1

-- ---- control arrives at one line

abbrev By : List Line → ℕ → ℕ → Option Line → Type 0
By lines n to None = to ≡ length lines
By lines n to (Some Passed) = Arrives lines (suc n) to
By lines n to (Some (Stands s)) = to ≡ n
By lines n to (Some Else) = Arrives lines (suc (end_of n (levels_behind lines n))) to
By lines n to (Some EndIf) = Arrives lines (suc n) to
By lines n to (Some (EndWhile from)) = to ≡ from

by_line : (lines : List Line) (n to : ℕ) → Arrives lines n to → By lines n to (slice_get lines n)
by_line lines n to (stands e) = subst (By lines n to) (sym e) refl
by_line lines n to (passed e rest) = subst (By lines n to) (sym e) rest
by_line lines n to (ended e rest) = subst (By lines n to) (sym e) rest
by_line lines n to (turned_over e rest) = subst (By lines n to) (sym e) rest
by_line lines n to (back e) = subst (By lines n to) (sym e) refl
by_line lines n to (outside h) = subst (By lines n to) (sym (slice_get_past lines n h)) refl

one_line : (lines : List Line) (n to other : ℕ) → Arrives lines n to → Arrives lines n other → to ≡ other
one_line lines n to other (stands e) b = sym (subst (By lines n other) e (by_line lines n other b))
one_line lines n to other (passed e rest) b = one_line lines (suc n) to other rest (subst (By lines n other) e (by_line lines n other b))
one_line lines n to other (ended e rest) b = one_line lines (suc n) to other rest (subst (By lines n other) e (by_line lines n other b))
one_line lines n to other (turned_over e rest) b = one_line lines (suc (end_of n (levels_behind lines n))) to other rest (subst (By lines n other) e (by_line lines n other b))
one_line lines n to other (back e) b = sym (subst (By lines n other) e (by_line lines n other b))
one_line lines n to other (outside h) b = sym (subst (By lines n other) (slice_get_past lines n h) (by_line lines n other b))

-- ---- so a text has one program

record SameWay (i j : Instr) : Type 0 where
  next : i.next ≡ j.next
  otherwise : i.otherwise ≡ j.otherwise

one_way : (lines : List Line) (n : ℕ) (i j : Instr) (s : Statement) → LeadsTo lines n i.next i.otherwise s → LeadsTo lines n j.next j.otherwise s → SameWay i j
one_way lines n i j End a b = record { next = a.0 ∙ sym b.0; otherwise = a.1 ∙ sym b.1 }
one_way lines n i j (Test c) a b = record { next = one_line lines _ i.next j.next a.0 b.0; otherwise = one_line lines _ i.otherwise j.otherwise a.1 b.1 }
one_way lines n i j _ a b =
    let next = one_line lines _ i.next j.next a.0 b.0 in
    record { next = next; otherwise = a.1 ∙ next ∙ sym b.1 }

one_instr : (lines : List Line) (n : ℕ) (i j : Instr) (l : Line) → IsInstrOf lines n i l → IsInstrOf lines n j l → i ≡ j
one_instr lines n i j (Stands s) a b =
    let way = one_way lines n i j s a.1 b.1 in
    ap₂ (λ (x : Statement) (k : ℕ). record { statement = x; next = k; otherwise = i.otherwise }) (a.0 ∙ sym b.0) way.next
    ∙ ap (λ (k : ℕ). record { statement = j.statement; next = j.next; otherwise = k }) way.otherwise
one_instr lines n i j _ a b = a ∙ sym b

as_many_lines : (texts : List (List ℕ)) (n : ℕ) → length (lines_until texts n) ≡ n
as_many_lines texts zero = refl
as_many_lines texts (suc n) = length-append (lines_until texts n) (line_at texts n ∷ []) ∙ ap (λ k. k + 1) (as_many_lines texts n) ∙ add-one n

one_program : (texts : List (List ℕ)) (P Q : Program) → IsProgramOf texts P → IsProgramOf texts Q → P ≡ Q
one_program texts P Q p q =
    let long : length (lines_in texts) ≡ length texts = as_many_lines texts (length texts) in
    let lines : P.lines ≡ Q.lines =
    ext_get_or no_instr P.lines Q.lines (p.count ∙ sym q.count) (λ n h.
    one_instr (lines_in texts) n _ _ _ (p.instrs n (omega (arith, h, p.count, long))) (q.instrs n (omega (arith, h, p.count, long)))) in
    ap₂ (λ cs bs. record P { cells = cs; bodies = bs }) (p.cells ∙ sym q.cells) (p.bodies ∙ sym q.bodies)
    ∙ ap₂ (λ ls r. record Q { lines = ls; root_line = r }) lines (p.root_line ∙ sym q.root_line)

pub one_answer_text : (workers limit : ℕ) (bytes out more : List ℕ) → AskNoSeveral workers (command_lines (lines_of bytes)) → IsAnswer workers limit bytes out → IsAnswer workers limit bytes more → out ≡ more
one_answer_text workers limit bytes out more few a b =
    let P = a.0 in
    let same = one_program _ P b.0 a.1.1 b.1.1 in
    one_text workers (opened b.0 limit 65) (command_lines (lines_of bytes)) out more few (subst (λ (x : Program). Replies workers (opened x limit 65) (command_lines (lines_of bytes)) out) same a.2) b.2
