-- What one accepted line does to the open blocks, and what its statement names.
use Rattle.std.proofs.Common.{◌≡◌, ℕ, ◌<◌, ◌≤◌, ◌-◌, ◌+◌, ◌==◌, ◌&&◌, ◌⊎◌, inl, inr, List, [], ◌∷◌, Bool, true, false, not, cond, nat_lt, nat_le, length, drop, Some, None, Option, arith, refl, ap, sym, ◌∙◌, unwrap_or, zero, suc, slice_get, ◌||◌, is_some}
use Rattle.std.specs.Prelude.{⊤}
use Rattle.std.specs.List.{find}
use Rattle.std.specs.Char.{is_ascii_digit}
use Rattle.std.proofs.lemmas.Bool.{and_parts, or_parts, leb-true, lt-ltb, ltb-false, not-false, false≢true, true≢false}
use Rattle.std.proofs.lemmas.List.{length-map, length-take}
use Rattle.tb_model.specs.declared.statement.Statement.{Statement}
use Rattle.tb_model.specs.declared.statement.Statement.TheVariants.{Start as DoStart, Let as DoLet, Compute as DoCompute, Load as DoLoad, Task as DoTask, Taskgroup as DoTaskgroup, EndTaskgroup as DoEndTaskgroup, Test as DoTest, End as DoEnd}
use Rattle.tb_model.specs.declared.operand.Operand.{Operand}
use Rattle.tb_model.specs.declared.operator.Operator.{Operator}
use Rattle.tb_read.specs.Text.{before_comment, line_words, is_text}
use Rattle.tb_read.specs.Word.{Word, register_of, word_at}
use Rattle.tb_read.specs.Grammar.{head_of}
use Rattle.tb_read.specs.Clauses.{args_of}
use Rattle.tb_read.specs.Context.{Context, Setting, after, is_open, is_turning, holds, by_number, nesting, fault_behind, fault_of, taken, is_second_cells}
use Rattle.tb_read.specs.Reading.{behind, line_fault}
use Rattle.tb_read.specs.Flow.{Line}
use Rattle.tb_read.specs.Flow.Line.{Passed, Stands, Else as Turns, EndIf, EndWhile}
use Rattle.tb_read.specs.Meaning.{register_at, operand_at, operator_at, line_of, task_of, end_of, line_by, line_in, line_with}
use Rattle.tb_read.specs.declared.heading.Heading.{Heading}
use Rattle.tb_read.specs.declared.fault.FaultKind.{FaultKind}
use Rattle.tb_read.specs.declared.fault.FaultKind.TheVariants.{Duplicate, Nesting, TooLarge, NotText, UnknownBody, Arity}
use Rattle.tb_read.specs.declared.head.Head.{Head}
use Rattle.tb_read.specs.declared.head.Head.TheVariants.{Cells, Cell, Body, End, Let, Load, Store, Print, Task, Taskwait, Taskgroup, If, Else, While}
use Rattle.tb_read.specs.declared.block.Block.{Block}
use Rattle.tb_read.specs.declared.block.Block.TheVariants.{Bodied, Tested, Turned, Looped, Grouped}

-- ---- registers and arguments

-- the number of a register, or 0 where a word is none
unwrapped_below : (t : Bool) (n : ℕ) → (t ≡ true → n < 16) → unwrap_or (cond t (Some n) None) 0 < 16
unwrapped_below true n below = below refl
unwrapped_below false n below = omega arith

one_digit : (r d : ℕ) → ((r == 114) && is_ascii_digit d) ≡ true → d - 48 < 16
one_digit r d e =
    let digit = and_parts (nat_le 48 d) (nat_le d 57) (and_parts (r == 114) (is_ascii_digit d) e).1 in
    omega (arith, leb-true d 57 digit.1)

two_digits : (r t d : ℕ) → ((r == 114) && ((t == 49) && (nat_le 48 d && nat_le d 53))) ≡ true → 10 + (d - 48) < 16
two_digits r t d e =
    let digits = and_parts (t == 49) (nat_le 48 d && nat_le d 53) (and_parts (r == 114) ((t == 49) && (nat_le 48 d && nat_le d 53)) e).1 in
    omega (arith, leb-true d 53 (and_parts (nat_le 48 d) (nat_le d 53) digits.1).1)

register_below : (word : Word) → unwrap_or (register_of word) 0 < 16
register_below [] = omega arith
register_below (r ∷ []) = omega arith
register_below (r ∷ d ∷ []) = unwrapped_below ((r == 114) && is_ascii_digit d) (d - 48) (one_digit r d)
register_below (r ∷ t ∷ d ∷ []) = unwrapped_below ((r == 114) && ((t == 49) && (nat_le 48 d && nat_le d 53))) (10 + (d - 48)) (two_digits r t d)
register_below (r ∷ t ∷ d ∷ e ∷ word) = omega arith

few_arguments : (words : List Word) → length (args_of words) ≤ 16
few_arguments words = simp (length-map, length-take) (omega arith)

-- ---- what an accepted line does

-- some block is open
abbrev pub has_open : List Block → Bool
has_open blocks = nat_lt 0 (length blocks)

-- a line that opens and closes no block
pub record Keeps (before after : List Block) : Type 0 where
  pub in_front : has_open before ≡ true
  pub same : after ≡ before

-- a line within others that opens this block
pub record Opens (block : Block) (before after : List Block) : Type 0 where
  pub in_front : has_open before ≡ true
  pub one_more : after ≡ block ∷ before

-- an `else`
pub record TurnsOver (before after : List Block) : Type 0 where
  pub others : List Block
  pub in_front : before ≡ Tested ∷ others
  pub behind : after ≡ Turned ∷ others

-- the blocks that are open in front of line n with this statement, and after it
abbrev pub NestsBy : ℕ → List Block → List Block → Statement → Type 0
NestsBy n before after DoStart = (before ≡ []) × (after ≡ Bodied n ∷ [])
NestsBy n before after DoTaskgroup = Opens Grouped before after
NestsBy n before after DoEndTaskgroup = before ≡ Grouped ∷ after
NestsBy n before after (DoTest c) = Opens Tested before after ⊎ Opens (Looped n) before after
NestsBy n before after DoEnd = (l : ℕ) × (before ≡ Bodied l ∷ after)
NestsBy n before after _ = Keeps before after

abbrev pub Nests : ℕ → List Block → List Block → Line → Type 0
Nests n before after Passed = after ≡ before
Nests n before after (Stands s) = NestsBy n before after s
Nests n before after Turns = TurnsOver before after
Nests n before after EndIf = (before ≡ Tested ∷ after) ⊎ (before ≡ Turned ∷ after)
Nests n before after (EndWhile from) = before ≡ Looped from ∷ after

-- the registers that a statement sets, the arguments of a task, and the line of its body
abbrev pub IsRightBy : (ℕ → Type 0) → Statement → Type 0
IsRightBy begun (DoLet r a) = r < 16
IsRightBy begun (DoCompute r a o b) = r < 16
IsRightBy begun (DoLoad r a) = r < 16
IsRightBy begun (DoTask line args depends c) = begun line × (length args ≤ 16)
IsRightBy begun _ = ⊤

abbrev pub IsRight : (ℕ → Type 0) → Line → Type 0
IsRight begun (Stands s) = IsRightBy begun s
IsRight begun _ = ⊤

-- line n nests and is right; a body begins at each line that is begun
pub record Fits (begun : ℕ → Type 0) (n : ℕ) (before after : List Block) (line : Line) : Type 0 where
  pub nests : Nests n before after line
  pub right : IsRight begun line

-- ---- faults that a line hasn't

-- a test that comes up finds its fault
not_found : (t : Bool) (found : FaultKind) (rest : Option FaultKind) → cond t (Some found) rest ≡ None → (t ≡ false) × (rest ≡ None)
not_found true found rest e = absurd cc
not_found false found rest e = (refl, e)

-- where no test of the list comes up, this one doesn't
none_holds : (test : FaultKind → Bool) (kinds : List FaultKind) → find test kinds ≡ None → (n : ℕ) (kind : FaultKind) → slice_get kinds n ≡ Some kind → test kind ≡ false
none_holds test [] e n kind at = absurd cc
none_holds test (first ∷ kinds) e zero kind at = let same : first ≡ kind = cc in ap test (sym same) ∙ (not_found (test first) first (find test kinds) e).0
none_holds test (first ∷ kinds) e (suc n) kind at = none_holds test kinds (not_found (test first) first (find test kinds) e).1 n kind at

-- an accepted line has no fault of the list
unfaulted : (here : Setting) (context : Context) (head : Head) (words : List Word) → fault_behind here context (Some head) words ≡ None →
    (n : ℕ) (kind : FaultKind) → slice_get by_number n ≡ Some kind → holds here context head words kind ≡ false
unfaulted here context head words e =
    none_holds (holds here context head words) by_number (not_found (is_second_cells context head) Duplicate (find (holds here context head words) by_number) e).1

-- the line is where its word may be
nested : (here : Setting) (context : Context) (head : Head) (words : List Word) → fault_behind here context (Some head) words ≡ None → nesting context head ≡ false
nested here context head words e = unfaulted here context head words e 6 Nesting refl

-- a statement is within a body
within_body : (here : Setting) (context : Context) (head : Head) (words : List Word) → nesting context head ≡ not (is_open context) → fault_behind here context (Some head) words ≡ None → is_open context ≡ true
within_body here context head words same e = not-false (is_open context) (sym same ∙ nested here context head words e)

-- ---- lines by their first words

pub none_open : (blocks : List Block) → has_open blocks ≡ false → blocks ≡ []
none_open [] h = refl
none_open (block ∷ blocks) h = absurd (true≢false (sym (lt-ltb 0 (suc (length blocks)) (omega arith)) ∙ h))

-- an `end` has a block to close
end_fits : (begun : ℕ → Type 0) (n : ℕ) (blocks : List Block) → has_open blocks ≡ true → Fits begun n blocks (drop 1 blocks) (end_of blocks)
end_fits begun n [] h = absurd (false≢true h)
end_fits begun n (Bodied line ∷ blocks) h = record { nests = (line, refl); right = tt }
end_fits begun n (Tested ∷ blocks) h = record { nests = inl refl; right = tt }
end_fits begun n (Turned ∷ blocks) h = record { nests = inr refl; right = tt }
end_fits begun n (Looped line ∷ blocks) h = record { nests = refl; right = tt }
end_fits begun n (Grouped ∷ blocks) h = record { nests = refl; right = tt }

-- an `else` has an `if` to turn
else_turns : (blocks : List Block) → is_turning blocks ≡ true → TurnsOver blocks (Turned ∷ drop 1 blocks)
else_turns [] h = absurd (false≢true h)
else_turns (Bodied line ∷ blocks) h = absurd (false≢true h)
else_turns (Tested ∷ blocks) h = record { others = blocks; in_front = refl; behind = refl }
else_turns (Turned ∷ blocks) h = absurd (false≢true h)
else_turns (Looped line ∷ blocks) h = absurd (false≢true h)
else_turns (Grouped ∷ blocks) h = absurd (false≢true h)

-- a `let` is a copy or a computation
let_fits : (begun : ℕ → Type 0) (n : ℕ) (t : Bool) (blocks : List Block) (r : ℕ) (a b : Operand) (o : Operator) → r < 16 → has_open blocks ≡ true →
    Fits begun n blocks blocks (Stands (cond t (DoLet r a) (DoCompute r a o b)))
let_fits begun n true blocks r a b o below h = record { nests = record { in_front = h; same = refl }; right = below }
let_fits begun n false blocks r a b o below h = record { nests = record { in_front = h; same = refl }; right = below }

-- a body begins at the line of each heading that is found
abbrev pub NamesBegun : (ℕ → Type 0) → Setting → Type 0
NamesBegun begun here = (name : Word) (h : Heading) → here.heading name ≡ Some h → begun (line_of (Some h))

-- a line is tested for its words where it is neither too long nor too far down, and text
tested_text : (long text : Bool) (found : Option FaultKind) → cond long (Some TooLarge) (cond (not text) (Some NotText) found) ≡ None → found ≡ None
tested_text long text found e = (not_found (not text) NotText found (not_found long TooLarge (cond (not text) (Some NotText) found) e).1).1

module _ (begun : ℕ → Type 0) (here : Setting) (context : Context) (named : NamesBegun begun here) where
  -- the body of an accepted task
  begun_by : (found : Option Heading) → ((h : Heading) → found ≡ Some h → begun (line_of (Some h))) → is_some found ≡ true → begun (line_of found)
  begun_by None begins there = absurd (false≢true there)
  begun_by (Some h) begins there = begins h refl

  task_right : (words : List Word) → fault_behind here context (Some Task) words ≡ None → IsRightBy begun (task_of here words)
  task_right [] e = absurd (true≢false (unfaulted here context Task [] e 5 Arity refl))
  task_right (name ∷ words) e =
      let there = not-false (is_some (here.heading name)) (unfaulted here context Task (name ∷ words) e 4 UnknownBody refl) in
      (begun_by (here.heading name) (named name) there, few_arguments words)

  -- a statement that opens and closes no block
  kept : (head : Head) (words : List Word) → nesting context head ≡ not (is_open context) → fault_behind here context (Some head) words ≡ None → Keeps context.open_blocks context.open_blocks
  kept head words same e = record { in_front = within_body here context head words same e; same = refl }

  head_fits : (head : Option Head) (words : List Word) → fault_behind here context head words ≡ None →
      Fits begun here.line context.open_blocks (taken here.line context head words).open_blocks (line_by here context head words)
  head_fits None words e = absurd cc
  head_fits (Some Cells) words e = record { nests = refl; right = tt }
  head_fits (Some Cell) words e = record { nests = refl; right = tt }
  head_fits (Some Body) words e =
      let none = none_open context.open_blocks (nested here context Body words e) in
      record { nests = (none, ap (λ blocks. Bodied here.line ∷ blocks) none); right = tt }
  head_fits (Some End) words e = end_fits begun here.line context.open_blocks (within_body here context End words refl e)
  head_fits (Some Let) words e =
      let_fits begun here.line (length words == 2) context.open_blocks (register_at words 0) (operand_at words 1) (operand_at words 3) (operator_at words 2) (register_below (word_at words 0)) (within_body here context Let words refl e)
  head_fits (Some Load) words e = record { nests = kept Load words refl e; right = register_below (word_at words 0) }
  head_fits (Some Store) words e = record { nests = kept Store words refl e; right = tt }
  head_fits (Some Print) words e = record { nests = kept Print words refl e; right = tt }
  head_fits (Some Task) words e = task_fits words (kept Task words refl e) (task_right words e)
    where
      task_fits : (words : List Word) → Keeps context.open_blocks context.open_blocks → IsRightBy begun (task_of here words) → Fits begun here.line context.open_blocks context.open_blocks (Stands (task_of here words))
      task_fits [] k r = record { nests = k; right = r }
      task_fits (name ∷ words) k r = record { nests = k; right = r }
  head_fits (Some Taskwait) words e = record { nests = kept Taskwait words refl e; right = tt }
  head_fits (Some Taskgroup) words e = record { nests = record { in_front = within_body here context Taskgroup words refl e; one_more = refl }; right = tt }
  head_fits (Some If) words e = record { nests = inl (record { in_front = within_body here context If words refl e; one_more = refl }); right = tt }
  head_fits (Some Else) words e = record { nests = else_turns context.open_blocks (not-false (is_turning context.open_blocks) (nested here context Else words e)); right = tt }
  head_fits (Some While) words e = record { nests = inr (record { in_front = within_body here context While words refl e; one_more = refl }); right = tt }

  words_fit : (words : List Word) → fault_of here context words ≡ None →
      Fits begun here.line context.open_blocks (after here.line context words).open_blocks (line_in here context words)
  words_fit [] e = record { nests = refl; right = tt }
  words_fit (word ∷ words) e = head_fits (head_of word) words e

  -- an accepted line, or the end of the text
  pub line_fits : (text : Option (List ℕ)) → line_fault here context text ≡ None →
      Fits begun here.line context.open_blocks (behind here.line text context).open_blocks (line_with here context text)
  line_fits None e = record { nests = refl; right = tt }
  line_fits (Some line) e =
      words_fit (line_words line) (tested_text (nat_lt 1024 (length line) || nat_lt 65536 here.line) (is_text (before_comment line)) (fault_of here context (line_words line)) e)

-- a line that isn't too far down
pub line_below : (here : Setting) (context : Context) (line : List ℕ) → line_fault here context (Some line) ≡ None → here.line ≤ 65536
line_below here context line e =
    let fits = not_found (nat_lt 1024 (length line) || nat_lt 65536 here.line) TooLarge (cond (not (is_text (before_comment line))) (Some NotText) (fault_of here context (line_words line))) e in
    ltb-false 65536 here.line (or_parts (nat_lt 1024 (length line)) (nat_lt 65536 here.line) fits.0).1
