-- Control stays within a body, and within its groups.
use Rattle.std.proofs.Common.{◌≡◌, ℕ, zero, suc, ◌<◌, ◌≤◌, ◌+◌, ◌-◌, ◌⊎◌, inl, inr, List, [], ◌∷◌, true, false, drop, length, Some, None, Option, arith, refl, ap, sym, ◌∙◌, subst}
use Rattle.std.specs.Prelude.{⊤}
use Rattle.std.proofs.lemmas.Bool.{false≢true, cases_lt}
use Rattle.std.proofs.lemmas.List.{drop_all}
use Rattle.tb_model.specs.declared.condition.Condition.{Condition}
use Rattle.tb_model.specs.declared.statement.Statement.{Statement}
use Rattle.tb_model.specs.declared.statement.Statement.TheVariants.{Start as DoStart, Taskgroup as DoTaskgroup, EndTaskgroup as DoEndTaskgroup, Test as DoTest, End as DoEnd}
use Rattle.tb_model.specs.WellFormed.{is_begin}
use Rattle.tb_read.specs.Reading.{IsAccepted}
use Rattle.tb_read.specs.Flow.{Line, Arrives, closed, turned, levels_by, levels_over, levels, levels_behind, end_of, turn_of}
use Rattle.tb_read.specs.Flow.Line.{Passed, Stands, Else, EndIf, EndWhile}
use Rattle.tb_read.specs.Flow.Arrives.{stands, passed, ended, turned_over, back, outside}
use Rattle.tb_read.specs.Meaning.{line_at, lines_in}
use Rattle.tb_read.specs.declared.level.Level.{Level}
use Rattle.tb_read.specs.declared.block.Block.{Block}
use Rattle.tb_read.specs.declared.block.Block.TheVariants.{Bodied, Tested, Turned, Looped, Grouped}
use Rattle.tb_read.proofs.NestingLemmas.{has_open, TurnsOver, NestsBy, Nests}
use Rattle.tb_read.proofs.ReadLemmas.{lines_length}
use Rattle.tb_read.proofs.BodyLemmas.{drop_at, until_at, listed, blocks_at, IsLine, Begun, none_past, line_is}

-- ---- open blocks

-- the groups among the blocks
abbrev pub groups_in : List Block → ℕ
groups_in [] = 0
groups_in (Grouped ∷ blocks) = suc (groups_in blocks)
groups_in (_ ∷ blocks) = groups_in blocks

-- the line of the body around an index
abbrev pub body_of : List Block → Option ℕ
body_of [] = None
body_of (Bodied line ∷ blocks) = Some line
body_of (_ ∷ blocks) = body_of blocks

-- two indexes in the same body, with as many groups open
pub record SameBody (here there : List Block) : Type 0 where
  pub groups : groups_in there ≡ groups_in here
  pub body : body_of there ≡ body_of here

same_blocks : (here there : List Block) → there ≡ here → SameBody here there
same_blocks here there e = record { groups = ap groups_in e; body = ap body_of e }

-- a line at which a task can be, of this body, with so many groups open
pub record Standing (texts : List (List ℕ)) (groups body line : ℕ) : Type 0 where
  pub statement : Statement
  pub is_line : IsLine texts line (Stands statement)
  pub inside : is_begin statement ≡ false
  pub groups_open : groups_in (blocks_at texts line) ≡ groups
  pub same_body : body_of (blocks_at texts line) ≡ Some body

-- each open body began at its line, with nothing open; each open `while` has a test at its line, with the blocks around it open
abbrev pub Traced : List (List ℕ) → List Block → Type 0
Traced texts [] = ⊤
Traced texts (Bodied line ∷ blocks) = Begun texts line × (blocks ≡ [])
Traced texts (Looped line ∷ blocks) = ((c : Condition) × IsLine texts line (Stands (DoTest c))) × (blocks_at texts line ≡ blocks) × (has_open blocks ≡ true) × Traced texts blocks
Traced texts (_ ∷ blocks) = (has_open blocks ≡ true) × Traced texts blocks

-- blocks that are open lie in a body
pub lies_in : (texts : List (List ℕ)) (blocks : List Block) → Traced texts blocks → has_open blocks ≡ true → (line : ℕ) × (body_of blocks ≡ Some line)
lies_in texts [] t h = absurd (false≢true h)
lies_in texts (Bodied line ∷ blocks) t h = (line, refl)
lies_in texts (Tested ∷ blocks) t h = lies_in texts blocks t.1 t.0
lies_in texts (Turned ∷ blocks) t h = lies_in texts blocks t.1 t.0
lies_in texts (Looped line ∷ blocks) t h = lies_in texts blocks t.3 t.2
lies_in texts (Grouped ∷ blocks) t h = lies_in texts blocks t.1 t.0

-- after one line more
traced_by : (texts : List (List ℕ)) (n : ℕ) (after : List Block) (s : Statement) → IsLine texts n (Stands s) → Traced texts (blocks_at texts n) → NestsBy n (blocks_at texts n) after s → Traced texts after
traced_by texts n after DoStart is t nests = subst (Traced texts) (sym nests.1) (is, refl)
traced_by texts n after DoTaskgroup is t nests = subst (Traced texts) (sym nests.one_more) (nests.in_front, t)
traced_by texts n after DoEndTaskgroup is t nests = (subst (Traced texts) nests t).1
traced_by texts n after (DoTest c) is t (inl nests) = subst (Traced texts) (sym nests.one_more) (nests.in_front, t)
traced_by texts n after (DoTest c) is t (inr nests) = subst (Traced texts) (sym nests.one_more) ((c, is), refl, nests.in_front, t)
traced_by texts n after DoEnd is t nests = subst (Traced texts) (sym (subst (Traced texts) nests.1 t).1) tt
traced_by texts n after s is t nests = subst (Traced texts) (sym nests.same) t

traced_behind : (texts : List (List ℕ)) (n : ℕ) (after : List Block) (line : Line) → IsLine texts n line → Traced texts (blocks_at texts n) → Nests n (blocks_at texts n) after line → Traced texts after
traced_behind texts n after Passed is t nests = subst (Traced texts) (sym nests) t
traced_behind texts n after (Stands s) is t nests = traced_by texts n after s is t nests
traced_behind texts n after Else is t nests = subst (Traced texts) (sym nests.behind) (subst (Traced texts) nests.in_front t)
traced_behind texts n after EndIf is t (inl nests) = (subst (Traced texts) nests t).1
traced_behind texts n after EndIf is t (inr nests) = (subst (Traced texts) nests t).1
traced_behind texts n after (EndWhile from) is t nests = (subst (Traced texts) nests t).3

-- ---- blocks read from below

-- after its turn a block is closed, or has turned
abbrev TurnsTo : List (List ℕ) → ℕ → List Block → Type 0
TurnsTo texts turn blocks = (blocks_at texts (suc turn) ≡ blocks) ⊎ (blocks_at texts (suc turn) ≡ Turned ∷ blocks)

-- after the end of each level its block is closed, and no other one
abbrev Closed : List (List ℕ) → List Level → List Block → Type 0
Closed texts [] blocks = ⊤
Closed texts (level ∷ levels) blocks = (blocks_at texts (suc level.end) ≡ drop 1 blocks) × TurnsTo texts level.turn (drop 1 blocks) × Closed texts levels (drop 1 blocks)

opening : (texts : List (List ℕ)) (block : Block) (before after : List Block) (levels : List Level) → after ≡ block ∷ before → Closed texts levels after → Closed texts (drop 1 levels) before
opening texts block before after [] e h = tt
opening texts block before after (level ∷ levels) e h = subst (λ blocks. Closed texts levels (drop 1 blocks)) e h.2

closing : (texts : List (List ℕ)) (n : ℕ) (block : Block) (before : List Block) (levels : List Level) → before ≡ block ∷ blocks_at texts (suc n) → Closed texts levels (blocks_at texts (suc n)) → Closed texts (closed n ∷ levels) before
closing texts n block before levels e h =
    let same : drop 1 before ≡ blocks_at texts (suc n) = ap (drop 1) e in
    (sym same, inl (sym same), subst (Closed texts levels) (sym same) h)

turning : (texts : List (List ℕ)) (n : ℕ) (before : List Block) (levels : List Level) → TurnsOver before (blocks_at texts (suc n)) → Closed texts levels (blocks_at texts (suc n)) → Closed texts (turned n levels) before
turning texts n before [] over h = tt
turning texts n before (level ∷ levels) over h =
    let front : drop 1 before ≡ over.others = ap (drop 1) over.in_front in
    let same : drop 1 (blocks_at texts (suc n)) ≡ drop 1 before = ap (drop 1) over.behind ∙ sym front in
    (h.0 ∙ same, inr (over.behind ∙ ap (λ blocks. Turned ∷ blocks) (sym front)), subst (Closed texts levels) same h.2)

-- in front of a line, from after it
closed_by : (texts : List (List ℕ)) (n : ℕ) (before : List Block) (s : Statement) (levels : List Level) → NestsBy n before (blocks_at texts (suc n)) s → Closed texts levels (blocks_at texts (suc n)) → Closed texts (levels_by n s levels) before
closed_by texts n before DoStart levels nests h = opening texts (Bodied n) before _ levels (nests.1 ∙ ap (λ blocks. Bodied n ∷ blocks) (sym nests.0)) h
closed_by texts n before DoTaskgroup levels nests h = opening texts Grouped before _ levels nests.one_more h
closed_by texts n before DoEndTaskgroup levels nests h = closing texts n Grouped before levels nests h
closed_by texts n before (DoTest c) levels (inl nests) h = opening texts Tested before _ levels nests.one_more h
closed_by texts n before (DoTest c) levels (inr nests) h = opening texts (Looped n) before _ levels nests.one_more h
closed_by texts n before DoEnd levels nests h = closing texts n (Bodied nests.0) before levels nests.1 h
closed_by texts n before s levels nests h = subst (Closed texts levels) nests.same h

closed_before : (texts : List (List ℕ)) (n : ℕ) (before : List Block) (line : Line) (levels : List Level) → Nests n before (blocks_at texts (suc n)) line → Closed texts levels (blocks_at texts (suc n)) → Closed texts (levels_over n line levels) before
closed_before texts n before Passed levels nests h = subst (Closed texts levels) nests h
closed_before texts n before (Stands s) levels nests h = closed_by texts n before s levels nests h
closed_before texts n before Else levels nests h = turning texts n before levels nests h
closed_before texts n before EndIf levels (inl nests) h = closing texts n Tested before levels nests h
closed_before texts n before EndIf levels (inr nests) h = closing texts n Turned before levels nests h
closed_before texts n before (EndWhile from) levels nests h = closing texts n (Looped from) before levels nests h

-- after the end of an `else`'s `if` the same body is open
end_same : (texts : List (List ℕ)) (n : ℕ) (others : List Block) (levels : List Level) → blocks_at texts (suc n) ≡ Turned ∷ others → Closed texts levels (blocks_at texts (suc n)) →
    SameBody others (blocks_at texts (suc (end_of n levels)))
end_same texts n others [] e h = record { groups = ap groups_in e; body = ap body_of e }
end_same texts n others (level ∷ levels) e h = same_blocks others _ (h.0 ∙ ap (drop 1) e)

-- where a test turns, too
pub turn_same : (texts : List (List ℕ)) (n : ℕ) (block : Block) (others : List Block) (levels : List Level) → SameBody others (block ∷ others) → blocks_at texts (suc n) ≡ block ∷ others → Closed texts levels (blocks_at texts (suc n)) →
    SameBody others (blocks_at texts (suc (turn_of n levels)))
turn_same texts n block others [] same e h = record { groups = ap groups_in e ∙ same.groups; body = ap body_of e ∙ same.body }
turn_same texts n block others (level ∷ levels) same e h = by_turn h.1
  where
    by_turn : TurnsTo texts level.turn (drop 1 (blocks_at texts (suc n))) → SameBody others (blocks_at texts (suc level.turn))
    by_turn (inl over) = same_blocks others _ (over ∙ ap (drop 1) e)
    by_turn (inr over) =
        let to : blocks_at texts (suc level.turn) ≡ Turned ∷ others = over ∙ ap (λ blocks. Turned ∷ drop 1 blocks) e in
        record { groups = ap groups_in to; body = ap body_of to }

-- ---- where control is

-- after an `if` the same body is open
end_if_same : (before after : List Block) → (before ≡ Tested ∷ after) ⊎ (before ≡ Turned ∷ after) → SameBody before after
end_if_same before after (inl e) = record { groups = sym (ap groups_in e); body = sym (ap body_of e) }
end_if_same before after (inr e) = record { groups = sym (ap groups_in e); body = sym (ap body_of e) }

-- no body begins within a body
not_begin : (n : ℕ) (before after : List Block) (s : Statement) (body : ℕ) → NestsBy n before after s → body_of before ≡ Some body → is_begin s ≡ false
not_begin n before after DoStart body nests b = let none : body_of before ≡ None = ap body_of nests.0 in absurd cc
not_begin n before after s body nests b = refl

module _ (texts : List (List ℕ)) (accepted : IsAccepted texts) where
  -- what is open in front of each line
  pub traced : (n : ℕ) → Traced texts (blocks_at texts n)
  traced zero = tt
  traced (suc n) = by_order (traced n) (cases_lt n (length texts))
    where
      by_order : Traced texts (blocks_at texts n) → (n < length texts) ⊎ (length texts ≤ n) → Traced texts (blocks_at texts (suc n))
      by_order before (inl within) =
          let is : IsLine texts n (line_at texts n) = record { within = within; here = refl } in
          traced_behind texts n (blocks_at texts (suc n)) (line_at texts n) is before (line_is texts accepted n (line_at texts n) is).nests
      by_order before (inr past) = subst (Traced texts) (sym (none_past texts accepted (suc n) (omega arith))) tt

  -- at the end of the text there are no levels
  closed_past : (n : ℕ) → length texts ≤ n → Closed texts (levels n (drop n (lines_in texts))) (blocks_at texts n)
  closed_past n past =
      let none : drop n (lines_in texts) ≡ [] = drop_all n (lines_in texts) (omega (arith, lines_length texts (length texts))) in
      subst (λ lines. Closed texts (levels n lines) (blocks_at texts n)) (sym none) tt

  closed_from : (count n : ℕ) → count + n ≡ length texts → Closed texts (levels n (drop n (lines_in texts))) (blocks_at texts n)
  closed_from zero n e = closed_past n (omega arith)
  closed_from (suc count) n e =
      let within : n < length texts = omega arith in
      let is : IsLine texts n (line_at texts n) = record { within = within; here = refl } in
      let first = drop_at (lines_in texts) n (line_at texts n) (until_at texts (length texts) n within) in
      let over = closed_before texts n (blocks_at texts n) (line_at texts n) (levels_behind (lines_in texts) n) (line_is texts accepted n (line_at texts n) is).nests (closed_from count (suc n) (omega arith)) in
      subst (λ lines. Closed texts (levels n lines) (blocks_at texts n)) (sym first) over

  -- what the lines after line n say of the blocks that are open there
  pub closed_behind : (n : ℕ) → Closed texts (levels_behind (lines_in texts) n) (blocks_at texts (suc n))
  closed_behind n = by_order (cases_lt n (length texts))
    where
      by_order : (n < length texts) ⊎ (length texts ≤ n) → Closed texts (levels_behind (lines_in texts) n) (blocks_at texts (suc n))
      by_order (inl within) = closed_from (length texts - suc n) (suc n) (omega arith)
      by_order (inr past) = closed_past (suc n) (omega arith)

  -- control that comes to a line within a body is in that body, with as many groups open
  pub arrives : (n to groups body : ℕ) → groups_in (blocks_at texts n) ≡ groups → body_of (blocks_at texts n) ≡ Some body → Arrives (lines_in texts) n to → Standing texts groups body to
  arrives n to groups body g b (stands {s = s} e) =
      let found = listed texts n (Stands s) e in
      let is : IsLine texts n (Stands s) = record { within = found.0; here = found.1 } in
      record { statement = s; is_line = is; inside = not_begin n _ _ s body (line_is texts accepted n (Stands s) is).nests b; groups_open = g; same_body = b }
  arrives n to groups body g b (passed e more) =
      let found = listed texts n Passed e in
      let kept = (line_is texts accepted n Passed (record { within = found.0; here = found.1 })).nests in
      arrives (suc n) to groups body (ap groups_in kept ∙ g) (ap body_of kept ∙ b) more
  arrives n to groups body g b (ended e more) =
      let found = listed texts n EndIf e in
      let same = end_if_same _ _ (line_is texts accepted n EndIf (record { within = found.0; here = found.1 })).nests in
      arrives (suc n) to groups body (same.groups ∙ g) (same.body ∙ b) more
  arrives n to groups body g b (turned_over e more) =
      let found = listed texts n Else e in
      let over = (line_is texts accepted n Else (record { within = found.0; here = found.1 })).nests in
      let same = end_same texts n over.others (levels_behind (lines_in texts) n) over.behind (closed_behind n) in
      arrives _ to groups body (same.groups ∙ sym (ap groups_in over.in_front) ∙ g) (same.body ∙ sym (ap body_of over.in_front) ∙ b) more
  arrives n to groups body g b (back {from = from} e) =
      let found = listed texts n (EndWhile from) e in
      let loops = (line_is texts accepted n (EndWhile from) (record { within = found.0; here = found.1 })).nests in
      let begun = subst (Traced texts) loops (traced n) in
      record { statement = DoTest begun.0.0; is_line = begun.0.1; inside = refl; groups_open = ap groups_in begun.1 ∙ sym (ap groups_in loops) ∙ g; same_body = ap body_of begun.1 ∙ sym (ap body_of loops) ∙ b }
  arrives n to groups body g b (outside past) =
      let none : body_of (blocks_at texts n) ≡ None = ap body_of (none_past texts accepted n (omega (arith, past, lines_length texts (length texts)))) in
      absurd cc
