-- An accepted program is well formed: control stays between a body's heading and its end.
use Rattle.std.proofs.Common.{◌≡◌, ℕ, suc, ◌<◌, ◌≤◌, ◌⊎◌, inl, inr, List, ◌∷◌, true, false, length, Some, arith, refl, ap, sym, ◌∙◌, subst, unwrap_or}
use Rattle.std.proofs.lemmas.Bool.{false≢true, cases_lt}
use Rattle.std.proofs.lemmas.List.{get_or_past}
use Rattle.tb_model.specs.declared.statement.Statement.{Statement}
use Rattle.tb_model.specs.declared.statement.Statement.TheVariants.{Start as DoStart, Let as DoLet, Compute as DoCompute, Load as DoLoad, Store as DoStore, Print as DoPrint, Task as DoTask, Taskwait as DoTaskwait, Taskgroup as DoTaskgroup, EndTaskgroup as DoEndTaskgroup, Test as DoTest, End as DoEnd}
use Rattle.tb_model.specs.Program.{Program, Instr, instr_at, no_instr}
use Rattle.tb_model.specs.WellFormed.{is_begin, Begins, Inside, WellAt, WellFormed}
use Rattle.tb_read.specs.Reading.{IsAccepted}
use Rattle.tb_read.specs.Flow.{Line, Arrives, LeadsTo, levels_behind, turn_of}
use Rattle.tb_read.specs.Flow.Line.{Passed, Stands}
use Rattle.tb_read.specs.Meaning.{line_at, lines_in, IsInstrOf, IsProgramOf, IsPosition}
use Rattle.tb_read.specs.Followed.{is_last, IsFollowed}
use Rattle.tb_read.specs.declared.block.Block.{Block}
use Rattle.tb_read.specs.declared.block.Block.TheVariants.{Tested, Looped}
use Rattle.tb_read.proofs.ListLemmas.{get_or_of_get}
use Rattle.tb_read.proofs.ReadLemmas.{lines_length}
use Rattle.tb_read.proofs.NestingLemmas.{Opens, NestsBy, IsRightBy}
use Rattle.tb_read.proofs.BodyLemmas.{until_at, blocks_at, IsLine, Begun, main_begun, line_is}
use Rattle.tb_read.proofs.FlowLemmas.{groups_in, body_of, SameBody, Standing, Traced, lies_in, turn_same, traced, closed_behind, arrives}

-- ---- where a statement leads

-- the groups that are open where it is, and where it leads
abbrev GroupsBehind : Statement → ℕ → ℕ → Type 0
GroupsBehind DoStart here there = there ≡ 0
GroupsBehind DoTaskgroup here there = there ≡ suc here
GroupsBehind DoEndTaskgroup here there = here ≡ suc there
GroupsBehind _ here there = there ≡ here

-- the line that begins the body around line n, or n itself
abbrev body_around : List (List ℕ) → ℕ → ℕ
body_around texts n = unwrap_or (body_of (blocks_at texts n)) n

-- how many groups are open in front of line n
abbrev depth_at : List (List ℕ) → ℕ → ℕ
depth_at texts n = groups_in (blocks_at texts n)

-- the lines that follow the statement of line n are in its body
pub record GoesOn (texts : List (List ℕ)) (n next otherwise : ℕ) (s : Statement) : Type 0 where
  pub body : ℕ
  pub own_body : body_around texts n ≡ body
  pub groups : ℕ
  pub groups_behind : GroupsBehind s (depth_at texts n) groups
  pub next_stands : Standing texts groups body next
  pub otherwise_stands : Standing texts groups body otherwise

module _ (texts : List (List ℕ)) (accepted : IsAccepted texts) (n next otherwise : ℕ) where
  -- one way on
  one_way : (s : Statement) (groups body : ℕ) → body_around texts n ≡ body → GroupsBehind s (depth_at texts n) groups → depth_at texts (suc n) ≡ groups → body_of (blocks_at texts (suc n)) ≡ Some body →
      Arrives (lines_in texts) (suc n) next × (otherwise ≡ next) → GoesOn texts n next otherwise s
  one_way s groups body own behind g b leads =
      let on = arrives texts accepted (suc n) next groups body g b leads.0 in
      record { body = body; own_body = own; groups = groups; groups_behind = behind; next_stands = on; otherwise_stands = subst (Standing texts groups body) (sym leads.1) on }

  -- a test goes on in its block, or where the block turns
  two_ways : (s : Statement) (block : Block) → Opens block (blocks_at texts n) (blocks_at texts (suc n)) → SameBody (blocks_at texts n) (block ∷ blocks_at texts n) → GroupsBehind s (depth_at texts n) (depth_at texts n) →
      Arrives (lines_in texts) (suc n) next × Arrives (lines_in texts) (suc (turn_of n (levels_behind (lines_in texts) n))) otherwise → GoesOn texts n next otherwise s
  two_ways s block opens same behind leads =
      let around = lies_in texts (blocks_at texts n) (traced texts accepted n) opens.in_front in
      let turns = turn_same texts n block (blocks_at texts n) (levels_behind (lines_in texts) n) same opens.one_more (closed_behind texts accepted n) in
      record {
        body = around.0;
        own_body = ap (λ o. unwrap_or o n) around.1;
        groups = depth_at texts n;
        groups_behind = behind;
        next_stands = arrives texts accepted (suc n) next _ around.0 (ap groups_in opens.one_more ∙ same.groups) (ap body_of opens.one_more ∙ same.body ∙ around.1) leads.0;
        otherwise_stands = arrives texts accepted _ otherwise _ around.0 turns.groups (turns.body ∙ around.1) leads.1;
      }

  goes_on : (s : Statement) → is_last s ≡ false → NestsBy n (blocks_at texts n) (blocks_at texts (suc n)) s → LeadsTo (lines_in texts) n next otherwise s → GoesOn texts n next otherwise s
  goes_on DoStart more nests leads =
      one_way DoStart 0 n (ap (λ blocks. unwrap_or (body_of blocks) n) nests.0) refl (ap groups_in nests.1) (ap body_of nests.1) leads
  goes_on DoTaskgroup more nests leads =
      let around = lies_in texts (blocks_at texts n) (traced texts accepted n) nests.in_front in
      one_way DoTaskgroup (suc (depth_at texts n)) around.0 (ap (λ o. unwrap_or o n) around.1) refl (ap groups_in nests.one_more) (ap body_of nests.one_more ∙ around.1) leads
  goes_on DoEndTaskgroup more nests leads =
      let outer = subst (Traced texts) nests (traced texts accepted n) in
      let around = lies_in texts (blocks_at texts (suc n)) outer.1 outer.0 in
      one_way DoEndTaskgroup (depth_at texts (suc n)) around.0 (ap (λ blocks. unwrap_or (body_of blocks) n) nests ∙ ap (λ o. unwrap_or o n) around.1) (ap groups_in nests) refl around.1 leads
  goes_on (DoTest c) more (inl nests) leads = two_ways (DoTest c) Tested nests (record { groups = refl; body = refl }) refl leads
  goes_on (DoTest c) more (inr nests) leads = two_ways (DoTest c) (Looped n) nests (record { groups = refl; body = refl }) refl leads
  goes_on DoEnd more nests leads = absurd (false≢true (sym more))
  goes_on s more nests leads =
      let around = lies_in texts (blocks_at texts n) (traced texts accepted n) nests.in_front in
      one_way s (depth_at texts n) around.0 (ap (λ o. unwrap_or o n) around.1) refl (ap groups_in nests.same) (ap body_of nests.same ∙ around.1) leads

-- ---- the program

-- what a line's instruction says where a task can be at the line
pub record Instructs (lines : List Line) (n : ℕ) (i : Instr) (s : Statement) : Type 0 where
  pub same : i.statement ≡ s
  pub leads : LeadsTo lines n i.next i.otherwise s

-- the instruction of a line at which a task can be isn't that of a line that is missing
is_instr : (lines : List Line) (n : ℕ) (i : Instr) (s : Statement) → Instructs lines n i s → i ≡ no_instr → ⊥
is_instr lines n i DoEnd instructs none = let nowhere : i.next ≡ 0 = ap (λ (j : Instr). j.next) none in omega (arith, instructs.leads.0)
is_instr lines n i s instructs none = false≢true (ap is_last (sym instructs.same) ∙ ap (λ (j : Instr). is_last j.statement) none)

-- a line of the program, with a statement or without one
abbrev Listed : List (List ℕ) → Program → ℕ → Type 0
Listed texts P n = (instr_at P n ≡ no_instr) ⊎ ((s : Statement) × IsLine texts n (Stands s) × Instructs (lines_in texts) n (instr_at P n) s)

module _ (texts : List (List ℕ)) (P : Program) (accepted : IsAccepted texts) (means : IsProgramOf texts P) where
  -- the instruction of each line is its statement's
  instr_of : (n : ℕ) → n < length texts → IsInstrOf (lines_in texts) n (instr_at P n) (line_at texts n)
  instr_of n within =
      let same = get_or_of_get (lines_in texts) n Passed (line_at texts n) (until_at texts (length texts) n within) in
      subst (IsInstrOf (lines_in texts) n (instr_at P n)) same (means.instrs n (omega (arith, lines_length texts (length texts))))

  instructs : (n : ℕ) (s : Statement) → IsLine texts n (Stands s) → Instructs (lines_in texts) n (instr_at P n) s
  instructs n s is =
      let i = subst (IsInstrOf (lines_in texts) n (instr_at P n)) is.here (instr_of n is.within) in
      record { same = i.0; leads = i.1 }

  listed_at : (n : ℕ) → Listed texts P n
  listed_at n = by_place (cases_lt n (length texts))
    where
      by_line : (line : Line) → IsLine texts n line → Listed texts P n
      by_line (Stands s) is = inr (s, is, instructs n s is)
      by_line line is = inl (subst (IsInstrOf (lines_in texts) n (instr_at P n)) is.here (instr_of n is.within))

      by_place : (n < length texts) ⊎ (length texts ≤ n) → Listed texts P n
      by_place (inl within) = by_line (line_at texts n) (record { within = within; here = refl })
      by_place (inr past) = inl (get_or_past P.lines n no_instr (omega (arith, means.count)))

  -- control goes from a statement to one of the same body
  on_from : (n : ℕ) (s : Statement) → IsLine texts n (Stands s) → is_last s ≡ false → GoesOn texts n (instr_at P n).next (instr_at P n).otherwise s
  on_from n s is more = goes_on texts accepted n _ _ s more (line_is texts accepted n (Stands s) is).nests (instructs n s is).leads

  -- a line with a statement is one at which a task can be
  position : (n : ℕ) (s : Statement) → IsLine texts n (Stands s) → IsPosition P n
  position n s is none = is_instr (lines_in texts) n (instr_at P n) s (instructs n s is) none

  begins : (n : ℕ) → Begun texts n → Begins P n
  begins n is = ap is_begin (instructs n DoStart is).same

  -- what follows lies within a body
  inside : (groups body line : ℕ) → Standing texts groups body line → Inside P (depth_at texts) groups line
  inside groups body line on = record { groups_open = on.groups_open; within = ap is_begin (instructs line on.statement on.is_line).same ∙ on.inside }

  inside_next : (n next otherwise groups : ℕ) (s : Statement) (on : GoesOn texts n next otherwise s) → on.groups ≡ groups → Inside P (depth_at texts) groups next
  inside_next n next otherwise groups s on e = subst (λ g. Inside P (depth_at texts) g next) e (inside on.groups on.body next on.next_stands)

  inside_otherwise : (n next otherwise groups : ℕ) (s : Statement) (on : GoesOn texts n next otherwise s) → on.groups ≡ groups → Inside P (depth_at texts) groups otherwise
  inside_otherwise n next otherwise groups s on e = subst (λ g. Inside P (depth_at texts) g otherwise) e (inside on.groups on.body otherwise on.otherwise_stands)

  -- a statement that leads to lines within its body is well placed
  well_at : (n next otherwise : ℕ) (s : Statement) → IsRightBy (Begun texts) s → (is_last s ≡ false → GoesOn texts n next otherwise s) → WellAt P (depth_at texts) (depth_at texts n) next otherwise s
  well_at n next otherwise DoStart right on = inside_next n next otherwise _ _ (on refl) (on refl).groups_behind
  well_at n next otherwise (DoLet r a) right on = (right, inside_next n next otherwise _ _ (on refl) (on refl).groups_behind)
  well_at n next otherwise (DoCompute r a o b) right on = (right, inside_next n next otherwise _ _ (on refl) (on refl).groups_behind)
  well_at n next otherwise (DoLoad r a) right on = (right, inside_next n next otherwise _ _ (on refl) (on refl).groups_behind)
  well_at n next otherwise (DoStore a b) right on = inside_next n next otherwise _ _ (on refl) (on refl).groups_behind
  well_at n next otherwise (DoPrint a) right on = inside_next n next otherwise _ _ (on refl) (on refl).groups_behind
  well_at n next otherwise (DoTask line args depends c) right on = (begins line right.0, right.1, inside_next n next otherwise _ _ (on refl) (on refl).groups_behind)
  well_at n next otherwise (DoTaskwait depends) right on = inside_next n next otherwise _ _ (on refl) (on refl).groups_behind
  well_at n next otherwise DoTaskgroup right on = inside_next n next otherwise _ _ (on refl) (on refl).groups_behind
  well_at n next otherwise DoEndTaskgroup right on = ((on refl).groups, (on refl).groups_behind, inside_next n next otherwise _ _ (on refl) refl)
  well_at n next otherwise (DoTest c) right on = (inside_next n next otherwise _ _ (on refl) (on refl).groups_behind, inside_otherwise n next otherwise _ _ (on refl) (on refl).groups_behind)
  well_at n next otherwise DoEnd right on = tt

  -- the line of `main` begins a body
  root_begun : Begun texts P.root_line
  root_begun = subst (Begun texts) (sym means.root_line) (main_begun texts accepted)

  -- the law's clauses
  pub accepted_well_formed : WellFormed P
  accepted_well_formed = record { depth = depth_at texts; root = begins P.root_line root_begun; lines = λ n. by_line n (listed_at n) }
    where
      by_line : (n : ℕ) → Listed texts P n → WellAt P (depth_at texts) (depth_at texts n) (instr_at P n).next (instr_at P n).otherwise (instr_at P n).statement
      by_line n (inl none) = rw none tt
      by_line n (inr (s, is, i)) = rw i.same (well_at n _ _ s (line_is texts accepted n (Stands s) is).right (on_from n s is))

  pub accepted_root : IsPosition P P.root_line
  accepted_root = position P.root_line DoStart root_begun

  -- a line whose statement isn't the end of a body goes on
  pub record GoesOnAt (n : ℕ) : Type 0 where
    pub statement : Statement
    pub is_line : IsLine texts n (Stands statement)
    pub on : GoesOn texts n (instr_at P n).next (instr_at P n).otherwise statement

  followed_at : (n : ℕ) → is_last (instr_at P n).statement ≡ false → GoesOnAt n
  followed_at n more = by_line (listed_at n)
    where
      by_line : Listed texts P n → GoesOnAt n
      by_line (inl none) = absurd (false≢true (sym more ∙ ap (λ (i : Instr). is_last i.statement) none))
      by_line (inr (s, is, i)) = record { statement = s; is_line = is; on = on_from n s is (ap is_last (sym i.same) ∙ more) }

  -- a body's first line is its own
  own_begin : (n : ℕ) → Begins P n → body_around texts n ≡ n
  own_begin n b = by_line (listed_at n)
    where
      by_statement : (s : Statement) → IsLine texts n (Stands s) → is_begin s ≡ true → body_around texts n ≡ n
      by_statement DoStart is e = ap (λ blocks. unwrap_or (body_of blocks) n) (line_is texts accepted n (Stands DoStart) is).nests.0
      by_statement s is e = absurd (false≢true e)

      by_line : Listed texts P n → body_around texts n ≡ n
      by_line (inl none) = absurd (false≢true (ap (λ (i : Instr). is_begin i.statement) (sym none) ∙ b))
      by_line (inr (s, is, i)) = by_statement s is (ap is_begin (sym i.same) ∙ b)

  -- a line where control is has the body that it came from
  stands_within : (n groups body line : ℕ) → body_around texts n ≡ body → Standing texts groups body line → body_around texts line ≡ body_around texts n
  stands_within n groups body line own on = ap (λ o. unwrap_or o line) on.same_body ∙ sym own

  pub accepted_followed : IsFollowed P
  accepted_followed = record {
    stands = λ n more. let f = followed_at n more in position n f.statement f.is_line;
    next = λ n more. let f = followed_at n more in position _ f.on.next_stands.statement f.on.next_stands.is_line;
    otherwise = λ n more. let f = followed_at n more in position _ f.on.otherwise_stands.statement f.on.otherwise_stands.is_line;
    body = body_around texts;
    begins = own_begin;
    next_within = λ n more. let f = followed_at n more in stands_within n f.on.groups f.on.body _ f.on.own_body f.on.next_stands;
    otherwise_within = λ n more. let f = followed_at n more in stands_within n f.on.groups f.on.body _ f.on.own_body f.on.otherwise_stands;
  }
