-- Lines that were read and judged.
use Rattle.std.proofs.Common.{◌≡◌, ◌<◌, ◌+◌, ℕ, suc, true, false, List, [], ◌∷◌, ◌++◌, length, refl, sym, ap, ◌∙◌, subst, arith, append_assoc, append-nil, nat_lt, Option, Some, None, Result, Ok, Err}
use Rattle.std.proofs.lemmas.Bool.{false≢true}
use Rattle.std.proofs.lemmas.Bool.Decides.{nat_tests}
use Rattle.std.proofs.lemmas.List.{length-append}
use Rattle.std.specs.Prelude.{OnOk, is_err}
use Rattle.std.specs.Io.KnownBytes.{Consumes, IsAtEnd, prepend_known}
use Rattle.tb_lines.specs.Lines.{IsUnbroken, AreUnbroken, GaveFront, last_line, spelled}
use Rattle.tb_lines.specs.declared.line_reader.LineFault.{LineFault}
use Rattle.tb_lines.specs.declared.line_reader.LineFault.TheVariants as unread
use Rattle.tb_lines.specs.declared.line_stop.LineStop.{LineStop}
use Rattle.tb_lines.specs.declared.line_stop.LineStop.TheVariants.{Feed, Input, Long}
use Rattle.tb_lines.proofs.KnownLemmas.{consumes_nil, consumes_trans}
use Rattle.tb_read.specs.Text.{lines_of, onto_first}
use Rattle.tb_runs.specs.Lines.{longest}
use Rattle.tb_runs.specs.declared.fault.Fault.TheVariants.{TooLarge}
use Rattle.tb_taskcheck.specs.Races.{FoundAt, FoundIn, IsFound}
use Rattle.tb_taskcheck.specs.declared.found.Found.{Found}
use Rattle.tb_taskcheck.specs.Told.{IsCut, IsWhole, Reads, Taken, is_last, line_at}
use Rattle.tb_taskcheck.proofs.FoundLemmas.{found_ended, found_first, found_whole}
use Rattle.tb_taskcheck.proofs.LineLemmas.{all_more, lines_of_last, lines_of_spelled, spelled_append}
use Rattle.tb_verdict.specs.Texts.{Sofar, Heading, Running, ended_after, ended_at, line_behind, lines_behind, start}
use Rattle.tb_verdict.specs.Whole.{IsJudged, IsVerdict, has_ended}
use Rattle.tb_verdict.specs.declared.ending.Ending.{Ending}
use Rattle.tb_verdict.specs.declared.ending.Ending.TheVariants.{Faulty}
use Rattle.tb_verdict.specs.declared.text_judge.TextJudge.{TextJudge}
use Rattle.tb_verdict.specs.declared.text_judge.TextJudge.TheVariants.{Open, Ended}
use Rattle.tb_verdict.specs.declared.verdict.Verdict.{Verdict}
use Rattle.tb_verdict.specs.declared.verdict.Verdict.TheVariants as verdict
use Rattle.tb_verdict.proofs.WholeLemmas.{ended_append, lines_append}

-- ---- what the reader still holds was read

pub from_unread : (a b : Option (List ℕ)) (held bytes : List ℕ) → Consumes (prepend_known [] a) (prepend_known held b) bytes → Consumes a b (bytes ++ held)
from_unread None b held bytes p = tt
from_unread (Some x) None held bytes p = absurd p
from_unread (Some x) (Some y) held bytes p = p ∙ sym (append_assoc bytes held y)

-- at the end nothing is held
from_unread_end : (a b : Option (List ℕ)) (held bytes : List ℕ) → Consumes (prepend_known [] a) (prepend_known held b) bytes → IsAtEnd (prepend_known held b) → Consumes a b bytes × IsAtEnd b
from_unread_end None None held bytes p e = (tt, tt)
from_unread_end None (Some y) [] bytes p e = (tt, e)
from_unread_end None (Some y) (h ∷ held) bytes p e = cc
from_unread_end (Some x) None held bytes p e = absurd p
from_unread_end (Some x) (Some y) [] bytes p e = (p, e)
from_unread_end (Some x) (Some y) (h ∷ held) bytes p e = cc

at_end : (v : Verdict) (rest : Option (List ℕ)) → IsAtEnd rest → IsWhole v rest
at_end (verdict.Legal events judge) rest e = e
at_end (verdict.Refused n refusal) rest e = tt
at_end (verdict.Faulty n fault) rest e = tt

-- ---- a line that is too long

too_long : (s : Sofar) (line : List ℕ) → longest < length line → line_behind s line ≡ Err (Faulty TooLarge)
too_long (Heading at firsts) line h =
    let long : nat_lt longest (length line) ≡ true = grind (arith, nat_tests) in
    rw long refl
too_long (Running first H) line h =
    let long : nat_lt longest (length line) ≡ true = grind (arith, nat_tests) in
    rw long refl

-- whatever comes after its beginning, it is one
record Piece (line more : List ℕ) : Type 0 where
  rest : List ℕ
  others : List (List ℕ)
  split : lines_of (line ++ more) ≡ (line ++ rest) ∷ others

onto : (b : ℕ) (pieces : List (List ℕ)) → (rest : List ℕ) × (others : List (List ℕ)) × (onto_first b pieces ≡ (b ∷ rest) ∷ others)
onto b [] = ([], [], refl)
onto b (piece ∷ pieces) = (piece, pieces, refl)

piece : (b : ℕ) (line more : List ℕ) → IsUnbroken (b ∷ line) → Piece (b ∷ line) more
piece b [] more h =
    let o = onto b (lines_of more) in
    record { rest = o.0; others = o.1; split = rw h.0 o.2 }
piece b (c ∷ line) more h =
    let p = piece c line more h.1 in
    record { rest = p.rest; others = p.others; split = rw h.0 (ap (onto_first b) p.split) }

long_piece : (line more : List ℕ) → longest < length line → IsUnbroken line → Piece line more
long_piece [] more long h = absurd (omega (arith, long))
long_piece (b ∷ line) more long h = piece b line more h

-- ---- a judgement that has ended

not_both : {A E : Type 0} (x : A) (e : E) → ◌≡◌ {A = Result A E} (Err e) (Ok x) → ⊥
not_both x e h = cc

-- after these bytes, whatever else was read
abbrev pub EndsAfter : TextJudge → List ℕ → Type 0
EndsAfter judge bytes = (ahead : List ℕ) → IsJudged judge (lines_of (bytes ++ ahead))

-- where it has ended, it has whatever lines come after
more_lines : (judge : TextJudge) (lines others : List (List ℕ)) → has_ended judge ≡ true → IsJudged judge lines → IsJudged judge (lines ++ others)
more_lines (Open count judge) lines others e j = absurd (false≢true e)
more_lines (Ended n ending) lines others e j = ended_append 1 start lines others (n, ending) j

fed : (judge : TextJudge) (lines : List (List ℕ)) (line : List ℕ) → AreUnbroken lines → IsUnbroken line → has_ended judge ≡ true → IsJudged judge (lines ++ line ∷ []) → EndsAfter judge (spelled lines ++ (line ++ 10 ∷ []))
fed judge lines line u v e j ahead =
    let bytes : lines_of ((spelled lines ++ (line ++ 10 ∷ [])) ++ ahead) ≡ (lines ++ line ∷ []) ++ lines_of ahead =
    ap (λ b. lines_of (b ++ ahead)) (sym (spelled_append lines (line ∷ []))) ∙ lines_of_spelled (lines ++ line ∷ []) ahead (all_more IsUnbroken lines line u v) in
    subst (IsJudged judge) (sym bytes) (more_lines judge (lines ++ line ∷ []) (lines_of ahead) e j)

-- a line that is too long ends it
ends_long : (judge : TextJudge) (lines others : List (List ℕ)) (line more : List ℕ) (s : Sofar) → lines_behind 1 start lines ≡ Ok s → longest < length line → longest < length more
    → IsJudged judge (lines ++ line ∷ []) → IsJudged judge (lines ++ more ∷ others)
ends_long (Open count judge) lines others line more s taken long longer j =
    absurd (not_both j.sofar (1 + length lines, Faulty TooLarge)
    (sym (lines_append 1 (1 + length lines) start s lines (line ∷ []) refl taken ∙ ap (λ r. ended_at (1 + length lines) r (λ s. Ok s)) (too_long s line long)) ∙ j.taken))
ends_long (Ended n ending) lines others line more s taken long longer j =
    lines_append 1 (1 + length lines) start s lines (more ∷ others) refl taken
    ∙ ap (λ r. ended_at (1 + length lines) r (λ s. lines_behind (suc (1 + length lines)) s others)) (too_long s more longer)
    ∙ sym (lines_append 1 (1 + length lines) start s lines (line ∷ []) refl taken ∙ ap (λ r. ended_at (1 + length lines) r (λ s. Ok s)) (too_long s line long))
    ∙ j

longer : (line rest : List ℕ) → longest < length line → longest < length (line ++ rest)
longer line rest h = omega (arith, h, length-append line rest)

cut : (judge : TextJudge) (lines : List (List ℕ)) (line : List ℕ) (s : Sofar) → lines_behind 1 start lines ≡ Ok s → AreUnbroken lines → IsUnbroken line → longest < length line
    → IsJudged judge (lines ++ line ∷ []) → EndsAfter judge (spelled lines ++ line)
cut judge lines line s taken u v long j ahead =
    let p = long_piece line ahead long v in
    let bytes : lines_of ((spelled lines ++ line) ++ ahead) ≡ lines ++ (line ++ p.rest) ∷ p.others =
    ap lines_of (append_assoc (spelled lines) line ahead) ∙ (lines_of_spelled lines (line ++ ahead) u ∙ ap (λ l. lines ++ l) p.split) in
    subst (IsJudged judge) (sym bytes) (ends_long judge lines p.others line (line ++ p.rest) s taken long (longer line p.rest long) j)

-- a verdict of lines at which the judgement ends isn't that of a legal text
whole_by : (v : Verdict) (lines : List (List ℕ)) (rest : Option (List ℕ)) (f : ℕ × Ending) → lines_behind 1 start lines ≡ Err f → IsVerdict v lines → IsWhole v rest
whole_by (verdict.Legal events judge) lines rest f h v =
    absurd (not_both _ f (sym (ap ended_after h) ∙ v.judged))
whole_by (verdict.Refused n refusal) lines rest f h v = tt
whole_by (verdict.Faulty n fault) lines rest f h v = tt

long_ended : (judge : TextJudge) (lines : List (List ℕ)) (line : List ℕ) (s : Sofar) → lines_behind 1 start lines ≡ Ok s → longest < length line → IsJudged judge (lines ++ line ∷ []) → has_ended judge ≡ true
long_ended (Open count judge) lines line s taken long j =
    absurd (not_both j.sofar (1 + length lines, Faulty TooLarge)
    (sym (lines_append 1 (1 + length lines) start s lines (line ∷ []) refl taken ∙ ap (λ r. ended_at (1 + length lines) r (λ s. Ok s)) (too_long s line long)) ∙ j.taken))
long_ended (Ended n ending) lines line s taken long j = refl

ending_of : (judge : TextJudge) (lines : List (List ℕ)) → has_ended judge ≡ true → IsJudged judge lines → (f : ℕ × Ending) × (lines_behind 1 start lines ≡ Err f)
ending_of (Open count judge) lines e j = absurd (false≢true e)
ending_of (Ended n ending) lines e j = ((n, ending), j)

open_at : (judge : TextJudge) (lines : List (List ℕ)) → has_ended judge ≡ false → IsJudged judge lines → (s : Sofar) × (lines_behind 1 start lines ≡ Ok s)
open_at (Open count judge) lines e j = (j.sofar, j.taken)
open_at (Ended n ending) lines e j = absurd (false≢true (sym e))

-- ---- the loop

-- these lines were read and judged, and their races found, and the judgement goes on
pub record Reading (first now : Option (List ℕ)) (judge : TextJudge) (found : Found) : Type 0 where
  pub lines : List (List ℕ)
  pub bytes : Consumes first now (spelled lines)
  pub unbroken : AreUnbroken lines
  pub judged : IsJudged judge lines
  pub going : has_ended judge ≡ false
  pub races : FoundAt lines found

begins : (judge : TextJudge) → IsJudged judge [] → has_ended judge ≡ false
begins (Open count judge) j = refl
begins (Ended n ending) j = absurd (not_both start (n, ending) (sym j))

-- the reader holds nothing at first
pub reading_starts : (left : Option (List ℕ)) (held : List ℕ) (judge : TextJudge) (found : Found) → held ≡ [] → IsJudged judge [] → IsFound [] found
    → Reading (prepend_known [] left) (prepend_known held left) judge found
reading_starts left held judge found none j f =
    subst (λ (h : List ℕ). Reading (prepend_known [] left) (prepend_known h left) judge found) (sym none)
    (record { lines = []; bytes = consumes_nil (prepend_known [] left); unbroken = tt; judged = j; going = begins judge j; races = found_first found f })

last_at : (line : List ℕ) → last_line line ≡ line_at Input line
last_at [] = refl
last_at (b ∷ line) = refl

-- the bytes of a line, with its line feed where it has one
abbrev bytes_at : LineStop → List ℕ → List ℕ
bytes_at Feed line = line ++ 10 ∷ []
bytes_at Input line = line
bytes_at Long line = line

taken_at : (now next : Option (List ℕ)) (line : List ℕ) (stop : LineStop) → GaveFront longest now next line (Ok stop) → Consumes now next (bytes_at stop line)
taken_at now next line Feed g = g.0
taken_at now next line Input g = g.0
taken_at now next line Long g = g.0

-- what a judge has after the line
abbrev pub Feeds : TextJudge → TextJudge → LineStop → List ℕ → Type 0
Feeds old new stop line = (lines : List (List ℕ)) → IsJudged old lines → IsJudged new (lines ++ line_at stop line)

-- what the races of the lines become after the line
abbrev pub Finds : TextJudge → Found → Found → LineStop → List ℕ → Type 0
Finds judge old new stop line = (lines : List (List ℕ)) → IsJudged judge lines → FoundAt lines old → FoundAt (lines ++ line_at stop line) new

-- where memory doesn't fail
pub fed_by : {E : Type 0} (Is : List ℕ → Type 0) (seen line : List ℕ) (r : Result (Unit {0}) E) → OnOk r (Is seen) → is_err r ≡ false → seen ≡ line → Is line
fed_by Is seen line (Ok u) h e same = subst Is same h
fed_by Is seen line (Err x) h e same = absurd (false≢true (sym e))

-- what holds, or follows, wherever memory doesn't fail
pub any_ok : {E P : Type 0} (r : Result (Unit {0}) E) → P → OnOk r P
any_ok (Ok u) p = p
any_ok (Err x) p = tt

pub then_ok : {E P Q : Type 0} (r : Result (Unit {0}) E) → (P → Q) → OnOk r P → OnOk r Q
then_ok (Ok u) f p = f p
then_ok (Err x) f p = tt

-- the verdict on what the judge has
abbrev pub Closes : TextJudge → Verdict → Type 0
Closes judge v = (lines : List (List ℕ)) → IsJudged judge lines → IsVerdict v lines

module _ (left rest now : Option (List ℕ)) (held : List ℕ) (old : TextJudge) (before : Found) (r : Reading (prepend_known [] left) now old before) where
  -- a read failed
  cut_off : (line : List ℕ) → GaveFront longest now (prepend_known held rest) line (Err unread.Read) → held ≡ [] → IsCut left rest
  cut_off line g none =
      let bytes = spelled r.lines ++ line in
      let read = from_unread left rest held bytes (consumes_trans (prepend_known [] left) now (prepend_known held rest) (spelled r.lines) line r.bytes g.0) in
      record {
        lines = r.lines;
        part = line;
        read = subst (Consumes left rest) (ap (λ l. bytes ++ l) none ∙ append-nil bytes) read;
        unbroken = r.unbroken;
        unfed = g.1;
      }

  abbrev some_read : (bytes : List ℕ) → Consumes now (prepend_known held rest) bytes → Reads left rest
  some_read bytes g = (
    (spelled r.lines ++ bytes) ++ held,
    from_unread left rest held (spelled r.lines ++ bytes) (consumes_trans (prepend_known [] left) now (prepend_known held rest) (spelled r.lines) bytes r.bytes g),
  )

  pub not_read : (line : List ℕ) (fault : LineFault) → GaveFront longest now (prepend_known held rest) line (Err fault) → (fault ≡ unread.Read → held ≡ []) → Taken left rest (Err fault)
  not_read line unread.Read g none = cut_off line g (none refl)
  not_read line unread.Memory g none = some_read line g.0

  pub no_memory : (line : List ℕ) (stop : LineStop) → GaveFront longest now (prepend_known held rest) line (Ok stop) → Taken left rest (Err unread.Memory)
  no_memory line stop g = some_read (bytes_at stop line) (taken_at now (prepend_known held rest) line stop g)

  -- the judgement ended there
  stopped : (new : TextJudge) (found : Found) (bytes : List ℕ) (v : Verdict) → Consumes now (prepend_known held rest) bytes → has_ended new ≡ true
      → EndsAfter new (spelled r.lines ++ bytes) → Closes new v → Taken left rest (Ok (v, found))
  stopped new found bytes v g ended after closes =
      let s = some_read bytes g in
      let judged = after held in
      let e = ending_of new (lines_of s.0) ended judged in
      let verdict = closes (lines_of s.0) judged in
      (s.0, s.1, verdict, found_ended (lines_of s.0) found e.0 e.1, whole_by v (lines_of s.0) rest e.0 e.1 verdict)

  pub read_whole : (line : List ℕ) (stop : LineStop) (new : TextJudge) (found : Found) (v : Verdict) → GaveFront longest now (prepend_known held rest) line (Ok stop)
      → Feeds old new stop line → Finds old before found stop line → is_last (has_ended new) stop ≡ true → Closes new v → Taken left rest (Ok (v, found))
  read_whole line Feed new found v g feeds finds last closes =
      stopped new found (line ++ 10 ∷ []) v g.0 last (fed new r.lines line r.unbroken g.1 last (feeds r.lines r.judged)) closes
  read_whole line Long new found v g feeds finds last closes =
      let o = open_at old r.lines r.going r.judged in
      let judged = feeds r.lines r.judged in
      stopped new found line v g.0 (long_ended new r.lines line o.0 o.1 g.2 judged) (cut new r.lines line o.0 o.1 r.unbroken g.1 g.2 judged) closes
  read_whole line Input new found v g feeds finds end closes =
      let bytes = spelled r.lines ++ line in
      let all = consumes_trans (prepend_known [] left) now (prepend_known held rest) (spelled r.lines) line r.bytes g.0 in
      let read = from_unread_end left rest held bytes all g.2 in
      let last : lines_of line ≡ line_at Input line = lines_of_last line g.1 ∙ last_at line in
      let split : lines_of bytes ≡ r.lines ++ line_at Input line = lines_of_spelled r.lines line r.unbroken ∙ ap (λ l. r.lines ++ l) last in
      let races = found_whole (r.lines ++ line_at Input line) found (finds r.lines r.judged r.races) in
      let verdict = closes (lines_of bytes) (subst (IsJudged new) (sym split) (feeds r.lines r.judged)) in
      (bytes, read.0, verdict, subst (λ l. FoundIn l found) (sym split) races, at_end v rest read.1)

module _ (first now next : Option (List ℕ)) (old new : TextJudge) (before found : Found) (line : List ℕ) where
  pub reading_on : (stop : LineStop) → Reading first now old before → GaveFront longest now next line (Ok stop) → Feeds old new stop line
      → Finds old before found stop line → is_last (has_ended new) stop ≡ false → Reading first next new found
  reading_on Feed r g feeds finds last = record {
    lines = r.lines ++ line ∷ [];
    bytes =
        subst (Consumes first next) (sym (spelled_append r.lines (line ∷ [])))
        (consumes_trans first now next (spelled r.lines) (line ++ 10 ∷ []) r.bytes g.0);
    unbroken = all_more IsUnbroken r.lines line r.unbroken g.1;
    judged = feeds r.lines r.judged;
    going = last;
    races = finds r.lines r.judged r.races;
  }
  reading_on Input r g feeds finds last = absurd (false≢true (sym last))
  reading_on Long r g feeds finds last = absurd (false≢true (sym last))
