-- What a session's stages come to, at each way to end.
use Rattle.std.proofs.Common.{◌≡◌, ◌≤◌, ℕ, length, true, List, [], ◌∷◌, ◌++◌, refl, sym, ap, ◌∙◌, subst, append_assoc, append-nil, inl, inr, Option, Some, None, Result, Ok, Err}
use Rattle.std.specs.Prelude.{IsErrOf}
use Rattle.std.specs.Io.KnownBytes.{Consumes, IsAtEnd, prepend_known}
use Rattle.tb_read.specs.declared.fault.ReadFault.{ReadFault}
use Rattle.tb_read.specs.Text.{lines_of}
use Rattle.tb_lines.specs.Lines.{AreUnbroken, spelled, most_ahead}
use Rattle.tb_live.specs.Session.{Session, opened}
use Rattle.tb_replies.specs.Reading.{IsProgram}
use Rattle.tb_session.specs.Divider.{is_divider}
use Rattle.tb_session.specs.Answer.{Stopped, command_lines, program_text, AreUndivided, Replies, RepliesWith, AnswerTo, AnswersWith, Ran, Refuses}
use Rattle.tb_session.specs.Stages.{Divides, Ends, Begun, Served}
use Rattle.tb_session.specs.declared.halt.Halt.{Halt}
use Rattle.tb_session.specs.declared.halt.Halt.TheVariants.{Refused, Read, Write, Memory, Journal}
use Rattle.tb_lines.proofs.KnownLemmas.{consumes_trans, appends_nil}
use Rattle.tb_session.proofs.LineLemmas.{lines_of_spelled, spelled_append}
use Rattle.tb_session.proofs.StopLemmas.{from_unread, stopped_ahead}
use Rattle.tb_session.proofs.GatherLemmas.{program_of_divided, commands_of_divided}

-- where nothing is held
from_unread_all : (a b : Option (List ℕ)) (held bytes : List ℕ) → Consumes (prepend_known [] a) (prepend_known held b) bytes → held ≡ [] → Consumes a b bytes
from_unread_all a b held bytes p e =
    let P : List ℕ → Type 0 = λ l. Consumes a b l in
    subst P (ap (λ l. bytes ++ l) e ∙ append-nil bytes) (from_unread a b held bytes p)

-- at the end nothing is held
from_unread_end : (a b : Option (List ℕ)) (held bytes : List ℕ) → Consumes (prepend_known [] a) (prepend_known held b) bytes → IsAtEnd (prepend_known held b) → Consumes a b bytes × IsAtEnd b
from_unread_end None None held bytes p e = (tt, tt)
from_unread_end None (Some y) [] bytes p e = (tt, e)
from_unread_end None (Some y) (h ∷ held) bytes p e = cc
from_unread_end (Some x) None held bytes p e = absurd p
from_unread_end (Some x) (Some y) [] bytes p e = (p, e)
from_unread_end (Some x) (Some y) (h ∷ held) bytes p e = cc

refuses_left : (left : Option (List ℕ)) (fault : ReadFault) → Refuses fault (prepend_known [] left) → Refuses fault left
refuses_left None fault r = tt
refuses_left (Some x) fault r = r

-- ---- a session that ends before its first command

pub ran_no_command : (workers limit : ℕ) (left rest before : Option (List ℕ)) (held : List ℕ) → Ends (prepend_known [] left) (prepend_known held rest) → Ran workers limit left rest before before (Ok tt)
ran_no_command workers limit left rest before held e =
    let w = e.whole in
    let whole = spelled w.lines ++ w.last in
    let read = from_unread_end left rest held whole w.bytes w.end in
    let P : List ℕ → Type 0 = λ l. IsProgram l e.program in
    let R : List (List ℕ) → Type 0 = λ ls. Replies workers (opened e.program limit 65) ls [] in
    (whole, [], read.0, read.1, (e.program, subst P w.is_text e.says, subst R (sym w.no_commands) (opened e.program limit 65, (refl, refl))), appends_nil before)

not_begun : (workers limit : ℕ) (left rest before : Option (List ℕ)) (held : List ℕ) (halt : Halt) → Begun limit (prepend_known [] left) (prepend_known held rest) (Err halt) → (halt ≡ Read → held ≡ []) → length held ≤ most_ahead → Ran workers limit left rest before before (Err halt)
not_begun workers limit left rest before held (Refused fault) b emptied few = (refuses_left left fault b, appends_nil before)
not_begun workers limit left rest before held Read b emptied few =
    (b.0, b.1, [], from_unread_all left rest held _ b.2 (emptied refl), b.3, b.4, inl (b.5, refl), appends_nil before)
not_begun workers limit left rest before held Write b emptied few = absurd b
not_begun workers limit left rest before held Journal b emptied few = absurd b
not_begun workers limit left rest before held Memory b emptied few =
    inl (record { stopped = stopped_ahead most_ahead left rest held b.0 few; out = []; replies = inl (b.1, refl); wrote = appends_nil before })

-- the reader holds nothing at first
pub ran_not_begun : (workers limit : ℕ) (left rest before : Option (List ℕ)) (first held : List ℕ) (halt : Halt) → first ≡ [] → Begun limit (prepend_known first left) (prepend_known held rest) (Err halt) → (halt ≡ Read → held ≡ []) → length held ≤ most_ahead → Ran workers limit left rest before before (Err halt)
ran_not_begun workers limit left rest before first held halt none b emptied few =
    let P : List ℕ → Type 0 = λ l. Begun limit (prepend_known l left) (prepend_known held rest) (Err halt) in
    not_begun workers limit left rest before held halt (subst P none b) emptied few

-- ---- a session with commands

divided : (program : List (List ℕ)) (divider : List ℕ) (lines : List (List ℕ)) → is_divider divider ≡ true → AreUndivided (program ++ divider ∷ lines) → ⊥
divided [] divider lines e h = cc h.0
divided (line ∷ program) divider lines e h = divided program divider lines e h.1

unbroken_append : (xs ys : List (List ℕ)) → AreUnbroken xs → AreUnbroken ys → AreUnbroken (xs ++ ys)
unbroken_append [] ys h k = k
unbroken_append (x ∷ xs) ys h k = (h.0, unbroken_append xs ys h.1 k)

module _ (workers limit : ℕ) (left mid : Option (List ℕ)) (s : Session) (d : Divides limit (prepend_known [] left) mid s) where
  -- all lines in front of the commands
  head : List (List ℕ)
  head = d.divided.program ++ d.divided.divider ∷ []

  -- the whole lines, from those of the commands
  joined : (lines : List (List ℕ)) → head ++ lines ≡ d.divided.program ++ d.divided.divider ∷ lines
  unfolding head
  joined lines = append_assoc d.divided.program (d.divided.divider ∷ []) lines

  -- the program and the commands, with the commands' lines after the head
  says : (lines : List (List ℕ)) → IsProgram (program_text (head ++ lines)) d.program
  says lines =
      let program : program_text (head ++ lines) ≡ d.text =
      ap program_text (joined lines) ∙ (ap spelled (program_of_divided d.divided.program d.divided.divider lines d.divided.undivided d.divided.divides) ∙ sym d.divided.is_text) in
      let P : List ℕ → Type 0 = λ l. IsProgram l d.program in
      subst P (sym program) d.says

  commands : (lines : List (List ℕ)) → command_lines (head ++ lines) ≡ lines
  commands lines = ap command_lines (joined lines) ∙ commands_of_divided d.divided.program d.divided.divider lines d.divided.undivided d.divided.divides

  -- replies to the commands are an answer to all
  answers : (lines : List (List ℕ)) (out : List ℕ) → Replies workers s lines out → AnswerTo workers limit (head ++ lines) out
  answers lines out r =
      let R : List (List ℕ) → Type 0 = λ ls. Replies workers (opened d.program limit 65) ls out in
      let S : Session → Type 0 = λ t. Replies workers t lines out in
      (d.program, says lines, subst R (sym (commands lines)) (subst S d.opens r))

  has_divider : (lines : List (List ℕ)) → AreUndivided (head ++ lines) → ⊥
  has_divider lines none = divided d.divided.program d.divided.divider lines d.divided.divides (subst AreUndivided (joined lines) none)

  -- replies to commands, and one to the line after them, are those to a text that begins with the program
  answers_with : (lines : List (List ℕ)) (out line reply : List ℕ) → RepliesWith workers s lines out line reply → AnswersWith workers limit (head ++ lines) out line reply
  answers_with lines out line reply r =
      let R : List (List ℕ) → Type 0 = λ ls. RepliesWith workers (opened d.program limit 65) ls out line reply in
      let S : Session → Type 0 = λ t. RepliesWith workers t lines out line reply in
      (has_divider lines, (d.program, says lines, subst R (sym (commands lines)) (subst S d.opens r)))

  taken : (new : Option (List ℕ)) (bytes : List ℕ) → Consumes mid new bytes → Consumes (prepend_known [] left) new (spelled head ++ bytes)
  unfolding head
  taken new bytes t = consumes_trans (prepend_known [] left) mid new (spelled (d.divided.program ++ d.divided.divider ∷ [])) bytes d.divided.bytes t

  taken_lines : (new : Option (List ℕ)) (lines : List (List ℕ)) (part : List ℕ) → Consumes mid new (spelled lines ++ part) → Consumes (prepend_known [] left) new (spelled (head ++ lines) ++ part)
  taken_lines new lines part t =
      let P : List ℕ → Type 0 = λ l. Consumes (prepend_known [] left) new l in
      subst P (sym (append_assoc (spelled head) (spelled lines) part) ∙ ap (λ l. l ++ part) (sym (spelled_append head lines))) (taken new (spelled lines ++ part) t)

  unbroken : (lines : List (List ℕ)) → AreUnbroken lines → AreUnbroken (head ++ lines)
  unfolding head
  unbroken lines u = unbroken_append (d.divided.program ++ d.divided.divider ∷ []) lines d.divided.unbroken u

  lines_all : (bytes : List ℕ) → lines_of (spelled head ++ bytes) ≡ head ++ lines_of bytes
  unfolding head
  lines_all bytes = lines_of_spelled (d.divided.program ++ d.divided.divider ∷ []) bytes d.divided.unbroken

  answers_all : (bytes out : List ℕ) → Replies workers s (lines_of bytes) out → AnswerTo workers limit (lines_of (spelled head ++ bytes)) out
  answers_all bytes out r = let P : List (List ℕ) → Type 0 = λ ls. AnswerTo workers limit ls out in subst P (sym (lines_all bytes)) (answers (lines_of bytes) out r)

  -- the commands' whole lines are after the head
  abbrev stopped_behind : (new : Option (List ℕ)) → Stopped 0 mid new → Stopped 0 (prepend_known [] left) new
  stopped_behind new stop = record {
    lines = head ++ stop.lines;
    line = stop.line;
    feed = stop.feed;
    ahead = stop.ahead;
    read = taken_lines new stop.lines (stop.line ++ (stop.feed ++ stop.ahead)) stop.read;
    unbroken = unbroken stop.lines stop.unbroken;
    next = stop.next;
    ended = stop.ended;
    few = stop.few;
  }

  pub ran_commands : (rest before after : Option (List ℕ)) (held : List ℕ) (result : Result (Unit {0}) Halt) → Served workers s mid (prepend_known held rest) before after result → (IsErrOf result Read → held ≡ []) → length held ≤ most_ahead → Ran workers limit left rest before after result
  ran_commands rest before after held (Ok u) r emptied few =
      let read = from_unread_end left rest held _ (taken (prepend_known held rest) r.0 r.2) r.3 in
      (spelled head ++ r.0, r.1, read.0, read.1, answers_all r.0 r.1 r.4, r.5)
  ran_commands rest before after held (Err (Refused fault)) r emptied few = absurd r
  ran_commands rest before after held (Err Read) r emptied few =
      (head ++ r.0, r.1, r.2, from_unread_all left rest held _ (taken_lines (prepend_known held rest) r.0 r.1 r.3) (emptied refl), unbroken r.0 r.4, r.5, inr (answers r.0 r.2 r.6), r.7)
  ran_commands rest before after held (Err Write) r emptied few =
      (spelled head ++ r.0, held, r.1, r.2, from_unread left rest held _ (taken (prepend_known held rest) r.0 r.3), answers_all r.0 r.1 r.4, r.5)
  ran_commands rest before after held (Err Journal) r emptied few =
      let stop = r.halts.stopped in record {
        halts = record {
          stopped = stopped_ahead most_ahead left rest held (stopped_behind (prepend_known held rest) stop) few;
          out = r.halts.out;
          replies = (has_divider stop.lines, answers stop.lines r.halts.out r.halts.replies);
          wrote = r.halts.wrote;
        };
        asks = r.asks;
      }
  ran_commands rest before after held (Err Memory) (inl r) emptied few =
      inl (record {
        stopped = stopped_ahead most_ahead left rest held (stopped_behind (prepend_known held rest) r.stopped) few;
        out = r.out;
        replies = inr (answers r.stopped.lines r.out r.replies);
        wrote = r.wrote;
      })
  ran_commands rest before after held (Err Memory) (inr r) emptied few =
      inr (record {
        stopped = stopped_ahead most_ahead left rest held (stopped_behind (prepend_known held rest) r.stopped) few;
        out = r.out;
        reply = r.reply;
        n = r.n;
        asks = r.asks;
        replies = answers_with r.stopped.lines r.out r.stopped.line r.reply r.replies;
        wrote = r.wrote;
      })
