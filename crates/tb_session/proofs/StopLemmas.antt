-- A session that stops at a line.
use Rattle.std.proofs.Common.{◌≡◌, ◌≤◌, ◌⊎◌, inl, inr, ℕ, List, [], ◌∷◌, ◌++◌, length, refl, sym, ap, ◌∙◌, subst, append_assoc, append-nil, arith, Option, Some, None, Ok, Err}
use Rattle.std.proofs.Math.Nat.{le_refl}
use Rattle.std.specs.Io.KnownBytes.{Consumes, prepend_known}
use Rattle.tb_lines.specs.Lines.{IsUnbroken, AreUnbroken, spelled, GaveLine}
use Rattle.tb_lines.specs.declared.line_reader.LineEnd.{LineEnd}
use Rattle.tb_lines.specs.declared.line_reader.LineEnd.TheVariants.{Feed, Input}
use Rattle.tb_lines.specs.declared.line_reader.LineFault.{LineFault}
use Rattle.tb_lines.proofs.KnownLemmas.{consumes_trans}
use Rattle.tb_session.specs.Answer.{Stopped}

-- after whole lines, a line and perhaps its line feed were taken
abbrev pub stopped_by : (old new : Option (List ℕ)) (lines : List (List ℕ)) (line feed : List ℕ) → Consumes old new (spelled lines ++ (line ++ feed)) → AreUnbroken lines → IsUnbroken line → (feed ≡ []) ⊎ (feed ≡ 10 ∷ []) → Stopped 0 old new
stopped_by old new lines line feed read unbroken next ended =
    let P : List ℕ → Type 0 = λ l. Consumes old new (spelled lines ++ (line ++ l)) in record {
      lines = lines;
      line = line;
      feed = feed;
      ahead = [];
      read = subst P (sym (append-nil feed)) read;
      unbroken = unbroken;
      next = next;
      ended = ended;
      few = le_refl 0;
    }

-- what is after a line, by what ended it
abbrev pub feed_at : LineEnd → List ℕ
feed_at Feed = 10 ∷ []
feed_at Input = []

pub is_feed : (end : LineEnd) → (feed_at end ≡ []) ⊎ (feed_at end ≡ 10 ∷ [])
is_feed Feed = inr refl
is_feed Input = inl refl

pub taken_at : (now next : Option (List ℕ)) (line : List ℕ) (end : LineEnd) → GaveLine now next line (Ok end) → Consumes now next (line ++ feed_at end)
taken_at now next line Feed t = t.0
taken_at now next line Input t = subst (Consumes now next) (sym (append-nil line)) t.0

pub unfed_at : (now next : Option (List ℕ)) (line : List ℕ) (end : LineEnd) → GaveLine now next line (Ok end) → IsUnbroken line
unfed_at now next line Feed t = t.1
unfed_at now next line Input t = t.1

-- at a line that was read whole
abbrev pub stopped_at : (start now next : Option (List ℕ)) (lines : List (List ℕ)) (line : List ℕ) (end : LineEnd) → Consumes start now (spelled lines) → AreUnbroken lines → GaveLine now next line (Ok end) → Stopped 0 start next
stopped_at start now next lines line end whole unbroken t =
    stopped_by start next lines line (feed_at end) (consumes_trans start now next _ _ whole (taken_at now next line end t)) unbroken (unfed_at now next line end t) (is_feed end)

-- at a line of which a part was read
abbrev pub stopped_within : (start now next : Option (List ℕ)) (lines : List (List ℕ)) (line : List ℕ) (fault : LineFault) → Consumes start now (spelled lines) → AreUnbroken lines → GaveLine now next line (Err fault) → Stopped 0 start next
stopped_within start now next lines line fault whole unbroken t =
    stopped_by start next lines line [] (consumes_trans start now next _ _ whole (subst (Consumes now next) (sym (append-nil line)) t.0)) unbroken t.1 (inl refl)

-- ---- what else the last read handed out

-- what was taken of the unread bytes, and what is still held, was read
pub from_unread : (a b : Option (List ℕ)) (held bytes : List ℕ) → Consumes (prepend_known [] a) (prepend_known held b) bytes → Consumes a b (bytes ++ held)
from_unread None b held bytes p = tt
from_unread (Some x) None held bytes p = absurd p
from_unread (Some x) (Some y) held bytes p = p ∙ sym (append_assoc bytes held y)

pub few_more : (most : ℕ) (xs held : List ℕ) → length xs ≤ 0 → length held ≤ most → length (xs ++ held) ≤ most
few_more most [] held none few = few
few_more most (x ∷ xs) held none few = absurd (omega (arith, none))

pub joined_ahead : (whole line feed ahead held : List ℕ) → (whole ++ (line ++ (feed ++ ahead))) ++ held ≡ whole ++ (line ++ (feed ++ (ahead ++ held)))
joined_ahead whole line feed ahead held =
    append_assoc whole (line ++ (feed ++ ahead)) held ∙ ap (λ l. whole ++ l) (append_assoc line (feed ++ ahead) held ∙ ap (λ l. line ++ l) (append_assoc feed ahead held))

-- a reader that stops there has read what it holds too
abbrev pub stopped_ahead : (most : ℕ) (left rest : Option (List ℕ)) (held : List ℕ) → Stopped 0 (prepend_known [] left) (prepend_known held rest) → length held ≤ most → Stopped most left rest
stopped_ahead most left rest held s few = record {
  lines = s.lines;
  line = s.line;
  feed = s.feed;
  ahead = s.ahead ++ held;
  read = subst (Consumes left rest) (joined_ahead (spelled s.lines) s.line s.feed s.ahead held) (from_unread left rest held _ s.read);
  unbroken = s.unbroken;
  next = s.next;
  ended = s.ended;
  few = few_more most s.ahead held s.few few;
}
