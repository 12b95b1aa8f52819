-- The program text, gathered line by line.
use Rattle.std.proofs.Common.{◌≡◌, ℕ, List, [], ◌∷◌, ◌++◌, refl, sym, ap, ◌∙◌, subst, Option, Ok, Err, true, false}
use Rattle.std.specs.Io.KnownBytes.{Consumes}
use Rattle.tb_read.specs.Text.{lines_of}
use Rattle.tb_lines.specs.Lines.{IsUnbroken, AreUnbroken, last_line, spelled, GaveLine}
use Rattle.tb_session.specs.Divider.{is_divider}
use Rattle.tb_session.specs.Answer.{AreUndivided, program_lines, command_lines, program_text}
use Rattle.tb_session.specs.Stages.{Halted, Gathered, line_at}
use Rattle.tb_lines.specs.declared.line_reader.LineEnd.{LineEnd}
use Rattle.tb_lines.specs.declared.line_reader.LineEnd.TheVariants.{Feed, Input}
use Rattle.tb_lines.specs.declared.line_reader.LineFault.{LineFault}
use Rattle.tb_lines.specs.declared.line_reader.LineFault.TheVariants.{Read as NotRead, Memory as NoMemory}
use Rattle.tb_lines.proofs.KnownLemmas.{consumes_nil, consumes_trans}
use Rattle.tb_session.proofs.LineLemmas.{lines_of_spelled, lines_of_last, spelled_append, all_more}
use Rattle.tb_session.proofs.StopLemmas.{stopped_at, stopped_within}

-- ---- the first divider

pub program_of_divided : (lines : List (List ℕ)) (divider : List ℕ) (more : List (List ℕ)) → AreUndivided lines → is_divider divider ≡ true → program_lines (lines ++ divider ∷ more) ≡ lines
program_of_divided [] divider more u d = rw d
program_of_divided (line ∷ lines) divider more u d = rw u.0 (ap (λ l. line ∷ l) (program_of_divided lines divider more u.1 d))

pub commands_of_divided : (lines : List (List ℕ)) (divider : List ℕ) (more : List (List ℕ)) → AreUndivided lines → is_divider divider ≡ true → command_lines (lines ++ divider ∷ more) ≡ more
commands_of_divided [] divider more u d = rw d
commands_of_divided (line ∷ lines) divider more u d = rw u.0 (commands_of_divided lines divider more u.1 d)

pub program_of_undivided : (lines : List (List ℕ)) → AreUndivided lines → program_lines lines ≡ lines
program_of_undivided [] u = refl
program_of_undivided (line ∷ lines) u = rw u.0 (ap (λ l. line ∷ l) (program_of_undivided lines u.1))

pub commands_of_undivided : (lines : List (List ℕ)) → AreUndivided lines → command_lines lines ≡ []
commands_of_undivided [] u = refl
commands_of_undivided (line ∷ lines) u = rw u.0 (commands_of_undivided lines u.1)

-- ---- line by line

-- whole lines of the program were taken, and are its text so far
pub record Gathering (start now : Option (List ℕ)) (text : List ℕ) : Type 0 where
  pub lines : List (List ℕ)
  pub bytes : Consumes start now (spelled lines)
  pub unbroken : AreUnbroken lines
  pub undivided : AreUndivided lines
  pub is_text : text ≡ spelled lines

pub gather_starts : (start : Option (List ℕ)) (text : List ℕ) → text ≡ [] → Gathering start start text
gather_starts start text e = record { lines = []; bytes = consumes_nil start; unbroken = tt; undivided = tt; is_text = e }

pub gather_fails : (start now new : Option (List ℕ)) (text line : List ℕ) (fault : LineFault) → Gathering start now text → GaveLine now new line (Err fault) → Gathered start new text (Err fault)
gather_fails start now new text line NotRead g t = (g.lines, line, consumes_trans start now new _ line g.bytes t.0, g.unbroken, t.1, g.undivided)
gather_fails start now new text line NoMemory g t = (stopped_within start now new g.lines line NoMemory g.bytes g.unbroken t, g.undivided)

pub gather_halts : (start now new : Option (List ℕ)) (text line : List ℕ) (end : LineEnd) → Gathering start now text → GaveLine now new line (Ok end) → Halted start new
gather_halts start now new text line end g t = (stopped_at start now new g.lines line end g.bytes g.unbroken t, g.undivided)

spelled_more : (lines : List (List ℕ)) (line : List ℕ) → spelled lines ++ (line ++ 10 ∷ []) ≡ spelled (lines ++ line ∷ [])
spelled_more lines line = sym (spelled_append lines (line ∷ []))

last_is_line : (line : List ℕ) → is_divider line ≡ true → last_line line ≡ line ∷ []
last_is_line [] d = absurd (false_true d)
  where
    false_true : false ≡ true → ⊥
    false_true e = cc
last_is_line (b ∷ line) d = refl

divided_by : (start now new : Option (List ℕ)) (text text' line : List ℕ) (end : LineEnd) → Gathering start now text → GaveLine now new line (Ok end) → is_divider line ≡ true → text' ≡ text → Gathered start new text' (Ok end)
divided_by start now new text text' line Feed g t d e = record {
  program = g.lines;
  divider = line;
  bytes = subst (Consumes start new) (spelled_more g.lines line) (consumes_trans start now new _ _ g.bytes t.0);
  unbroken = all_more IsUnbroken g.lines line g.unbroken t.1;
  undivided = g.undivided;
  divides = d;
  is_text = e ∙ g.is_text;
}
divided_by start now new text text' line Input g t d e =
    let all : lines_of (spelled g.lines ++ line) ≡ g.lines ++ line ∷ [] = lines_of_spelled g.lines line g.unbroken ∙ ap (λ l. g.lines ++ l) (lines_of_last line t.1 ∙ last_is_line line d) in
    record {
      lines = g.lines;
      last = line;
      bytes = consumes_trans start now new _ _ g.bytes t.0;
      unbroken = g.unbroken;
      unfed = t.1;
      undivided = g.undivided;
      end = t.2;
      no_commands = ap command_lines all ∙ commands_of_divided g.lines line [] g.undivided d;
      is_text = e ∙ (g.is_text ∙ sym (ap program_text all ∙ ap spelled (program_of_divided g.lines line [] g.undivided d)));
    }

undivided_last : (line : List ℕ) → is_divider line ≡ false → AreUndivided (last_line line)
undivided_last [] d = tt
undivided_last (b ∷ line) d = (d, tt)

undivided_append : (xs ys : List (List ℕ)) → AreUndivided xs → AreUndivided ys → AreUndivided (xs ++ ys)
undivided_append [] ys h k = k
undivided_append (x ∷ xs) ys h k = (h.0, undivided_append xs ys h.1 k)

whole_by : (start now new : Option (List ℕ)) (text text' line : List ℕ) (end : LineEnd) → Gathering start now text → GaveLine now new line (Ok end) → is_divider line ≡ false → text' ≡ text ++ spelled (line_at end line) → end ≡ Input → Gathered start new text' (Ok Input)
whole_by start now new text text' line Feed g t d e i = cc
whole_by start now new text text' line Input g t d e i =
    let lines = g.lines ++ last_line line in
    let all : lines_of (spelled g.lines ++ line) ≡ lines = lines_of_spelled g.lines line g.unbroken ∙ ap (λ l. g.lines ++ l) (lines_of_last line t.1) in
    let none = undivided_append g.lines (last_line line) g.undivided (undivided_last line d) in
    record {
      lines = g.lines;
      last = line;
      bytes = consumes_trans start now new _ _ g.bytes t.0;
      unbroken = g.unbroken;
      unfed = t.1;
      undivided = g.undivided;
      end = t.2;
      no_commands = ap command_lines all ∙ commands_of_undivided lines none;
      is_text = e ∙ (ap (λ l. l ++ spelled (last_line line)) g.is_text ∙ (sym (spelled_append g.lines (last_line line)) ∙ sym (ap program_text all ∙ ap spelled (program_of_undivided lines none))));
    }

more_by : (start now new : Option (List ℕ)) (text text' line : List ℕ) (end : LineEnd) → Gathering start now text → GaveLine now new line (Ok end) → is_divider line ≡ false → text' ≡ text ++ spelled (line_at end line) → end ≡ Feed → Gathering start new text'
more_by start now new text text' line Input g t d e i = cc
more_by start now new text text' line Feed g t d e i = record {
  lines = g.lines ++ line ∷ [];
  bytes = subst (Consumes start new) (spelled_more g.lines line) (consumes_trans start now new _ _ g.bytes t.0);
  unbroken = all_more IsUnbroken g.lines line g.unbroken t.1;
  undivided = all_more (λ l. is_divider l ≡ false) g.lines line g.undivided d;
  is_text = e ∙ (ap (λ l. l ++ spelled (line ∷ [])) g.is_text ∙ sym (spelled_append g.lines (line ∷ [])));
}

-- a divider ends the text, for the line as the code sees it again
pub gather_divided : (start now new : Option (List ℕ)) (text text' line seen : List ℕ) (end : LineEnd) → Gathering start now text → GaveLine now new line (Ok end) → seen ≡ line
    → is_divider seen ≡ true → text' ≡ text → Gathered start new text' (Ok end)
gather_divided start now new text text' line seen end g t same d e = divided_by start now new text text' line end g t (sym (ap is_divider same) ∙ d) e

pub gather_whole : (start now new : Option (List ℕ)) (text text' line seen : List ℕ) (end : LineEnd) → Gathering start now text → GaveLine now new line (Ok end) → seen ≡ line
    → is_divider seen ≡ false → text' ≡ text ++ spelled (line_at end seen) → end ≡ Input → Gathered start new text' (Ok Input)
gather_whole start now new text text' line seen end g t same d e i =
    whole_by start now new text text' line end g t (sym (ap is_divider same) ∙ d) (e ∙ ap (λ l. text ++ spelled (line_at end l)) same) i

pub gather_more : (start now new : Option (List ℕ)) (text text' line seen : List ℕ) (end : LineEnd) → Gathering start now text → GaveLine now new line (Ok end) → seen ≡ line
    → is_divider seen ≡ false → text' ≡ text ++ spelled (line_at end seen) → end ≡ Feed → Gathering start new text'
gather_more start now new text text' line seen end g t same d e i =
    more_by start now new text text' line end g t (sym (ap is_divider same) ∙ d) (e ∙ ap (λ l. text ++ spelled (line_at end l)) same) i
