-- The program read, and its session opened.
use Rattle.std.proofs.Common.{◌≡◌, ℕ, List, [], ◌∷◌, ◌++◌, refl, sym, ap, ◌∙◌, subst, append_assoc, append-nil, inl, inr, Option, Some, None, Ok, Err}
use Rattle.std.specs.Io.KnownBytes.{Consumes}
use Rattle.tb_read.specs.declared.fault.ReadFault.{ReadFault}
use Rattle.tb_read.specs.Text.{lines_of}
use Rattle.tb_lines.specs.Lines.{IsUnbroken, spelled}
use Rattle.tb_live.specs.Session.{Held}
use Rattle.tb_replies.specs.Reading.{IsProgram, IsRefused}
use Rattle.tb_session.specs.Answer.{program_text, Refuses}
use Rattle.tb_session.specs.Stages.{Divided, Whole, Gathered, Opens, Opened, Halted, Begun}
use Rattle.tb_session.specs.declared.halt.Halt.{Halt}
use Rattle.tb_session.specs.declared.halt.Halt.TheVariants.{Refused, Read, Write, Memory, Journal}
use Rattle.tb_lines.specs.declared.line_reader.LineEnd.{LineEnd}
use Rattle.tb_lines.specs.declared.line_reader.LineEnd.TheVariants.{Feed, Input}
use Rattle.tb_session.proofs.LineLemmas.{lines_of_spelled, spelled_append, all_parts}
use Rattle.tb_session.proofs.StopLemmas.{stopped_by}
use Rattle.tb_session.proofs.GatherLemmas.{program_of_divided}

refuses_divided : (old new : Option (List ℕ)) (text : List ℕ) (fault : ReadFault) → Divided old new text → IsRefused text fault → Refuses fault old
refuses_divided None new text fault d r = tt
refuses_divided (Some x) None text fault d r = absurd d.bytes
refuses_divided (Some x) (Some y) text fault d r =
    let P : List ℕ → Type 0 = λ l. IsRefused l fault in
    let all : lines_of x ≡ d.program ++ d.divider ∷ lines_of y =
    ap lines_of d.bytes ∙ (lines_of_spelled (d.program ++ d.divider ∷ []) y d.unbroken ∙ append_assoc d.program (d.divider ∷ []) (lines_of y)) in
    subst P (d.is_text ∙ sym (ap program_text all ∙ ap spelled (program_of_divided d.program d.divider (lines_of y) d.undivided d.divides))) r

refuses_whole : (old new : Option (List ℕ)) (text : List ℕ) (fault : ReadFault) → Whole old new text → IsRefused text fault → Refuses fault old
refuses_whole None new text fault d r = tt
refuses_whole (Some x) None text fault d r = absurd d.bytes
refuses_whole (Some x) (Some y) text fault d r =
    let P : List ℕ → Type 0 = λ l. IsRefused l fault in
    let whole = spelled d.lines ++ d.last in
    let all : x ≡ whole = d.bytes ∙ (ap (λ l. whole ++ l) d.end ∙ append-nil whole) in
    subst P (d.is_text ∙ sym (ap (λ l. program_text (lines_of l)) all)) r

halted_whole : (old new : Option (List ℕ)) (text : List ℕ) → Whole old new text → Halted old new
halted_whole old new text w =
    let read = subst (λ l. Consumes old new (spelled w.lines ++ l)) (sym (append-nil w.last)) w.bytes in
    (stopped_by old new w.lines w.last [] read w.unbroken w.unfed (inl refl), w.undivided)

halted_divided : (old new : Option (List ℕ)) (text : List ℕ) → Divided old new text → Halted old new
halted_divided old new text d =
    let read = subst (Consumes old new) (spelled_append d.program (d.divider ∷ [])) d.bytes in
    let unbroken = all_parts IsUnbroken d.program (d.divider ∷ []) d.unbroken in
    (stopped_by old new d.program d.divider (10 ∷ []) read unbroken.0 unbroken.1.0 (inr refl), d.undivided)

pub begin_fails : (limit : ℕ) (old new : Option (List ℕ)) (text seen : List ℕ) (end : LineEnd) (halt : Halt) → Gathered old new text (Ok end) → seen ≡ text → Opens limit seen (Err halt) → Begun limit old new (Err halt)
begin_fails limit old new text seen Feed (Refused fault) g same o = let P : List ℕ → Type 0 = λ l. IsRefused l fault in refuses_divided old new text fault g (subst P same o)
begin_fails limit old new text seen Input (Refused fault) g same o = let P : List ℕ → Type 0 = λ l. IsRefused l fault in refuses_whole old new text fault g (subst P same o)
begin_fails limit old new text seen Feed Memory g same o = halted_divided old new text g
begin_fails limit old new text seen Input Memory g same o = halted_whole old new text g
begin_fails limit old new text seen end Read g same o = absurd o
begin_fails limit old new text seen end Write g same o = absurd o
begin_fails limit old new text seen end Journal g same o = absurd o

pub begins : (limit : ℕ) (old new : Option (List ℕ)) (text seen : List ℕ) (end : LineEnd) (held : Held) → Gathered old new text (Ok end) → seen ≡ text → Opens limit seen (Ok held) → Opened limit old new held.session end
begins limit old new text seen Feed held g same o = let P : List ℕ → Type 0 = λ l. IsProgram l o.0 in record { text = text; divided = g; program = o.0; says = subst P same o.1; opens = o.2 }
begins limit old new text seen Input held g same o = let P : List ℕ → Type 0 = λ l. IsProgram l o.0 in record { text = text; whole = g; program = o.0; says = subst P same o.1 }
