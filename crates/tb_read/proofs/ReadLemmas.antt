-- Line after line.
use Rattle.std.proofs.Common.{◌≡◌, ℕ, zero, suc, ◌+◌, List, [], ◌∷◌, ◌++◌, map, slice_get, length, Option, Bor, arith, refl, ap, sym, ◌∙◌, add-one, length-append}
use Rattle.std.proofs.Math.Path.{fun_ext}
use Rattle.std.proofs.lemmas.List.{length-map}
use Rattle.tb_read.specs.Shown.{shown_line}
use Rattle.tb_read.specs.declared.line.Line.{Line}
use Rattle.tb_read.specs.Flow.{Line as Shown}
use Rattle.tb_read.specs.Word.{Word}
use Rattle.tb_read.specs.Headings.{headings_from, heading_of}
use Rattle.tb_read.specs.Context.{Context, Setting}
use Rattle.tb_read.specs.Reading.{setting_at, context_at, fault_at, line_fault, behind}
use Rattle.tb_read.specs.Meaning.{line_with, line_at, lines_until, lines_in}
use Rattle.tb_read.specs.declared.heading.Heading.{Heading}
use Rattle.tb_read.specs.declared.fault.FaultKind.{FaultKind}

-- what finds the same headings is the same setting
pub same_setting : (lines : List (List ℕ)) (n : ℕ) (headings : List (Word × Heading)) → ((name : Word) → heading_of headings name ≡ heading_of (headings_from 0 lines) name) →
    let found : Setting = record { line = n; heading = heading_of headings } in found ≡ setting_at lines n
same_setting lines n headings same = ap (λ (f : Word → Option Heading). let s : Setting = record { line = n; heading = f } in s) (fun_ext same)

pub fault_here : (lines : List (List ℕ)) (at : ℕ) (text : Option (List ℕ)) (here : Setting) (context : Context) (found : Option FaultKind) →
    here ≡ setting_at lines at → context ≡ context_at lines at → slice_get lines at ≡ text → line_fault here context text ≡ found → fault_at lines at ≡ found
fault_here lines at text here context found setting told same e =
    ap (λ l. line_fault (setting_at lines at) (context_at lines at) l) same ∙ ap (λ k. line_fault (setting_at lines at) k text) (sym told) ∙ ap (λ s. line_fault s context text) (sym setting) ∙ e

pub told_behind : (lines : List (List ℕ)) (at : ℕ) (text : Option (List ℕ)) (context more : Context) →
    context ≡ context_at lines at → slice_get lines at ≡ text → more ≡ behind at text context → more ≡ context_at lines (at + 1)
told_behind lines at text context more told same e =
    rw add-one (e ∙ ap (behind at text) told ∙ ap (λ l. behind at l (context_at lines at)) (sym same))

pub lines_behind : (texts : List (List ℕ)) (at : ℕ) (text : Option (List ℕ)) (here : Setting) (context : Context) (before : List Shown) (line : Shown) →
    here ≡ setting_at texts at → context ≡ context_at texts at → slice_get texts at ≡ text → before ≡ lines_until texts at → line ≡ line_with here context text →
    before ++ line ∷ [] ≡ lines_until texts (at + 1)
lines_behind texts at text here context before line setting told same until e =
    let found : line ≡ line_at texts at = e ∙ ap (λ h. line_with h context text) setting ∙ ap (λ k. line_with (setting_at texts at) k text) told ∙ ap (line_with (setting_at texts at) (context_at texts at)) (sym same) in
    rw add-one (ap (λ b. b ++ line ∷ []) until ∙ ap (λ x. lines_until texts at ++ x ∷ []) found)

pub lines_length : (texts : List (List ℕ)) (n : ℕ) → length (lines_until texts n) ≡ n
lines_length texts zero = refl
lines_length texts (suc n) = length-append (lines_until texts n) (line_at texts n ∷ []) ∙ omega (arith, lines_length texts n)

-- as many lines as texts
pub lines_count : (texts : List (Bor (List ℕ))) (all : List Line) → map shown_line all ≡ lines_in (map (λ text. text.now) texts) → length all ≡ length texts
lines_count texts all same =
    let shown : length (map shown_line all) ≡ length all = simp length-map in
    let read : length (map (λ text. text.now) texts) ≡ length texts = simp length-map in
    omega (arith, shown, read, ap length same, lines_length (map (λ text. text.now) texts) (length (map (λ text. text.now) texts)))
