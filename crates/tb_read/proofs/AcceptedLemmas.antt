-- The program of an accepted text.
use Rattle.std.proofs.Common.{◌≡◌, ◌≤◌, ◌∙◌, ℕ, ℤ, List, Option, Bor, length, map, ap, subst, arith, codes}
use Rattle.std.proofs.lemmas.List.{length-map}
use Rattle.tb_model.specs.Program.{Program, Body as Named}
use Rattle.tb_plan.specs.declared.instr.Instr.{Instr}
use Rattle.tb_read.specs.Context.{Context}
use Rattle.tb_read.specs.Headings.{headings_from, heading_of}
use Rattle.tb_read.specs.Meaning.{AreInstrsOf, IsProgramOf, first_number, line_of, lines_in}
use Rattle.tb_read.specs.Reading.{context_at, IsAccepted}
use Rattle.tb_read.specs.Shown.{shown_line, shown_instr, ArePlaced}
use Rattle.tb_read.specs.Soundness.{IsSound, IsKept}
use Rattle.tb_read.specs.declared.line.Line.{Line}
use Rattle.tb_read.proofs.ReadLemmas.{lines_count}
use Rattle.tb_read.proofs.WellFormedLemmas.{accepted_well_formed, accepted_root, accepted_followed}

-- what the reader has of a text whose lines are all accepted
pub record Has (texts : List (List ℕ)) (given : Context) (all : List Line) (instrs : List (Option Instr)) (cells : List ℤ) (bodies : List Named) (main : ℕ) : Type 0 where
  pub accepted : IsAccepted texts
  pub told : given ≡ context_at texts (length texts)
  pub lines : map shown_line all ≡ lines_in texts
  pub numbers : cells ≡ map first_number given.cells
  pub names : bodies ≡ given.bodies
  pub root : main ≡ line_of (heading_of (headings_from 0 texts) (codes "main"))
  pub whole : length all ≡ length texts
  pub count : length instrs ≡ length all
  pub are : AreInstrsOf (map shown_line all) (map shown_instr instrs)

module _ (texts : List (List ℕ)) (given : Context) (all : List Line) (instrs : List (Option Instr)) (cells : List ℤ) (bodies : List Named) (main : ℕ) (has : Has texts given all instrs cells bodies main) where
  abbrev pub P : Program
  P = record { cells = cells; bodies = bodies; lines = map shown_instr instrs; root_line = main }

  pub program_means : IsProgramOf texts P
  program_means =
      let shown : length (map shown_instr instrs) ≡ length instrs = simp length-map in
      record {
        cells = has.numbers ∙ ap (λ k. map first_number k.cells) has.told;
        bodies = has.names ∙ ap (λ k. k.bodies) has.told;
        root_line = has.root;
        count = shown ∙ has.count ∙ has.whole;
        instrs = subst (λ s. AreInstrsOf s (map shown_instr instrs)) has.lines has.are;
      }

  pub program_sound : IsSound P
  program_sound = record {
    well_formed = accepted_well_formed texts P has.accepted program_means;
    root = accepted_root texts P has.accepted program_means;
    followed = accepted_followed texts P has.accepted program_means;
  }

  pub program_kept : length cells ≤ 65536 → length all ≤ 65537 → ArePlaced (length cells) instrs → IsKept P instrs
  program_kept few few_lines placed = record { few_cells = few; few_lines = omega (arith, has.count, few_lines); placed = placed; sound = program_sound }

-- what an accepted text has, from what the calls answer; the texts are lent
pub has_of : (lent : List (Bor (List ℕ))) (given : Context) (all : List Line) (instrs : List (Option Instr)) (cells : List ℤ) (bodies : List Named) (main : ℕ) →
    IsAccepted (map (λ line. line.now) lent) → given ≡ context_at (map (λ line. line.now) lent) (length lent) → map shown_line all ≡ lines_in (map (λ line. line.now) lent) →
    cells ≡ map first_number given.cells → bodies ≡ given.bodies → main ≡ line_of (heading_of (headings_from 0 (map (λ line. line.now) lent)) (codes "main")) →
    length instrs ≡ length all → AreInstrsOf (map shown_line all) (map shown_instr instrs) → Has (map (λ line. line.now) lent) given all instrs cells bodies main
has_of lent given all instrs cells bodies main accepted told lines numbers names root count are =
    let whole : length lent ≡ length (map (λ line. line.now) lent) = simp length-map in
    record {
      accepted = accepted;
      told = told ∙ ap (context_at (map (λ line. line.now) lent)) whole;
      lines = lines;
      numbers = numbers;
      names = names;
      root = root;
      whole = lines_count lent all lines ∙ whole;
      count = count;
      are = are;
    }
