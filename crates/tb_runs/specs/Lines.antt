-- What a line of a run text says, by the lines that came before it.
use Rattle.std.specs.Prelude.{ℕ, ℤ, not, nat_lt, nat_le, nat_eq, codes, is_some, length, List, [], ◌∷◌, drop, Option, Some, None, Result, Ok, Err, if◌then◌else◌}
use Rattle.std.specs.Map.{lookup}
use Rattle.tb_read.specs.Text.{line_words, before_comment, is_text}
use Rattle.tb_read.specs.Word.{Word}
use Rattle.tb_runs.specs.Reading.{Reading, and_then, ended, begins, number_in, id_in, cell_in}
use Rattle.tb_runs.specs.Actions.{action_in}
use Rattle.tb_runs.specs.declared.fault.Fault.{Fault}
use Rattle.tb_runs.specs.declared.fault.Fault.TheVariants.{NoCells, BadNumber, Duplicate, TooLarge, NotText}
use Rattle.tb_runs.specs.declared.said.Said.{Said}
use Rattle.tb_runs.specs.declared.said.Said.TheVariants.{Cells, Cell, Hist, Event as AnEvent}
use Rattle.tb_runs.specs.declared.said.Stage.{Stage}
use Rattle.tb_runs.specs.declared.said.Stage.TheVariants as stage

-- the cells that were given a first value, the first of them first
abbrev pub Firsts : Type 0
Firsts = List (ℕ × ℤ)

-- the most cells
abbrev pub most_cells : ℕ
most_cells = 134217728

-- ---- the lines in front of the events

abbrev pub count_by : ℤ → List Word → Reading ℕ
count_by (ℤ.pos n) words = if nat_le n most_cells then Ok (n, words) else Err TooLarge
count_by (ℤ.negsuc n) words = Err BadNumber

abbrev pub count_in : List Word → Reading ℕ
count_in words = and_then (number_in words) count_by

abbrev pub cells_said : List Word → Reading Said
cells_said words = and_then (count_in words) (λ n words. Ok (Cells n, words))

-- the first line with words
abbrev pub begun_in : List Word → Reading Said
begun_in words = if begins (codes "cells") words then cells_said (drop 1 words) else Err NoCells

-- a cell that has no first value yet
abbrev pub fresh_by : Firsts → ℕ → List Word → Reading ℕ
fresh_by firsts c words = if is_some (lookup (nat_eq c) firsts) then Err Duplicate else Ok (c, words)

abbrev pub fresh_in : Firsts → ℕ → List Word → Reading ℕ
fresh_in firsts cells words = and_then (cell_in cells words) (fresh_by firsts)

abbrev pub cell_said : Firsts → ℕ → List Word → Reading Said
cell_said firsts cells words = and_then (fresh_in firsts cells words) (λ c words. and_then (number_in words) (λ x words. Ok (Cell c x, words)))

abbrev pub hist_by : ℤ → List Word → Reading Said
hist_by (ℤ.pos n) words = Ok (Hist, words)
hist_by (ℤ.negsuc n) words = Err BadNumber

abbrev pub hist_said : List Word → Reading Said
hist_said words = and_then (number_in words) hist_by

-- ---- events

abbrev pub event_said : ℕ → List Word → Reading Said
event_said cells words =
    and_then (id_in words) (λ id words. and_then (action_in cells words) (λ action words.
    Ok (AnEvent id.step (record { task = id.task; action = action }), words)))

-- a first value of a cell, `hist`, or the first event
abbrev pub headed_in : Firsts → ℕ → List Word → Reading Said
headed_in firsts cells words =
    if begins (codes "cell") words then cell_said firsts cells (drop 1 words)
    else (if begins (codes "hist") words then hist_said (drop 1 words)
    else event_said cells words)

-- ---- a line

-- what the words say, of which there are some
abbrev pub said_in : Firsts → Stage → List Word → Reading Said
said_in firsts stage.Begin words = begun_in words
said_in firsts (stage.Cells count) words = headed_in firsts count words
said_in firsts (stage.Events count) words = event_said count words

abbrev pub some_said : Result Said Fault → Result (Option Said) Fault
some_said (Err fault) = Err fault
some_said (Ok said) = Ok (Some said)

-- what a line says, and None where it has no words
abbrev pub said_by : Firsts → Stage → List Word → Result (Option Said) Fault
said_by firsts at [] = Ok None
said_by firsts at (word ∷ words) = some_said (ended (said_in firsts at (word ∷ words)))

-- a line is at most so long, and text in front of its comment
abbrev pub longest : ℕ
longest = 65535

abbrev pub line_said : Firsts → Stage → List ℕ → Result (Option Said) Fault
line_said firsts at line =
    if nat_lt longest (length line) then Err TooLarge
    else (if not (is_text (before_comment line)) then Err NotText
    else said_by firsts at (line_words line))

-- the count of cells, once a line gave it
abbrev pub cells_at : Stage → ℕ
cells_at stage.Begin = 0
cells_at (stage.Cells count) = count
cells_at (stage.Events count) = count
