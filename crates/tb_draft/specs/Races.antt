-- Races, as text.
use Rattle.std.specs.Prelude.{ℕ, List, [], ◌∷◌, ◌++◌, Bool, true, false, length, codes, decimal}
use Rattle.tb_model.specs.Spelling.{step_id_text}
use Rattle.tb_races.specs.declared.conflict.Conflict.{Conflict}
use Rattle.tb_races.specs.declared.conflict.Conflict.TheVariants.{Cell, Print}
use Rattle.tb_races.specs.declared.race.Race.{Race}

-- the cell, or the output
abbrev pub conflict_text : Conflict → List ℕ
conflict_text (Cell c) = codes "cell " ++ decimal c
conflict_text Print = codes "print"

-- exclusion forbids the two to be under way at once
abbrev pub apart_text : Bool → List ℕ
apart_text true = codes " apart"
apart_text false = []

-- the earlier step, the later one, and what they race over
abbrev pub race_line : Race → List ℕ
race_line r = step_id_text r.earlier ++ codes " " ++ step_id_text r.later ++ codes " " ++ conflict_text r.conflict ++ apart_text r.apart ++ codes "\n"

abbrev pub race_lines : List Race → List ℕ
race_lines [] = []
race_lines (r ∷ races) = race_line r ++ race_lines races

-- how many these are
abbrev pub races_head : ℕ → List ℕ
races_head count = codes "races " ++ decimal count ++ codes "\n"

-- how many these are, and the line of each
abbrev pub races_text : List Race → List ℕ
races_text races = races_head (length races) ++ race_lines races
