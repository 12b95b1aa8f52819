-- The races of a run, as they are found event by event.
use Rattle.std.specs.Prelude.{◌≡◌, ℕ, List, [], ◌∷◌, Bool, true, false, if◌then◌else◌, reverse, length, Ok}
use Rattle.tb_draft.specs.Races.{race_lines}
use Rattle.tb_model.specs.Facts.{History}
use Rattle.tb_model.specs.Legal.{Cells, Legal}
use Rattle.tb_races.specs.declared.race.Race.{Race}
use Rattle.tb_races.specs.Racing.{races}
use Rattle.tb_stream.specs.Halves.{AreRaces}
use Rattle.tb_taskcheck.specs.declared.found.Found.{Found}
use Rattle.tb_verdict.specs.Texts.{Sofar, history_in, lines_behind, start, text_judged}

-- by the order of their later steps in the history
abbrev pub listed : History → List Race
listed H = reverse (races H)

-- one of them exclusion doesn't separate
abbrev pub some_unordered : List Race → Bool
some_unordered [] = false
some_unordered (r ∷ races) = if r.apart then some_unordered races else true

-- what is stored gives the races of the events to come, and those of these events are listed
pub record AreFound (cells : Cells) (H : History) (found : Found) : Type 0 where
  pub held : AreRaces cells H found.races
  pub lines : found.lines ≡ race_lines (listed H)
  pub count : found.count ≡ length (listed H)
  pub unordered : found.is_unordered ≡ some_unordered (races H)

-- of a legal run
abbrev pub IsFound : History → Found → Type 0
IsFound H found = (cells : Cells) → Legal cells H → AreFound cells H found

-- of the run of these lines, at none of which the judgement ends
abbrev pub FoundAt : List (List ℕ) → Found → Type 0
FoundAt lines found = (s : Sofar) → lines_behind 1 start lines ≡ Ok s → IsFound (history_in s) found

-- of the run of a text of these lines
abbrev pub FoundIn : List (List ℕ) → Found → Type 0
FoundIn lines found = (first : Cells) (H : History) → text_judged lines ≡ Ok (first, H) → IsFound H found
