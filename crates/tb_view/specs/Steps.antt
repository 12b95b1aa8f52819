-- Steps of a history, as text. The steps come in the order of the history, which is listed from its newest event.
use Rattle.std.specs.Prelude.{◌≡◌, ◌⊎◌, ℕ, zero, suc, unwrap_or, List, [], ◌∷◌, ◌++◌, Bool, false, ◌&&◌, ◌==◌, length, codes, if◌then◌else◌}
use Rattle.std.specs.List.{list_any}
use Rattle.std.specs.Fmt.{decimal}
use Rattle.std.specs.Map.{lookup}
use Rattle.tb_model.specs.declared.step_id.StepId.{StepId}
use Rattle.tb_model.specs.Names.{Name, same_name}
use Rattle.tb_model.specs.Facts.{History, own}
use Rattle.tb_model.specs.Needs.{step_of}
use Rattle.tb_model.specs.Program.{Program}
use Rattle.tb_view.specs.Lines.{line, step_line}

-- ---- all steps

abbrev pub history_lines : Program → History → List ℕ
history_lines P [] = []
history_lines P (v ∷ H) = history_lines P H ++ step_line P H v

-- the lines of so many of the newest
abbrev pub newest_lines : Program → ℕ → History → List ℕ
newest_lines P zero H = []
newest_lines P (suc count) [] = []
newest_lines P (suc count) (v ∷ H) = newest_lines P count H ++ step_line P H v

-- how many steps there are, and the line of each
abbrev pub history_text : Program → History → List ℕ
history_text P H = line (codes "hist " ++ decimal (length H)) ++ history_lines P H

-- ---- some of them

abbrev pub same_step : StepId → StepId → Bool
same_step i j = same_name i.task j.task && i.k == j.k

abbrev pub is_among : StepId → List StepId → Bool
is_among i steps = list_any (λ s. same_step s i) steps

-- the lines of those steps of the history that are among these
abbrev pub chosen_lines : Program → List StepId → History → List ℕ
chosen_lines P steps [] = []
chosen_lines P steps (v ∷ H) = chosen_lines P steps H ++ (if is_among (step_of H v) steps then step_line P H v else [])

-- how many these are, after the word, and the line of each
abbrev pub chosen_text : List ℕ → Program → List StepId → History → List ℕ
chosen_text word P steps H = line (word ++ codes " " ++ decimal (length steps)) ++ chosen_lines P steps H

-- these, the newest first, are steps of the history, in its order
abbrev pub AreStepsOf : List StepId → History → Type 0
AreStepsOf steps [] = steps ≡ []
AreStepsOf steps (v ∷ H) = AreStepsOf steps H ⊎ ((rest : List StepId) × (steps ≡ step_of H v ∷ rest) × AreStepsOf rest H)

-- ---- how many steps each task has executed

abbrev pub Counts : Type 0
Counts = List (Name × ℕ)

-- a task that isn't listed has taken none
abbrev pub count_of : Counts → Name → ℕ
count_of counts t = unwrap_or (lookup (same_name t) counts) 0

-- one step more of t
abbrev pub IsCounted : Counts → Name → Counts → Type 0
IsCounted old t new = (u : Name) → count_of new u ≡ (if same_name t u then suc (count_of old u) else count_of old u)

-- these are the ordinals of steps in the history
abbrev pub AreCounts : History → Counts → Type 0
AreCounts H counts = (t : Name) → count_of counts t ≡ length (own t H)
