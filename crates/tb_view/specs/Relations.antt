-- How a task relates to its siblings, as text.
use Rattle.std.specs.Prelude.{ℕ, List, [], ◌∷◌, ◌++◌, Bool, codes, if◌then◌else◌}
use Rattle.tb_model.specs.declared.action.Action.{Action}
use Rattle.tb_model.specs.declared.action.Action.TheVariants.{Spawn}
use Rattle.tb_model.specs.Names.{Name}
use Rattle.tb_model.specs.Facts.{History, before, apart}
use Rattle.tb_model.specs.Spelling.{name_text}
use Rattle.tb_view.specs.Listing.{listed}

-- the name with the word, where the relation holds
abbrev pub line_where : Bool → Name → List ℕ → List (List ℕ)
line_where holds u word = if holds then (name_text u ++ word) ∷ [] else []

-- whether u is before t, then whether the two exclude each other; only siblings are
abbrev pub relation_lines : History → Name → Name → List (List ℕ)
relation_lines H t u = line_where (before H u t) u (codes " before") ++ line_where (apart H u t) u (codes " apart")

-- the relations of t to the task that the action generates
abbrev pub spawned_lines : History → Name → Action → List (List ℕ)
spawned_lines H t (Spawn s) = relation_lines H t s.child
spawned_lines H t _ = []

-- the relations to the tasks that were generated in K, in the order of spawning: siblings come by
-- rising ordinals
abbrev pub lines_among : History → Name → History → List (List ℕ)
lines_among H t [] = []
lines_among H t (v ∷ K) = lines_among H t K ++ spawned_lines H t v.action

abbrev pub deps_text : History → Name → List ℕ
deps_text H t = listed (codes "deps") (lines_among H t H)
