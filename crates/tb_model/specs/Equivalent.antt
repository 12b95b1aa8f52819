-- Causally equivalent histories (the idea is Danos and Krivine's, CONCUR 2004; this form is the project's own).
use Rattle.std.specs.Prelude.{◌≡◌, [], ◌∷◌, Bool, false, ◌&&◌, ◌||◌, IsTrue}
use Rattle.tb_model.specs.declared.event.Event.{Event}
use Rattle.tb_model.specs.Names.{Name}
use Rattle.tb_model.specs.Facts.{History, own}
use Rattle.tb_model.specs.declared.step_id.StepId.{StepId}
use Rattle.tb_model.specs.Needs.{needs, is_step}

-- the step is in the history
abbrev pub stands : StepId → History → Bool
stands i [] = false
stands i (v ∷ H) = is_step i H v || stands i H

-- the step j is before the step i
abbrev pub comes_first : StepId → StepId → History → Bool
comes_first j i [] = false
comes_first j i (v ∷ H) = (is_step i H v && stands j H) || comes_first j i H

-- v, after H, directly needs the step j, which is in K, the front part of H
abbrev pub needs_step : History → Event → StepId → History → Bool
needs_step H v j [] = false
needs_step H v j (u ∷ K) = (is_step j K u && needs H v u) || needs_step H v j K

-- the step i directly needs the step j, which is before it
abbrev pub needs_in : StepId → StepId → History → Bool
needs_in i j [] = false
needs_in i j (v ∷ H) = (is_step i H v && needs_step H v j H) || needs_in i j H

-- two histories have the same steps with the same actions, and any two of which one directly needs
-- the other in one order
pub record Equivalent (G H : History) : Type 0 where
  pub acts : (t : Name) → own t G ≡ own t H
  pub there : (i j : StepId) → IsTrue (needs_in i j G) → IsTrue (comes_first j i H)
  pub back : (i j : StepId) → IsTrue (needs_in i j H) → IsTrue (comes_first j i G)
