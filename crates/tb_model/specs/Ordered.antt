-- Whether each direct need of one history is in its order in another, by one pass.
use Rattle.std.specs.Prelude.{[], ◌∷◌, Bool, true, ◌&&◌, ◌||◌, not}
use Rattle.tb_model.specs.declared.event.Event.{Event}
use Rattle.tb_model.specs.Facts.{History}
use Rattle.tb_model.specs.declared.step_id.StepId.{StepId}
use Rattle.tb_model.specs.Needs.{needs, step_of}
use Rattle.tb_model.specs.Equivalent.{comes_first}

-- each event of K, the front part of F, that v directly needs after F comes before the step i in H
abbrev pub all_first : History → StepId → History → Event → History → Bool
all_first H i F v [] = true
all_first H i F v (u ∷ K) = (not (needs F v u) || comes_first (step_of K u) i H) && all_first H i F v K

-- each direct need of the second history is in its order in the first
abbrev pub ordered : History → History → Bool
ordered H [] = true
ordered H (v ∷ G) = all_first H (step_of G v) G v G && ordered H G
