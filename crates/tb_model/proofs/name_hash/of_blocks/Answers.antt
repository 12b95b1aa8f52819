use Rattle.std.proofs.Common.{◌∙◌, ap₂}
use Rattle.tb_model.specs.NameHash.{mixed}
use Rattle.std.proofs.lemmas.List.{take_rest}
use Rattle.tb_model.proofs.name_hash.of_blocks.Goals as goal

pub returns : goal.returns
returns c = c.mixed.ensures ∙ ap₂ mixed c.nearest-digest.ensures (take_rest c.args.root.now 120)
