use Rattle.std.proofs.Common.{◌≡◌, ◌∷◌, map, take}
use Rattle.tb_plain.proofs.own_actions.with_child.Given as goal

abbrev pub invariant-each : goal.invariant-each
invariant-each l = l.all.items ≡ map (λ us. l.child ∷ us) (take l.group-index l.groups)
