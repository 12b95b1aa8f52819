use Rattle.std.proofs.Common.{false, ◌≡◌, ◌<◌, ◌≤◌, ◌-◌, ◌++◌, ◌∷◌, [], List, sym, subst, arith, length}
use Rattle.std.proofs.Math.Nat.{min-le_right}
use Rattle.std.proofs.lemmas.List.{length-append}
use Rattle.std.specs.Prelude.{min, vec_capacity}
use Rattle.std.specs.List.{IsDistinct, list_any}
use Rattle.tb_model.specs.Names.{Name, same_name}
use Rattle.tb_wait.specs.Names.{Names}
use Rattle.tb_wait.proofs.NearLemmas.{distinct_push}
use Rattle.tb_wait.proofs.names.Names.push.Goals as goal

pub invariant_of-self : goal.invariant_of-self
invariant_of-self c =
    let names : List Name = c.self.inside.names.items in
    let room : 0 < min (vec_capacity c.self.inside.names) 4294967295 - length names = subst (λ (n : Names). 0 < n.spare) (sym c.self.view_is) c.requires.room in
    let fits : length (names ++ c.args.name ∷ []) ≤ 4294967295 = omega (arith, length-append names (c.args.name ∷ []), room, min-le_right (vec_capacity c.self.inside.names) 4294967295) in (
      subst (IsDistinct same_name) (sym c.push_reserved.ensures.items)
          (distinct_push c.args.name c.self.inside.names.items c.self.invariant.0 (subst (λ (n : Names). list_any (same_name c.args.name) n.keys ≡ false) (sym c.self.view_is) c.requires.absent)),
      subst (λ l. length l ≤ 4294967295) (sym c.push_reserved.ensures.items) fits,
    )
