use Rattle.std.proofs.Common.{◌≤◌, ◌∙◌, sym, ap, arith, subst, length, slice_get}
use Rattle.std.specs.List.{IsDistinct, zip}
use Rattle.std.specs.Map.{keys_of}
use Rattle.std.proofs.lemmas.List.{length-map}
use Rattle.std.proofs.lemmas.Map.Made.{keys_of-zip}
use Rattle.tb_model.specs.Names.{same_name}
use Rattle.tb_wait.proofs.wait.Wait.name.Goals as goal

pub returns-clause-name : goal.returns-clause-name
returns-clause-name c =
    c.get.ensures.key
    ∙ ap (λ ks. slice_get ks c.args.at) (sym (keys_of-zip c.self.inside.names.keys c.self.inside.rows.items c.self.invariant.0.slots_len) ∙ ap (λ v. keys_of v.tasks) c.self.view_is)

pub returns-clause-distinct : goal.returns-clause-distinct
returns-clause-distinct c =
    subst (IsDistinct same_name) (sym (keys_of-zip c.self.inside.names.keys c.self.inside.rows.items c.self.invariant.0.slots_len) ∙ ap (λ v. keys_of v.tasks) c.self.view_is) c.get.ensures.distinct

pub returns-clause-bound : goal.returns-clause-bound
returns-clause-bound c =
    let names = c.self.inside.names.keys in
    let rows = c.self.inside.rows.items in
    let count : length (zip names rows) ≤ 4294967295 = omega (arith, length-map (zip names rows) (λ e. e.0), ap length (keys_of-zip names rows c.self.invariant.0.slots_len), c.get.ensures.bound) in
    subst (λ n. n ≤ 4294967295) (ap (λ v. length v.tasks) c.self.view_is) count
