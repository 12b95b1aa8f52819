use Rattle.std.proofs.Common.{sym, ap, ◌∙◌, ◌∷◌}
use Rattle.tb_wait.specs.Kin.{is_known}
use Rattle.tb_wait.proofs.WaitLemmas.{at_key, known_any}
use Rattle.tb_wait.proofs.SpawnLemmas.{child_number, known_by_place}
use Rattle.tb_wait.proofs.wait.Wait.is_known.Goals as goal

pub returns-in-Some : goal.returns-in-Some
returns-in-Some c =
    let k = at_key c.args.parent.now c.self.inside.names.keys c.in-Some.owner c.in-Some.ensures.index in
    let it = child_number c.args.parent.now c.args.child.now (sym c.is_parent_of.ensures ∙ c.if-is_parent_of.true) in
    let number = c.number_of.ensures it.0 c.args.parent.now it.1 in
    known_by_place c.args.self.now c.self.inside.names.keys c.self.inside.rows.items c.self.inside.tree.nodes c.self.inside.room c.self.view_is c.self.invariant.0
    c.args.parent.now c.args.child.now c.in-Some.owner c.number_of.result k.0 k.1 (it.1 ∙ ap (λ m. m ∷ c.args.parent.now) (sym number)) c.has_child.result c.has_child.ensures

pub returns-in_default : goal.returns-in_default
returns-in_default c =
    c.is_some.ensures ∙ c.find-in_default.ensures.found ∙ known_any c.args.child.now c.self.inside.names.keys c.self.inside.rows.items c.self.invariant.0.slots_len
    ∙ ap (λ v. is_known v.tasks c.args.child.now) c.self.view_is
