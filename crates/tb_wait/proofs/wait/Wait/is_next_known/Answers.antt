use Rattle.std.proofs.Common.{sym, ap, ◌∙◌, ◌∷◌, suc}
use Rattle.tb_wait.specs.Kin.{is_known}
use Rattle.tb_wait.proofs.WaitLemmas.{at_key, known_any}
use Rattle.tb_wait.proofs.SpawnLemmas.{known_by_place}
use Rattle.tb_wait.proofs.wait.Wait.is_next_known.Goals as goal

pub returns-in-Some : goal.returns-in-Some
returns-in-Some c =
    let k = at_key c.args.parent.now c.self.inside.names.keys c.in-Some.owner c.in-Some.ensures.index in
    let it = c.requires.2 in
    let number = c.number_of.ensures (suc c.requires.0.children) c.args.parent.now it in
    known_by_place c.args.self.now c.self.inside.names.keys c.self.inside.rows.items c.self.inside.tree.nodes c.self.inside.room c.self.view_is c.self.invariant.0
    c.args.parent.now c.args.child.now c.in-Some.owner c.number_of.result k.0 k.1 (it ∙ ap (λ m. m ∷ c.args.parent.now) (sym number)) c.has_child.result c.has_child.ensures

pub returns-in-None : goal.returns-in-None
returns-in-None c =
    c.is_some.ensures ∙ c.find-in-None.ensures.found ∙ known_any c.args.child.now c.self.inside.names.keys c.self.inside.rows.items c.self.invariant.0.slots_len
    ∙ ap (λ v. is_known v.tasks c.args.child.now) c.self.view_is
