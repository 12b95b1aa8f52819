use Rattle.std.proofs.Common.{ap, ◌∙◌, subst}
use Rattle.std.specs.Prelude.{IfOk, IsTrue}
use Rattle.tb_model.specs.State.{is_unended_member_of}
use Rattle.tb_core.specs.Listed.{AreAll}
use Rattle.tb_live.specs.Session.{Held, history}
use Rattle.tb_live.proofs.live.Live.unended_members.Goals as goal

pub returns : goal.returns
returns c =
    let left = c.self.invariant.0.leaves ∙ ap (λ (h : Held). history h.session) c.self.view_is in
    subst (λ H. IfOk c.unended_members.result (λ us. AreAll (λ u. IsTrue (is_unended_member_of H c.args.group.now.task c.args.group.now.k u)) us.items)) left c.unended_members.ensures
