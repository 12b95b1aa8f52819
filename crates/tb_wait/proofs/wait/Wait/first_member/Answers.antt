use Rattle.std.proofs.Common.{sym, ◌∙◌, subst, arith}
use Rattle.tb_model.specs.LeastNames.{IsLeastName}
use Rattle.tb_wait.specs.Kin.{IsUnendedMember}
use Rattle.tb_wait.proofs.WaitLemmas.{at_key}
use Rattle.tb_wait.proofs.AskedLemmas.{member_some, member_none, member_no_group, member_absent, no_row, slice_get-key}
use Rattle.tb_wait.proofs.wait.Wait.first_member.Goals as goal

pub returns-in_default : goal.returns-in_default
returns-in_default c = member_absent c.args.self.now c.self.inside.names.keys c.self.inside.rows.items c.self.inside.tree.nodes c.self.inside.room c.self.view_is c.self.invariant.0 c.args.task.now (no_row c.args.self.now c.self.inside.names.keys c.self.inside.rows.items c.self.inside.tree.nodes c.self.inside.room c.self.view_is c.self.invariant.0 c.args.task.now c.in_default.ensures.found)

pub returns-in_default-innermost : goal.returns-in_default-innermost
returns-in_default-innermost c =
    let k = at_key c.args.task.now c.self.inside.names.keys c.in-Some.at c.in-Some.ensures.index in
    member_no_group c.args.self.now c.self.inside.names.keys c.self.inside.rows.items c.self.inside.tree.nodes c.self.inside.room c.self.view_is c.self.invariant.0 c.args.task.now c.in-Some.at k.0 k.1 (sym c.innermost.ensures ∙ c.in_default-innermost.is)

pub returns-in_default-first_live : goal.returns-in_default-first_live
returns-in_default-first_live c =
    let k = at_key c.args.task.now c.self.inside.names.keys c.in-Some.at c.in-Some.ensures.index in
    member_none c.args.self.now c.self.inside.names.keys c.self.inside.rows.items c.self.inside.tree.nodes c.self.inside.room c.self.view_is c.self.invariant.0 c.args.task.now c.in-Some.at k.0 k.1 c.in-Some-innermost.from (sym c.innermost.ensures ∙ c.in-Some-innermost.is) c.in_default-first_live.ensures.known c.in_default-first_live.ensures.first

pub returns : goal.returns
returns c =
    let k = at_key c.args.task.now c.self.inside.names.keys c.in-Some.at c.in-Some.ensures.index in
    let f = c.self.invariant.0 in
    let within = c.first_within-first.ensures.within in
    subst (IsLeastName (IsUnendedMember c.args.self.now.tasks c.args.task.now)) (sym (c.get.ensures.key ∙ slice_get-key c.self.inside.names.keys c.first_within-first.result (omega (arith, within, f.nodes_len))))
    (member_some c.args.self.now c.self.inside.names.keys c.self.inside.rows.items c.self.inside.tree.nodes c.self.inside.room c.self.view_is c.self.invariant.0 c.args.task.now c.in-Some.at k.0 k.1 c.in-Some-innermost.from (sym c.innermost.ensures ∙ c.in-Some-innermost.is) c.in-Some-first_live.ensures.known c.in-Some-first_live.child c.first_within-first.result c.in-Some-first_live.ensures.first (omega (arith, within, f.nodes_len)) c.first_within-first.ensures.pending
    (c.first_within-first.ensures.first c.self.inside.names.keys c.self.inside.rows.items f))
