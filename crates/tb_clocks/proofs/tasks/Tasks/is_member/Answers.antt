use Rattle.std.proofs.Common.{sym, ◌∙◌}
use Rattle.tb_clocks.proofs.GroupLemmas.{member_in, member_of_none}
use Rattle.tb_clocks.proofs.TaskLemmas.{id_spawned}
use Rattle.tb_clocks.proofs.tasks.Tasks.is_member.Goals as goal

pub returns-in-Some : goal.returns-in-Some
returns-in-Some c cells H t m a id other =
    c.is_later.ensures cells H t m a id other
    ∙ member_in cells H t m a.legal (id_spawned H c.args.member m other) c.in-Some.group (sym (c.innermost.ensures cells H t a id) ∙ c.in-Some.is)

pub returns-in-None : goal.returns-in-None
returns-in-None c cells H t m a id other =
    member_of_none cells H t m a.legal (id_spawned H c.args.member m other) (sym (c.innermost.ensures cells H t a id) ∙ c.in-None.is)
