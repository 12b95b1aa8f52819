use Rattle.std.proofs.Common.{ap, sym, subst}
use Rattle.std.specs.List.{IsDistinct}
use Rattle.std.specs.Map.{keys_of}
use Rattle.tb_model.specs.Names.{same_name}
use Rattle.tb_ready.proofs.ChangeLemmas.{keys_tasks}
use Rattle.tb_ready.proofs.names.Names.len.Goals as goal

pub returns-clause-distinct : goal.returns-clause-distinct
returns-clause-distinct c =
    let tasks = ap (λ v. v.tasks) c.self.view_is in
    subst (λ ts. IsDistinct same_name (keys_of ts)) tasks
    (subst (IsDistinct same_name) (sym (keys_tasks c.self.inside.keys.entries c.self.inside.marks.slots)) c.self.invariant.1)
