use Rattle.std.proofs.Common.{ap, ◌∙◌}
use Rattle.indexmap.specs.IndexSet.{insert_key}
use Rattle.tb_model.specs.Names.{same_name}
use Rattle.tb_clocks.proofs.IdLemmas.{adds_child}
use Rattle.tb_clocks.proofs.ids.Ids.push.Goals as goal

pub returns-in_ok-insert-in-Spawn-clause-ok : goal.returns-in_ok-insert-in-Spawn-clause-ok
returns-in_ok-insert-in-Spawn-clause-ok c cells H v a is l = record {
  legal = l;
  names = adds_child cells H v c.in-Spawn.spawned c.args.self.now.names.keys c.insert.new.self.keys l (is ∙ c.in-Spawn.is) a.names
      (c.in_ok-insert-in-Spawn.ensures.keys ∙ ap (insert_key same_name c.args.self.now.names.keys) (c.in_ok-name-in-Spawn.ensures.cases ∙ ap (λ s. s.child) c.get.ensures));
}
