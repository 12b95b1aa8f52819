use Rattle.tb_model.proofs.ReadLemmas.{no_name, front_same}
use Rattle.tb_model.proofs.name_text.spells_name.Goals as goal

pub returns-in-None : goal.returns-in-None
returns-in-None c = no_name c.args.text.now c.parts.rest.now c.parts.at c.ordinal.result c.parts.invariant.last c.parts-test.true c.ordinal.ensures c.parts.invariant.same c.in-None.is

pub parts-preserved : goal.parts-preserved
parts-preserved c = record {
  last = c.last_part-at-in-parts.ensures;
  same = front_same c.args.text.now c.parts.rest.now c.parts.at c.ordinal.result c.parts.invariant.last c.parts-test.true c.ordinal.ensures c.in-Some.field-0 c.in-Some.is _ c.parts.invariant.same;
}
