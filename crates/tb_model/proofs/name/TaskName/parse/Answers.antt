use Rattle.std.proofs.Common.{◌≡◌, arith}
use Rattle.tb_model.specs.Spelling.{spelled_name}
use Rattle.tb_model.proofs.ReadLemmas.{not_none, front_same, number_read, from_one_read, many, all_read, all_written}
use Rattle.tb_model.proofs.name.TaskName.parse.Goals as goal

pub returns-in_default-clause-bad : goal.returns-in_default-clause-bad
returns-in_default-clause-bad c = absurd (not_none c.args.text.now c.parts.rest.now c.parts.at c.ordinal.result c.parts.invariant.last c.parts-test.true c.ordinal.ensures c.parts.invariant.left cc)

pub returns-in_err-push-clause-memory : goal.returns-in_err-push-clause-memory
returns-in_err-push-clause-memory c memory =
    many c.args.text.now c.parts.rest.now c.parts.at c.ordinal.result c.parts.invariant.last c.parts-test.true c.ordinal.ensures c.in-Some.number c.in-Some.is c.parts.numbers.items c.parts.numbers.capacity c.parts.invariant.room (λ room. cc (c.in_err-push.ensures.succeeds room)) c.parts.invariant.name

pub parts-preserved : goal.parts-preserved
parts-preserved c = record {
  last = c.last_part-at-in-parts.ensures;
  whole = c.parts.invariant.whole;
  left = front_same c.args.text.now c.parts.rest.now c.parts.at c.ordinal.result c.parts.invariant.last c.parts-test.true c.ordinal.ensures c.in-Some.number c.in-Some.is _ c.parts.invariant.left;
  name = number_read c.args.text.now c.parts.rest.now c.parts.at c.ordinal.result c.parts.invariant.last c.parts-test.true c.ordinal.ensures c.in-Some.number c.in-Some.is c.parts.numbers.items c.push.new.self.items c.in_ok-push.ensures.ok c.parts.invariant.name;
  from_one = from_one_read c.args.text.now c.parts.rest.now c.parts.at c.ordinal.result c.parts.invariant.last c.parts-test.true c.ordinal.ensures c.in-Some.number c.in-Some.is c.parts.numbers.items c.push.new.self.items c.in_ok-push.ensures.ok c.parts.invariant.from_one;
  room = omega (arith, c.in_ok-push.ensures.capacity, c.parts.invariant.room);
}

-- the name has the ordinals that were read
pub returns-clause-name : goal.returns-clause-name
returns-clause-name c =
    let read = all_read c.args.text.now c.parts.rest.now c.parts.at c.parts.invariant.last c.parts-test.false c.parts.numbers.items c.parts.invariant.name in
    (cc c.in_ok-numbers.ensures.ok)

pub returns-clause-text : goal.returns-clause-text
returns-clause-text c =
    let read : c.in_ok-numbers.numbers ≡ spelled_name c.args.text.now = returns-clause-name c in
    all_written c.args.text.now c.in_ok-numbers.numbers read c.parts.invariant.whole
