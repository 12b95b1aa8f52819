use Rattle.std.proofs.Common.{arith, ◌-◌, length}
use Rattle.std.proofs.lemmas.List.{length-take-le}
use Rattle.tb_view.proofs.ShortLineLemmas.{arg_put}
use Rattle.tb_view.proofs.short_line.put_args.Goals as goal

pub each-preserved : goal.each-preserved
each-preserved c = record {
  few = omega (arith, c.each.invariant.few, length-take-le (length c.each.rest.now - 1) c.each.rest.now (omega arith));
  whole = arg_put c.each.rest.now _ _ _ _ c.in-len1-up.len_at_least c.in_ok-put_arg.ensures c.each.invariant.whole;
}
