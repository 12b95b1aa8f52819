use Rattle.std.proofs.Common.{rules, [], reverse, sym, ap, ◌∙◌, subst}
use Rattle.std.specs.List.{AllZip}
use Rattle.tb_places.specs.Places.{IsIndexOf}
use Rattle.tb_core.specs.Renumbering.{events_in}
use Rattle.tb_core.specs.Soundness.{names_in, seen, IsSound}
use Rattle.tb_core.specs.Storing.{IsStored, entries_in}
use Rattle.tb_core.proofs.run.Core.open.Goals as goal

pub invariant_of-result : goal.invariant_of-result
invariant_of-result c = (
  subst (λ ss. IsSound c.in_ok-from_slice.field-0.items c.args.root_line c.args.limit (reverse (entries_in c.in_ok-open.field-0 ss)) c.in_ok-open.field-0) (sym c.new.ensures.items) (search rules),
  search rules,
  subst (λ ss. IsIndexOf (names_in c.in_ok-open.field-0) (events_in (entries_in c.in_ok-open.field-0 ss)) c.new-2.result) (sym c.new.ensures.items) (c.new-2.ensures (names_in c.in_ok-open.field-0)),
  subst (λ ss. AllZip (IsStored (names_in c.in_ok-open.field-0)) ss (entries_in c.in_ok-open.field-0 ss)) (sym c.new.ensures.items) tt,
)

pub returns : goal.returns
returns c =
    ap (λ ss. seen c.in_ok-from_slice.field-0.items c.args.root_line c.args.limit (reverse (entries_in c.in_ok-open.field-0 ss))) c.new.ensures.items
    ∙ ap (λ cells. seen cells c.args.root_line c.args.limit []) c.in_ok-from_slice.ensures.items
