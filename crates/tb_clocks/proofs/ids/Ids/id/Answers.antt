use Rattle.std.proofs.Common.{ℕ, ◌≡◌, sym, ap, ◌∙◌, subst}
use Rattle.std.specs.List.{list_any}
use Rattle.std.specs.Prelude.{is_some, position}
use Rattle.std.proofs.lemmas.Bool.{both_ways}
use Rattle.tb_model.specs.Names.{same_name}
use Rattle.tb_clocks.specs.Known.{HasId, names_in}
use Rattle.tb_clocks.proofs.IdLemmas.{found_at, there}
use Rattle.tb_clocks.proofs.ids.Ids.id.Goals as goal

pub returns-clause-some : goal.returns-clause-some
returns-clause-some c cells H i a e =
    found_at H c.args.name.now i (ap (position (same_name c.args.name.now)) (sym a.names) ∙ sym c.get_index_of.ensures.index ∙ e)

pub returns-clause-none : goal.returns-clause-none
returns-clause-none c cells H a e s =
    both_ways (list_any (same_name c.args.name.now) (names_in H))
    (ap (list_any (same_name c.args.name.now)) (sym a.names) ∙ sym c.get_index_of.ensures.found ∙ ap is_some e) (there H c.args.name.now s)

pub returns-then-is_of-clause-some : goal.returns-then-is_of-clause-some
returns-then-is_of-clause-some c cells H i a e =
    let same : c.args.before ≡ i = cc in
    subst (λ (n : ℕ). HasId H n c.args.name.now) same (c.is_of.ensures c.if-is_of.true cells H a)

pub returns-then-is_of-2-clause-some : goal.returns-then-is_of-2-clause-some
returns-then-is_of-2-clause-some c cells H i a e =
    let same : c.saturating_add-next.result ≡ i = cc in
    subst (λ (n : ℕ). HasId H n c.args.name.now) same (c.is_of-2.ensures c.if-is_of-2.true cells H a)
