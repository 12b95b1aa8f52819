use Rattle.std.proofs.Common.{Some, refl, sym, ap, ◌∙◌}
use Rattle.std.specs.Option.{option_copied}
use Rattle.tb_stream.specs.Halves.{event_of}
use Rattle.tb_stream.proofs.HalfLemmas.{access_id, raced, shares_some}
use Rattle.tb_stream.proofs.ListLemmas.{the_same}
use Rattle.tb_stream.proofs.racing.race_at.Goals as goal

pub returns-in_default : goal.returns-in_default
returns-in_default c cells H exclusion r ids begins number found apart =
    absurd (shares_some exclusion H (event_of c.args.name.now c.args.action.now) r begins c.args.access (found r begins).1.newest (sym c.conflict_of.ensures ∙ c.in_default.is))

pub returns : goal.returns
returns c cells H exclusion r ids begins number found apart =
    let it = found r begins in
    let a = c.args.access in
    let newest = it.1.newest in
    let of = it.1.access a refl in
    let id = access_id exclusion H (event_of c.args.name.now c.args.action.now) r begins a newest it.0 of in
    let named = the_same _ _ (sym (ap option_copied c.in-Some-name.is) ∙ c.name.ensures cells H ids _ id) in
    let first = c.in_ok-first.ensures.cases ∙ named in
    ap (λ t. Some (record { earlier = record { task = c.in_ok-first.first; k = a.k }; later = record { task = t; k = c.args.k }; conflict = c.in-Some.conflict; apart = c.args.apart })) c.in_ok-second.ensures.cases
    ∙ ap (λ t. Some (record { earlier = record { task = t; k = a.k }; later = record { task = c.args.name.now; k = c.args.k }; conflict = c.in-Some.conflict; apart = c.args.apart })) first
    ∙ raced exclusion H (event_of c.args.name.now c.args.action.now) r begins a newest it.0 of c.in-Some.conflict (sym c.conflict_of.ensures ∙ c.in-Some.is) _ id c.args.k number c.args.apart apart
