use Rattle.std.proofs.Common.{◌<◌, List, length, refl, sym, ap₂, ◌∙◌, subst, arith}
use Rattle.std.proofs.lemmas.Option.{slice_get_read}
use Rattle.tb_steps.proofs.FirstLemmas.{front_legal, there}
use Rattle.tb_steps.specs.Entries.{Entry}
use Rattle.tb_steps.specs.Scans.{AreLegal, history_of}
use Rattle.tb_model.specs.Facts
use Rattle.tb_lanes.proofs.LinkLemmas.{end_read}
use Rattle.tb_lanes.proofs.OwnLemmas.{got}
use Rattle.tb_order.proofs.waiting.waiting_kind.Goals as goal

pub end_kind-requires-clause-legal : goal.end_kind-requires-clause-legal
end_kind-requires-clause-legal c =
    let x = there c.args.entries.now c.args.at c.requires.at in
    subst AreLegal (sym c.front-front.ensures) (front_legal c.args.entries.now c.args.at x.0 c.requires.at x.1 c.requires.legal)

pub end_kind-requires-clause-items : goal.end_kind-requires-clause-items
end_kind-requires-clause-items c =
    let entries = c.args.entries.now in
    let x = there entries c.args.at c.requires.at in
    c.items_of-items.ensures c.args.at (omega arith) c.requires.at x.0 (slice_get_read entries (length entries) c.args.at x.0 refl c.requires.at x.1)
    ∙ sym (ap₂ (λ t (front : List Entry). Facts.items_of t (history_of front)) (c.task.ensures x.0 x.1) c.front-front.ensures)

pub end_kind-requires-clause-others : goal.end_kind-requires-clause-others
end_kind-requires-clause-others c =
    let entries = c.args.entries.now in
    let inside : c.args.end < length entries = omega (arith, c.requires.at, c.requires.end) in
    let y = there entries c.args.end inside in
    c.items_of-others.ensures c.args.at (omega (arith, c.requires.end)) c.requires.at y.0 (slice_get_read entries (length entries) c.args.end y.0 refl inside y.1)
    ∙ sym (ap₂ (λ t (front : List Entry). Facts.items_of t (history_of front)) (c.task-ended.ensures y.0 y.1) c.front-front.ensures)

pub end_kind-requires-clause-held : goal.end_kind-requires-clause-held
end_kind-requires-clause-held c =
    let entries = c.args.entries.now in
    let x = there entries c.args.at c.requires.at in
    c.holds-held.ensures x.0 (slice_get_read entries (length entries) c.args.at x.0 refl c.requires.at x.1)
    ∙ sym (ap₂ (λ t (front : List Entry). Facts.holds (Facts.own t (history_of front)) c.task-ended.result.now) (c.task.ensures x.0 x.1) c.front-front.ensures)

pub returns : goal.returns
returns c v u v_is u_is =
    let entries = c.args.entries.now in
    let inside : c.args.end < length entries = omega (arith, c.requires.at, c.requires.end) in
    let x = got entries c.args.at v c.requires.at v_is in
    let y = got entries c.args.end u inside u_is in
    c.end_kind.ensures ∙ end_read entries c.args.at v u c.front-front.result _ _ _ c.front-front.ensures (c.task.ensures v x) (c.action.ensures v x) (c.task-ended.ensures u y)
