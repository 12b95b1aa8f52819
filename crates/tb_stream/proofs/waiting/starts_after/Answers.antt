use Rattle.std.proofs.Common.{sym, ap, ap₂, ◌∙◌, ◌&&◌, ◌||◌}
use Rattle.tb_model.specs.Facts.{apart, before}
use Rattle.tb_model.specs.Items.{is_apart, is_before, some_meet}
use Rattle.tb_stream.proofs.AskLemmas.{start_counts}
use Rattle.tb_stream.proofs.waiting.starts_after.Goals as goal

pub returns : goal.returns
returns c cells H t u a id other =
    let items = c.items-items.ensures cells H t a id in
    let others = c.items-others.ensures cells H u a other in
    let older = c.is_elder-older.ensures cells H u t a other id in
    let younger = c.is_elder.ensures cells H t u a id other in
    let before_so = c.both-before.ensures ∙ ap₂ (λ x y. x && y) older (c.some_before.ensures ∙ ap₂ (some_meet is_before) items others) in
    let excluded_so = c.both-apart.ensures ∙ ap₂ (λ x y. x && y) older (c.some_apart.ensures ∙ ap₂ (some_meet is_apart) items others) in
    let is_excluded = c.both-excluded.ensures ∙ ap₂ (λ x y. x && y) younger (c.some_apart-2.ensures ∙ ap₂ (some_meet is_apart) others items) in
    c.either-2.ensures
    ∙ ap₂ (λ x y. x || y) before_so (c.both.ensures ∙ ap (λ y. c.args.exclusion && y) (c.either.ensures ∙ ap₂ (λ x y. x || y) excluded_so is_excluded))
    ∙ sym (start_counts c.args.exclusion (before H u t) (apart H u t))
