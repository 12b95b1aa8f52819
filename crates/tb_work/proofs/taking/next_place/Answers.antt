use Rattle.std.proofs.Common.{rules, ◌≡◌, length, ap, sym, ◌∙◌}
use Rattle.std.proofs.lemmas.List.{length-reverse}
use Rattle.tb_work.proofs.taking.next_place.Goals as goal

pub returns : goal.returns
returns c =
    let long : length c.journal.result.now.items ≡ length c.args.live.now.session.journal = sym (length-reverse c.journal.result.now.items) ∙ ap length c.journal.ensures in
    search rules
