use Rattle.std.proofs.Common.{[], ◌∙◌, ◌&&◌, sym, ap, ap₂, drop, nat_le}
use Rattle.std.specs.List.{list_all}
use Rattle.tb_journal.specs.Journals.{is_turn}
use Rattle.tb_journal.specs.Compact.{entry_of}
use Rattle.tb_journal.proofs.CompactLemmas.{same_beside}
use Rattle.tb_journal.proofs.TurnLemmas.{entries_all}
use Rattle.tb_journal.proofs.journal.Journal.are_turns.Goals as goal

pub returns : goal.returns
returns c =
    let turn = is_turn c.args.workers in
    let apart = c.self.inside.apart.items in
    let compact = c.self.inside.compact.items in
    let turns = c.self.inside.turns.items in
    c.are_turns.ensures
    ∙ ap₂ (λ kept later. list_all (λ k. turn (entry_of kept [] k)) later) c.as_slice-apart.ensures.value (c.later.ensures ∙ ap (drop c.args.from) c.as_slice.ensures.value)
    ∙ sym (entries_all turn apart turns (λ t k. ap₂ (λ step seat. step && (nat_le 1 seat && nat_le seat c.args.workers)) (same_beside apart t [] k).step (same_beside apart t [] k).seat) c.args.from 0 compact)
    ∙ ap (λ j. list_all turn (drop c.args.from j.items)) c.self.view_is
