use Rattle.std.proofs.Common.{[], ◌∙◌, sym, ap, ap₂, nat_lt}
use Rattle.std.specs.List.{list_all}
use Rattle.tb_model.specs.declared.entry.Entry.{Entry}
use Rattle.tb_journal.specs.Journals.{all_below, seat_of}
use Rattle.tb_journal.specs.Compact.{entry_of}
use Rattle.tb_journal.proofs.CompactLemmas.{same_beside}
use Rattle.tb_journal.proofs.TurnLemmas.{entries_all}
use Rattle.tb_journal.proofs.journal.Journal.are_below.Goals as goal

pub returns : goal.returns
returns c =
    let apart = c.self.inside.apart.items in
    let below = λ (e : Entry). nat_lt (seat_of e) c.args.seats in
    c.are_below.ensures
    ∙ ap₂ (λ kept compact. list_all (λ k. below (entry_of kept [] k)) compact) c.as_slice-apart.ensures.value c.as_slice.ensures.value
    ∙ sym (entries_all below apart c.self.inside.turns.items (λ t k. ap (λ seat. nat_lt seat c.args.seats) (same_beside apart t [] k).seat) 0 0 c.self.inside.compact.items)
    ∙ ap (λ j. all_below c.args.seats j.items) c.self.view_is
