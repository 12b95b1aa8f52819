use Rattle.std.proofs.Common.{rules, ◌≡◌, ◌≤◌, ◌+◌, All, None, subst, sym, ◌∙◌, length, drop}
use Rattle.std.specs.Prelude.{IsPermutation}
use Rattle.std.proofs.lemmas.List.Sorted.{answers_always}
use Rattle.tb_work.specs.declared.receipt.Receipt.{Receipt}
use Rattle.tb_work.specs.Receipts.{all_receipts, receipts_in, receipts_from, first_gap, Stands}
use Rattle.tb_work.proofs.Whole.{whole}
use Rattle.tb_work.proofs.shared.Shared.close.Goals as goal

pub returns-in-None-clause-sorted : goal.returns-in-None-clause-sorted
returns-in-None-clause-sorted g c = c.sort_unstable_by_key.ensures.sorted (λ (r : Receipt). r.place) (answers_always _ _ _ (λ f a r g h. search rules))

pub returns-in-None-clause-stands : goal.returns-in-None-clause-stands
returns-in-None-clause-stands g c = subst (λ es. All (Stands es) (all_receipts c.args.seats.items)) c.journal_of.ensures.entries c.take_seats.ensures.stands

pub returns-clause-stands : goal.returns-clause-stands
returns-clause-stands g c = subst (λ es. All (Stands es) (all_receipts c.args.seats.items)) c.journal_of.ensures.entries c.take_seats.ensures.stands

-- the receipts are as many as the entries from the first slot with a cell on, are in the journal,
-- and are their own seats'
pub returns-in-None-clause-whole : goal.returns-in-None-clause-whole
returns-in-None-clause-whole g c numbers =
    let taken = c.take_seats.ensures in
    let J = c.journal_of.result.now.items in
    let seats = c.args.seats.items in
    let sorted = c.sort_unstable_by_key.ensures.sorted (λ (r : Receipt). r.place) (answers_always _ _ _ (λ f a r g h. search rules)) in
    let gap : first_gap (length J) (all_receipts seats) ≡ None = sym taken.gap ∙ c.in-None.is in
    let f = g.N.Team.slots.first in
    let count : receipts_in seats + f ≡ length J = search rules in
    let some : 1 ≤ f = search rules in
    let same : IsPermutation (all_receipts seats) c.sort_unstable_by_key.new.self.items = subst (λ l. IsPermutation l c.sort_unstable_by_key.new.self.items) taken.receipts c.sort_unstable_by_key.ensures.permutation in
    subst (λ es. c.sort_unstable_by_key.new.self.items ≡ receipts_from f (drop f es)) c.journal_of.ensures.entries
    (whole J f seats c.sort_unstable_by_key.new.self.items numbers taken.rows taken.stands gap some taken.at count same sorted)
