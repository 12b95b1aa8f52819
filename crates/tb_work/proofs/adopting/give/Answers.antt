use Rattle.std.proofs.Common.{rules, ◌≡◌, ℕ, ◌+◌, ◌<◌, arith, get_or, length, ap, ◌∙◌, ◌∷◌, [], length-append}
use Rattle.std.proofs.lemmas.List.Sums.{sum_by-set}
use Rattle.tb_work.specs.Receipts.{Seated, receipt, last_from}
use Rattle.tb_work.proofs.Rising.{last_more}
use Rattle.tb_work.proofs.Seats.{each_set}
use Rattle.tb_work.proofs.adopting.give.Goals as goal

pub returns-clause-above : goal.returns-clause-above
returns-clause-above g c =
    let P : ℕ → Seated → Type 0 = λ i s. last_from 0 s.receipts < c.args.place + 1 in
    let seats = c.args.seats.now in
    let had = get_or seats c.seat_of.result c.index-seats-seat_of.result in
    let before : (i : ℕ) (d : Seated) → i < length seats → P i (get_or seats i d) = λ i d lt. omega (arith, c.requires.above i d lt) in
    let last : last_from 0 c.enter.new.seat.receipts ≡ c.args.place = ap (last_from 0) c.in_ok-enter.ensures.grew.receipts ∙ last_more 0 had.receipts (receipt c.args.place c.args.entry) in
    each_set P seats c.seat_of.result c.enter.new.seat before (omega (arith, last))

pub returns-clause-receipts : goal.returns-clause-receipts
returns-clause-receipts g c =
    let f : Seated → ℕ = λ s. length s.receipts in
    let seats = c.args.seats.now in
    let had = get_or seats c.seat_of.result c.index-seats-seat_of.result in
    let lt : c.seat_of.result < length seats = search rules in
    let long : length c.enter.new.seat.receipts ≡ length had.receipts + 1 = ap length c.in_ok-enter.ensures.grew.receipts ∙ length-append had.receipts (receipt c.args.place c.args.entry ∷ []) in
    omega (arith, long, sum_by-set f seats c.seat_of.result c.enter.new.seat c.index-seats-seat_of.result lt)
