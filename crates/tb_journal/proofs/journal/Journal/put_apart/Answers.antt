use Rattle.std.proofs.Common.{◌∙◌, ◌++◌, ◌∷◌, [], suc, length, length-append, add-one, arith, subst, sym, ap, ap₂}
use Rattle.std.specs.List.{AllByRecursion}
use Rattle.tb_journal.specs.Compact.{IsThere}
use Rattle.tb_journal.specs.Turns.{Rises, entries}
use Rattle.tb_journal.specs.declared.compact.Compact.TheVariants.{Apart}
use Rattle.tb_journal.proofs.CompactLemmas.{one_more_there}
use Rattle.tb_journal.proofs.TurnLemmas.{apart_pushed, rises_on}
use Rattle.tb_journal.proofs.journal.Journal.put_apart.Goals as goal

pub invariant_of-self : goal.invariant_of-self
invariant_of-self c =
    let apart = c.self.inside.apart.items in
    let compact = c.self.inside.compact.items in
    let turns = c.self.inside.turns.items in
    let added = c.push_reserved.ensures.items ∙ ap (λ xs. compact ++ Apart (length xs) ∷ []) c.as_slice-number.ensures.value in
    let one_apart = ap length c.push_reserved-2.ensures.items ∙ length-append apart (c.args.entry ∷ []) ∙ add-one (length apart) in
    let one_more = ap length added ∙ length-append compact (Apart (length apart) ∷ []) ∙ add-one (length compact) in
    let there = subst (λ n. AllByRecursion (IsThere n) (compact ++ Apart (length apart) ∷ [])) (sym one_apart) (one_more_there (length apart) (suc (length apart)) (omega arith) compact (Apart (length apart)) c.self.invariant.0 (omega arith)) in
    (subst (AllByRecursion (IsThere (length c.push_reserved-2.new.self.items))) (sym added) there, subst (Rises 0 turns) (sym one_more) (rises_on 0 turns (length compact) c.self.invariant.1))

pub returns-clause-items : goal.returns-clause-items
returns-clause-items c =
    let apart = c.self.inside.apart.items in
    let compact = c.self.inside.compact.items in
    let turns = c.self.inside.turns.items in
    let added = c.push_reserved.ensures.items ∙ ap (λ xs. compact ++ Apart (length xs) ∷ []) c.as_slice-number.ensures.value in
    ap₂ (λ xs ks. entries xs turns 0 ks) c.push_reserved-2.ensures.items added
    ∙ apart_pushed apart c.args.entry turns compact c.self.invariant.0
    ∙ ap (λ j. j.items ++ c.args.entry ∷ []) c.self.view_is
