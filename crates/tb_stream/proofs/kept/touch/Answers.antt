use Rattle.std.proofs.Common.{◌≡◌, ◌⊎◌, inl, inr, ◌+◌, ℕ, Option, Some, sym, ap, ◌∙◌, subst, slice_get, refl}
use Rattle.tb_lanes.specs.Kept.{IsCut, IsLarger}
use Rattle.tb_stream.specs.declared.access.Access.{Access}
use Rattle.tb_stream.specs.Keeping.{IsFound, behind, last_in, places}
use Rattle.tb_stream.specs.Seen.{IsMark, order}
use Rattle.tb_stream.proofs.TouchLemmas.{added_inside, found_load, found_write, kept_load, kept_write, marks_on}
use Rattle.tb_stream.proofs.kept.touch.Goals as goal

pub returns-then-load-clause-newest : goal.returns-then-load-clause-newest
returns-then-load-clause-newest c r n i lanes next added extends told are =
    let t = c.args.touched.now in
    let write = subst (λ xs. IsCut (order r) r.entries n (places xs) c.unordered-writes.result) c.deref.ensures.value (c.unordered-writes.ensures.cut r n next added (subst (λ xs. (j : ℕ) (a : Access) → slice_get xs j ≡ Some a → IsMark (n + 1) next a.mark) (sym c.deref.ensures.value) (marks_on r lanes next n extends t.writes.items are.writes))) in
    let read = subst (λ xs. IsCut (order r) r.entries n (places xs) c.unordered-loads.result) c.deref-2.ensures.value (c.unordered-loads.ensures.cut r n next added (subst (λ xs. (j : ℕ) (a : Access) → slice_get xs j ≡ Some a → IsMark (n + 1) next a.mark) (sym c.deref-2.ensures.value) (marks_on r lanes next n extends t.loads.items are.loads))) in
    subst (IsFound r n lanes) (sym (c.last_of-write.ensures ∙ ap (λ xs. last_in xs c.unordered-writes.result) c.deref-3.ensures.value))
    (found_load r n i (added_inside r n next c.args.clocks.now c.args.access.mark added) lanes next extends c.args.load told t are c.unordered-writes.result c.unordered-loads.result write read c.if-load.true)

pub returns-then-load-clause-kept : goal.returns-then-load-clause-kept
returns-then-load-clause-kept c r n i lanes next added extends told access are =
    let t = c.args.touched.now in
    let write = subst (λ xs. IsCut (order r) r.entries n (places xs) c.unordered-writes.result) c.deref.ensures.value (c.unordered-writes.ensures.cut r n next added (subst (λ xs. (j : ℕ) (a : Access) → slice_get xs j ≡ Some a → IsMark (n + 1) next a.mark) (sym c.deref.ensures.value) (marks_on r lanes next n extends t.writes.items are.writes))) in
    let read = subst (λ xs. IsCut (order r) r.entries n (places xs) c.unordered-loads.result) c.deref-2.ensures.value (c.unordered-loads.ensures.cut r n next added (subst (λ xs. (j : ℕ) (a : Access) → slice_get xs j ≡ Some a → IsMark (n + 1) next a.mark) (sym c.deref-2.ensures.value) (marks_on r lanes next n extends t.loads.items are.loads))) in
    kept_load r n i (added_inside r n next c.args.clocks.now c.args.access.mark added) lanes next extends c.args.load told t are c.unordered-writes.result c.unordered-loads.result write read c.args.access access added.at _ c.if-load.true refl c.in_ok-put.ensures

pub returns-clause-newest : goal.returns-clause-newest
returns-clause-newest c r n i lanes next added extends told are =
    let t = c.args.touched.now in
    let write = subst (λ xs. IsCut (order r) r.entries n (places xs) c.unordered-writes.result) c.deref.ensures.value (c.unordered-writes.ensures.cut r n next added (subst (λ xs. (j : ℕ) (a : Access) → slice_get xs j ≡ Some a → IsMark (n + 1) next a.mark) (sym c.deref.ensures.value) (marks_on r lanes next n extends t.writes.items are.writes))) in
    let read = subst (λ xs. IsCut (order r) r.entries n (places xs) c.unordered-loads.result) c.deref-2.ensures.value (c.unordered-loads.ensures.cut r n next added (subst (λ xs. (j : ℕ) (a : Access) → slice_get xs j ≡ Some a → IsMark (n + 1) next a.mark) (sym c.deref-2.ensures.value) (marks_on r lanes next n extends t.loads.items are.loads))) in
    let first = c.last_of-write.ensures ∙ ap (λ xs. last_in xs c.unordered-writes.result) c.deref-3.ensures.value in
    let second = c.last_of-read.ensures ∙ ap (λ xs. last_in xs c.unordered-loads.result) c.deref-4.ensures.value in
    found_write r n i (added_inside r n next c.args.clocks.now c.args.access.mark added) lanes next extends c.args.load told t are c.unordered-writes.result c.unordered-loads.result write read c.if-load.false c.newer.result
    (subst (λ o. IsLarger (behind o) (behind (last_in t.loads.items c.unordered-loads.result)) (behind c.newer.result)) first (subst (λ o. IsLarger (behind c.last_of-write.result) (behind o) (behind c.newer.result)) second c.newer.ensures.larger))
    (either_so c.newer.result _ _ _ _ first second c.newer.ensures.either)
  where
    either_so : (o a b x y : Option Access) → a ≡ x → b ≡ y → (o ≡ a) ⊎ (o ≡ b) → (o ≡ x) ⊎ (o ≡ y)
    either_so o a b x y e f (inl g) = inl (g ∙ e)
    either_so o a b x y e f (inr g) = inr (g ∙ f)

pub returns-clause-kept : goal.returns-clause-kept
returns-clause-kept c r n i lanes next added extends told access are =
    let t = c.args.touched.now in
    let write = subst (λ xs. IsCut (order r) r.entries n (places xs) c.unordered-writes.result) c.deref.ensures.value (c.unordered-writes.ensures.cut r n next added (subst (λ xs. (j : ℕ) (a : Access) → slice_get xs j ≡ Some a → IsMark (n + 1) next a.mark) (sym c.deref.ensures.value) (marks_on r lanes next n extends t.writes.items are.writes))) in
    let read = subst (λ xs. IsCut (order r) r.entries n (places xs) c.unordered-loads.result) c.deref-2.ensures.value (c.unordered-loads.ensures.cut r n next added (subst (λ xs. (j : ℕ) (a : Access) → slice_get xs j ≡ Some a → IsMark (n + 1) next a.mark) (sym c.deref-2.ensures.value) (marks_on r lanes next n extends t.loads.items are.loads))) in
    kept_write r n i (added_inside r n next c.args.clocks.now c.args.access.mark added) lanes next extends c.args.load told t are c.unordered-writes.result c.unordered-loads.result write read c.args.access access added.at _ c.if-load.false c.in_ok-put-2.ensures c.truncate.ensures.items
