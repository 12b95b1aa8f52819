-- A rollback, one undo after another: the newest of the events that go is the one that nothing needs.
use Rattle.std.proofs.Common.{◌≡◌, [], ◌∷◌, ◌++◌, Bool, true, false, ◌||◌, not, refl, ap, ap₂, ◌∙◌, length, append_assoc, append-nil}
use Rattle.std.specs.List.{list_any}
use Rattle.std.proofs.lemmas.Bool.{or_left, or_parts, both_ways, false_from_ne_true}
use Rattle.tb_model.specs.declared.event.Event.{Event}
use Rattle.tb_model.specs.declared.step_id.StepId.{StepId}
use Rattle.tb_model.specs.Facts.{History, is_of, prepend_if}
use Rattle.tb_model.specs.Needs.{needs, is_step, step_of, removed, is_removed, without, kept}
use Rattle.tb_model.specs.Reordering.{IsUnneeded}
use Rattle.tb_model.proofs.TestLemmas.{none_weaker}
use Rattle.tb_model.proofs.PartsLemmas as parts
use Rattle.tb_model.proofs.PartsLemmas.{Parts, own_same, all_stay}
use Rattle.tb_model.proofs.RemovalLemmas.{part, needs_up}
use Rattle.tb_model.proofs.LeastLemmas.{passing}
use Rattle.tb_model.proofs.UndoLemmas.{AreFree, singled}

-- a later part stays as it is over a rest that is put after it
parts_append : {xs ks rs : History} (ys : History) → Parts xs ks rs → Parts (xs ++ ys) (ks ++ ys) rs
parts_append ys parts.none = all_stay ys
parts_append ys (parts.stays s) = parts.stays (parts_append ys s)
parts_append ys (parts.goes s) = parts.goes (parts_append ys s)

-- of the later part, what goes
abbrev gone : StepId → History → History → History
gone e [] front = []
gone e (w ∷ b) front = prepend_if (is_removed e (b ++ front) w) w (gone e b front)

later_parts : (e : StepId) (b front : History) → Parts b (kept e b front) (gone e b front)
later_parts e [] front = parts.none
later_parts e (w ∷ b) front = part (is_removed e (b ++ front) w) w (later_parts e b front)

none_gone : (p : Event → Bool) (e : StepId) (b front : History) → list_any p (removed e (b ++ front)) ≡ false → list_any p (gone e b front) ≡ false
none_gone p e [] front h = refl
none_gone p e (w ∷ b) front h = at (none_gone p e b front) (is_removed e (b ++ front) w) h
  where
    at : (list_any p (removed e (b ++ front)) ≡ false → list_any p (gone e b front) ≡ false) → (c : Bool) → list_any p (prepend_if c w (removed e (b ++ front))) ≡ false → list_any p (prepend_if c w (gone e b front)) ≡ false
    at rest true h = let o = or_parts (p w) _ h in ap₂ (λ x y. x || y) o.0 (rest o.1)
    at rest false h = rest h

-- what is left of the later part doesn't need u, which goes
none_needs : (e : StepId) (b : History) (u : Event) (front : History) → is_removed e front u ≡ true → AreFree u front (kept e b (u ∷ front))
none_needs e [] u front g = tt
none_needs e (w ∷ b) u front g = at (is_removed e (b ++ u ∷ front) w) refl (none_needs e b u front g)
  where
    at : (c : Bool) → is_removed e (b ++ u ∷ front) w ≡ c → AreFree u front (kept e b (u ∷ front)) → AreFree u front (prepend_if (not c) w (kept e b (u ∷ front)))
    at true q r = r
    at false q r =
        let none = (or_parts (is_step e (b ++ u ∷ front) w) _ q).1 in
        let s = parts_append (u ∷ front) (later_parts e b (u ∷ front)) in
        let mine = none_weaker (is_of w.task) (needs (b ++ u ∷ front) w) (λ x h. or_left (is_of w.task x) _ h) (removed e (b ++ u ∷ front)) none in
        let o = own_same w.task s (none_gone (is_of w.task) e b (u ∷ front) mine) in (
          r,
          false_from_ne_true (needs (kept e b (u ∷ front) ++ u ∷ front) w u) (λ h.
              both_ways _ none (passing (needs (b ++ u ∷ front) w) e b u front g (needs_up s w u o h))),
        )

-- once all later events that go are taken back, nothing needs u
pub one_unneeded : (e : StepId) (later : History) (u : Event) (front : History) → is_removed e front u ≡ true → IsUnneeded (step_of front u) (kept e later (u ∷ front) ++ u ∷ front)
one_unneeded e later u front g =
    ap length (singled u front (kept e later (u ∷ front)) (none_needs e later u front g)).gone

-- what is left grows by the next event, where that stays
pub kept_more : (e : StepId) (later : History) (u : Event) (front : History) → kept e (later ++ u ∷ []) front ≡ kept e later (u ∷ front) ++ prepend_if (not (is_removed e front u)) u []
kept_more e [] u front = refl
kept_more e (w ∷ later) u front =
    ap₂ (λ H K. prepend_if (not (is_removed e H w)) w K) (append_assoc later (u ∷ []) front) (kept_more e later u front)
    ∙ prepended (not (is_removed e (later ++ u ∷ front) w))
  where
    rest : History
    rest = prepend_if (not (is_removed e front u)) u []

    prepended : (b : Bool) → prepend_if b w (kept e later (u ∷ front) ++ rest) ≡ prepend_if b w (kept e later (u ∷ front)) ++ rest
    prepended true = refl
    prepended false = refl

-- all that stays from the beginning on is what is left without the step
pub kept_whole : (e : StepId) (H : History) → kept e H [] ≡ without e H
kept_whole e [] = refl
kept_whole e (w ∷ H) = ap₂ (λ G K. prepend_if (not (is_removed e G w)) w K) (append-nil H) (kept_whole e H)
