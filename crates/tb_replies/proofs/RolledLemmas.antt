-- What a rollback took back is written as the history says.
use Rattle.std.proofs.Common.{◌≡◌, ℕ, suc, List, [], ◌∷◌, ◌++◌, Bool, true, false, cond, length, reverse, refl, sym, ap, ap₂, ◌∙◌, subst, append_assoc, append-nil, None}
use Rattle.std.proofs.lemmas.List.{length-reverse, reverse-append}
use Rattle.tb_model.specs.declared.event.Event.{Event}
use Rattle.tb_model.specs.declared.step_id.StepId.{StepId}
use Rattle.tb_model.specs.Facts.{History, prepend_if}
use Rattle.tb_model.specs.Needs.{removed, is_removed, step_of}
use Rattle.tb_model.specs.Program.{Program}
use Rattle.tb_core.specs.declared.removed.Removed.{Removed}
use Rattle.tb_core.specs.Rolled.{removals}
use Rattle.tb_live.specs.Session.{Session, history}
use Rattle.tb_live.specs.Moves.{Rolls}
use Rattle.tb_view.specs.Lines.{step_line, removal_line}
use Rattle.tb_replies.specs.Refusals.{roll_refusal}
use Rattle.tb_replies.specs.Rolled.{rolled, removed_lines, rolled_text, removal_lines, removals_text}
use Rattle.tb_replies.specs.Replies.{RolledReply}

lines_append : (P : Program) (rs more : List Removed) → removal_lines P (rs ++ more) ≡ removal_lines P rs ++ removal_lines P more
lines_append P [] more = refl
lines_append P (r ∷ rs) more = ap (λ l. removal_line P r ++ l) (lines_append P rs more) ∙ sym (append_assoc (removal_line P r) (removal_lines P rs) (removal_lines P more))

-- what goes with v, after H
abbrev gone : History → Event → Removed
gone H v = record { id = step_of H v; action = v.action }

lines_told : (P : Program) (e : StepId) (H : History) → removal_lines P (reverse (removals e H)) ≡ removed_lines P e H
lines_told P e [] = refl
lines_told P e (v ∷ H) = at (is_removed e H v) (lines_told P e H)
  where
    at : (b : Bool) → removal_lines P (reverse (removals e H)) ≡ removed_lines P e H → removal_lines P (reverse (prepend_if b (gone H v) (removals e H))) ≡ removed_lines P e H ++ cond b (step_line P H v) []
    at true h = ap (removal_lines P) (reverse-append (gone H v ∷ []) (removals e H)) ∙ (lines_append P (reverse (removals e H)) (gone H v ∷ []) ∙ ap₂ (λ l m. l ++ m) h (append-nil (removal_line P (gone H v))))
    at false h = h ∙ sym (append-nil (removed_lines P e H))

count : (e : StepId) (H : History) → length (removals e H) ≡ length (removed e H)
count e [] = refl
count e (v ∷ H) = at (is_removed e H v) (count e H)
  where
    at : (b : Bool) → length (removals e H) ≡ length (removed e H) → length (prepend_if b (gone H v) (removals e H)) ≡ length (prepend_if b v (removed e H))
    at true h = ap suc h
    at false h = h

told : (P : Program) (e : StepId) (H : History) (rs : List Removed) → rs ≡ reverse (removals e H) → removals_text P rs ≡ rolled (length (removed e H)) (removed_lines P e H)
told P e H rs is = ap (removals_text P) is ∙ ap₂ rolled (length-reverse (removals e H) ∙ count e H) (lines_told P e H)

-- a rollback that was done isn't refused, and its text is that of what needs the step
pub rolls_reply : (s new : Session) (e : StepId) (P : Program) (rs seen : List Removed) (text : List ℕ) → Rolls s e new rs → P ≡ new.program → seen ≡ rs → text ≡ removals_text P seen → RolledReply (roll_refusal s e) s e text new
rolls_reply s new e P rs seen text h program all is =
    let unrefused : roll_refusal s e ≡ None = rw (h.stands, h.room) refl in
    let tells : text ≡ rolled_text s e = is ∙ (ap₂ removals_text (program ∙ ap (λ (u : Session). u.program) h.now) all ∙ told s.program e (history s) rs h.gone) in
    subst (λ refusal. RolledReply refusal s e text new) (sym unrefused) (tells, h.now)
