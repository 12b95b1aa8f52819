-- A step that nothing needs may be executed again at the end.
use Rattle.std.proofs.Common.{◌≡◌, ◌<◌, [], ◌∷◌, ◌++◌, length, Bool, true, false, ◌&&◌, ◌||◌, not, refl, sym, ap, ap₂, ◌∙◌, arith}
use Rattle.std.specs.List.{list_any}
use Rattle.std.proofs.lemmas.Bool.{or_parts}
use Rattle.tb_model.specs.declared.action.Action.{Action}
use Rattle.tb_model.specs.declared.action.Action.TheVariants.{Start, Wait, Close}
use Rattle.tb_model.specs.declared.event.Event.{Event}
use Rattle.tb_model.specs.Names.{Name}
use Rattle.tb_model.specs.Facts.{History, is_of, prepend_if, is_end, is_print, spawns, is_member, holds}
use Rattle.tb_model.specs.Legal.{Cells, Legal}
use Rattle.tb_model.specs.Needs.{conflicts, waits_for, needs, is_step, step_of, removed, is_removed, without}
use Rattle.tb_model.proofs.RemovalLemmas.{removed_none, without_none}
use Rattle.tb_model.specs.Alike.{Alike}
use Rattle.tb_model.proofs.AlikeLemmas.{alike_refl, alike_trans, alike_cons, before_alike, apart_alike, covers_alike, follows_alike}
use Rattle.tb_model.proofs.NeighboursLemmas.{swapped}
use Rattle.tb_model.proofs.LeastLemmas.{gone_here, later_not_step}

waits_for_alike : {G H : History} → Alike G H → (t : Name) (a : Action) (u : Name) → waits_for G t a u ≡ waits_for H t a u
waits_for_alike a t Start u = ap₂ (λ b c. b || c) (before_alike u t a) (apart_alike u t a)
waits_for_alike a t (Wait items) u = covers_alike t items u a
waits_for_alike a t Close u = ap (λ acts. is_member acts u) (a.acts t)
waits_for_alike a t _ u = refl

-- alike histories have the same direct needs
pub needs_alike : {G H : History} → Alike G H → (v u : Event) → needs G v u ≡ needs H v u
needs_alike a v u =
    ap (λ b. is_of v.task u || (spawns v.task u || (conflicts v.action u.action || ((is_end u.action && b) || (is_print v.action && is_print u.action)))))
    (ap₂ (λ b c. b || c) (ap (λ acts. holds acts u.task) (a.acts v.task)) (waits_for_alike a v.task v.action u.task))

module _ (v : Event) (front : History) where
  -- none of these needs v
  abbrev pub AreFree : History → Type 0
  AreFree [] = Unit {0}
  AreFree (w ∷ b) = AreFree b × (needs (b ++ v ∷ front) w v ≡ false)

  -- v goes alone
  pub record Single (b : History) : Type 0 where
    pub gone : removed (step_of front v) (b ++ v ∷ front) ≡ v ∷ []
    pub left : without (step_of front v) (b ++ v ∷ front) ≡ b ++ front
    pub free : AreFree b

  first_single : Single []
  first_single = record {
    gone =
        ap₂ (λ c R. prepend_if c v R) (gone_here v front) (removed_none (step_of front v) front (omega arith));
    left = ap₂ (λ c K. prepend_if (not c) v K) (gone_here v front) (without_none (step_of front v) front (omega arith));
    free = tt;
  }

  more_single : (w : Event) (b : History) → Single b → needs (b ++ v ∷ front) w v ≡ false → Single (w ∷ b)
  more_single w b s n =
      let g : is_removed (step_of front v) (b ++ v ∷ front) w ≡ false =
      ap₂ (λ c R. c || list_any (needs (b ++ v ∷ front) w) R) (later_not_step v front b w) s.gone ∙ ap (λ c. c || false) n
      in record {
        gone = ap₂ (λ c R. prepend_if c w R) g s.gone;
        left = ap₂ (λ c K. prepend_if (not c) w K) g s.left;
        free = (s.free, n);
      }

  -- an event that nothing needs goes alone
  pub singled : (b : History) → AreFree b → Single b
  singled [] f = first_single
  singled (w ∷ b) f = more_single w b (singled b f.0) f.1

  some_gone : (b : History) → 0 < length (removed (step_of front v) (b ++ v ∷ front))
  some_gone [] = omega (arith, ap length first_single.gone)
  some_gone (w ∷ b) = longer _ w _ (some_gone b)
    where
      longer : (c : Bool) (x : Event) (R : History) → 0 < length R → 0 < length (prepend_if c x R)
      longer true x R h = omega arith
      longer false x R h = h

  -- a step that goes alone is needed by none
  pub single : (b : History) → length (removed (step_of front v) (b ++ v ∷ front)) ≡ 1 → Single b
  single [] h = first_single
  single (w ∷ b) h = at (single b) (is_removed (step_of front v) (b ++ v ∷ front) w) refl h
    where
      at : (length (removed (step_of front v) (b ++ v ∷ front)) ≡ 1 → Single b) → (c : Bool) → is_removed (step_of front v) (b ++ v ∷ front) w ≡ c → length (prepend_if c w (removed (step_of front v) (b ++ v ∷ front))) ≡ 1 → Single (w ∷ b)
      at rest true g h = absurd (omega (arith, some_gone b))
      at rest false g h =
          let s = rest h in
          let n = (or_parts (is_step (step_of front v) (b ++ v ∷ front) w) _ g).1 in
          more_single w b s (or_parts (needs (b ++ v ∷ front) w v) false (sym (ap (list_any (needs (b ++ v ∷ front) w)) s.gone) ∙ n)).0

  -- the step moves to the end
  pub moved : (cells : Cells) (b : History) → Legal cells (b ++ v ∷ front) → AreFree b → Legal cells (v ∷ (b ++ front)) × Alike (b ++ v ∷ front) (v ∷ (b ++ front))
  moved cells [] l f = (l, alike_refl (v ∷ front))
  moved cells (w ∷ b) l f =
      let m = moved cells b l.0 f.0 in
      let s = swapped cells (b ++ front) v w (m.0, follows_alike cells m.1 w l.1) (sym (needs_alike m.1 w v) ∙ f.1) in
      (s.0, alike_trans (alike_cons w m.1) s.1)
