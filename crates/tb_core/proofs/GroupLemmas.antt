-- Scans of a task's actions from the newest: its open groups, and who is a member of one.
use Rattle.std.proofs.Common.{◌≡◌, ◌≢◌, ◌≤◌, ◌-◌, ◌+◌, ℕ, zero, suc, List, [], ◌∷◌, ◌++◌, Bool, true, false, ◌||◌, nat_le, cond, length, map, drop, refl, sym, ap, ◌∙◌, append_assoc, arith}
use Rattle.std.specs.List.{list_any}
use Rattle.tb_model.specs.declared.action.Action.{Action}
use Rattle.tb_model.specs.declared.action.Action.TheVariants.{Start, Let, Load, Store, Print, Spawn, Wait, Open, Close, Test, End, Fault}
use Rattle.tb_model.specs.declared.step_id.StepId.{StepId}
use Rattle.tb_model.specs.declared.event.Event.{Event}
use Rattle.tb_model.specs.Names.{Name, is_within}
use Rattle.tb_model.specs.Facts.{History, is_of, own}
use Rattle.tb_model.specs.State.{open_groups, children_since, is_member_of}
use Rattle.tb_core.specs.Groups.{makes_member}
use Rattle.tb_model.proofs.FactsLemmas.{own_mine, own_other}

-- the groups of t that stay open where so many more are closed after these actions
abbrev pub open_behind : Name → ℕ → List Action → List StepId
open_behind t closed acts = map (λ k. record { task = t; k = k }) (drop closed (open_groups acts))

-- the action opens no group and closes none
abbrev pub is_plain : Action → Bool
is_plain Open = false
is_plain Close = false
is_plain _ = true

pub plain_unless : (a : Action) → a ≢ Open → a ≢ Close → is_plain a ≡ true
plain_unless Start o c = refl
plain_unless (Let r x) o c = refl
plain_unless (Load r d x) o c = refl
plain_unless (Store d x) o c = refl
plain_unless (Print x) o c = refl
plain_unless (Spawn s) o c = refl
plain_unless (Wait items) o c = refl
plain_unless Open o c = absurd (o refl)
plain_unless Close o c = absurd (c refl)
plain_unless (Test answer) o c = refl
plain_unless End o c = refl
plain_unless Fault o c = refl

at_plain : (t : Name) (closed : ℕ) (a : Action) (acts : List Action) → is_plain a ≡ true → open_behind t closed (a ∷ acts) ≡ open_behind t closed acts
at_plain t closed Start acts e = refl
at_plain t closed (Let r x) acts e = refl
at_plain t closed (Load r c x) acts e = refl
at_plain t closed (Store c x) acts e = refl
at_plain t closed (Print x) acts e = refl
at_plain t closed (Spawn s) acts e = refl
at_plain t closed (Wait items) acts e = refl
at_plain t closed Open acts e = cc
at_plain t closed Close acts e = cc
at_plain t closed (Test answer) acts e = refl
at_plain t closed End acts e = refl
at_plain t closed Fault acts e = refl

at_close : (t : Name) (closed : ℕ) (acts : List Action) → open_behind t closed (Close ∷ acts) ≡ open_behind t (closed + 1) acts
at_close t closed acts =
    let more : suc closed ≡ closed + 1 = omega arith in
    ap (map (λ k. record { task = t; k = k })) (drop_one closed (open_groups acts) ∙ ap (λ n. drop n (open_groups acts)) more)
  where
    drop_one : (k : ℕ) (gs : List ℕ) → drop k (drop 1 gs) ≡ drop (suc k) gs
    drop_one zero [] = refl
    drop_one (suc k) [] = refl
    drop_one k (g ∷ gs) = refl

at_open_inside : (t : Name) (closed : ℕ) (acts : List Action) → closed ≢ 0 → open_behind t closed (Open ∷ acts) ≡ open_behind t (closed - 1) acts
at_open_inside t zero acts h = absurd (h refl)
at_open_inside t (suc k) acts h =
    let less : k ≡ suc k - 1 = omega arith in
    ap (λ n. open_behind t n acts) less

-- the newest event, of another task
pub other_behind : (t : Name) (H G : History) (v : Event) → H ≡ v ∷ G → is_of t v ≡ false → own t G ≡ own t H
other_behind t H G v more other = sym (ap (own t) more ∙ own_other t v G other)

module _ (t : Name) (H G : History) (v : Event) (more : H ≡ v ∷ G) (mine : is_of t v ≡ true) where
  -- the actions in front of it
  abbrev older : List Action
  older = own t G

  newest : (a : Action) → v.action ≡ a → own t H ≡ a ∷ older
  newest a is = ap (own t) more ∙ own_mine t v G mine ∙ ap (λ b. b ∷ older) is

  pub one_more : length (own t H) ≡ suc (length older)
  one_more = ap length (newest v.action refl)

  pub behind_plain : (closed : ℕ) → is_plain v.action ≡ true → open_behind t closed older ≡ open_behind t closed (own t H)
  behind_plain closed is = sym (ap (open_behind t closed) (newest v.action refl) ∙ at_plain t closed v.action older is)

  pub behind_close : (closed : ℕ) → v.action ≡ Close → open_behind t (closed + 1) older ≡ open_behind t closed (own t H)
  behind_close closed is = sym (ap (open_behind t closed) (newest Close is) ∙ at_close t closed older)

  pub behind_inner : (closed : ℕ) → v.action ≡ Open → closed ≢ 0 → open_behind t (closed - 1) older ≡ open_behind t closed (own t H)
  behind_inner closed is inside = sym (ap (open_behind t closed) (newest Open is) ∙ at_open_inside t closed older inside)

  pub behind_open : (closed left : ℕ) (ids pushed : List StepId) → v.action ≡ Open → closed ≡ 0 → left ≡ length (own t H)
      → pushed ≡ ids ++ (record { task = t; k = left }) ∷ []
      → pushed ++ open_behind t closed older ≡ ids ++ open_behind t closed (own t H)
  behind_open closed left ids pushed is none counted push =
      let at : left ≡ suc (length older) = counted ∙ one_more in
      let whole : open_behind t 0 (own t H) ≡ (record { task = t; k = left }) ∷ open_behind t 0 older =
      ap (open_behind t 0) (newest Open is) ∙ ap (λ k. (record { task = t; k = k }) ∷ open_behind t 0 older) (sym at) in
      ap (λ n. pushed ++ open_behind t n older) none
      ∙ (ap (λ l. l ++ open_behind t 0 older) push
      ∙ (append_assoc ids ((record { task = t; k = left }) ∷ []) (open_behind t 0 older)
      ∙ (ap (λ l. ids ++ l) (sym whole) ∙ ap (λ n. ids ++ open_behind t n (own t H)) (sym none))))

  -- ---- members

  -- a newer step than the kth
  since : (k : ℕ) (m : Name) (a : Action) (acts : List Action) → nat_le k (length acts) ≡ true
      → is_member_of k (a ∷ acts) m ≡ (makes_member a m || is_member_of k acts m)
  since k m a acts h = ap (λ b. list_any (λ c. is_within c m) (cond b (Rattle.tb_model.specs.State.with_child a (children_since k acts)) [])) h ∙ by_child a
    where
      by_child : (a : Action)
          → list_any (λ c. is_within c m) (Rattle.tb_model.specs.State.with_child a (children_since k acts)) ≡ (makes_member a m || is_member_of k acts m)
      by_child Start = refl
      by_child (Let r x) = refl
      by_child (Load r c x) = refl
      by_child (Store c x) = refl
      by_child (Print x) = refl
      by_child (Spawn s) = refl
      by_child (Wait items) = refl
      by_child Open = refl
      by_child Close = refl
      by_child (Test answer) = refl
      by_child End = refl
      by_child Fault = refl

  not_since : (k : ℕ) (m : Name) (a : Action) (acts : List Action) → nat_le k (length acts) ≡ false → is_member_of k (a ∷ acts) m ≡ false
  not_since k m a acts h = ap (λ b. list_any (λ c. is_within c m) (cond b (Rattle.tb_model.specs.State.with_child a (children_since k acts)) [])) h

  module _ (k : ℕ) (m : Name) (left : ℕ) (counted : left ≡ length (own t H)) where
    abbrev whole : Bool
    whole = is_member_of k (own t H) m

    pub no_member : left ≤ k → whole ≡ false
    no_member h =
        ap (λ acts. is_member_of k acts m) (newest v.action refl)
        ∙ not_since k m v.action older (grind (arith, h, counted, one_more))

    pub some_member : (left ≤ k → ⊥) → makes_member v.action m ≡ true → whole ≡ true
    some_member h is =
        ap (λ acts. is_member_of k acts m) (newest v.action refl)
        ∙ (since k m v.action older (grind (arith, h, counted, one_more)) ∙ ap (λ b. b || is_member_of k older m) is)

    pub member_behind : (left ≤ k → ⊥) → makes_member v.action m ≡ false → is_member_of k older m ≡ whole
    member_behind h is =
        sym (ap (λ acts. is_member_of k acts m) (newest v.action refl)
        ∙ (since k m v.action older (grind (arith, h, counted, one_more)) ∙ ap (λ b. b || is_member_of k older m) is))
