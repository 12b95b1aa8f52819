-- What stays lawful besides the journal, and which claims an undo withdraws.
use Rattle.std.proofs.Common.{◌≡◌, ℕ, zero, suc, List, [], ◌∷◌, ◌++◌, Bool, true, false, ◌||◌, not, cond, replicate, reverse, refl, sym, ap, ap₂, ◌∙◌, subst, Option, Some, None, ◌⊎◌, ⊎_elim, inl, inr}
use Rattle.std.specs.List.{list_any}
use Rattle.std.proofs.lemmas.List.{reverse-append}
use Rattle.std.proofs.lemmas.Bool.{or_parts}
use Rattle.tb_model.specs.declared.action.Action.{Action}
use Rattle.tb_model.specs.declared.event.Event.{Event}
use Rattle.tb_model.specs.declared.step_id.StepId.{StepId}
use Rattle.tb_model.specs.Names.{Name, same_name}
use Rattle.tb_model.specs.Facts.{History, IsSpawned, is_spawned, spawns, is_spawn_of, own, prepend_if}
use Rattle.tb_model.specs.Legal.{Cells, Legal}
use Rattle.tb_model.specs.Needs.{is_removed, removed, step_of, without}
use Rattle.tb_model.specs.Needers.{first_needer}
use Rattle.tb_model.specs.Equivalent.{stands}
use Rattle.tb_model.specs.Alike.{Alike}
use Rattle.tb_model.specs.Reordering.{IsUnneeded}
use Rattle.tb_model.proofs.TestLemmas.{same_refl}
use Rattle.tb_laws.proofs.NeedersLemmas.{unneeded, standing}
use Rattle.tb_model.proofs.UndoLemmas.{single, moved}
use Rattle.tb_core.specs.declared.removed.Removed.{Removed}
use Rattle.tb_core.specs.Rolled.{removals}
use Rattle.tb_control.specs.Claims.{Claims, claim_of, with_claim, withdrawn, unless, hits, is_hit, IsFreeBeside, AreLawful}

-- ---- a claim that is left was there, and its task doesn't pass

pub record IsLeft (p : Name → Bool) (claims : Claims) (seat : ℕ) (t : Name) : Type 0 where
  pub was : claim_of claims seat ≡ Some t
  pub stays : p t ≡ false

left_at : (p : Name → Bool) (o : Option Name) (t : Name) → unless p o ≡ Some t → (o ≡ Some t) × (p t ≡ false)
left_at p None t h = cc
left_at p (Some u) t h = at (p u) refl h
  where
    at : (b : Bool) → p u ≡ b → cond b None (Some u) ≡ Some t → (Some u ≡ Some t) × (p t ≡ false)
    at true e k = cc
    at false e k = (k, let same : u ≡ t = cc in ap p (sym same) ∙ e)

pub left : (p : Name → Bool) (claims : Claims) (seat : ℕ) (t : Name) → claim_of (withdrawn p claims) seat ≡ Some t → IsLeft p claims seat t
left p [] seat t h = cc
left p (o ∷ claims) zero t h = let k = left_at p o t h in record { was = k.0; stays = k.1 }
left p (o ∷ claims) (suc seat) t h = let k = left p claims seat t h in record { was = k.was; stays = k.stays }

-- ---- what is lawful stays so

pub lawful_fewer : (H : History) (claims : Claims) (p : Name → Bool) → AreLawful H claims → AreLawful H (withdrawn p claims)
lawful_fewer H claims p l = record {
  there = λ seat t h. l.there seat t (left p claims seat t h).was;
  apart = λ seat other t h k. l.apart seat other t (left p claims seat t h).was (left p claims other t k).was;
}

-- where the tasks that are claimed are still there
pub lawful_on : (H K : History) (claims : Claims) → ((seat : ℕ) (t : Name) → claim_of claims seat ≡ Some t → IsSpawned H t → IsSpawned K t) → AreLawful H claims → AreLawful K claims
lawful_on H K claims still l = record {
  there = λ seat t h. still seat t h (l.there seat t h);
  apart = l.apart;
}

pub still_spawned : (v : Event) (H : History) (t : Name) → is_spawned H t ≡ true → is_spawned (v ∷ H) t ≡ true
still_spawned v H [] h = refl
still_spawned v H (n ∷ t) h = at (spawns (n ∷ t) v)
  where
    at : (b : Bool) → (b || list_any (spawns (n ∷ t)) H) ≡ true
    at true = refl
    at false = h

-- after a step
pub lawful_step : (v : Event) (H : History) (claims : Claims) (p : Name → Bool) → AreLawful H claims → AreLawful (v ∷ H) (withdrawn p claims)
lawful_step v H claims p l = lawful_on H (v ∷ H) (withdrawn p claims) (λ seat t h s. still_spawned v H t s) (lawful_fewer H claims p l)

-- a task none of whose steps goes, nor its spawn, is still there
left_spawned : (e : StepId) (t : Name) (H : History) → list_any (spawns t) H ≡ true → is_hit (removals e H) t ≡ false → list_any (spawns t) (without e H) ≡ true
left_spawned e t [] s h = s
left_spawned e t (v ∷ H) s h = at (is_removed e H v) h (left_spawned e t H)
  where
    at : (b : Bool) → list_any (hits t) (prepend_if b (record { id = step_of H v; action = v.action }) (removals e H)) ≡ false
        → (list_any (spawns t) H ≡ true → is_hit (removals e H) t ≡ false → list_any (spawns t) (without e H) ≡ true)
        → list_any (spawns t) (prepend_if (not b) v (without e H)) ≡ true
    at true k rest =
        let parts = or_parts (same_name v.task t || is_spawn_of t v.action) (is_hit (removals e H) t) k in
        let here = or_parts (same_name v.task t) (is_spawn_of t v.action) parts.0 in
        rest (sym (ap (λ b. b || list_any (spawns t) H) here.1) ∙ s) parts.1
    at false k rest = by (spawns t v) s
      where
        by : (b : Bool) → (b || list_any (spawns t) H) ≡ true → (b || list_any (spawns t) (without e H)) ≡ true
        by true z = refl
        by false z = rest z k

still_there : (e : StepId) (H : History) (t : Name) → IsSpawned H t → is_hit (removals e H) t ≡ false → IsSpawned (without e H) t
still_there e H [] s h = refl
still_there e H (n ∷ t) s h = left_spawned e (n ∷ t) H s h

-- after a rollback
pub lawful_rolled : (e : StepId) (H : History) (claims : Claims) → AreLawful H claims → AreLawful (without e H) (withdrawn (is_hit (removals e H)) claims)
lawful_rolled e H claims l =
    lawful_on H (without e H) (withdrawn (is_hit (removals e H)) claims)
    (λ seat t h s. still_there e H t s (left (is_hit (removals e H)) claims seat t h).stays)
    (lawful_fewer H claims (is_hit (removals e H)) l)

claimed_by_none : (n seat : ℕ) (t : Name) → claim_of (replicate n None) seat ≡ Some t → ⊥
claimed_by_none zero seat t h = cc
claimed_by_none (suc n) zero t h = cc
claimed_by_none (suc n) (suc seat) t h = claimed_by_none n seat t h

pub lawful_none : (H : History) (n : ℕ) → AreLawful H (replicate n None)
lawful_none H n = record {
  there = λ seat t h. absurd (claimed_by_none n seat t h);
  apart = λ seat other t h k. absurd (claimed_by_none n seat t h);
}

-- ---- a seat's claim in place of its former one

pub given_at : (claims : Claims) (seat other : ℕ) (o : Option Name) (t : Name) → claim_of (with_claim claims seat o) other ≡ Some t → ((other ≡ seat) × (o ≡ Some t)) ⊎ (claim_of claims other ≡ Some t)
given_at [] seat other o t h = inr h
given_at (c ∷ claims) zero zero o t h = inl (refl, h)
given_at (c ∷ claims) zero (suc other) o t h = inr h
given_at (c ∷ claims) (suc seat) zero o t h = inr h
given_at (c ∷ claims) (suc seat) (suc other) o t h = ⊎_elim (λ k. inl (ap suc k.0, k.1)) (λ k. inr k) (given_at claims seat other o t h)

pub lawful_let_go : (H : History) (claims : Claims) (seat : ℕ) → AreLawful H claims → AreLawful H (with_claim claims seat None)
lawful_let_go H claims seat l = record {
  there = λ a t h. l.there a t (kept a t h);
  apart = λ a b t h k. l.apart a b t (kept a t h) (kept b t k);
}
  where
    kept : (a : ℕ) (t : Name) → claim_of (with_claim claims seat None) a ≡ Some t → claim_of claims a ≡ Some t
    kept a t h = ⊎_elim (λ k. let z = k.1 in cc) (λ k. k) (given_at claims seat a None t h)

pub lawful_given : (H : History) (claims : Claims) (seat : ℕ) (t : Name) → IsSpawned H t → IsFreeBeside claims seat t → AreLawful H claims → AreLawful H (with_claim claims seat (Some t))
lawful_given H claims seat t there free l = record {
  there = λ a u h. ⊎_elim (λ k. let same : t ≡ u = (let z = k.1 in cc) in subst (IsSpawned H) same there) (λ k. l.there a u k) (given_at claims seat a (Some t) u h);
  apart = λ a b u h k. both a b u (given_at claims seat a (Some t) u h) (given_at claims seat b (Some t) u k);
}
  where
    same_task : (u : Name) → Some t ≡ Some u → u ≡ t
    same_task u h = cc

    both : (a b : ℕ) (u : Name) → ((a ≡ seat) × (Some t ≡ Some u)) ⊎ (claim_of claims a ≡ Some u) → ((b ≡ seat) × (Some t ≡ Some u)) ⊎ (claim_of claims b ≡ Some u) → a ≡ b
    both a b u x y =
        ⊎_elim
        (λ p. ⊎_elim (λ q. p.0 ∙ sym q.0) (λ q. p.0 ∙ sym (free b (q ∙ sym p.1))) y)
        (λ p. ⊎_elim (λ q. free a (p ∙ sym q.1) ∙ sym q.0) (λ q. l.apart a b u p q) y)
        x

-- ---- what goes with an undo

-- which tasks the steps that go concern, in their words
abbrev concerns : Name → Event → Bool
concerns t v = same_name v.task t || is_spawn_of t v.action

hit_removed : (e : StepId) (t : Name) (H : History) → is_hit (removals e H) t ≡ list_any (concerns t) (removed e H)
hit_removed e t [] = refl
hit_removed e t (v ∷ H) = at (is_removed e H v) (hit_removed e t H)
  where
    at : (b : Bool) → is_hit (removals e H) t ≡ list_any (concerns t) (removed e H) → is_hit (prepend_if b (record { id = step_of H v; action = v.action }) (removals e H)) t ≡ list_any (concerns t) (prepend_if b v (removed e H))
    at true r = ap (λ b. (same_name v.task t || is_spawn_of t v.action) || b) r
    at false r = r

one_action : {a b : Action} {rest more : List Action} → a ∷ rest ≡ b ∷ more → a ≡ b
one_action h = cc

-- a step that nothing needs goes alone, and its action is the one that brings all back
pub record Alone (v : Event) (F B : History) (a : Action) : Type 0 where
  pub gone : removed (step_of F v) (B ++ v ∷ F) ≡ v ∷ []
  pub action : v.action ≡ a

alone : (cells : Cells) (v : Event) (F B : History) (a : Action) → Legal cells (B ++ v ∷ F) → IsUnneeded (step_of F v) (B ++ v ∷ F)
    → Alike (B ++ v ∷ F) (record { task = v.task; action = a } ∷ without (step_of F v) (B ++ v ∷ F)) → Alone v F B a
alone cells v F B a legal unneeded alike =
    let s = single v F B unneeded in
    let m = (moved v F cells B legal s.free).1 in
    let t = v.task in
    let K = without (step_of F v) (B ++ v ∷ F) in
    let mine : prepend_if (same_name t t) v.action (own t (B ++ F)) ≡ prepend_if (same_name t t) a (own t K) = sym (m.acts t) ∙ alike.acts t in
    let heads : v.action ∷ own t (B ++ F) ≡ a ∷ own t K =
    ap (λ b. prepend_if b v.action (own t (B ++ F))) (sym (same_refl t)) ∙ mine ∙ ap (λ b. prepend_if b a (own t K)) (same_refl t)
    in record { gone = s.gone; action = one_action heads }

alone_hits : (v : Event) (F B : History) (a : Action) (t : Name) → Alone v F B a → is_hit (removals (step_of F v) (B ++ v ∷ F)) t ≡ is_hit (record { id = step_of F v; action = a } ∷ []) t
alone_hits v F B a t k =
    hit_removed (step_of F v) t (B ++ v ∷ F) ∙ ap (list_any (concerns t)) k.gone ∙ ap (λ b. (same_name v.task t || is_spawn_of t b) || false) k.action

-- the claims that an undo withdraws are those on the task of its step, and on what it generated
pub undo_hits : (cells : Cells) (H : History) (e : StepId) (r : Removed) → Legal cells H → stands e H ≡ true → first_needer e H ≡ None → r.id ≡ e
    → Alike H (record { task = e.task; action = r.action } ∷ without e H) → (t : Name) → is_hit (removals e H) t ≡ is_hit (r ∷ []) t
undo_hits cells H e r legal stood free id alike t =
    let w = standing e H stood in
    let G = w.later ++ w.event ∷ w.front in
    let i = step_of w.front w.event in
    let unneeded' : IsUnneeded i G = subst (λ j. IsUnneeded j G) (sym w.step) (subst (λ K. IsUnneeded e K) w.split ((unneeded e H stood).1 free)) in
    let alike' : Alike G (record { task = i.task; action = r.action } ∷ without i G) =
    subst (λ j. Alike G (record { task = j.task; action = r.action } ∷ without j G)) (sym w.step)
    (subst (λ K. Alike K (record { task = e.task; action = r.action } ∷ without e K)) w.split alike)
    in
    let k = alone cells w.event w.front w.later r.action (subst (Legal cells) w.split legal) unneeded' alike' in
    let here = alone_hits w.event w.front w.later r.action t k in
    subst (λ K. is_hit (removals e K) t ≡ is_hit (r ∷ []) t) (sym w.split)
    (subst (λ j. is_hit (removals j G) t ≡ is_hit (r ∷ []) t) w.step
    (here ∙ ap (λ j. is_hit (record { id = j; action = r.action } ∷ []) t) (w.step ∙ sym id)))

-- ---- tests that agree withdraw the same claims

same_unless : (p q : Name → Bool) → ((t : Name) → p t ≡ q t) → (o : Option Name) → unless p o ≡ unless q o
same_unless p q h None = refl
same_unless p q h (Some t) = ap (λ b. cond b None (Some t)) (h t)

pub withdrawn_alike : (p q : Name → Bool) → ((t : Name) → p t ≡ q t) → (claims : Claims) → withdrawn p claims ≡ withdrawn q claims
withdrawn_alike p q h [] = refl
withdrawn_alike p q h (o ∷ claims) = ap₂ (λ c cs. c ∷ cs) (same_unless p q h o) (withdrawn_alike p q h claims)

any_swapped : {A : Type 0} (p : A → Bool) (xs : List A) (x : A) → list_any p (xs ++ x ∷ []) ≡ (p x || list_any p xs)
any_swapped p [] x = refl
any_swapped p (y ∷ xs) x = ap (λ b. p y || b) (any_swapped p xs x) ∙ swap (p y) (p x)
  where
    swap : (b c : Bool) → (b || (c || list_any p xs)) ≡ (c || (b || list_any p xs))
    swap true true = refl
    swap true false = refl
    swap false c = refl

-- the order of the steps that go doesn't count
pub any_reverse : {A : Type 0} (p : A → Bool) (xs : List A) → list_any p (reverse xs) ≡ list_any p xs
any_reverse p [] = refl
any_reverse p (x ∷ xs) = ap (list_any p) (reverse-append (x ∷ []) xs) ∙ any_swapped p (reverse xs) x ∙ ap (λ b. p x || b) (any_reverse p xs)
