-- What is listed of an event is the newest of its races that aren't apart, else the newest.
use Rattle.std.proofs.Common.{◌≡◌, [], ◌∷◌, ◌++◌, Bool, true, false, cond, ⊎_elim, ◌↔◌, refl, sym, ap, ◌∙◌, subst, Option, Some, None, option_map}
use Rattle.std.specs.Option.{option_or}
use Rattle.std.proofs.lemmas.Bool.{both_ways, false≢true}
use Rattle.tb_model.specs.declared.event.Event.{Event}
use Rattle.tb_model.specs.Facts.{History}
use Rattle.tb_model.specs.Needs.{step_of}
use Rattle.tb_races.specs.declared.conflict.Conflict.{Conflict}
use Rattle.tb_races.specs.declared.race.Race.{Race}
use Rattle.tb_races.specs.Orders.{Order, Synchronised, WithExclusion, comes_after}
use Rattle.tb_races.specs.Racing.{conflict, IsRace, unordered, contested, is_apart, as_race, newest_race, race_of}
use Rattle.tb_one_run.specs.Rows.{order_of, IsRow}
use Rattle.tb_races.proofs.PassLemmas.{found_by_pass}
use Rattle.tb_one_run.proofs.ListedLemmas.{contested_some, none_races, less_race, named}

-- the newest event of K with which v, after H, has a race
record Newest (o : Order) (H : History) (v : Event) (K : History) (r : Race) : Type 0 where
  between : History
  event : Event
  front : History
  shares : Conflict
  split : K ≡ between ++ event ∷ front
  contest : contested o H v front event ≡ Some shares
  is : r ≡ as_race o (step_of front event) (step_of H v) shares
  none : (a : History) (w : Event) (b : History) → between ≡ a ++ w ∷ b → contested o H v (b ++ event ∷ front) w ≡ None

newest_found : (o : Order) (H : History) (v : Event) (K : History) (r : Race) → newest_race o H v K ≡ Some r → Newest o H v K r
newest_found o H v [] r e = cc
newest_found o H v (u ∷ K) r e = at (contested o H v K u) refl (newest_found o H v K r)
  where
    made : (c : Option Conflict) → contested o H v K u ≡ c → option_or (option_map (as_race o (step_of K u) (step_of H v)) c) (newest_race o H v K) ≡ Some r
    made c q = sym (ap (λ d. option_or (option_map (as_race o (step_of K u) (step_of H v)) d) (newest_race o H v K)) q) ∙ e

    same : (x y : Race) → ◌≡◌ {A = Option Race} (Some x) (Some y) → y ≡ x
    same x y z = cc

    at : (c : Option Conflict) → contested o H v K u ≡ c → (newest_race o H v K ≡ Some r → Newest o H v K r) → Newest o H v (u ∷ K) r
    at (Some c) q rest = record {
      between = [];
      event = u;
      front = K;
      shares = c;
      split = refl;
      contest = q;
      is = same (as_race o (step_of K u) (step_of H v) c) r (made (Some c) q);
      none = λ a w b z. absurd (empty a w b z);
    }
      where
        empty : (a : History) (w : Event) (b : History) → [] ≡ a ++ w ∷ b → ⊥
        empty [] w b z = cc
        empty (x ∷ a) w b z = cc
    at None q rest =
        let n = rest (made None q) in
        record {
          between = u ∷ n.between;
          event = n.event;
          front = n.front;
          shares = n.shares;
          split = ap (λ G. u ∷ G) n.split;
          contest = n.contest;
          is = n.is;
          none = λ a w b z. later n a w b z;
        }
      where
        later : (n : Newest o H v K r) (a : History) (w : Event) (b : History) → u ∷ n.between ≡ a ++ w ∷ b → contested o H v (b ++ n.event ∷ n.front) w ≡ None
        later n [] w b z =
            let x : u ≡ w = cc in
            let y : n.between ≡ b = cc in
            ap (contested o H v (b ++ n.event ∷ n.front)) (sym x) ∙ ap (λ G. contested o H v (G ++ n.event ∷ n.front) u) (sym y) ∙ ap (λ G. contested o H v G u) (sym n.split) ∙ q
        later n (x ∷ a) w b z = n.none a w b (cc)

-- ---- the relation

-- what is contested is a race, and what isn't is none
contest_race : (o : Order) (H : History) (v : Event) (b : History) (u : Event) (F : History) (c : Conflict) → H ≡ b ++ u ∷ F → contested o H v F u ≡ Some c → IsRace o (v ∷ H) (u ∷ F) × (conflict v u ≡ Some c)
contest_race o H v b u F c e q =
    let p = contested_some (comes_after o (step_of F u) H v) (conflict v u) (contested o H v F u) refl c q in (
      subst (λ G. IsRace o (v ∷ G) (u ∷ F)) (sym e) (unordered o v u b F c p.1 (λ a.
          both_ways (comes_after o (step_of F u) (b ++ u ∷ F) v) (ap (λ G. comes_after o (step_of F u) G v) (sym e) ∙ p.0) ((found_by_pass o b v u F).1 a))),
      p.1,
    )

no_contest : {o : Order} {A B : History} → IsRace o A B → (H : History) (v w : Event) (X : History) → A ≡ v ∷ H → B ≡ w ∷ X → contested o H v X w ≡ None → ⊥
no_contest (unordered o x u m F c both not) H v w X e f q = at (comes_after o (step_of F u) (m ++ u ∷ F) x) refl
  where
    same : contested o (m ++ u ∷ F) x F u ≡ None
    same =
        let a : m ++ u ∷ F ≡ H = cc in
        let b : x ≡ v = cc in
        let k : F ≡ X = cc in
        let d : u ≡ w = cc in
        ap (λ G. contested o G x F u) a ∙ ap (λ y. contested o H y F u) b ∙ ap (λ G. contested o H v G u) k ∙ ap (contested o H v X) d ∙ q

    at : (t : Bool) → comes_after o (step_of F u) (m ++ u ∷ F) x ≡ t → ⊥
    at true p = not ((found_by_pass o m x u F).0 p)
    at false p =
        let z : Some c ≡ None = sym both ∙ sym (ap (λ t. cond t None (conflict x u)) p) ∙ same in cc

-- ---- the row

row_of : (o : Order) (H : History) (v : Event) (r : Race) → order_of (is_apart o) ≡ o → newest_race o H v H ≡ Some r → (is_apart o ≡ true → (G : History) → IsRace WithExclusion (v ∷ H) G → ⊥) → IsRow H v r
row_of o H v r k e bare =
    let n = newest_found o H v H r e in
    subst (IsRow H v) (sym n.is)
    (record {
      between = n.between;
      event = n.event;
      front = n.front;
      split = n.split;
      earlier = refl;
      later = refl;
      conflict = (contest_race o H v n.between n.event n.front n.shares n.split n.contest).1;
      race = subst (λ p. IsRace p (v ∷ H) (n.event ∷ n.front)) (sym k) (contest_race o H v n.between n.event n.front n.shares n.split n.contest).0;
      newest =
          λ a w b z q.
          no_contest (subst (λ p. IsRace p (v ∷ H) (w ∷ (b ++ n.event ∷ n.front))) k q) H v w (b ++ n.event ∷ n.front) refl refl (n.none a w b z);
      apart = bare;
    })

-- what is listed is such a row
pub row : (H : History) (v : Event) (r : Race) → race_of H v ≡ Some r → IsRow H v r
row H v r e = at (newest_race WithExclusion H v H) refl
  where
    at : (c : Option Race) → newest_race WithExclusion H v H ≡ c → IsRow H v r
    at (Some x) q =
        let made : Some x ≡ Some r = sym (ap (λ d. option_or d (newest_race Synchronised H v H)) q) ∙ e in
        row_of WithExclusion H v r refl (q ∙ made) (λ z. absurd (false≢true z))
    at None q =
        let made : newest_race Synchronised H v H ≡ Some r = sym (ap (λ d. option_or d (newest_race Synchronised H v H)) q) ∙ e in
        row_of Synchronised H v r refl made (λ z G i. none_races i q)

-- an event has no race where none is found
pub no_row : (H : History) (v : Event) → (race_of H v ≡ None) ↔ ((G : History) → IsRace Synchronised (v ∷ H) G → ⊥)
no_row H v = (
  λ e G i.
      none_races i (both (newest_race WithExclusion H v H) (newest_race Synchronised H v H) e).1,
  λ n.
      ⊎_elim
      (λ x. ⊎_elim (λ y. ap (λ c. option_or c (newest_race Synchronised H v H)) x ∙ y) (λ y. absurd (n y.0 y.1)) (named Synchronised H v [] H refl))
      (λ x. absurd (n x.0 (less_race x.1))) (named WithExclusion H v [] H refl),
)
  where
    both : (o p : Option Race) → option_or o p ≡ None → (o ≡ None) × (p ≡ None)
    both (Some x) p h = cc
    both None p h = (refl, h)
