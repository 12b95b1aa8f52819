-- The events of a run that pass a test, where the test passes all that they directly need.
use Rattle.std.proofs.Common.{◌≡◌, [], ◌∷◌, ◌++◌, Bool, true, false, ◌||◌, not, refl, sym, ap, ap₂, ◌∙◌, append_assoc}
use Rattle.std.specs.List.{list_any}
use Rattle.std.proofs.lemmas.Bool.{both_ways, false_from_ne_true}
use Rattle.tb_model.specs.declared.event.Event.{Event}
use Rattle.tb_model.specs.Facts.{History, is_of, spawns, prepend_if}
use Rattle.tb_model.specs.Needs.{needs}
use Rattle.tb_model.specs.Program.{loaded}
use Rattle.tb_model.proofs.TestLemmas.{none_weaker}
use Rattle.tb_model.proofs.PartsLemmas as parts
use Rattle.tb_model.proofs.PartsLemmas.{Parts}
use Rattle.tb_model.proofs.RemovalLemmas.{needs_own, needs_spawn, follows_stays}
use Rattle.tb_one_run.specs.Outcomes.{passing}
use Rattle.tb_one_run.specs.Behaviours.{Behaviour, IsRunOf, IsNextOf}
use Rattle.tb_one_run.proofs.BehaviourLemmas.{given_stays}
use Rattle.tb_one_run.proofs.SharedLemmas.{one_more}

-- the events that don't pass
abbrev pub failing : (History → Bool) → History → History
failing p [] = []
failing p (v ∷ H) = prepend_if (not (p (v ∷ H))) v (failing p H)

-- the events of the later part of a history that pass
abbrev pub late_passing : (History → Bool) → History → History → History
late_passing p [] front = []
late_passing p (v ∷ b) front = prepend_if (p (v ∷ (b ++ front))) v (late_passing p b front)

-- a history is those that pass and those that fail
pub passing_parts : (p : History → Bool) (H : History) → Parts H (passing p H) (failing p H)
passing_parts p [] = parts.none
passing_parts p (v ∷ H) = one_more (p (v ∷ H)) v (passing_parts p H)

put_append : (c : Bool) (v : Event) (G F : History) → prepend_if c v G ++ F ≡ prepend_if c v (G ++ F)
put_append true v G F = refl
put_append false v G F = refl

-- the later part and the front pass each by themselves
pub passing_split : (p : History → Bool) (b F : History) → passing p (b ++ F) ≡ late_passing p b F ++ passing p F
passing_split p [] F = refl
passing_split p (v ∷ b) F =
    ap (prepend_if (p (v ∷ (b ++ F))) v) (passing_split p b F) ∙ sym (put_append (p (v ∷ (b ++ F))) v (late_passing p b F) (passing p F))

-- what no event that fails has, none of them has
pub none_failing : (p : History → Bool) (q : Event → Bool) (m H : History) (X : History) → X ≡ m ++ H → ((k : History) (u : Event) (U : History) → X ≡ k ++ u ∷ U → q u ≡ true → p (u ∷ U) ≡ true) → list_any q (failing p H) ≡ false
none_failing p q m [] X e f = refl
none_failing p q m (u ∷ H) X e f =
    at (p (u ∷ H)) refl (none_failing p q (m ++ u ∷ []) H X (e ∙ sym (append_assoc m (u ∷ []) H)) f)
  where
    at : (c : Bool) → p (u ∷ H) ≡ c → list_any q (failing p H) ≡ false → list_any q (prepend_if (not c) u (failing p H)) ≡ false
    at true h rest = rest
    at false h rest = ap₂ (λ a b. a || b) (false_from_ne_true (q u) (λ z. both_ways (p (u ∷ H)) h (f m u H e z))) rest

-- an event that needs none of those that go is next after those that stay
pub next_stays : (B : Behaviour) {H K R : History} → Parts H K R → (v : Event) → list_any (needs H v) R ≡ false → IsNextOf B H v → IsNextOf B K v
next_stays B {H} {K} {R} s v n i = record {
  may = follows_stays B.cells H K R s v n i.may;
  behaves =
      given_stays B s v.task (none_weaker (is_of v.task) (needs H v) (needs_own H v.task v.action) R n) (none_weaker (spawns v.task) (needs H v) (needs_spawn H v.task v.action) R n) (loaded v.action)
      ∙ i.behaves;
}

-- with an event all pass that it directly needs
abbrev pub KeepsNeeds : (History → Bool) → History → Type 0
KeepsNeeds p H =
    (b : History) (x : Event) (X : History) → H ≡ b ++ x ∷ X → p (x ∷ X) ≡ true → (m : History) (u : Event) (U : History) → X ≡ m ++ u ∷ U → needs X x u ≡ true → p (u ∷ U) ≡ true

passing_below : (B : Behaviour) (p : History → Bool) (H : History) → KeepsNeeds p H → (b F : History) → H ≡ b ++ F → IsRunOf B F → IsRunOf B (passing p F)
passing_below B p H k b [] e l = (tt, tt)
passing_below B p H k b (x ∷ X) e l =
    at (p (x ∷ X)) refl (passing_below B p H k (b ++ x ∷ []) X (e ∙ sym (append_assoc b (x ∷ []) X)) (l.0.0, l.1.0))
  where
    at : (c : Bool) → p (x ∷ X) ≡ c → IsRunOf B (passing p X) → IsRunOf B (prepend_if c x (passing p X))
    at true h rest =
        let n = next_stays B (passing_parts p X) x (none_failing p (needs X x) [] X X refl (λ m u U f q. k b x X e h m u U f q)) (record { may = l.0.1; behaves = l.1.1 }) in
        ((rest.0, n.may), (rest.1, n.behaves))
    at false h rest = rest

-- the run of those that pass
pub passing_legal : (B : Behaviour) (p : History → Bool) (H : History) → KeepsNeeds p H → IsRunOf B H → IsRunOf B (passing p H)
passing_legal B p H k l = passing_below B p H k [] H refl l
