-- The axioms from which causal consistency follows in any reversible transition system.
-- After Lanese, Phillips and Ulidowski (FoSSaCS 2020), with states that are one as far as Same says.
use Rattle.std.specs.Prelude.{◌≡◌, ◌⊎◌, ℕ, suc, not, IsTrue, IsFalse}
use Rattle.tb_causal.specs.Systems.{System, Square}

-- a transition back
pub record Back (S : System) (x : S.State) : Type 0 where
  pub label : S.Label
  pub enabled : S.Enabled x label
  pub backward : IsTrue (S.is_backward label)

pub record Axioms (S : System) : Type 0 where
  -- `Same` is an equivalence, and a transition from one of two such states is one from the other, to such states
  pub refl : (x : S.State) → S.IsState x → S.Same x x
  pub sym : (x y : S.State) → S.Same x y → S.Same y x
  pub trans : (x y z : S.State) → S.IsState x → S.IsState y → S.Same x y → S.Same y z → S.Same x z
  pub kept : (x : S.State) (l : S.Label) → S.IsState x → S.Enabled x l → S.IsState (S.target x l)
  pub congruent : (x y : S.State) (l : S.Label) → S.IsState x → S.IsState y → S.Same x y → S.Enabled x l → S.Enabled y l × S.Same (S.target x l) (S.target y l)
  -- the loop lemma: each transition has its inverse, which goes the other way
  pub twice : (l : S.Label) → S.inverse (S.inverse l) ≡ l
  pub turns : (l : S.Label) → S.is_backward (S.inverse l) ≡ not (S.is_backward l)
  pub loop : (x : S.State) (l : S.Label) → S.IsState x → S.Enabled x l → S.Enabled (S.target x l) (S.inverse l) × S.Same (S.target (S.target x l) (S.inverse l)) x
  -- the square property
  pub square : (x : S.State) (l m : S.Label) → S.IsState x → S.Enabled x l → S.Enabled x m → S.Independent x l m → Square S x l m
  -- backward transitions are independent
  pub backward : (x : S.State) (l m : S.Label) → S.IsState x → S.Enabled x l → S.Enabled x m → IsTrue (S.is_backward l) → IsTrue (S.is_backward m) → (l ≡ m) ⊎ S.Independent x l m
  -- well-foundedness: each transition changes the size by one, and in a state of some size one can go back
  pub size : S.State → ℕ
  pub same_size : (x y : S.State) → S.IsState x → S.IsState y → S.Same x y → size x ≡ size y
  pub shrinks : (x : S.State) (l : S.Label) → S.IsState x → S.Enabled x l → IsTrue (S.is_backward l) → suc (size (S.target x l)) ≡ size x
  pub grows : (x : S.State) (l : S.Label) → S.IsState x → S.Enabled x l → IsFalse (S.is_backward l) → size (S.target x l) ≡ suc (size x)
  pub ground : (x : S.State) → S.IsState x → (size x ≡ 0) ⊎ Back S x
