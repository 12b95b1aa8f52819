-- Reversible transition systems, their paths, and the causal equivalence of paths.
-- After Danos and Krivine (CONCUR 2004), and Lanese, Phillips and Ulidowski (FoSSaCS 2020).
use Rattle.std.specs.Prelude.{ℕ, suc, ◌+◌, ◌≤◌, length, List, [], ◌∷◌, ◌++◌, Bool, IsTrue, IsFalse, ⊤}

-- what the definitions below speak of; a transition is a label that is enabled in a state
pub record System : Type 1 where
  pub State : Type 0
  pub IsState : State → Type 0
  -- they are one state
  pub Same : State → State → Type 0
  pub Label : Type 0
  pub Enabled : State → Label → Type 0
  -- the state after the transition
  pub target : State → Label → State
  -- the label of the transition back
  pub inverse : Label → Label
  -- it goes back
  pub is_backward : Label → Bool
  -- of two transitions from one state
  pub Independent : State → Label → Label → Type 0

module _ (S : System) where
  -- two transitions from one state can each be taken after the other, and the two ways meet
  pub record Square (x : S.State) (l m : S.Label) : Type 0 where
    pub first : S.Enabled (S.target x l) m
    pub second : S.Enabled (S.target x m) l
    pub meet : S.Same (S.target (S.target x l) m) (S.target (S.target x m) l)

  -- the labels are those of transitions that can be taken one after the other
  abbrev pub IsPath : S.State → List S.Label → Type 0
  IsPath x [] = ⊤
  IsPath x (l ∷ ls) = S.Enabled x l × IsPath (S.target x l) ls

  -- the state in which the path ends
  abbrev pub end_of : S.State → List S.Label → S.State
  end_of x [] = x
  end_of x (l ∷ ls) = end_of (S.target x l) ls

  -- all go back
  abbrev pub AreBackward : List S.Label → Type 0
  AreBackward [] = ⊤
  AreBackward (l ∷ ls) = IsTrue (S.is_backward l) × AreBackward ls

  -- all go forward
  abbrev pub AreForward : List S.Label → Type 0
  AreForward [] = ⊤
  AreForward (l ∷ ls) = IsFalse (S.is_backward l) × AreForward ls

  -- the least equivalence of the paths from a state in which, after a common beginning and in front
  -- of a common end, independent neighbours change places, and a transition with its inverse
  -- cancels
  pub data CausallyEquivalent : S.State → List S.Label → List S.Label → Type 0 where
    same : (x : S.State) (ls : List S.Label) → CausallyEquivalent x ls ls
    turned : {x : S.State} {ls ms : List S.Label} → CausallyEquivalent x ls ms → CausallyEquivalent x ms ls
    by_way : {x : S.State} {ks ls ms : List S.Label} → CausallyEquivalent x ks ls → CausallyEquivalent x ls ms → CausallyEquivalent x ks ms
    behind : (x : S.State) (l : S.Label) {ls ms : List S.Label} → CausallyEquivalent (S.target x l) ls ms → CausallyEquivalent x (l ∷ ls) (l ∷ ms)
    swap : (x : S.State) (l m : S.Label) (ls : List S.Label) → S.Enabled x l → S.Enabled x m → S.Independent x l m → CausallyEquivalent x (l ∷ m ∷ ls) (m ∷ l ∷ ls)
    cancel : (x : S.State) (l : S.Label) (ls : List S.Label) → S.Enabled x l → CausallyEquivalent x (l ∷ S.inverse l ∷ ls) ls

  -- a path that first goes back and then forward, is causally equivalent, and no longer
  pub record Parabola (x : S.State) (ls : List S.Label) : Type 0 where
    pub back : List S.Label
    pub forth : List S.Label
    pub backward : AreBackward back
    pub forward : AreForward forth
    pub equivalent : CausallyEquivalent x ls (back ++ forth)
    pub no_longer : length back + length forth ≤ length ls

  -- a path back from one state to the other
  pub record PathBack (x y : S.State) : Type 0 where
    pub labels : List S.Label
    pub path : IsPath x labels
    pub backward : AreBackward labels
    pub ends : S.Same (end_of x labels) y

  -- an infinite path back
  pub record EndlessBack (x : ℕ → S.State) (l : ℕ → S.Label) : Type 0 where
    pub states : (n : ℕ) → S.IsState (x n)
    pub enabled : (n : ℕ) → S.Enabled (x n) (l n)
    pub backward : (n : ℕ) → IsTrue (S.is_backward (l n))
    pub next : (n : ℕ) → S.Same (S.target (x n) (l n)) (x (suc n))
