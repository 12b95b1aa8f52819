-- The way down the tree by the ordinals of a name leads to the name's index.
use Rattle.std.proofs.Common.{◌≡◌, ℕ, suc, ◌-◌, ◌<◌, ◌≤◌, List, [], ◌∷◌, ◌++◌, Some, None, length, take, drop, get_or, refl, sym, ap, ◌∙◌, subst, arith, append_assoc}
use Rattle.std.proofs.Math.Seq.{drop-cons, drop-length}
use Rattle.std.proofs.lemmas.List.{take-append-drop}
use Rattle.tb_model.specs.Names.{Name}
use Rattle.tb_wait.specs.Kin.{Slot}
use Rattle.tb_wait.specs.Rows.{key, Fits, IsPlaceOf}
use Rattle.tb_wait.specs.Tree.{Nodes, IsPlace}
use Rattle.tb_wait.proofs.SearchLemmas.{above, ancestor}

-- from the task at `start` all but so many of these ordinals were passed, and led to `at`
pub record IsReached (names : List Name) (start : ℕ) (numbers : Name) (left at : ℕ) : Type 0 where
  pub within : at < length names
  pub named : key names at ≡ drop left numbers ++ key names start

some_is : {x y : ℕ} → Some x ≡ Some y → x ≡ y
some_is e = cc

-- the last run is empty, and nothing is in front of it
pub none_left : (old new run : Name) → (run ≡ [] → old ≡ []) → old ≡ new ++ run → run ≡ [] → new ≡ []
none_left old [] run none split e = refl
none_left old (x ∷ new) run none split e = let clash : [] ≡ x ∷ new ++ run = sym (none e) ∙ split in cc

module _ (names : List Name) (slots : List Slot) (nodes : Nodes) (f : Fits names slots nodes) where
  pub reached_first : (start : ℕ) (numbers : Name) → start < length names → IsReached names start numbers (length numbers) start
  reached_first start numbers w = record { within = w; named = ap (λ l. l ++ key names start) (sym (drop-length numbers)) }

  module _ (start at left : ℕ) (numbers : Name) (r : IsReached names start numbers left at) (some : 0 < left) (few : left ≤ length numbers) (n d : ℕ) (is : n ≡ get_or numbers (left - 1) d) where
    -- the next ordinal, and those that were passed
    next : drop (left - 1) numbers ++ key names start ≡ n ∷ key names at
    next =
        ap (λ l. l ++ key names start) (drop-cons numbers (left - 1) d (omega (arith, some, few)))
        ∙ ap (λ m. m ∷ drop (suc (left - 1)) numbers ++ key names start) (sym is)
        ∙ ap (λ k. n ∷ drop k numbers ++ key names start) (let s : suc (left - 1) ≡ left = omega (arith, some) in s)
        ∙ ap (λ l. n ∷ l) (sym r.named)

    pub reached_next : (c : ℕ) → 0 < n → IsPlace nodes at (n - 1) c → IsReached names start numbers (left - 1) c
    reached_next c from_one p = record {
      within = omega (arith, f.linked.within at (n - 1) c p, f.nodes_len);
      named = f.child at (n - 1) c p ∙ ap (λ m. m ∷ key names at) (let s : suc (n - 1) ≡ n = omega (arith, from_one) in s) ∙ sym next;
    }

    pub reached_none : ((k i : ℕ) → suc k ≡ n → IsPlace nodes at k i → ⊥) → IsPlaceOf names (numbers ++ key names start) None
    reached_none never = record {
      found = λ i s. cc;
      absent = λ _ i x w e.
          let front = take (left - 1) numbers in
          let below : numbers ++ key names start ≡ front ++ n ∷ key names at =
          ap (λ l. l ++ key names start) (sym (take-append-drop (left - 1) numbers)) ∙ append_assoc front (drop (left - 1) numbers) (key names start) ∙ ap (λ l. front ++ l) next
          in
          let child = ancestor names slots nodes f (x ++ front) (n ∷ key names at) i w (e ∙ ap (λ l. x ++ l) below ∙ sym (append_assoc x front (n ∷ key names at))) in
          let a = above names slots nodes f child.0 (key names at) n child.1 child.2 in
          let same : a.parent ≡ at = f.distinct a.parent at a.within r.within a.named in
          never a.place child.0 a.numbered (subst (λ j. IsPlace nodes j a.place child.0) same a.is_place);
    }

  pub reached_last : (start at left : ℕ) (numbers : Name) → IsReached names start numbers left at → left ≡ 0 → IsPlaceOf names (numbers ++ key names start) (Some at)
  reached_last start at left numbers r e = record {
    found = λ i s. subst (λ j. (j < length names) × (key names j ≡ numbers ++ key names start)) (some_is s)
        (r.within, r.named ∙ ap (λ k. drop k numbers ++ key names start) e);
    absent = λ n. cc;
  }

  -- ---- run by run

  -- the way through these parts of a name: some are left, those of this run come next, and the others led to `at`
  pub run_next : (t parts run rest more : Name) (at below : ℕ) → (at < length names) × (t ≡ (parts ++ run) ++ key names at) → IsPlaceOf names (run ++ key names at) (Some below) → parts ≡ rest ++ more
      → (below < length names) × (t ≡ (rest ++ more) ++ key names below)
  run_next t parts run rest more at below here found split =
      let it = found.found below refl in (it.0, here.1 ∙ append_assoc parts run (key names at) ∙ ap (λ l. parts ++ l) (sym it.1) ∙ ap (λ l. l ++ key names below) split)

  pub run_none : (t parts run : Name) (at : ℕ) → t ≡ (parts ++ run) ++ key names at → IsPlaceOf names (run ++ key names at) None → IsPlaceOf names t None
  run_none t parts run at here none = record {
    found = λ i s. cc;
    absent = λ _ i x w e.
        none.absent refl i (x ++ parts) w (e ∙ ap (λ l. x ++ l) (here ∙ append_assoc parts run (key names at)) ∙ sym (append_assoc x parts (run ++ key names at)));
  }

  pub run_last : (t parts run : Name) (at : ℕ) → at < length names → t ≡ (parts ++ run) ++ key names at → run ≡ [] → parts ≡ [] → IsPlaceOf names t (Some at)
  run_last t parts run at w here empty last = record {
    found = λ i s. subst (λ j. (j < length names) × (key names j ≡ t)) (some_is s)
        (w, sym (here ∙ ap (λ l. (l ++ run) ++ key names at) last ∙ ap (λ l. l ++ key names at) empty));
    absent = λ n. cc;
  }
