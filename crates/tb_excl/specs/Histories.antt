-- What the exclusive sets hold of a history: a child holds what its items take from its start to its end.
use Rattle.std.specs.Prelude.{◌≡◌, ◌↔◌, ℕ, ◌∷◌, Bool, not, ◌&&◌, Some, IsTrue}
use Rattle.std.specs.List.{list_any}
use Rattle.tb_model.specs.declared.place.Place.{Place}
use Rattle.tb_model.specs.Names.{Name}
use Rattle.tb_model.specs.Facts.{History, HasStarted, starts, ends, items_of}
use Rattle.tb_excl.specs.Holders.{Holders, holder, takes, HasRoomFor}

-- the nth child of p has started and not ended, and some item of it takes the location
abbrev pub is_held : History → Name → Place → ℕ → Bool
is_held H p place n =
    list_any (starts (n ∷ p)) H && (not (list_any (ends (n ∷ p)) H) && takes (items_of (n ∷ p) H) place)

-- these are the holders among the children of p; what a child that has started takes retains its
-- capacity, so that the undo of its end takes no memory
pub record AreHolders (H : History) (p : Name) (h : Holders) : Type 0 where
  pub parent : h.parent ≡ p
  pub held : (place : Place) (n : ℕ) → (holder h place ≡ Some n) ↔ IsTrue (is_held H p place n)
  pub room : (n : ℕ) → HasStarted H (n ∷ p) → HasRoomFor h (items_of (n ∷ p) H)
