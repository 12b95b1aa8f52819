-- What is stored of no events.
use Rattle.std.proofs.Common.{◌≡◌, ℕ, zero, suc, List, [], ◌∷◌, Bool, length, refl, sym, ap, ◌∙◌, subst, arith, Option, Some, None, slice_get, Vec, Global}
use Rattle.tb_model.specs.Names.{Name}
use Rattle.tb_lanes.specs.declared.lane_bound.LaneBound.{LaneBound}
use Rattle.tb_lanes.specs.Clocks.{IsEnd, Lanes}
use Rattle.tb_lanes.specs.Rows.{Key}
use Rattle.tb_lanes.proofs.KeptLemmas.{kept_none}
use Rattle.tb_stream.specs.declared.clocks.Clocks.{Clocks}
use Rattle.tb_stream.specs.declared.half.Half.{Half}
use Rattle.tb_stream.specs.declared.mark.Mark.{Mark}
use Rattle.tb_stream.specs.Ends.{IsNoted, IsRowOf, Named, row_of}
use Rattle.tb_stream.specs.Halves.{IsHalf}
use Rattle.tb_stream.specs.Keeping as keeping
use Rattle.tb_stream.specs.Keeping.{AreTouchedSo, touched_of}
use Rattle.tb_stream.specs.Seen.{AreClocks, IsMaker, IsNewest, Run, order}
use Rattle.tb_stream.proofs.ListLemmas.{the_same}
use Rattle.tb_stream.proofs.NoteLemmas.{stored_none}

abbrev no_lanes : Lanes
no_lanes = record { lane = λ p. 0; bound = λ p k. 0; last = λ k. 0; count = 0 }

only_none : (i : ℕ) (m : Option Mark) → slice_get (None ∷ []) i ≡ Some m → m ≡ None
only_none zero m e = sym (the_same None m e)
only_none (suc i) m e = absurd (let no_some : ◌≡◌ {A = Option (Option Mark)} None (Some m) = e in cc)

module _ (r : Run) (clocks : Clocks) (newest : clocks.newest.items ≡ None ∷ []) (origins : clocks.origins.items ≡ None ∷ [])
    (lasts : clocks.lasts.items ≡ []) where
  newest_so : (t : Name) (m : Option Mark) → m ≡ None → IsNewest r 0 no_lanes clocks.rows.items t m
  newest_so t m e = subst (IsNewest r 0 no_lanes clocks.rows.items t) (sym e) (λ x l. absurd (omega (arith, l)))

  maker_so : (t : Name) (m : Option Mark) → m ≡ None → IsMaker r 0 no_lanes clocks.rows.items t m
  maker_so t m e = subst (IsMaker r 0 no_lanes clocks.rows.items t) (sym e) refl

  pub clocks_none : AreClocks r 0 no_lanes clocks
  clocks_none = record {
    within = omega arith;
    are = record {
      low = λ p l. absurd (omega (arith, l));
      told = λ p l. absurd (omega (arith, l));
      own = λ p q l. absurd (omega (arith, l));
      going = λ p l. absurd (omega (arith, l));
      few = λ p l. absurd (omega (arith, l));
      newest = λ p l. absurd (omega (arith, l));
    };
    newest = record { listed = ap length newest; each = λ i t m h g. newest_so t m (only_none i m (sym (ap (λ xs. slice_get xs i) newest) ∙ g)) };
    origins = record { listed = ap length origins; each = λ i t m h g. maker_so t m (only_none i m (sym (ap (λ xs. slice_get xs i) origins) ∙ g)) };
    lasts_listed = ap length lasts;
    lasts = λ k l. absurd (omega (arith, l));
  }

no_row : (r : Run) (lanes : Lanes) (rows : List (Vec LaneBound Global)) (k : Key) → IsRowOf r 0 lanes rows (IsNoted r 0 k) None
no_row r lanes rows k x h = omega (arith, h.0.0)

pub half_none : (exclusion : Bool) (h : Half) → h.order.exclusion ≡ exclusion → h.order.clocks.newest.items ≡ None ∷ []
    → h.order.clocks.origins.items ≡ None ∷ [] → h.order.clocks.lasts.items ≡ [] → h.order.ends.items ≡ [] → h.order.rows.entries ≡ [] → h.kept.entries ≡ []
    → IsHalf exclusion [] h
half_none exclusion h same newest origins lasts ends rows kept r begins = record {
  lanes = no_lanes;
  past = record {
    exclusion = same ∙ sym begins.exclusion_is;
    clocks = clocks_none r h.order.clocks newest origins lasts;
    ends = stored_none r 0 no_lanes h.order.clocks.rows.items (IsEnd r.entries 0) h.order.ends ends (λ x e. omega (arith, e.0));
    rows = λ k. subst (λ (named : Named). IsRowOf r 0 no_lanes h.order.clocks.rows.items (IsNoted r 0 k) (row_of named k)) (sym rows) (no_row r no_lanes h.order.clocks.rows.items k);
  };
  kept = λ i. subst (λ (named : keeping.Named). AreTouchedSo r 0 no_lanes i (touched_of named i)) (sym kept) (kept_none (order r) r.entries i [] [] refl refl);
}
