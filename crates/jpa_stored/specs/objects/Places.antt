-- Where an identity stands among entries in rising order, or would stand.
use Rattle.std.specs.Prelude.{◌≡◌, ℕ, ◌<◌, ◌≤◌, List, length, slice_index_or}
use Rattle.std.specs.declared.cmp.Ordering.{Ordering}
use Rattle.std.specs.declared.cmp.Ordering.TheVariants.{Less, Equal, Greater}

module _ {K X : Type 0} (R : K → K → Ordering) where
  -- the entry at this place has the key
  pub record IsAt (es : List (K × X)) (k : K) (at : ℕ) : Type 0 where
    pub within : at < length es
    pub tied : (d : K × X) → R (slice_index_or es at d).0 k ≡ Equal

  -- each key before this place is below the key, each from it on above
  pub record IsGap (es : List (K × X)) (k : K) (at : ℕ) : Type 0 where
    pub within : at ≤ length es
    pub below : (j : ℕ) (d : K × X) → j < at → R (slice_index_or es j d).0 k ≡ Less
    pub above : (j : ℕ) (d : K × X) → at ≤ j → j < length es → R (slice_index_or es j d).0 k ≡ Greater
