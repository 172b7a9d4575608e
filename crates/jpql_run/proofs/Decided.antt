-- Of rows those that decide a comparison with all of them: it goes by the order of values, which is total.
use Rattle.std.proofs.Common.{◌≡◌, ◌∙◌, refl, ap, sym, Bool, true, false, cond, List, [], ◌∷◌, map, Option, Some, None, Less, Equal, Greater}
use Rattle.std.specs.Prelude.{◌||◌, IfSome}
use Rattle.std.specs.Ordering.{is_le, is_lt, ordering_reverse}
use Rattle.std.specs.Cmp.{IsTotalOrder}
use Rattle.std.specs.declared.cmp.Ordering.{Ordering}
use Rattle.std.proofs.lemmas.Cmp.{alike_right}
use Rattle.jpql_trees.specs.declared.tree.Comparison.{Comparison}
use Rattle.jpql_meaning.specs.declared.eval.datum.Datum.{Datum}
use Rattle.jpql_meaning.specs.declared.eval.datum.Truth.{Truth}
use Rattle.jpql_meaning.specs.eval.Data.{null, is_nothing, same_datum, datum_cmp, holds, compared}
use Rattle.jpql_meaning.specs.eval.SeenOrder.{datum_total}
use Rattle.jpql_meaning.specs.eval.Truths.{truth_of, not3, and3, or3, any3, all3}
use Rattle.jpql_run.specs.Ready.{is_ordered, opposite, reaches, harder, nulls, few}

-- ---- a total order

back : (x y : Datum) (o : Ordering) → datum_cmp x y ≡ o → datum_cmp y x ≡ ordering_reverse o
back x y o e = IsTotalOrder.antisymm datum_total y x ∙ ap ordering_reverse e

-- less than one that is at most another is less than the other, and so with at most
below : (r b x : Datum) (o p : Ordering) → datum_cmp r b ≡ o → datum_cmp b x ≡ p → is_le o ≡ true → is_le p ≡ true → datum_cmp r x ≡ cond (is_lt o) Less p
below r b x Less Less e f h k = IsTotalOrder.trans datum_total r b x e f
below r b x Less Equal e f h k = sym (alike_right datum_total b x r f) ∙ e
below r b x Equal p e f h k = IsTotalOrder.congr datum_total r b x e ∙ f
below r b x Less Greater e f h k = absurd cc
below r b x Greater p e f h k = absurd cc

at_most : (r b x : Datum) → is_le (datum_cmp r b) ≡ true → is_le (datum_cmp b x) ≡ true → is_le (datum_cmp r x) ≡ true
at_most r b x h k = ap is_le (below r b x (datum_cmp r b) (datum_cmp b x) refl refl h k) ∙ told (is_lt (datum_cmp r b)) (datum_cmp b x) k
  where
    told : (s : Bool) (p : Ordering) → is_le p ≡ true → is_le (cond s Less p) ≡ true
    told true p k = refl
    told false p k = k

less_first : (r b x : Datum) → datum_cmp r b ≡ Less → is_le (datum_cmp b x) ≡ true → datum_cmp r x ≡ Less
less_first r b x e k = below r b x Less (datum_cmp b x) e refl refl k

less_then : (r b x : Datum) → is_le (datum_cmp r b) ≡ true → datum_cmp b x ≡ Less → datum_cmp r x ≡ Less
less_then r b x h f = below r b x (datum_cmp r b) Less refl f h refl ∙ told (is_lt (datum_cmp r b))
  where
    told : (s : Bool) → cond s Less Less ≡ Less
    told true = refl
    told false = refl

-- ---- what holds of one row holds of what it reaches

abbrev so : Comparison → Datum → Datum → Bool
so op x y = holds op (same_datum x y) (datum_cmp x y)

is_less : (same : Bool) (o : Ordering) → holds Comparison.Less same o ≡ true → o ≡ Less
is_less same Less h = refl
is_less same Equal h = absurd cc
is_less same Greater h = absurd cc

is_greater : (same : Bool) (o : Ordering) → holds Comparison.Greater same o ≡ true → o ≡ Greater
is_greater same Greater h = refl
is_greater same Equal h = absurd cc
is_greater same Less h = absurd cc

is_at_most : (same : Bool) (o : Ordering) → holds Comparison.AtMost same o ≡ is_le o
is_at_most same Less = refl
is_at_most same Equal = refl
is_at_most same Greater = refl

is_at_least : (same : Bool) (o : Ordering) → holds Comparison.AtLeast same o ≡ is_le (ordering_reverse o)
is_at_least same Less = refl
is_at_least same Equal = refl
is_at_least same Greater = refl

at_least : (x y : Datum) → so Comparison.AtLeast x y ≡ is_le (datum_cmp y x)
at_least x y = is_at_least (same_datum x y) (datum_cmp x y) ∙ ap is_le (sym (back x y (datum_cmp x y) refl))

reached : (op : Comparison) (a b x : Datum) → reaches op a b ≡ true → so op x a ≡ true → so op x b ≡ true
reached Comparison.Less a b x h k = ap (holds Comparison.Less (same_datum x b)) (less_first x a b (is_less (same_datum x a) (datum_cmp x a) k) h)
reached Comparison.AtMost a b x h k =
    is_at_most (same_datum x b) (datum_cmp x b) ∙ at_most x a b (sym (is_at_most (same_datum x a) (datum_cmp x a)) ∙ k) h
reached Comparison.Greater a b x h k =
    ap (holds Comparison.Greater (same_datum x b)) (back b x Less (less_then b a x h (back x a Greater (is_greater (same_datum x a) (datum_cmp x a) k))))
reached Comparison.AtLeast a b x h k = at_least x b ∙ at_most b a x h (sym (at_least x a) ∙ k)
reached Comparison.Equal a b x h k = absurd cc
reached Comparison.Different a b x h k = absurd cc

not_le : (o : Ordering) → is_le o ≡ false → is_le (ordering_reverse o) ≡ true
not_le Less h = absurd cc
not_le Equal h = absurd cc
not_le Greater h = refl

other_way : (a b : Datum) → is_le (datum_cmp a b) ≡ false → is_le (datum_cmp b a) ≡ true
other_way a b h = ap is_le (back a b (datum_cmp a b) refl) ∙ not_le (datum_cmp a b) h

-- of two rows one reaches the other
turned : (op : Comparison) (a b : Datum) → is_ordered op ≡ true → reaches op a b ≡ false → reaches op b a ≡ true
turned Comparison.Less a b o h = other_way a b h
turned Comparison.AtMost a b o h = other_way a b h
turned Comparison.Greater a b o h = other_way b a h
turned Comparison.AtLeast a b o h = other_way b a h
turned Comparison.Equal a b o h = absurd cc
turned Comparison.Different a b o h = absurd cc

-- ---- truths

and_back : (a b : Truth) → and3 a b ≡ and3 b a
and_back Truth.Yes Truth.Yes = refl
and_back Truth.Yes Truth.No = refl
and_back Truth.Yes Truth.Unknown = refl
and_back Truth.No Truth.Yes = refl
and_back Truth.No Truth.No = refl
and_back Truth.No Truth.Unknown = refl
and_back Truth.Unknown Truth.Yes = refl
and_back Truth.Unknown Truth.No = refl
and_back Truth.Unknown Truth.Unknown = refl

and_assoc : (a b c : Truth) → and3 a (and3 b c) ≡ and3 (and3 a b) c
and_assoc Truth.Yes b c = refl
and_assoc Truth.No b c = refl
and_assoc Truth.Unknown Truth.Yes c = refl
and_assoc Truth.Unknown Truth.No c = refl
and_assoc Truth.Unknown Truth.Unknown Truth.Yes = refl
and_assoc Truth.Unknown Truth.Unknown Truth.No = refl
and_assoc Truth.Unknown Truth.Unknown Truth.Unknown = refl

implied : (s t : Bool) → (s ≡ true → t ≡ true) → and3 (truth_of s) (truth_of t) ≡ truth_of s
implied true t h = ap truth_of (h refl)
implied false t h = refl

-- ---- a row more

pub harder_there : (op : Comparison) (was : Option Datum) (y : Datum) → IfSome was (λ a. is_nothing a ≡ false) → is_nothing y ≡ false → is_nothing (harder op was y) ≡ false
harder_there op None y ha hy = hy
harder_there op (Some a) y ha hy = by (reaches op a y)
  where
    by : (r : Bool) → is_nothing (cond r a y) ≡ false
    by true = ha
    by false = hy

module _ (op : Comparison) (x : Datum) where
  abbrev beside : Datum → Truth
  beside y = compared op x y

  beside_null : beside null ≡ Truth.Unknown
  beside_null = by (is_nothing x)
    where
      by : (b : Bool) → cond (b || true) Truth.Unknown (truth_of (so op x null)) ≡ Truth.Unknown
      by true = refl
      by false = refl

  -- beside a null all is unknown
  beside_nothing : (y : Datum) → is_nothing y ≡ true → beside y ≡ Truth.Unknown
  beside_nothing y h = by (is_nothing x) (is_nothing y) h
    where
      by : (b n : Bool) → n ≡ true → cond (b || n) Truth.Unknown (truth_of (so op x y)) ≡ Truth.Unknown
      by true n h = refl
      by false true h = refl
      by false false h = absurd cc

  -- one that reaches another says all
  absorbs : (a b : Datum) → is_nothing a ≡ false → is_nothing b ≡ false → reaches op a b ≡ true → and3 (beside a) (beside b) ≡ beside a
  absorbs a b ha hb r = by (is_nothing x) (is_nothing a) (is_nothing b) ha hb
    where
      by : (n k l : Bool) → k ≡ false → l ≡ false
          → and3 (cond (n || k) Truth.Unknown (truth_of (so op x a))) (cond (n || l) Truth.Unknown (truth_of (so op x b))) ≡ cond (n || k) Truth.Unknown (truth_of (so op x a))
      by true k l h i = refl
      by false false false h i = implied (so op x a) (so op x b) (reached op a b x r)
      by false true l h i = absurd cc
      by false false true h i = absurd cc

  abbrev all : List Datum → Truth
  all ys = all3 (map beside ys)

  -- what nulls say
  nulls_say : (b : Bool) → and3 (all (nulls b)) Truth.Unknown ≡ Truth.Unknown
  nulls_say true = ap (λ t. and3 (and3 t Truth.Yes) Truth.Unknown) beside_null
  nulls_say false = refl

  null_last : and3 Truth.Unknown Truth.Yes ≡ all (nulls true)
  null_last = ap (λ t. and3 t Truth.Yes) (sym beside_null)

  with_null : (was : Option Datum) (b : Bool) (y : Datum) → is_nothing y ≡ true → and3 (all (few was b)) (beside y) ≡ all (few was true)
  with_null None b y h = ap (and3 (all (nulls b))) (beside_nothing y h) ∙ nulls_say b ∙ null_last
  with_null (Some a) b y h =
      ap (and3 (and3 (beside a) (all (nulls b)))) (beside_nothing y h) ∙ sym (and_assoc (beside a) (all (nulls b)) Truth.Unknown)
      ∙ ap (and3 (beside a)) (nulls_say b ∙ null_last)

  with_row : (was : Option Datum) (b : Bool) (y : Datum) → is_ordered op ≡ true → IfSome was (λ a. is_nothing a ≡ false) → is_nothing y ≡ false
      → and3 (all (few was b)) (beside y) ≡ all (few (Some (harder op was y)) b)
  with_row None b y o ha hy = and_back (all (nulls b)) (beside y)
  with_row (Some a) b y o ha hy = by (reaches op a y) refl
    where
      by : (r : Bool) → reaches op a y ≡ r → and3 (and3 (beside a) (all (nulls b))) (beside y) ≡ and3 (beside (cond r a y)) (all (nulls b))
      by true e =
          and_back (and3 (beside a) (all (nulls b))) (beside y) ∙ and_assoc (beside y) (beside a) (all (nulls b))
          ∙ ap (λ t. and3 t (all (nulls b))) (and_back (beside y) (beside a) ∙ absorbs a y ha hy e)
      by false e =
          and_back (and3 (beside a) (all (nulls b))) (beside y) ∙ and_assoc (beside y) (beside a) (all (nulls b))
          ∙ ap (λ t. and3 t (all (nulls b))) (absorbs y a hy ha (turned op a y o e))

  -- all rows, those before by few of them
  abbrev pub SayAll : List Datum → Option Datum → Bool → List Datum → Type 0
  SayAll rows was b rest = all rows ≡ and3 (all (few was b)) (all rest)

  pub one_null : (rows : List Datum) (was : Option Datum) (b : Bool) (y : Datum) (rest later : List Datum) → rest ≡ y ∷ later → is_nothing y ≡ true → SayAll rows was b rest
      → SayAll rows was true later
  one_null rows was b y rest later at h before =
      before ∙ ap (λ ys. and3 (all (few was b)) (all ys)) at ∙ and_assoc (all (few was b)) (beside y) (all later) ∙ ap (λ t. and3 t (all later)) (with_null was b y h)

  pub one_row : (rows : List Datum) (was : Option Datum) (b : Bool) (y : Datum) (rest later : List Datum) → rest ≡ y ∷ later → is_ordered op ≡ true
      → IfSome was (λ a. is_nothing a ≡ false) → is_nothing y ≡ false → SayAll rows was b rest → SayAll rows (Some (harder op was y)) b later
  one_row rows was b y rest later at o ha hy before =
      before ∙ ap (λ ys. and3 (all (few was b)) (all ys)) at ∙ and_assoc (all (few was b)) (beside y) (all later) ∙ ap (λ t. and3 t (all later)) (with_row was b y o ha hy)

  pub no_more : (rows : List Datum) (was : Option Datum) (b : Bool) (rest found : List Datum) → rest ≡ [] → found ≡ few was b → SayAll rows was b rest → all found ≡ all rows
  no_more rows was b rest found none is before =
      ap all is ∙ and_back Truth.Yes (all (few was b)) ∙ sym (before ∙ ap (λ ys. and3 (all (few was b)) (all ys)) none)

-- ---- with any of rows it holds where the opposite doesn't with all

any_by_all : {A : Type 0} (f g : A → Truth) → ((a : A) → g a ≡ not3 (f a)) → (xs : List A) → any3 (map f xs) ≡ not3 (all3 (map g xs))
any_by_all f g h [] = refl
any_by_all f g h (x ∷ xs) = (λ i. or3 (f x) (any_by_all f g h xs i)) ∙ by (f x) (all3 (map g xs)) ∙ ap (λ t. not3 (and3 t (all3 (map g xs)))) (sym (h x))
  where
    by : (s t : Truth) → or3 s (not3 t) ≡ not3 (and3 (not3 s) t)
    by Truth.Yes t = refl
    by Truth.No t = refl
    by Truth.Unknown Truth.Yes = refl
    by Truth.Unknown Truth.No = refl
    by Truth.Unknown Truth.Unknown = refl

pub all_by_any : {A : Type 0} (f g : A → Truth) → ((a : A) → g a ≡ not3 (f a)) → (xs : List A) → all3 (map g xs) ≡ not3 (any3 (map f xs))
all_by_any f g h [] = refl
all_by_any f g h (x ∷ xs) = (λ i. and3 (h x i) (all_by_any f g h xs i)) ∙ by (f x) (any3 (map f xs))
  where
    by : (s t : Truth) → and3 (not3 s) (not3 t) ≡ not3 (or3 s t)
    by Truth.Yes t = refl
    by Truth.No t = refl
    by Truth.Unknown Truth.Yes = refl
    by Truth.Unknown Truth.No = refl
    by Truth.Unknown Truth.Unknown = refl

fails : (op : Comparison) (same : Bool) (o : Ordering) → truth_of (holds (opposite op) same o) ≡ not3 (truth_of (holds op same o))
fails Comparison.Equal true o = refl
fails Comparison.Equal false o = refl
fails Comparison.Different true o = refl
fails Comparison.Different false o = refl
fails Comparison.Less same Less = refl
fails Comparison.Less same Equal = refl
fails Comparison.Less same Greater = refl
fails Comparison.AtMost same Less = refl
fails Comparison.AtMost same Equal = refl
fails Comparison.AtMost same Greater = refl
fails Comparison.Greater same Less = refl
fails Comparison.Greater same Equal = refl
fails Comparison.Greater same Greater = refl
fails Comparison.AtLeast same Less = refl
fails Comparison.AtLeast same Equal = refl
fails Comparison.AtLeast same Greater = refl

pub compared_opposite : (op : Comparison) (x y : Datum) → compared (opposite op) x y ≡ not3 (compared op x y)
compared_opposite op x y = by (is_nothing x || is_nothing y)
  where
    by : (b : Bool) → cond b Truth.Unknown (truth_of (so (opposite op) x y)) ≡ not3 (cond b Truth.Unknown (truth_of (so op x y)))
    by true = refl
    by false = fails op (same_datum x y) (datum_cmp x y)

pub any_opposite : (op : Comparison) (x : Datum) (rows found : List Datum)
    → all3 (map (compared (opposite op) x) found) ≡ all3 (map (compared (opposite op) x) rows) → any3 (map (compared op x) rows) ≡ any3 (map (compared op x) found)
any_opposite op x rows found h =
    any_by_all (compared op x) (compared (opposite op) x) (compared_opposite op x) rows ∙ ap not3 (sym h)
    ∙ sym (any_by_all (compared op x) (compared (opposite op) x) (compared_opposite op x) found)

-- an opposite of what goes by the order does so too
pub is_opposite_ordered : (op : Comparison) → is_ordered (opposite op) ≡ is_ordered op
is_opposite_ordered Comparison.Equal = refl
is_opposite_ordered Comparison.Different = refl
is_opposite_ordered Comparison.Less = refl
is_opposite_ordered Comparison.AtMost = refl
is_opposite_ordered Comparison.Greater = refl
is_opposite_ordered Comparison.AtLeast = refl
