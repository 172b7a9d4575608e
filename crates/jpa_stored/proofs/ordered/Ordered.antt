-- The entries that lie in a span are those between two bounds, and the owner of each is among the owners.
use Rattle.std.specs.BTreeMap.Range.{range_contains}
use Rattle.std.specs.declared.ops.Bound.TheVariants.{Included, Excluded}
use Rattle.std.specs.Prelude.{◌≡◌, ℕ, ◌+◌, ◌<◌, ◌≤◌, Bool, true, false, not, ◌&&◌, ◌||◌, List, [], ◌∷◌, ◌++◌, map, filter, unwrap_or, Option, Some, None}
use Rattle.std.proofs.Common.{refl, sym, ap, subst, ◌∙◌, arith, inl, inr, suc, length, length-append, Ordering, Less, Equal, Greater, Bor}
use Rattle.std.specs.List.{list_any}
use Rattle.std.specs.Ordering.{is_eq, is_le, is_gt, nat_cmp, bool_cmp, ordering_then, ordering_reverse}
use Rattle.std.specs.Cmp.{IsTotalOrder, tied_itself, alike_right, nat_cmp_is, nat_cmp_total}
use Rattle.std.specs.Cmp.Lexicographic.{slice_cmp}
use Rattle.std.specs.FinMap.{IsAntisymmetric, nat_cmp-IsAntisymmetric}
use Rattle.std.proofs.lemmas.Bool.{cases_lt, ne_eqb, eq-eqb, false≢true}
use Rattle.std.proofs.lemmas.List.Elements.{filter_agree}
use Rattle.std.proofs.lemmas.List.Folds.{list_any-append}
use Rattle.std.proofs.lemmas.Map.Views.{any-filter_same}
use Rattle.jpa_value.specs.declared.value.Value.{Value}
use Rattle.jpa_value.specs.declared.value.Identity.{Identity}
use Rattle.jpa_value.specs.Value.{value_cmp, identity_cmp, same_identity}
use Rattle.jpa_value.proofs.Orders.{both_equal, value_exact, identity_exact, identity_total}
use Rattle.jpa_stored.specs.declared.ordered.cut.Cut.{Cut}
use Rattle.jpa_stored.specs.declared.ordered.cut.Span.{Span}
use Rattle.jpa_stored.specs.declared.ordered.valued.Valued.{Valued}
use Rattle.jpa_stored.specs.ordered.Values.{cut_cmp, valued_cmp, same_valued, at_of, valued, least, has_begun, goes_on, covers, any_covers, start_of, end_before, end_of, is_within, within, owners_of, owners_in, lent_ids, IsIn}

-- ---- only the same place and the same entry tie

bool_exact : IsAntisymmetric bool_cmp
bool_exact false false e = refl
bool_exact false true e = absurd cc
bool_exact true false e = absurd cc
bool_exact true true e = refl

pub cut_exact : IsAntisymmetric cut_cmp
cut_exact a b e =
    let outer = both_equal _ _ e in
    let inner = both_equal _ _ outer.0 in
    let v = value_exact a.value b.value inner.0 in
    let h = bool_exact a.behind b.behind inner.1 in
    let o = identity_exact a.owner b.owner outer.1 in
    λ i. record { value = v i; behind = h i; owner = o i }

pub valued_exact : IsAntisymmetric valued_cmp
valued_exact a b e =
    let both = both_equal _ _ e in
    let n = nat_cmp-IsAntisymmetric a.number b.number both.0 in
    let p = cut_exact (at_of a) (at_of b) both.1 in
    λ i. valued (n i) (p i)

pub equal : (o : Ordering) → is_eq o ≡ true → o ≡ Equal
equal Less e = absurd cc
equal Equal e = refl
equal Greater e = absurd cc

-- ---- no place stands before the least

then_le : (r s : Ordering) → is_le r ≡ true → is_le s ≡ true → is_le (ordering_then r s) ≡ true
then_le Less s h k = refl
then_le Equal s h k = k
then_le Greater s h k = absurd (false≢true h)

null_least : (v : Value) → is_le (value_cmp Value.Null v) ≡ true
null_least Value.Null = refl
null_least (Value.Int n) = refl
null_least (Value.Text bytes) = refl
null_least (Value.Bytes bytes) = refl

before_least : (behind : Bool) → is_le (bool_cmp false behind) ≡ true
before_least false = refl
before_least true = refl

no_key_least : (key : List Value) → is_le (slice_cmp value_cmp [] key) ≡ true
no_key_least [] = refl
no_key_least (v ∷ vs) = refl

-- a number not above another, and what is not above behind it
number_le : (a b : ℕ) (o : Ordering) → a ≤ b → is_le o ≡ true → is_le (ordering_then (nat_cmp a b) o) ≡ true
number_le a b o h k = elim (cases_lt a b) [
  | inl less ↦ ap (λ r. is_le (ordering_then r o)) (sym (nat_cmp_is a b Less less))
  | inr more ↦ ap (λ r. is_le (ordering_then r o)) (sym (nat_cmp_is a b Equal (omega arith))) ∙ k
]

pub least_lowest : (c : Cut) → is_le (cut_cmp least c) ≡ true
least_lowest c =
    then_le (ordering_then (value_cmp Value.Null c.value) (bool_cmp false c.behind)) (identity_cmp least.owner c.owner)
    (then_le (value_cmp Value.Null c.value) (bool_cmp false c.behind) (null_least c.value) (before_least c.behind))
    (number_le 0 (c.owner).table (slice_cmp value_cmp [] (c.owner).key) (omega arith) (no_key_least (c.owner).key))

-- ---- an entry between the bounds of a span is one of the number that the span covers

begun : (from : Option Cut) (c : Cut) → is_le (cut_cmp (unwrap_or from least) c) ≡ has_begun from c
begun None c = least_lowest c
begun (Some from) c = refl

not_le : (o : Ordering) → not (is_le o) ≡ is_gt o
not_le Less = refl
not_le Equal = refl
not_le Greater = refl

and_false : (a b : Bool) → b ≡ false → (a && b) ≡ false
and_false true b h = h
and_false false b h = refl

module _ (number : ℕ) where
  ended : (to : Option Cut) (c : Cut) → not (is_le (valued_cmp (end_before number to) (valued number c))) ≡ goes_on to c
  ended None c = ap (λ o. not (is_le (ordering_then o (cut_cmp least c)))) (sym (nat_cmp_is (number + 1) number Greater (omega arith)))
  ended (Some to) c = ap (λ o. not (is_le (ordering_then o (cut_cmp to c)))) (tied_itself nat_cmp_total number) ∙ not_le (cut_cmp to c)

  -- the end stands before the entries of a higher number, or is the first of them
  passed : (to : Option Cut) (v : Valued) → number < v.number → not (is_le (valued_cmp (end_before number to) v)) ≡ false
  passed None v h = ap not (number_le (number + 1) v.number (cut_cmp least (at_of v)) (omega arith) (least_lowest (at_of v)))
  passed (Some to) v h = ap (λ o. not (is_le (ordering_then o (cut_cmp to (at_of v))))) (sym (nat_cmp_is number v.number Less h))

  pub bounded : (span : Span) (v : Valued) →
      range_contains valued_cmp (Included (start_of number span)) (Excluded (end_of number span)) v ≡ is_within number span v
  bounded span v = elim (cases_lt number v.number) [
    | inl above ↦
        and_false (is_le (valued_cmp (start_of number span) v)) (not (is_le (valued_cmp (end_of number span) v))) (passed span.to v above)
        ∙ sym (ap (λ b. b && covers span (at_of v)) (ne_eqb v.number number (λ e. apart e above)))
    | inr up ↦ elim (cases_lt v.number number) [
      | inl below ↦
          ap (λ o. is_le (ordering_then o (cut_cmp (unwrap_or span.from least) (at_of v))) && not (is_le (valued_cmp (end_of number span) v))) (sym (nat_cmp_is number v.number Greater below))
          ∙ sym (ap (λ b. b && covers span (at_of v)) (ne_eqb v.number number (λ e. apart (sym e) below)))
      | inr down ↦ same (omega arith)
    ]
  ]
    where
      apart : {a b : ℕ} → a ≡ b → b < a → ⊥
      apart e h = omega arith

      here : (c : Cut) →
          range_contains valued_cmp (Included (start_of number span)) (Excluded (end_of number span)) (valued number c) ≡ is_within number span (valued number c)
      here c =
          ap (λ o. is_le (ordering_then o (cut_cmp (unwrap_or span.from least) c)) && not (is_le (valued_cmp (end_of number span) (valued number c)))) (tied_itself nat_cmp_total number)
          ∙ (λ i. begun span.from c i && ended span.to c i)
          ∙ sym (ap (λ b. b && covers span c) (eq-eqb number number refl))

      same : number ≡ v.number →
          range_contains valued_cmp (Included (start_of number span)) (Excluded (end_of number span)) v ≡ is_within number span v
      same e = subst (λ (n : ℕ). range_contains valued_cmp (Included (start_of number span)) (Excluded (end_of number span)) (valued n (at_of v)) ≡ is_within number span (valued n (at_of v))) e (here (at_of v))

-- the entries between the bounds are those in the span
pub between_bounds : (number : ℕ) (span : Span) (entries : List Valued) →
    filter (range_contains valued_cmp (Included (start_of number span)) (Excluded (end_of number span))) entries ≡ within entries number span
between_bounds number span entries = filter_agree _ _ (bounded number span) entries

-- ---- nothing lies between a bound and one that is not above it

module _ {K : Type 0} {R : K → K → Ordering} (o : IsTotalOrder R) where
  le_chain : (x y z : K) → is_le (R x y) ≡ true → is_le (R y z) ≡ true → is_le (R x z) ≡ true
  le_chain x y z h k = by_first (R x y) refl h
    where
      by_second : R x y ≡ Less → (s : Ordering) → R y z ≡ s → is_le s ≡ true → is_le (R x z) ≡ true
      by_second e Less d k = ap is_le (o.trans x y z e d)
      by_second e Equal d k = ap is_le (sym (alike_right o y z x d) ∙ e)
      by_second e Greater d k = absurd (false≢true k)

      by_first : (r : Ordering) → R x y ≡ r → is_le r ≡ true → is_le (R x z) ≡ true
      by_first Less e h = by_second e (R y z) refl k
      by_first Equal e h = ap is_le (o.congr x y z e) ∙ k
      by_first Greater e h = absurd (false≢true h)

  none_between : (lo hi k : K) → is_le (R hi lo) ≡ true → range_contains R (Included lo) (Excluded hi) k ≡ false
  none_between lo hi k h = by_start (is_le (R lo k)) refl
    where
      by_start : (b : Bool) → is_le (R lo k) ≡ b → (b && not (is_le (R hi k))) ≡ false
      by_start true e = ap not (le_chain hi lo k h e)
      by_start false e = refl

  not_above : (r : Ordering) → is_gt r ≡ true → is_le (ordering_reverse r) ≡ true
  not_above Less h = absurd (false≢true h)
  not_above Equal h = absurd (false≢true h)
  not_above Greater h = refl

  -- where the first bound is above the second, and where both are the second
  pub none_either : (lo hi : K) → is_gt (R lo hi) ≡ true → (ks : List K) →
      filter (range_contains R (Included hi) (Excluded hi)) ks ≡ filter (range_contains R (Included lo) (Excluded hi)) ks
  none_either lo hi h ks =
      filter_agree _ _
      (λ k. none_between hi hi k (ap is_le (tied_itself o hi)) ∙ sym (none_between lo hi k (ap is_le (o.antisymm hi lo) ∙ not_above (R lo hi) h))) ks

  -- a bound is not above itself
  pub itself_forward : (k : K) → is_gt (R k k) ≡ false
  itself_forward k = ap is_gt (tied_itself o k)

-- ---- the owner of each entry that lies in a span is among the owners

any_owner : (q : Identity) (vs : List Valued) → list_any (same_identity q) (owners_of vs) ≡ list_any (λ (v : Valued). same_identity q v.owner) vs
any_owner q [] = refl
any_owner q (v ∷ vs) = ap (λ b. same_identity q v.owner || b) (any_owner q vs)

implied : (f g : Valued → Bool) → ((v : Valued) → g v ≡ true → f v ≡ true) → (vs : List Valued) → list_any g vs ≡ true → list_any f vs ≡ true
implied f g k [] h = h
implied f g k (v ∷ vs) h = by_test (g v) refl (implied f g k vs) h
  where
    later : (a b : Bool) → b ≡ true → (a || b) ≡ true
    later true b e = refl
    later false b e = e

    by_test : (b : Bool) → g v ≡ b → (list_any g vs ≡ true → list_any f vs ≡ true) → (b || list_any g vs) ≡ true → (f v || list_any f vs) ≡ true
    by_test true e rest h = ap (λ b. b || list_any f vs) (k v e)
    by_test false e rest h = later (f v) (list_any f vs) (rest h)

module _ (entries : List Valued) (number : ℕ) (at : Cut) (there : IsIn entries (valued number at)) where
  in_span : (span : Span) → covers span at ≡ true → list_any (same_identity at.owner) (owners_of (within entries number span)) ≡ true
  in_span span covered =
      any_owner at.owner (within entries number span)
      ∙ implied (λ (v : Valued). same_identity at.owner v.owner) (same_valued (valued number at)) owned (within entries number span)
      (any-filter_same (same_valued (valued number at)) (is_within number span) true lies entries ∙ there)
    where
      is_it : (v : Valued) → same_valued (valued number at) v ≡ true → valued number at ≡ v
      is_it v t = valued_exact (valued number at) v (equal (valued_cmp (valued number at) v) t)

      owned : (v : Valued) → same_valued (valued number at) v ≡ true → same_identity at.owner v.owner ≡ true
      owned v t = ap (λ (x : Valued). same_identity at.owner x.owner) (sym (is_it v t)) ∙ ap is_eq (tied_itself identity_total at.owner)

      lies : (v : Valued) → same_valued (valued number at) v ≡ true → is_within number span v ≡ true
      lies v t = ap (is_within number span) (sym (is_it v t)) ∙ ap (λ b. b && covers span at) (eq-eqb number number refl) ∙ covered

  pub among_owners : (spans : List Span) → any_covers spans at ≡ true → list_any (same_identity at.owner) (owners_in entries number spans) ≡ true
  among_owners [] h = h
  among_owners (span ∷ spans) h =
      list_any-append (same_identity at.owner) (owners_of (within entries number span)) (owners_in entries number spans)
      ∙ by_first (covers span at) refl (among_owners spans) h
    where
      first : (a b : Bool) → a ≡ true → (a || b) ≡ true
      first true b e = refl
      first false b e = absurd (false≢true e)

      later : (a b : Bool) → b ≡ true → (a || b) ≡ true
      later true b e = refl
      later false b e = e

      by_first : (b : Bool) → covers span at ≡ b → (any_covers spans at ≡ true → list_any (same_identity at.owner) (owners_in entries number spans) ≡ true) → (b || any_covers spans at) ≡ true →
          (list_any (same_identity at.owner) (owners_of (within entries number span)) || list_any (same_identity at.owner) (owners_in entries number spans)) ≡ true
      by_first true e rest h = first _ _ (in_span span e)
      by_first false e rest h = later _ _ (rest h)

-- ---- one owner more than so many

length_mapped : {X Y : Type 0} (f : X → Y) (xs : List X) → length (map f xs) ≡ length xs
length_mapped f [] = refl
length_mapped f (x ∷ xs) = ap suc (length_mapped f xs)

-- where an entry is left of those in a span, the owners so far are fewer than all
pub one_left : (found old : List (Bor Identity)) (ys rest all : List Valued) (v : Valued) →
    lent_ids found ≡ lent_ids old ++ owners_of ys → ys ++ v ∷ rest ≡ all → length found < length old + length all
one_left found old ys rest all v e split =
    let parts = sym (length_mapped _ found) ∙ ap length e ∙ length-append (lent_ids old) (owners_of ys) in
    let before = length_mapped (λ (id : Bor Identity). id.now) old in
    let so_far = length_mapped (λ (v : Valued). v.owner) ys in
    let whole = sym (ap length split) ∙ length-append ys (v ∷ rest) in
    omega (arith, parts, before, so_far, whole)
