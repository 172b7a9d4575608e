-- The waves of a cascade are the nodes that it reaches.
use Rattle.std.proofs.Common.{◌≡◌, ◌∙◌, ℕ, zero, suc, ◌<◌, ◌≤◌, ◌+◌, ◌-◌, Bool, true, false, List, [], ◌∷◌, ◌++◌, length, get_or, refl, ap, sym, subst, ⊎_elim, append_assoc, length-append, arith}
use Rattle.std.specs.Prelude.{Contains}
use Rattle.std.specs.List.{AllPairs, IsDistinct, flat_map, list_any}
use Rattle.std.specs.Cmp.{IsEquivalence, Equal-is}
use Rattle.std.specs.Bool.{Decides}
use Rattle.std.proofs.lemmas.Bool.{false≢true, false_from_ne_true, both_ways, cond_both, eqb-true, eq-eqb, cases_lt}
use Rattle.std.proofs.lemmas.Cmp.{eq_by_cmp_equiv}
use Rattle.std.proofs.lemmas.Bool.Decides.{same_from_decides}
use Rattle.std.proofs.lemmas.List.{append-nil, get_or_append_left, get_or-append-add}
use Rattle.std.proofs.lemmas.List.Elements.{Contains-append_left, Contains-append_right, Contains-append_cases, Contains-get_or}
use Rattle.std.proofs.lemmas.Map.Keys.{IsDistinct-push}
use Rattle.std.proofs.lemmas.Map.Made.{is_member-Decides, length-le_from_is_member, AllPairs-from_IsDistinct}
use Rattle.jpa_value.specs.declared.value.Identity.{Identity}
use Rattle.jpa_value.specs.Value.{same_identity, identity_cmp}
use Rattle.jpa_value.proofs.Orders.{identity_exact, identity_total}
use Rattle.jpa_cascade.specs.declared.Node.{Node}
use Rattle.jpa_cascade.specs.Waves.{same_node, unseen, waves_by}
use Rattle.jpa_cascade.specs.Reached.{IsReachedIn, IsAsNear, AreReached, HasTarget, HaveAllThatLeadOn, WavesReach}
use Rattle.jpa_cascade.proofs.Ended.{waves_ended}
use Rattle.jpa_cascade.proofs.Lists.{none_in, first_in, later_in, in_one, in_cases, in_flat, from_flat}

-- ---- same nodes

place_of : Node → ℕ
place_of (Node.Live n) = n
place_of (Node.Bare id) = zero

name_of : Identity → Node → Identity
name_of id (Node.Live n) = id
name_of id (Node.Bare x) = x

is_live : Node → Bool
is_live (Node.Live n) = true
is_live (Node.Bare id) = false

pub same_decides : (a b : Node) → Decides (same_node a b) (a ≡ b)
unfolding place_of name_of is_live
same_decides (Node.Live a) (Node.Live b) = (λ h. ap Node.Live (eqb-true a b h), λ e. eq-eqb a b (ap place_of e))
same_decides (Node.Live a) (Node.Bare y) = (λ h. absurd (false≢true h), λ e. absurd (false≢true (ap is_live (sym e))))
same_decides (Node.Bare x) (Node.Live b) = (λ h. absurd (false≢true h), λ e. absurd (false≢true (ap is_live e)))
same_decides (Node.Bare x) (Node.Bare y) =
    (λ h. ap Node.Bare (identity_exact x y ((Equal-is (identity_cmp x y)).0 h)), λ e. subst (λ u. same_identity x u ≡ true) (ap (name_of x) e) ((eq_by_cmp_equiv identity_total).refl x))

pub same_laws : IsEquivalence same_node
same_laws = record {
  refl = λ x. (same_decides x x).1 refl;
  symm = λ x y. same_from_decides (same_node x y) (same_node y x) (same_decides x y) (λ h. sym ((same_decides y x).0 h), λ e. (same_decides y x).1 (sym e));
  congr = λ x y z h. ap (λ u. same_node u z) ((same_decides x y).0 h);
}

is_in : (xs : List Node) (x : Node) → list_any (same_node x) xs ≡ true → Contains xs x
is_in xs x h = (is_member-Decides same_decides xs x).0 h

is_not_in : (xs : List Node) (x : Node) → list_any (same_node x) xs ≡ false → Contains xs x → ⊥
is_not_in xs x h k = both_ways (list_any (same_node x) xs) h ((is_member-Decides same_decides xs x).1 k)

-- ---- what was not seen

-- a node more at the front of what is added
moved : (seen : List Node) (x : Node) (xs : List Node) → (seen ++ x ∷ []) ++ xs ≡ seen ++ x ∷ xs
moved seen x xs = append_assoc seen (x ∷ []) xs

covers : (seen xs : List Node) (y : Node) → Contains xs y → Contains (seen ++ unseen seen xs) y
covers seen [] y h = absurd (none_in y h)
covers seen (x ∷ xs) y h =
    cond_both (list_any (same_node x) seen) (unseen seen xs) (x ∷ unseen (seen ++ x ∷ []) xs) (λ us. Contains (seen ++ us) y)
    (λ known. ⊎_elim (λ (e : y ≡ x). Contains-append_left seen (unseen seen xs) y (subst (Contains seen) (sym e) (is_in seen x known)))
    (λ (k : Contains xs y). covers seen xs y k) (in_cases x xs y h))
    (λ _. ⊎_elim (λ (e : y ≡ x). Contains-append_right seen (x ∷ unseen (seen ++ x ∷ []) xs) y (subst (Contains (x ∷ unseen (seen ++ x ∷ []) xs)) (sym e) (first_in x _)))
    (λ (k : Contains xs y). subst (λ us. Contains us y) (moved seen x (unseen (seen ++ x ∷ []) xs)) (covers (seen ++ x ∷ []) xs y k)) (in_cases x xs y h))

from_unseen : (seen xs : List Node) (y : Node) → Contains (unseen seen xs) y → Contains xs y
from_unseen seen [] y h = h
from_unseen seen (x ∷ xs) y h =
    cond_both (list_any (same_node x) seen) (unseen seen xs) (x ∷ unseen (seen ++ x ∷ []) xs) (λ us. Contains us y → Contains (x ∷ xs) y)
    (λ _ k. later_in x xs y (from_unseen seen xs y k))
    (λ _ k. ⊎_elim (λ (e : y ≡ x). subst (Contains (x ∷ xs)) (sym e) (first_in x xs))
    (λ (l : Contains (unseen (seen ++ x ∷ []) xs) y). later_in x xs y (from_unseen (seen ++ x ∷ []) xs y l)) (in_cases x (unseen (seen ++ x ∷ []) xs) y k))
    h

is_fresh : (seen xs : List Node) (y : Node) → Contains (unseen seen xs) y → Contains seen y → ⊥
is_fresh seen [] y h k = none_in y h
is_fresh seen (x ∷ xs) y h k =
    cond_both (list_any (same_node x) seen) (unseen seen xs) (x ∷ unseen (seen ++ x ∷ []) xs) (λ us. Contains us y → ⊥)
    (λ _ l. is_fresh seen xs y l k)
    (λ unknown l. ⊎_elim (λ (e : y ≡ x). is_not_in seen x unknown (subst (Contains seen) e k))
    (λ (n : Contains (unseen (seen ++ x ∷ []) xs) y). is_fresh (seen ++ x ∷ []) xs y n (Contains-append_left seen (x ∷ []) y k)) (in_cases x (unseen (seen ++ x ∷ []) xs) y l))
    h

stay_distinct : (seen xs : List Node) → IsDistinct same_node seen → IsDistinct same_node (seen ++ unseen seen xs)
stay_distinct seen [] d = subst (IsDistinct same_node) (sym (append-nil seen)) d
stay_distinct seen (x ∷ xs) d =
    cond_both (list_any (same_node x) seen) (unseen seen xs) (x ∷ unseen (seen ++ x ∷ []) xs) (λ us. IsDistinct same_node (seen ++ us))
    (λ _. stay_distinct seen xs d)
    (λ unknown. subst (IsDistinct same_node) (moved seen x (unseen (seen ++ x ∷ []) xs)) (stay_distinct (seen ++ x ∷ []) xs (IsDistinct-push same_laws seen x d unknown)))

-- ---- pairs of two lists

-- what holds of the pairs of the first list, and of each element beside each of the second
pairs_more : (R : Node → Node → Type 0) (xs ys : List Node) → AllPairs R xs → ((x y : Node) → Contains (xs ++ ys) x → Contains ys y → R x y) → AllPairs R (xs ++ ys)
pairs_more R xs ys h k i j d below within =
    ⊎_elim
    (λ (in_first : j < length xs).
    let i_first : i < length xs = omega (arith, below, in_first) in
    subst (λ u. R u (get_or (xs ++ ys) j d)) (sym (get_or_append_left xs ys d i i_first))
    (subst (λ u. R (get_or xs i d) u) (sym (get_or_append_left xs ys d j in_first)) (h i j d below in_first)))
    (λ (past : length xs ≤ j).
    let rest : j < length xs + length ys = subst (λ c. j < c) (length-append xs ys) within in
    let i_within : i < length (xs ++ ys) = omega (arith, below, within) in
    let place : length xs + (j - length xs) ≡ j = omega (arith, past) in
    let j_within : j - length xs < length ys = omega (arith, past, rest) in
    let it : get_or (xs ++ ys) j d ≡ get_or ys (j - length xs) d = ap (λ c. get_or (xs ++ ys) c d) (sym place) ∙ get_or-append-add xs ys (j - length xs) d in
    subst (λ u. R (get_or (xs ++ ys) i d) u) (sym it)
    (k (get_or (xs ++ ys) i d) (get_or ys (j - length xs) d) (Contains-get_or (xs ++ ys) i d i_within) (Contains-get_or ys (j - length xs) d j_within)))
    (cases_lt j (length xs))

-- ---- the waves so far

-- the nodes of the waves before, and of a wave that so many steps lead to
record AreSoFar (next : Node → List Node) (start : Node) (steps : ℕ) (before wave : List Node) : Type 0 where
  distinct : IsDistinct same_node (before ++ wave)
  reached : (x : Node) → Contains (before ++ wave) x → (fewer : ℕ) × (fewer ≤ steps) × IsReachedIn (HasTarget next) start fewer x
  last : (x : Node) → Contains wave x → IsReachedIn (HasTarget next) start steps x
  all : (fewer : ℕ) (x : Node) → fewer ≤ steps → IsReachedIn (HasTarget next) start fewer x → Contains (before ++ wave) x
  closed : (x y : Node) → Contains before x → Contains (next x) y → Contains (before ++ wave) y
  apart : (x : Node) → Contains before x → Contains wave x → ⊥
  nearest_first : AllPairs (IsAsNear (HasTarget next) start) (before ++ wave)

none_distinct : (eq : Node → Node → Bool) → IsDistinct eq []
unfolding IsDistinct
none_distinct eq = tt

only_start : (next : Node → List Node) (start : Node) (steps : ℕ) (x : Node) → steps ≤ 0 → IsReachedIn (HasTarget next) start steps x → Contains (start ∷ []) x
only_start next start zero x h e = subst (Contains (start ∷ [])) (sym e) (first_in start [])
only_start next start (suc steps) x h e = absurd (omega (arith, h))

begun : (next : Node → List Node) (start : Node) → AreSoFar next start zero [] (start ∷ [])
begun next start = record {
  distinct = IsDistinct-push same_laws [] start (none_distinct same_node) refl;
  reached = λ x h. (zero, omega arith, in_one start x h);
  last = λ x h. in_one start x h;
  all = only_start next start;
  closed = λ x y h k. absurd (none_in x h);
  apart = λ x h k. none_in x h;
  nearest_first = λ i j d below within. absurd (omega (arith, below, within));
}

-- what is reached is among nodes that have the start and the targets of each
stays : (next : Node → List Node) (start : Node) (nodes : List Node) → Contains nodes start → ((x y : Node) → Contains nodes x → Contains (next x) y → Contains nodes y)
    → (steps : ℕ) (x : Node) → IsReachedIn (HasTarget next) start steps x → Contains nodes x
stays next start nodes first closed zero x e = subst (Contains nodes) (sym e) first
stays next start nodes first closed (suc steps) x way = closed way.0 x (stays next start nodes first closed steps way.0 way.1) way.2

-- what one step more reaches
one_further : (next : Node → List Node) (start : Node) (steps : ℕ) (so_far then : List Node)
    → ((fewer : ℕ) (x : Node) → fewer ≤ steps → IsReachedIn (HasTarget next) start fewer x → Contains so_far x)
    → ((x : Node) → Contains so_far x → Contains then x)
    → ((x y : Node) → Contains so_far x → Contains (next x) y → Contains then y)
    → (fewer : ℕ) (x : Node) → fewer ≤ suc steps → IsReachedIn (HasTarget next) start fewer x → Contains then x
one_further next start steps so_far then all kept closed zero x h way = kept x (all zero x (omega arith) way)
one_further next start steps so_far then all kept closed (suc fewer) x h way = closed way.0 x (all fewer way.0 (omega (arith, h)) way.1) way.2

further : (next : Node → List Node) (start : Node) (steps : ℕ) (before wave : List Node) → AreSoFar next start steps before wave
    → AreSoFar next start (suc steps) (before ++ wave) (unseen (before ++ wave) (flat_map next wave))
further next start steps before wave h =
    let so_far : List Node = before ++ wave in
    let more : List Node = unseen so_far (flat_map next wave) in
    let last : ((x : Node) → Contains more x → IsReachedIn (HasTarget next) start (suc steps) x) =
    λ x k. let from = from_flat next wave x (from_unseen so_far (flat_map next wave) x k) in (from.0, h.last from.0 from.1, from.2) in
    let reached : ((x : Node) → Contains (so_far ++ more) x → (fewer : ℕ) × (fewer ≤ suc steps) × IsReachedIn (HasTarget next) start fewer x) =
    λ x k. ⊎_elim (λ (l : Contains so_far x). let r = h.reached x l in (r.0, omega (arith, r.1), r.2))
    (λ (l : Contains more x). (suc steps, omega arith, last x l)) (Contains-append_cases so_far more x k) in
    let closed : ((x y : Node) → Contains so_far x → Contains (next x) y → Contains (so_far ++ more) y) =
    λ x y k l. ⊎_elim (λ (n : Contains before x). Contains-append_left so_far more y (h.closed x y n l))
    (λ (n : Contains wave x). covers so_far (flat_map next wave) y (in_flat next wave x y n l)) (Contains-append_cases before wave x k) in
    let all : ((fewer : ℕ) (x : Node) → fewer ≤ suc steps → IsReachedIn (HasTarget next) start fewer x → Contains (so_far ++ more) x) =
    one_further next start steps so_far (so_far ++ more) h.all (λ x k. Contains-append_left so_far more x k) closed in
    let nearer : ((x y : Node) → Contains (so_far ++ more) x → Contains more y → IsAsNear (HasTarget next) start x y) =
    λ x y k l fewer way. ⊎_elim (λ (within : fewer < suc steps). absurd (is_fresh so_far (flat_map next wave) y l (h.all fewer y (omega (arith, within)) way)))
    (λ (past : suc steps ≤ fewer). let r = reached x k in (r.0, omega (arith, r.1, past), r.2)) (cases_lt fewer (suc steps)) in
    record {
      distinct = stay_distinct so_far (flat_map next wave) h.distinct;
      reached = reached;
      last = last;
      all = all;
      closed = closed;
      apart = λ x k l. is_fresh so_far (flat_map next wave) x l k;
      nearest_first = pairs_more (IsAsNear (HasTarget next) start) so_far more h.nearest_first nearer;
    }

-- ---- the end

ended : (next : Node → List Node) (start : Node) (steps : ℕ) (before : List Node) → AreSoFar next start steps before [] → AreReached (HasTarget next) start before
ended next start steps before h =
    let same : before ++ [] ≡ before = append-nil before in
    let closed : ((x y : Node) → Contains before x → Contains (next x) y → Contains before y) = λ x y k l. subst (λ ns. Contains ns y) same (h.closed x y k l) in
    let first : Contains before start = subst (λ ns. Contains ns start) same (h.all zero start (omega arith) refl) in
    record {
      exact = λ x. (λ k. let r = h.reached x (Contains-append_left before [] x k) in (r.0, r.2), λ r. stays next start before first closed r.0 x r.1);
      once = AllPairs-from_IsDistinct same_decides before (subst (IsDistinct same_node) same h.distinct);
      nearest_first = subst (AllPairs (IsAsNear (HasTarget next) start)) same h.nearest_first;
    }

-- where a wave has no targets it is the last
last_wave : (next : Node → List Node) (start : Node) (steps : ℕ) (before wave : List Node) → AreSoFar next start steps before wave → flat_map next wave ≡ []
    → AreReached (HasTarget next) start (before ++ wave)
last_wave next start steps before wave h none =
    ended next start (suc steps) (before ++ wave) (subst (λ ts. AreSoFar next start (suc steps) (before ++ wave) (unseen (before ++ wave) ts)) none (further next start steps before wave h))

-- ---- how many waves there are

-- a node of each wave before, one that leads on
record AreParents (nodes before parents : List Node) : Type 0 where
  distinct : IsDistinct same_node parents
  seen : (x : Node) → Contains parents x → Contains before x
  within : (x : Node) → Contains parents x → Contains nodes x

few_parents : (nodes before parents : List Node) → AreParents nodes before parents → length parents ≤ length nodes
few_parents nodes before parents h =
    length-le_from_is_member same_laws parents nodes h.distinct
    (λ x k. (is_member-Decides same_decides nodes x).1 (h.within x (is_in parents x k)))

one_parent_more : (nodes before wave parents : List Node) (x : Node) → AreParents nodes before parents → (Contains before x → ⊥) → Contains wave x → Contains nodes x
    → AreParents nodes (before ++ wave) (parents ++ x ∷ [])
one_parent_more nodes before wave parents x h apart there within = record {
  distinct = IsDistinct-push same_laws parents x h.distinct (false_from_ne_true (list_any (same_node x) parents) (λ k. apart (h.seen x (is_in parents x k))));
  seen = λ y k. ⊎_elim (λ (l : Contains parents y). Contains-append_left before wave y (h.seen y l))
      (λ (l : Contains (x ∷ []) y). Contains-append_right before wave y (subst (Contains wave) (sym (in_one x y l)) there)) (Contains-append_cases parents (x ∷ []) y k);
  within = λ y k. ⊎_elim (λ (l : Contains parents y). h.within y l)
      (λ (l : Contains (x ∷ []) y). subst (Contains nodes) (sym (in_one x y l)) within) (Contains-append_cases parents (x ∷ []) y k);
}

-- the parent that a wave with a target has
parent : (next : Node → List Node) (start : Node) (nodes : List Node) → HaveAllThatLeadOn next start nodes
    → (steps : ℕ) (before wave parents : List Node) → AreSoFar next start steps before wave → AreParents nodes before parents
    → (y : Node) → Contains (flat_map next wave) y → (x : Node) × AreParents nodes (before ++ wave) (parents ++ x ∷ [])
parent next start nodes all steps before wave parents h ps y k =
    let from = from_flat next wave y k in
    (from.0, one_parent_more nodes before wave parents from.0 ps (λ l. h.apart from.0 l from.1) from.1 (all from.0 y (steps, h.last from.0 from.1) from.2))

-- a wave with a target has a parent, and the rest goes on; one without is the last
one_wave_more : (next : Node → List Node) (start : Node) (nodes : List Node) → HaveAllThatLeadOn next start nodes
    → (bound steps : ℕ) (before wave parents : List Node) → AreSoFar next start steps before wave → AreParents nodes before parents → length nodes ≤ length parents + suc bound
    → ((more : List Node) → AreParents nodes (before ++ wave) more → length nodes ≤ length more + bound
    → AreReached (HasTarget next) start (waves_by next bound (before ++ wave) (unseen (before ++ wave) (flat_map next wave))))
    → (ts : List Node) → flat_map next wave ≡ ts → AreReached (HasTarget next) start (waves_by next bound (before ++ wave) (unseen (before ++ wave) (flat_map next wave)))
one_wave_more next start nodes all bound steps before wave parents h ps few on [] e =
    subst (λ ts. AreReached (HasTarget next) start (waves_by next bound (before ++ wave) (unseen (before ++ wave) ts))) (sym e)
    (subst (AreReached (HasTarget next) start) (sym (waves_ended next bound (before ++ wave))) (last_wave next start steps before wave h e))
one_wave_more next start nodes all bound steps before wave parents h ps few on (y ∷ ys) e =
    let more = parent next start nodes all steps before wave parents h ps y (subst (λ ts. Contains ts y) (sym e) (first_in y ys)) in
    on (parents ++ more.0 ∷ []) more.1 (omega (arith, few, length-append parents (more.0 ∷ [])))

goes_on : (next : Node → List Node) (start : Node) (nodes : List Node) → HaveAllThatLeadOn next start nodes
    → (bound steps : ℕ) (before wave parents : List Node) → AreSoFar next start steps before wave → AreParents nodes before parents → length nodes ≤ length parents + bound
    → AreReached (HasTarget next) start (waves_by next bound before wave)
goes_on next start nodes all zero steps before wave parents h ps few = by_targets (flat_map next wave) refl
  where
    by_targets : (ts : List Node) → flat_map next wave ≡ ts → AreReached (HasTarget next) start (before ++ wave)
    by_targets [] e = last_wave next start steps before wave h e
    by_targets (y ∷ ys) e =
        let more = parent next start nodes all steps before wave parents h ps y (subst (λ ts. Contains ts y) (sym e) (first_in y ys)) in
        let most : length (parents ++ more.0 ∷ []) ≤ length nodes = few_parents nodes (before ++ wave) (parents ++ more.0 ∷ []) more.1 in
        absurd (omega (arith, most, few, length-append parents (more.0 ∷ [])))
goes_on next start nodes all (suc bound) steps before [] parents h ps few = ended next start steps before h
goes_on next start nodes all (suc bound) steps before (x ∷ xs) parents h ps few =
    one_wave_more next start nodes all bound steps before (x ∷ xs) parents h ps few
    (λ more qs fewer. goes_on next start nodes all bound (suc steps) (before ++ x ∷ xs) (unseen (before ++ x ∷ xs) (flat_map next (x ∷ xs))) more (further next start steps before (x ∷ xs) h) qs fewer)
    (flat_map next (x ∷ xs)) refl

no_parents : (nodes : List Node) → AreParents nodes [] []
no_parents nodes = record { distinct = none_distinct same_node; seen = λ x k. k; within = λ x k. absurd (none_in x k) }

pub waves_reach : WavesReach
waves_reach next start nodes bound all few = goes_on next start nodes all bound zero [] (start ∷ []) [] (begun next start) (no_parents nodes) (omega (arith, few))
