-- Groups whose keys rise: each stands in one place, and none is looked for.
use Rattle.std.proofs.Common.{arith, ◌≡◌, ◌∙◌, ap, sym, refl, subst, ℕ, suc, ◌+◌, true, false, cond, List, [], ◌∷◌, ◌++◌, map, take, drop, Option, Some, None, option_map, append_assoc, append-nil}
use Rattle.std.specs.Prelude.{All}
use Rattle.std.specs.Ordering.{is_eq, is_lt}
use Rattle.std.specs.declared.cmp.Ordering.{Ordering}
use Rattle.std.specs.declared.cmp.Ordering.TheVariants.{Less}
use Rattle.std.proofs.lemmas.Bool.{false≢true}
use Rattle.std.proofs.lemmas.List.{take-append-drop, drop-drop, map_push}
use Rattle.std.proofs.lemmas.List.Elements.{All-head, All-tail}
use Rattle.jpql_meaning.specs.declared.eval.datum.Datum.{Datum}
use Rattle.jpql_meaning.specs.eval.Data.{same_data}
use Rattle.jpql_meaning.specs.plan.Paths.{Tuple}
use Rattle.jpql_meaning.specs.plan.Selection.{case_of, put_tuple, put_tuples}
use Rattle.jpql_select.specs.declared.select.case.Case.{Case}
use Rattle.jpql_select.specs.select.Cases.{case_in}
use Rattle.jpql_select.specs.select.Keys.{data_cmp, data_total}
use Rattle.jpql_select.specs.select.Groups.{place_of, all_some, AreBefore, is_risen}
use Rattle.jpql_select.proofs.select.Keys.{same_by_cmp}
use Rattle.jpql_select.proofs.select.Placed.{put_new, same_place, none_by}

less_of : (o : Ordering) → is_lt o ≡ true → o ≡ Less
less_of Ordering.Less h = refl
less_of Ordering.Equal h = absurd (false≢true h)
less_of Ordering.Greater h = absurd (false≢true h)

less_apart : (k q : List Datum) → data_cmp k q ≡ Less → same_data k q ≡ false
less_apart k q h = sym (same_by_cmp k q) ∙ ap is_eq h

take_first : {A : Type 0} (n : ℕ) (x : A) (xs : List A) → take (1 + n) (x ∷ xs) ≡ x ∷ take n xs
take_first n x xs = let e : 1 + n ≡ suc n = omega (arith) in ap (λ m. take m (x ∷ xs)) e

drop_first : {A : Type 0} (n : ℕ) (x : A) (xs : List A) → drop (1 + n) (x ∷ xs) ≡ drop n xs
drop_first n x xs = let e : 1 + n ≡ suc n = omega (arith) in ap (λ m. drop m (x ∷ xs)) e

-- the groups of cases
abbrev pub groups_of : List Case → List (List Tuple)
groups_of = map (λ (c : Case). c.group.now)

module _ (key : Tuple → List Datum) where
  -- ---- a group put behind others

  apart_of : (t u : Tuple) (gs : List (List Tuple)) → place_of key (key t) gs ≡ None → same_data (key t) (key u) ≡ true → place_of key (key u) gs ≡ None
  apart_of t u gs none alike = sym (same_place key (key t) (key u) gs alike) ∙ none

  put_last : (t u : Tuple) (us : List Tuple) (gs : List (List Tuple)) → all_some gs ≡ true → place_of key (key u) gs ≡ None → same_data (key t) (key u) ≡ true
      → put_tuple key u (gs ++ (t ∷ us) ∷ []) ≡ gs ++ (t ∷ us ++ u ∷ []) ∷ []
  put_last t u us [] s none alike = ap (λ b. cond b ((t ∷ us ++ u ∷ []) ∷ []) ((t ∷ us) ∷ put_tuple key u [])) alike
  put_last t u us ([] ∷ gs) s none alike = absurd (false≢true s)
  put_last t u us ((one ∷ more) ∷ gs) s none alike =
      let by = none_by key (same_data (key one) (key u)) (place_of key (key u) gs) none in
      ap (λ b. cond b ((one ∷ more ++ u ∷ []) ∷ (gs ++ (t ∷ us) ∷ [])) ((one ∷ more) ∷ put_tuple key u (gs ++ (t ∷ us) ∷ []))) by.0
      ∙ ap (λ hs. (one ∷ more) ∷ hs) (put_last t u us gs s by.1 alike)

  put_more : (t : Tuple) (us ts rest : List Tuple) (gs : List (List Tuple)) → all_some gs ≡ true → place_of key (key t) gs ≡ None
      → All (λ u. same_data (key t) (key u) ≡ true) ts → put_tuples key (gs ++ (t ∷ us) ∷ []) (ts ++ rest) ≡ put_tuples key (gs ++ (t ∷ us ++ ts) ∷ []) rest
  put_more t us [] rest gs s none alike = ap (λ vs. put_tuples key (gs ++ (t ∷ vs) ∷ []) rest) (sym (append-nil us))
  put_more t us (u ∷ ts) rest gs s none alike =
      let here : same_data (key t) (key u) ≡ true = All-head (λ u. same_data (key t) (key u) ≡ true) u ts alike in
      ap (λ hs. put_tuples key hs (ts ++ rest)) (put_last t u us gs s (apart_of t u gs none here) here)
      ∙ put_more t (us ++ u ∷ []) ts rest gs s none (All-tail (λ u. same_data (key t) (key u) ≡ true) u ts alike)
      ∙ ap (λ vs. put_tuples key (gs ++ (t ∷ vs) ∷ []) rest) (append_assoc us (u ∷ []) ts)

  put_run : (t : Tuple) (ts rest : List Tuple) (gs : List (List Tuple)) → all_some gs ≡ true → place_of key (key t) gs ≡ None
      → All (λ u. same_data (key t) (key u) ≡ true) ts → put_tuples key gs (t ∷ ts ++ rest) ≡ put_tuples key (gs ++ (t ∷ ts) ∷ []) rest
  put_run t ts rest gs s none alike = ap (λ hs. put_tuples key hs (ts ++ rest)) (put_new key t gs s none) ∙ put_more t [] ts rest gs s none alike

  -- ---- keys that rise

  pub none_before : (k : List Datum) (gs : List (List Tuple)) → AreBefore key k gs → place_of key k gs ≡ None
  none_before k [] h = refl
  none_before k ([] ∷ gs) h = ap (option_map suc) (none_before k gs h)
  none_before k ((one ∷ more) ∷ gs) h =
      ap (λ b. cond b (Some 0) (option_map suc (place_of key k gs))) (less_apart (key one) k h.0) ∙ ap (option_map suc) (none_before k gs h.1)

  before_more : (k q : List Datum) (gs : List (List Tuple)) → data_cmp k q ≡ Less → AreBefore key k gs → AreBefore key q gs
  before_more k q [] l h = h
  before_more k q ([] ∷ gs) l h = before_more k q gs l h
  before_more k q ((one ∷ more) ∷ gs) l h = (data_total.trans (key one) k q h.0 l, before_more k q gs l h.1)

  before_last : (t : Tuple) (ts : List Tuple) (q : List Datum) (gs : List (List Tuple)) → data_cmp (key t) q ≡ Less → AreBefore key q gs → AreBefore key q (gs ++ (t ∷ ts) ∷ [])
  before_last t ts q [] l h = (l, h)
  before_last t ts q ([] ∷ gs) l h = before_last t ts q gs l h
  before_last t ts q ((one ∷ more) ∷ gs) l h = (h.0, before_last t ts q gs l h.1)

  some_with : (gs : List (List Tuple)) (t : Tuple) (ts : List Tuple) → all_some gs ≡ true → all_some (gs ++ (t ∷ ts) ∷ []) ≡ true
  some_with [] t ts s = refl
  some_with ([] ∷ gs) t ts s = absurd (false≢true s)
  some_with ((one ∷ more) ∷ gs) t ts s = some_with gs t ts s

  -- The groups of those before, to which those that are left are put, all with tuples and before a key that rises further.
  pub record AreRisen (whole : List (List Tuple)) (gs : List (List Tuple)) (before : Option (List Datum)) (rest : List Tuple) : Type 0 where
    pub groups : whole ≡ put_tuples key gs rest
    pub some : all_some gs ≡ true
    pub below : (q : List Datum) → is_risen before q ≡ true → AreBefore key q gs

  -- one group more
  pub one_risen : (whole gs : List (List Tuple)) (before : Option (List Datum)) (rest others : List Tuple) (t : Tuple) (n : ℕ) → rest ≡ t ∷ others
      → All (λ u. same_data (key t) (key u) ≡ true) (take n others) → is_risen before (key t) ≡ true → AreRisen whole gs before rest
      → AreRisen whole (gs ++ (t ∷ take n others) ∷ []) (Some (key t)) (drop n others)
  one_risen whole gs before rest others t n at alike risen h =
      let here : AreBefore key (key t) gs = h.below (key t) risen in
      record {
        groups =
            h.groups ∙ ap (put_tuples key gs) (at ∙ ap (λ us. t ∷ us) (sym (take-append-drop n others)))
            ∙ put_run t (take n others) (drop n others) gs h.some (none_before (key t) gs here) alike;
        some = some_with gs t (take n others) h.some;
        below = λ q l. before_last t (take n others) q gs (less_of (data_cmp (key t) q) l) (before_more (key t) q gs (less_of (data_cmp (key t) q) l) here);
      }

  pub none_risen : (ts : List Tuple) → AreRisen (put_tuples key [] ts) [] None ts
  none_risen ts = record { groups = refl; some = refl; below = λ q l. tt }

  -- the same of cases where they stand
  pub case_risen : (whole : List (List Tuple)) (cases more : List Case) (before : Option (List Datum)) (all rest others : List Tuple) (t : Tuple) (n place next : ℕ)
      (k : List Datum) (c : Case) → rest ≡ drop place all → rest ≡ t ∷ others → k ≡ key t → All (λ u. same_data (key t) (key u) ≡ true) (take n others) → is_risen before k ≡ true
      → c.group.now ≡ take (1 + n) rest → next ≡ place + (1 + n) → more ≡ cases ++ c ∷ []
      → AreRisen whole (groups_of cases) before (drop place all) → AreRisen whole (groups_of more) (Some k) (drop next all)
  case_risen whole cases more before all rest others t n place next k c from at keyed alike risen group there pushed h =
      let one : AreRisen whole (groups_of cases ++ (t ∷ take n others) ∷ []) (Some (key t)) (drop n others) =
      one_risen whole (groups_of cases) before rest others t n at alike
      (sym (ap (is_risen before) keyed) ∙ risen) (subst (λ us. AreRisen whole (groups_of cases) before us) (sym from) h) in
      let shown : groups_of more ≡ groups_of cases ++ (t ∷ take n others) ∷ [] =
      ap groups_of pushed ∙ map_push (λ (r : Case). r.group.now) cases c ∙ ap (λ x. groups_of cases ++ x ∷ []) (group ∙ ap (take (1 + n)) at ∙ take_first n t others) in
      let behind : drop next all ≡ drop n others =
      ap (λ i. drop i all) there ∙ sym (drop-drop (1 + n) place all) ∙ ap (drop (1 + n)) (sym from ∙ at) ∙ drop_first n t others in
      subst (λ q. AreRisen whole (groups_of more) (Some q) (drop next all)) (sym keyed)
      (subst (λ gs. AreRisen whole gs (Some (key t)) (drop next all)) (sym shown)
      (subst (λ us. AreRisen whole (groups_of cases ++ (t ∷ take n others) ∷ []) (Some (key t)) us) (sym behind) one))

  -- a case is that of its group, if its tuple is the first
  pub case_shown : (cases more : List Case) (rest others : List Tuple) (t : Tuple) (n : ℕ) (c : Case) → rest ≡ t ∷ others → c.tuple.now ≡ t → c.group.now ≡ take (1 + n) rest
      → more ≡ cases ++ c ∷ [] → map case_in cases ≡ map case_of (groups_of cases) → map case_in more ≡ map case_of (groups_of more)
  case_shown cases more rest others t n c at first group pushed h =
      let grouped : c.group.now ≡ t ∷ take n others = group ∙ ap (take (1 + n)) at ∙ take_first n t others in
      let one : case_in c ≡ case_of c.group.now = (λ i. record { tuple = first i; group = grouped i }) ∙ sym (ap case_of grouped) in
      let left : map case_in more ≡ map case_in cases ++ case_in c ∷ [] = ap (map case_in) pushed ∙ map_push case_in cases c in
      let right : map case_of (groups_of more) ≡ map case_of (groups_of cases) ++ case_of c.group.now ∷ [] =
      ap (λ cs. map case_of (groups_of cs)) pushed ∙ ap (map case_of) (map_push (λ (r : Case). r.group.now) cases c) ∙ map_push case_of (groups_of cases) c.group.now in
      left ∙ (λ i. h i ++ one i ∷ []) ∙ sym right

  pub all_risen : (whole : List (List Tuple)) (gs : List (List Tuple)) (before : Option (List Datum)) (rest : List Tuple) → rest ≡ [] → AreRisen whole gs before rest → gs ≡ whole
  all_risen whole gs before rest none h = sym (h.groups ∙ ap (put_tuples key gs) none)
