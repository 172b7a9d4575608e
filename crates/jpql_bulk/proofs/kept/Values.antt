-- What a well-typed value gives is of its sort: by induction over its tree (chapters 4.6 and 4.7).
use Rattle.std.proofs.Common.{rules, ◌≡◌, ◌∙◌, refl, ap, sym, subst, ℕ, ℤ, Bool, true, false, List, [], ◌∷◌, map}
use Rattle.std.specs.Prelude.{pos, if◌then◌else◌, Option, Some, None, slice_index_or}
use Rattle.std.specs.List.{list_all, list_any}
use Rattle.std.proofs.lemmas.Bool.{and_from, and_parts, false≢true}
use Rattle.std.proofs.lemmas.Simd.{map-map}
use Rattle.jpa_value.specs.declared.value.Value.TheVariants as plain
use Rattle.jpa_value.specs.declared.value.Identity.{Identity}
use Rattle.jpa_model.specs.Chains.{same_name}
use Rattle.jpa_model.specs.declared.unit.PersistenceUnit.{PersistenceUnit}
use Rattle.jpa_rows.proofs.laws.Facts.{some_none, value_in}
use Rattle.jpa_stored.specs.objects.Sets.{StoredSet, each_fits}
use Rattle.jpql_trees.specs.declared.tree.Function.{Function}
use Rattle.jpql_trees.specs.declared.tree.Sign.{Sign}
use Rattle.jpql_trees.specs.declared.tree.Arithmetic.{Arithmetic}
use Rattle.jpql_trees.specs.declared.tree.Aggregate.{Aggregate}
use Rattle.jpql_trees.specs.declared.tree.Value.{Value, Value-F, fold-Value}
use Rattle.jpql_trees.specs.declared.tree.Value.TheViews.{roll-Value}
use Rattle.jpql_trees.specs.declared.tree.Value.TheOpen as part
use Rattle.jpql_trees.specs.declared.tree.Value.TheVariants as written
use Rattle.jpql_trees.specs.declared.tree.Value.TheFolds as tree
use Rattle.jpql_trees.specs.tree.Names.{Text}
use Rattle.jpql_trees.specs.tree.Steps.{◌>>=◌}
use Rattle.jpql_trees.specs.declared.typed.path.TypedPath.{TypedPath}
use Rattle.jpql_types.specs.declared.sort.Sort.{Sort}
use Rattle.jpql_trees.specs.declared.typed.typed.TypedValue.{TypedValue, fold-TypedValue}
use Rattle.jpql_trees.specs.declared.typed.typed.TypedValue.TheVariants as v
use Rattle.jpql_trees.specs.declared.typed.typed.TypedValue.TheFolds as typed
use Rattle.jpql_types.specs.Scope.{Scope, when}
use Rattle.jpql_types.specs.Sorts as sorts
use Rattle.jpql_types.specs.Names.{parameters_step, joined_lists}
use Rattle.jpql_types.specs.Typing.{all_some, parameter_sort, sort_step, value_sort, allows_aggregates, collection as typing_collection, with_variable}
use Rattle.jpql_types.specs.Statements.{is_parameter}
use Rattle.jpql_types.specs.Trees.{value_step, typed_value, typed_path, place_of_parameter}
use Rattle.jpql_meaning.specs.declared.eval.datum.Datum.{Datum}
use Rattle.jpql_meaning.specs.eval.Answers.{Answer, gives, overflows, every, both}
use Rattle.jpql_meaning.specs.eval.Data.{null}
use Rattle.jpql_meaning.specs.eval.Numbers.{number, signed, arithmetic}
use Rattle.jpql_meaning.specs.eval.Calls.{applied}
use Rattle.jpql_meaning.specs.eval.Aggregates.{counted, aggregated}
use Rattle.jpql_meaning.specs.plan.Paths.{Entry, path_datum, collection}
use Rattle.jpql_meaning.specs.plan.Meaning as meaning
use Rattle.jpql_meaning.specs.plan.Meaning.{Case, alone, value, call, aggregate, size}
use Rattle.jpql_bulk.specs.kept.Fits.{is_of_sort, is_of, are_of}
use Rattle.jpql_bulk.proofs.kept.Items.{all_parts}
use Rattle.jpql_bulk.proofs.kept.Sorts.{null_of}
use Rattle.jpql_bulk.proofs.kept.Calls.{gives_of, given_of, given_in, then_computed, then_of, then_given, signed_of, arithmetic_of, call_of}
use Rattle.jpql_bulk.proofs.kept.Given.{parameter_of}
use Rattle.jpql_bulk.proofs.kept.Standing.{IsBase, IsStanding, path_gives}

-- the names of the parameters in a value, and whether one is given
abbrev pub names_of : Value → List Text
names_of = fold-Value (List Text) parameters_step

abbrev pub is_given : List (Text × Sort) → Text → Bool
is_given ps name = list_any (λ (p : Text × Sort). same_name p.0 name) ps

module _ {m : PersistenceUnit} {s : StoredSet} (base : IsBase m s) (ps : List (Text × Sort)) (ds : List Datum) (fit : are_of m ps ds ≡ true)
    (class : ℕ) (x : Text) (e : Entry) (stands : IsStanding m s class e) where
  abbrev scope : Scope
  scope = with_variable [] x class

  abbrev at : Case
  at = alone (Some e ∷ [])

  abbrev pub datum_of : Value → Answer Datum
  datum_of a = value m s ds (typed_value m ps scope a) at

  -- where it is well typed and its parameters are given
  abbrev pub IsTyped : Value → Type 0
  IsTyped a = (clause : _) (r : Sort) → value_sort m ps [] scope clause a ≡ Some r → list_all (is_given ps) (names_of a) ≡ true → gives_of r (datum_of a) ≡ true

  -- ---- case by case

  same_sort : (t r : Sort) (a : Answer Datum) → Some t ≡ Some r → gives_of t a ≡ true → gives_of r a ≡ true
  same_sort t r a is h = subst (λ u. gives_of u a ≡ true) (value_in t r is) h

  arithmetic_is : (ss : List Sort) (r : Sort) → sorts.arithmetic_sort ss ≡ Some r → sorts.integer ≡ r
  arithmetic_is ss r = by_test (list_all (sorts.goes_with sorts.integer) ss)
    where
      by_test : (b : Bool) → when b sorts.integer ≡ Some r → sorts.integer ≡ r
      by_test true is = value_in sorts.integer r is
      by_test false is = absurd (some_none r (sym is))

  -- the equations of each layer, as it is written, typed and meant
  sort_layer : (w : Value-F Value) → fold-Value _ (sort_step m ps [] scope) (roll-Value w)
      ≡ sort_step m ps [] scope (tree.map-Value Value _ (fold-Value _ (sort_step m ps [] scope)) w)
  sort_layer w = tree.fold-roll-Value _ (sort_step m ps [] scope) w

  name_layer : (w : Value-F Value) → names_of (roll-Value w) ≡ parameters_step (tree.map-Value Value (List Text) names_of w)
  name_layer w = tree.fold-roll-Value (List Text) parameters_step w

  tree_layer : (w : Value-F Value) → typed_value m ps scope (roll-Value w) ≡ value_step m ps scope (tree.map-Value Value TypedValue (typed_value m ps scope) w)
  tree_layer w = tree.fold-roll-Value TypedValue (value_step m ps scope) w

  -- what holds of the layer holds of the value
  from_layer : (w : Value-F Value) (t : TypedValue) (a : Answer Datum)
      → value_step m ps scope (tree.map-Value Value TypedValue (typed_value m ps scope) w) ≡ t → value m s ds t at ≡ a
      → ((clause : _) (r : Sort) → sort_step m ps [] scope (tree.map-Value Value _ (fold-Value _ (sort_step m ps [] scope)) w) clause ≡ Some r
      → list_all (is_given ps) (parameters_step (tree.map-Value Value (List Text) names_of w)) ≡ true → gives_of r a ≡ true)
      → IsTyped (roll-Value w)
  from_layer w t a of means h clause r is given =
      subst (λ z. gives_of r z ≡ true) (sym (ap (λ u. value m s ds u at) (tree_layer w ∙ of) ∙ means))
      (h clause r (sym (ap (λ f. f clause) (sort_layer w)) ∙ is) (ap (list_all (is_given ps)) (sym (name_layer w)) ∙ given))

  -- ---- layer by layer

  means_integer : (n : ℤ) → value m s ds (v.Integer n) at ≡ gives (number n)
  means_integer n = search (rules, typed.the_lemmas)

  means_text : (t : Text) → value m s ds (v.Text t) at ≡ gives (Datum.Plain (plain.Text t))
  means_text t = search (rules, typed.the_lemmas)

  means_parameter : (place : ℕ) → value m s ds (v.Parameter place) at ≡ gives (slice_index_or ds place null)
  means_parameter place = search (rules, typed.the_lemmas)

  means_path : (p : TypedPath) → value m s ds (v.Path p) at ≡ gives (path_datum m s (Some e ∷ []) p)
  means_path p = search (rules, typed.the_lemmas)

  means_size : (p : TypedPath) → value m s ds (v.Size p) at ≡ gives (size (collection m s (Some e ∷ []) p))
  means_size p = search (rules, typed.the_lemmas)

  means_signed : (sign : Sign) (u : TypedValue) → value m s ds (v.Signed sign u) at ≡ then_computed (value m s ds u at) (signed sign)
  means_signed sign u = search (rules, typed.the_lemmas)

  means_arithmetic : (op : Arithmetic) (u w : TypedValue)
      → value m s ds (v.Arithmetic op u w) at ≡ then_computed (value m s ds u at) (λ a. then_computed (value m s ds w at) (λ b. arithmetic op a b))
  means_arithmetic op u w = search (rules, typed.the_lemmas)

  call_parts : (f : Function) (us : List TypedValue) → value m s ds (v.Call f us) at ≡ call f (map (λ a. a at) (map (fold-TypedValue (Case → Answer Datum) (meaning.value_step m s ds)) us))
  call_parts f us = search (rules, typed.the_lemmas)

  means_call : (f : Function) (us : List TypedValue) → value m s ds (v.Call f us) at ≡ call f (map (λ u. value m s ds u at) us)
  means_call f us = call_parts f us ∙ ap (call f) (map-map (λ (a : Case → Answer Datum). a at) (fold-TypedValue (Case → Answer Datum) (meaning.value_step m s ds)) us)

  -- an aggregate is over a group, and no group is here
  means_aggregate : (g : Aggregate) (distinct : Bool) (u : TypedValue) → value m s ds (v.Aggregate g distinct u) at ≡ aggregate g distinct []
  means_aggregate g distinct u = search (rules, typed.the_lemmas)

  none_counted : (distinct : Bool) → counted distinct [] ≡ []
  none_counted true = refl
  none_counted false = refl

  none_of : (g : Aggregate) (t r : Sort) → sorts.aggregate_sort g t ≡ Some r → gives_of r (aggregated g []) ≡ true
  none_of Aggregate.Count t r is = same_sort sorts.integer r (gives (number (pos 0))) is refl
  none_of Aggregate.Sum t r is = null_of r
  none_of Aggregate.Min t r is = null_of r
  none_of Aggregate.Max t r is = null_of r

  of_none : (g : Aggregate) (distinct : Bool) (r : Sort) (b : Bool) (o : Option Sort) → (if b then (o >>= λ t. sorts.aggregate_sort g t) else None) ≡ Some r
      → gives_of r (aggregate g distinct []) ≡ true
  of_none g distinct r false o is = absurd (some_none r (sym is))
  of_none g distinct r true None is = absurd (some_none r (sym is))
  of_none g distinct r true (Some t) is = subst (λ ys. gives_of r (aggregated g ys) ≡ true) (sym (none_counted distinct)) (none_of g t r is)

  size_of : (o : Option (List Identity)) → is_of_sort sorts.integer (size o) ≡ true
  size_of None = refl
  size_of (Some ids) = refl

  arithmetic_after : (o : Option (List Sort)) (r : Sort) → (o >>= λ ss. sorts.arithmetic_sort ss) ≡ Some r → sorts.integer ≡ r
  arithmetic_after None r is = absurd (some_none r (sym is))
  arithmetic_after (Some ss) r is = arithmetic_is ss r is

  size_after : (o : Option ℕ) (r : Sort) → (o >>= λ c. Some sorts.integer) ≡ Some r → sorts.integer ≡ r
  size_after None r is = absurd (some_none r (sym is))
  size_after (Some c) r is = value_in sorts.integer r is

  call_after : (o : Option (List Sort)) (f : Function) (r : Sort) → (o >>= λ ss. sorts.call_sort f ss) ≡ Some r → (ss : List Sort) × (o ≡ Some ss) × (sorts.call_sort f ss ≡ Some r)
  call_after None f r is = absurd (some_none r (sym is))
  call_after (Some ss) f r is = (ss, refl, is)

  -- the operands of a function
  abbrev Operands : Type 0
  Operands = List ((a : Value) × IsTyped a)

  abbrev sorts_in : (Value → Option Sort) → Operands → List (Option Sort)
  sorts_in sort all = map sort (map (λ z. z.0) all)

  abbrev names_in : Operands → List Text
  names_in all = joined_lists (map names_of (map (λ z. z.0) all))

  abbrev data_in : Operands → Answer (List Datum)
  data_in all = every (map (λ u. value m s ds u at) (map (typed_value m ps scope) (map (λ z. z.0) all)))

  first_operand : (a : Value) (t : Sort) → gives_of t (datum_of a) ≡ true
      → (all : Operands) (ts : List Sort) → ((found : List Datum) → data_in all ≡ gives found → each_fits is_of_sort ts found ≡ true)
      → (x : Answer Datum) (rest : Answer (List Datum)) → datum_of a ≡ x → data_in all ≡ rest → (found : List Datum) → both (λ d more. d ∷ more) x rest ≡ gives found
      → each_fits is_of_sort (t ∷ ts) found ≡ true
  first_operand a t typed_a all ts later overflows rest xe re found fe = absurd cc
  first_operand a t typed_a all ts later (gives d) overflows xe re found fe = absurd cc
  first_operand a t typed_a all ts later (gives d) (gives more) xe re found fe =
      let same : d ∷ more ≡ found = cc in
      subst (λ all_found. each_fits is_of_sort (t ∷ ts) all_found ≡ true) same
      (and_from (is_of_sort t d) (each_fits is_of_sort ts more) (given_of t (datum_of a) d typed_a xe) (later more re))

  module _ (sort : Value → Option Sort) (typed_by : (a : Value) → IsTyped a → (t : Sort) → sort a ≡ Some t → list_all (is_given ps) (names_of a) ≡ true → gives_of t (datum_of a) ≡ true) where
    operands_fit : (all : Operands) (ss : List Sort) → all_some (sorts_in sort all) ≡ Some ss → list_all (is_given ps) (names_in all) ≡ true
        → (found : List Datum) → data_in all ≡ gives found → each_fits is_of_sort ss found ≡ true
    operands_fit [] ss is given found fe =
        let no_sorts : [] ≡ ss = value_in [] ss is in
        let none : [] ≡ found = cc in
        subst (λ ts. each_fits is_of_sort ts found ≡ true) no_sorts (subst (λ ys. each_fits is_of_sort [] ys ≡ true) none refl)
    operands_fit (z ∷ all) ss is given found fe =
        let parts = all_parts (is_given ps) (names_of z.0) (names_in all) given in
        by_sort (sort z.0) refl is parts.0 (λ ts h ys k. operands_fit all ts h parts.1 ys k)
      where
        by_rest : (t : Sort) → sort z.0 ≡ Some t → (o : Option (List Sort)) → all_some (sorts_in sort all) ≡ o → (o >>= λ more. Some (t ∷ more)) ≡ Some ss
            → list_all (is_given ps) (names_of z.0) ≡ true → ((ts : List Sort) → all_some (sorts_in sort all) ≡ Some ts → (ys : List Datum) → data_in all ≡ gives ys → each_fits is_of_sort ts ys ≡ true)
            → each_fits is_of_sort ss found ≡ true
        by_rest t te None oe h g later = absurd (some_none ss (sym h))
        by_rest t te (Some ts) oe h g later =
            subst (λ us. each_fits is_of_sort us found ≡ true) (value_in (t ∷ ts) ss h)
            (first_operand z.0 t (typed_by z.0 z.1 t te g) all ts (later ts oe) (datum_of z.0) (data_in all) refl refl found fe)

        by_sort : (o : Option Sort) → sort z.0 ≡ o → all_some (o ∷ sorts_in sort all) ≡ Some ss
            → list_all (is_given ps) (names_of z.0) ≡ true → ((ts : List Sort) → all_some (sorts_in sort all) ≡ Some ts → (ys : List Datum) → data_in all ≡ gives ys → each_fits is_of_sort ts ys ≡ true)
            → each_fits is_of_sort ss found ≡ true
        by_sort None te h g later = absurd (some_none ss (sym h))
        by_sort (Some t) te h g later = by_rest t te (all_some (sorts_in sort all)) refl h g later

  call_gives : (clause : _) (f : Function) (all : Operands) (r : Sort)
      → (all_some (sorts_in (λ a. value_sort m ps [] scope clause a) all) >>= λ ss. sorts.call_sort f ss) ≡ Some r → list_all (is_given ps) (names_in all) ≡ true
      → gives_of r (then_computed (data_in all) (applied f)) ≡ true
  call_gives clause f all r is given =
      let sort = λ (a : Value). value_sort m ps [] scope clause a in
      let after = call_after (all_some (sorts_in sort all)) f r is in
      then_given r (data_in all) (applied f)
      (λ found fe. call_of f after.0 found r after.2 (operands_fit sort (λ a typed_a t te g. typed_a clause t te g) all after.0 after.1 given found fe))

  layer : (y : Value-F ((a : Value) × IsTyped a)) → IsTyped (roll-Value (tree.map-Value ((a : Value) × IsTyped a) Value (λ z. z.0) y))
  layer (part.Integer n) = from_layer (part.Integer n) (v.Integer n) (gives (number n)) refl (means_integer n) (λ clause r is given. same_sort sorts.integer r (gives (number n)) is refl)
  layer (part.Text t) = from_layer (part.Text t) (v.Text t) (gives (Datum.Plain (plain.Text t))) refl (means_text t) (λ clause r is given. same_sort sorts.text r (gives (Datum.Plain (plain.Text t))) is refl)
  layer (part.Parameter name) =
      let place = place_of_parameter ps name in
      from_layer (part.Parameter name) (v.Parameter place) (gives (slice_index_or ds place null)) refl (means_parameter place)
      (λ clause r is given. same_sort (parameter_sort ps name) r (gives (slice_index_or ds place null)) is
      (and_parts (is_of_sort (parameter_sort ps name) (slice_index_or ds place null)) _ (parameter_of m ps ds name fit (and_parts (is_given ps name) true given).0)).0)
  layer (part.Path p) =
      from_layer (part.Path p) (v.Path (typed_path m ps scope p)) (gives (path_datum m s (Some e ∷ []) (typed_path m ps scope p))) refl (means_path (typed_path m ps scope p))
      (λ clause r is given. path_gives base class x ps p r e stands clause is)
  layer (part.Signed sign a) =
      let u = typed_value m ps scope a.0 in
      from_layer (part.Signed sign a.0) (v.Signed sign u) (then_computed (value m s ds u at) (signed sign)) refl (means_signed sign u)
      (λ clause r is given. subst (λ t. gives_of t (then_computed (value m s ds u at) (signed sign)) ≡ true) (arithmetic_after (all_some (value_sort m ps [] scope clause a.0 ∷ [])) r is)
      (then_of sorts.integer (value m s ds u at) (signed sign) (signed_of sign)))
  layer (part.Arithmetic op a b) =
      let u = typed_value m ps scope a.0 in
      let w = typed_value m ps scope b.0 in
      let go = λ (p : Datum). then_computed (value m s ds w at) (λ q. arithmetic op p q) in
      from_layer (part.Arithmetic op a.0 b.0) (v.Arithmetic op u w) (then_computed (value m s ds u at) go) refl (means_arithmetic op u w)
      (λ clause r is given. subst (λ t. gives_of t (then_computed (value m s ds u at) go) ≡ true) (arithmetic_after (all_some (value_sort m ps [] scope clause a.0 ∷ value_sort m ps [] scope clause b.0 ∷ [])) r is)
      (then_of sorts.integer (value m s ds u at) go (λ p. then_of sorts.integer (value m s ds w at) (λ q. arithmetic op p q) (λ q. arithmetic_of op p q))))
  layer (part.Call f all) =
      let us = map (typed_value m ps scope) (map (λ z. z.0) all) in
      from_layer (part.Call f (map (λ z. z.0) all)) (v.Call f us) (then_computed (data_in all) (applied f)) refl (means_call f us) (λ clause r is given. call_gives clause f all r
      (ap (λ l. all_some l >>= λ ss. sorts.call_sort f ss) (sym (map-map (λ k. k clause) (fold-Value _ (sort_step m ps [] scope)) (map (λ z. z.0) all))) ∙ is) given)
  layer (part.Size p) =
      let q = typed_path m ps scope p in
      from_layer (part.Size p) (v.Size q) (gives (size (collection m s (Some e ∷ []) q))) refl (means_size q)
      (λ clause r is given. subst (λ t. gives_of t (gives (size (collection m s (Some e ∷ []) q))) ≡ true) (size_after (typing_collection m [] scope clause p) r is) (size_of (collection m s (Some e ∷ []) q)))
  layer (part.Aggregate g distinct a) =
      let u = typed_value m ps scope a.0 in
      from_layer (part.Aggregate g distinct a.0) (v.Aggregate g distinct u) (aggregate g distinct []) refl (means_aggregate g distinct u) (λ clause r is given. of_none g distinct r (allows_aggregates clause) _ is)

  pub value_typed : (a : Value) → IsTyped a
  value_typed = tree.ind-Value IsTyped (λ w y is. subst (λ z. IsTyped (roll-Value z)) is (layer y))

  -- ---- parameters

  pub parameter_typed : (a : Value) → is_parameter a ≡ true → (clause : _) (r : Sort) → value_sort m ps [] scope clause a ≡ Some r → list_all (is_given ps) (names_of a) ≡ true → (d : Datum) → datum_of a ≡ gives d → is_of m r d ≡ true
  parameter_typed (written.Parameter name) h clause r is given d fe =
      let place = place_of_parameter ps name in
      let sort_is : parameter_sort ps name ≡ r = value_in (parameter_sort ps name) r (sym (own_sort clause name) ∙ is) in
      let datum_is : slice_index_or ds place null ≡ d = given_in (slice_index_or ds place null) d (sym (own_datum name) ∙ fe) in
      subst (λ t. is_of m t d ≡ true) sort_is
      (subst (λ y. is_of m (parameter_sort ps name) y ≡ true) datum_is
      (parameter_of m ps ds name fit (and_parts (is_given ps name) true (ap (list_all (is_given ps)) (sym (own_name name)) ∙ given)).0))
    where
      own_sort : (k : _) (n : Text) → value_sort m ps [] scope k (written.Parameter n) ≡ Some (parameter_sort ps n)
      own_sort k n = search (rules, tree.the_lemmas)

      own_name : (n : Text) → names_of (written.Parameter n) ≡ n ∷ []
      own_name n = search (rules, tree.the_lemmas)

      own_datum : (n : Text) → datum_of (written.Parameter n) ≡ gives (slice_index_or ds (place_of_parameter ps n) null)
      own_datum n = search (rules, tree.the_lemmas, typed.the_lemmas)
  parameter_typed _ h clause r is given d fe = absurd (false≢true h)
