-- What a well-typed assignment gives, its member takes (chapter 4.11).
use Rattle.std.proofs.Common.{◌≡◌, ◌∙◌, refl, ap, sym, subst, ℕ, Bool, true, false, List, [], ◌∷◌, map}
use Rattle.std.specs.Prelude.{◌&&◌, ◌||◌, if◌then◌else◌, Option, Some, None, is_some, option_map, slice_get, unwrap_or}
use Rattle.std.specs.List.{list_all, flat_map, position_from}
use Rattle.std.proofs.lemmas.Bool.{and_from, and_parts, false≢true}
use Rattle.jpa_value.specs.declared.value.Kind.{Kind}
use Rattle.jpa_value.specs.Value.{is_null}
use Rattle.jpa_model.specs.declared.unit.PersistenceUnit.{PersistenceUnit}
use Rattle.jpa_model.specs.declared.unit.Attribute.{Attribute}
use Rattle.jpa_model.specs.declared.unit.Relation.{Relation}
use Rattle.jpa_model.specs.declared.unit.Root.{Root}
use Rattle.jpa_model.specs.declared.unit.VersionColumn.{VersionColumn}
use Rattle.jpa_model.specs.declared.unit.Member.{Member}
use Rattle.jpa_model.specs.Chains.{root_of, root_class, attributes_of, relations_of, member_of, is_version_name, is_to_one, column_of, or_else, same_name, part_name}
use Rattle.jpa_model.specs.WellFormed.{is_some_that, if_some}
use Rattle.jpa_rows.proofs.laws.Facts.{some_none, value_in}
use Rattle.jpa_stored.specs.objects.Sets.{StoredSet, is_identity_of}
use Rattle.jpql_trees.specs.declared.tree.Value.{Value}
use Rattle.jpql_trees.specs.declared.tree.Assignment.{Assignment}
use Rattle.jpql_trees.specs.tree.Names.{Text}
use Rattle.jpql_trees.specs.tree.Steps.{◌>>=◌}
use Rattle.jpql_trees.specs.declared.typed.path.Step.{Step}
use Rattle.jpql_types.specs.declared.sort.Sort.{Sort}
use Rattle.jpql_types.specs.Scope.{Scope, when, same_variable, step_at, step_from, class_at}
use Rattle.jpql_types.specs.Sorts.{goes_with, step_sort}
use Rattle.jpql_types.specs.Typing.{with_variable}
use Rattle.jpql_types.specs.Statements.{is_settable, allows_value, is_value_of, is_set_typed, is_assignment_typed}
use Rattle.jpql_types.specs.Trees.{no_step, typed_value, typed_assignment}
use Rattle.jpql_meaning.specs.declared.eval.datum.Datum.{Datum}
use Rattle.jpql_meaning.specs.eval.Answers.{Answer, gives, overflows, under, both, every, if_any}
use Rattle.jpql_meaning.specs.eval.Data.{null}
use Rattle.jpql_meaning.specs.plan.Paths.{Entry}
use Rattle.jpql_meaning.specs.plan.Meaning.{value, alone}
use Rattle.jpql_meaning.specs.plan.Bulk.{assignment_datum}
use Rattle.jpql_bulk.specs.kept.Fits.{is_kind, is_of_sort, is_of, are_of, takes, takes_value, takes_link}
use Rattle.jpql_bulk.proofs.kept.Items.{all_parts}
use Rattle.jpql_bulk.proofs.kept.Sorts.{goes_of, goes_named}
use Rattle.jpql_bulk.proofs.kept.Calls.{given_of, given_in}
use Rattle.jpql_bulk.proofs.kept.Standing.{IsBase, IsStanding}
use Rattle.jpql_bulk.proofs.kept.Values as values

-- ---- a version that is named is there

named_version : (root : Root) (name : List ℕ) (o : Option VersionColumn) → is_version_name (record root { version = o }) name ≡ true → is_some o ≡ true
named_version root name None h = absurd (false≢true h)
named_version root name (Some c) h = refl

not_key : (i : ℕ) → Some (Member.KeyPart i) ≡ Some Member.Version → ⊥
not_key i e = absurd cc

not_attribute : (i : ℕ) → Some (Member.Attribute i) ≡ Some Member.Version → ⊥
not_attribute i e = absurd cc

not_relation : (r : ℕ) → Some (Member.Relation r) ≡ Some Member.Version → ⊥
not_relation r e = absurd cc

none_version : None ≡ Some Member.Version → ⊥
none_version e = some_none Member.Version (sym e)

version_there : (root : Root) (name : List ℕ) (b : Bool) (key at link : Option ℕ) → is_version_name root name ≡ b
    → or_else (option_map Member.KeyPart key) (or_else (if b then Some Member.Version else None) (or_else (option_map Member.Attribute at) (option_map Member.Relation link))) ≡ Some Member.Version
    → is_some root.version ≡ true
version_there root name b (Some i) at link is e = absurd (not_key i e)
version_there root name true None at link is e = named_version root name root.version is
version_there root name false None (Some i) link is e = absurd (not_attribute i e)
version_there root name false None None (Some r) is e = absurd (not_relation r e)
version_there root name false None None None is e = absurd (none_version e)

version_of : (m : PersistenceUnit) (class : ℕ) (name : List ℕ) → member_of m class name ≡ Some Member.Version → is_some (root_of m class).version ≡ true
version_of m class name e =
    version_there (root_of m class) name (is_version_name (root_of m class) name)
    (position_from (λ part. same_name (part_name (root_of m class) part) name) 0 (root_of m class).key)
    (position_from (λ (a : Attribute). same_name a.name name) 0 (attributes_of m class))
    (position_from (λ (r : Relation). same_name r.name name) 0 (relations_of m class)) refl e

-- ---- what an attribute and a relation take

or_right : (a b : Bool) → b ≡ true → (a || b) ≡ true
or_right true b h = refl
or_right false b h = h

basic_known : (k : Kind) → Sort.Basic k ≡ Sort.Null → ⊥
basic_known k e = absurd cc

kind_taken : (m : PersistenceUnit) (class i : ℕ) (o : Option Attribute) (t : Sort) (d : Datum) → slice_get (attributes_of m class) i ≡ o
    → is_some_that (λ s. goes_with s t) (option_map (λ (a : Attribute). Sort.Basic a.kind) o) ≡ true → is_of_sort t d ≡ true → takes_value m class i d ≡ true
kind_taken m class i None t d at g h = absurd (false≢true g)
kind_taken m class i (Some a) t d at g h = by_datum d (goes_of (Sort.Basic a.kind) t d g (basic_known a.kind) h)
  where
    by_datum : (y : Datum) → is_of_sort (Sort.Basic a.kind) y ≡ true → takes_value m class i y ≡ true
    by_datum (Datum.Plain v) k = or_right (is_null v) _ (ap (is_some_that (λ (b : Attribute). is_kind b.kind v)) at ∙ k)
    by_datum (Datum.Entity id) k = absurd (false≢true k)

link_taken : (m : PersistenceUnit) (class r : ℕ) (o : Option Relation) (t : Sort) (d : Datum) → slice_get (relations_of m class) r ≡ o
    → is_some_that (λ (relation : Relation). is_some (column_of relation.side)) o ≡ true
    → is_some_that (λ s. goes_with s t) (option_map (λ c. Sort.Entity (root_class m c)) (o >>= λ (relation : Relation). when (is_to_one relation.side) relation.target)) ≡ true
    → is_of m t d ≡ true → takes_link m class r d ≡ true
link_taken m class r None t d at owned g h = absurd (false≢true owned)
link_taken m class r (Some relation) t (Datum.Plain v) at owned g h = refl
link_taken m class r (Some relation) t (Datum.Entity id) at owned g h =
    ap (is_some_that (λ (q : Relation). is_some (column_of q.side) && is_identity_of (root_of m q.target) id)) at
    ∙ and_from (is_some (column_of relation.side)) (is_identity_of (root_of m relation.target) id) owned (by_side (is_to_one relation.side) g)
  where
    by_side : (b : Bool) → is_some_that (λ s. goes_with s t) (option_map (λ c. Sort.Entity (root_class m c)) (when b relation.target)) ≡ true → is_identity_of (root_of m relation.target) id ≡ true
    by_side true k = goes_named m (Sort.Entity (root_class m relation.target)) t (Datum.Entity id) k h
    by_side false k = absurd (false≢true k)

-- what both of a pair of sorts pass
pair_passes : (o p : Option Sort) → is_some_that (λ s. is_some_that (goes_with s) p) o ≡ true → (t : Sort) × (p ≡ Some t) × (is_some_that (λ s. goes_with s t) o ≡ true)
pair_passes None p h = absurd (false≢true h)
pair_passes (Some s) None h = absurd (false≢true h)
pair_passes (Some s) (Some t) h = (t, refl, h)

-- the names of the parameters in what a member is set to
abbrev names_of : Option Value → List Text
names_of None = []
names_of (Some a) = values.names_of a

abbrev pub names_set : Assignment → List Text
names_set a = names_of a.value

module _ {m : PersistenceUnit} {s : StoredSet} (base : IsBase m s) (ps : List (Text × Sort)) (ds : List Datum) (fit : are_of m ps ds ≡ true)
    (class : ℕ) (x : Text) (e : Entry) (stands : IsStanding m s class e) where
  abbrev scope : Scope
  scope = with_variable [] x class

  abbrev datum_of : Value → Answer Datum
  datum_of = values.datum_of base ps ds fit class x e stands

  abbrev set_to : Option Value → Answer Datum
  set_to a = if_any null (λ u. value m s ds u (alone (Some e ∷ []))) (option_map (typed_value m ps scope) a)

  -- ---- one member

  value_set : (i : ℕ) (a : Option Value) → if_some (is_value_of m ps scope (step_sort m (record { class = class; member = Member.Attribute i }))) a ≡ true
      → list_all (values.is_given ps) (names_of a) ≡ true → (d : Datum) → set_to a ≡ gives d → takes_value m class i d ≡ true
  value_set i None typed given d is = subst (λ y. takes_value m class i y ≡ true) (given_in null d is) refl
  value_set i (Some a) typed given d is =
      let pair = pair_passes (option_map (λ (q : Attribute). Sort.Basic q.kind) (slice_get (attributes_of m class) i)) _ typed in
      kind_taken m class i (slice_get (attributes_of m class) i) pair.0 d refl pair.2
      (given_of pair.0 (datum_of a) d (values.value_typed base ps ds fit class x e stands a _ pair.0 pair.1 given) is)

  link_set : (r : ℕ) (a : Option Value) → is_settable m (record { class = class; member = Member.Relation r }) ≡ true → allows_value (Member.Relation r) a ≡ true
      → if_some (is_value_of m ps scope (step_sort m (record { class = class; member = Member.Relation r }))) a ≡ true
      → list_all (values.is_given ps) (names_of a) ≡ true → (d : Datum) → set_to a ≡ gives d → takes_link m class r d ≡ true
  link_set r None settable allowed typed given d is = subst (λ y. takes_link m class r y ≡ true) (given_in null d is) refl
  link_set r (Some a) settable allowed typed given d is =
      let pair = pair_passes (step_sort m (record { class = class; member = Member.Relation r })) _ typed in
      link_taken m class r (slice_get (relations_of m class) r) pair.0 d refl settable pair.2
      (values.parameter_typed base ps ds fit class x e stands a allowed _ pair.0 pair.1 given d is)

  member_set : (name : List ℕ) (member : Member) → member_of m class name ≡ Some member → (a : Option Value) → is_set_typed m ps scope a (record { class = class; member = member }) ≡ true
      → list_all (values.is_given ps) (names_of a) ≡ true → (d : Datum) → set_to a ≡ gives d → takes m class member d ≡ true
  member_set name (Member.KeyPart i) named a typed given d is = refl
  member_set name Member.Version named a typed given d is = version_of m class name named
  member_set name (Member.Attribute i) named a typed given d is =
      let parts = and_parts (is_settable m (record { class = class; member = Member.Attribute i }) && allows_value (Member.Attribute i) a) _ typed in
      value_set i a parts.1 given d is
  member_set name (Member.Relation r) named a typed given d is =
      let parts = and_parts (is_settable m (record { class = class; member = Member.Relation r }) && allows_value (Member.Relation r) a) _ typed in
      let both_hold = and_parts (is_settable m (record { class = class; member = Member.Relation r })) (allows_value (Member.Relation r) a) parts.0 in
      link_set r a both_hold.0 both_hold.1 parts.1 given d is

  -- ---- an assignment

  -- the step that a name is
  record IsStep (name : List ℕ) (p : ℕ × Step) : Type 0 where
    from : (p.1).class ≡ class
    member : member_of m class name ≡ Some (p.1).member

  step_named : (name : List ℕ) (p : ℕ × Step) (o : Option Member) → member_of m class name ≡ o
      → ((o >>= λ member. Some (record { class = class; member = member })) >>= λ (st : Step). Some (0, st)) ≡ Some p → IsStep name p
  step_named name p None named is = absurd (some_none p (sym is))
  step_named name p (Some member) named is =
      let same : (0, record { class = class; member = member }) ≡ p = value_in (0, record { class = class; member = member }) p is in
      record { from = sym (ap (λ (q : ℕ × Step). (q.1).class) same); member = named ∙ ap (λ (q : ℕ × Step). Some (q.1).member) same }

  step_of : (name : List ℕ) (p : ℕ × Step) (b : Bool)
      → ((if b then Some 0 else None) >>= λ place. class_at scope place >>= λ c. step_at m c name >>= λ st. Some (place, st)) ≡ Some p → IsStep name p
  step_of name p true is = step_named name p (member_of m class name) refl is
  step_of name p false is = absurd (some_none p (sym is))

  given_member : (member : Member) (x' : Answer Datum) (d : Member × Datum) → under (λ y. (member, y)) x' ≡ gives d → (member ≡ d.0) × (x' ≡ gives d.1)
  given_member member overflows d is = absurd cc
  given_member member (gives y) d is =
      let same : (member, y) ≡ d = cc in (ap (λ (q : Member × Datum). q.0) same, ap (λ (q : Member × Datum). gives q.1) same)

  pub assignment_takes : (a : Assignment) → is_assignment_typed m ps scope a ≡ true → list_all (values.is_given ps) (names_set a) ≡ true
      → (d : Member × Datum) → assignment_datum m s ds e (typed_assignment m ps scope a) ≡ gives d → takes m class d.0 d.1 ≡ true
  assignment_takes a typed given d is = by_step (step_from m scope a.variable a.name) refl typed
    where
      by_step : (o : Option (ℕ × Step)) → step_from m scope a.variable a.name ≡ o → is_some_that (λ (p : ℕ × Step). is_set_typed m ps scope a.value p.1) o ≡ true → takes m class d.0 d.1 ≡ true
      by_step None at h = absurd (false≢true h)
      by_step (Some p) at h =
          let parts = step_of a.name p (same_variable x a.variable) at in
          let member_is : (p.1).member ≡ (unwrap_or (step_from m scope a.variable a.name) no_step).1.member = sym (ap (λ o. (unwrap_or o no_step).1.member) at) in
          let got = given_member (unwrap_or (step_from m scope a.variable a.name) no_step).1.member (set_to a.value) d is in
          subst (λ k. takes m class k d.1 ≡ true) (member_is ∙ got.0)
          (member_set a.name (p.1).member parts.member a.value
          (subst (λ c. is_set_typed m ps scope a.value (record { class = c; member = (p.1).member }) ≡ true) parts.from h) given d.1 got.1)

  -- ---- all of an UPDATE

  abbrev all_take : List (Member × Datum) → Bool
  all_take = list_all (λ (d : Member × Datum). takes m class d.0 d.1)

  one_more : (d : Answer (Member × Datum)) (rest : Answer (List (Member × Datum))) (found : List (Member × Datum)) → both (λ y ys. y ∷ ys) d rest ≡ gives found
      → ((y : Member × Datum) → d ≡ gives y → takes m class y.0 y.1 ≡ true) → ((ys : List (Member × Datum)) → rest ≡ gives ys → all_take ys ≡ true) → all_take found ≡ true
  one_more overflows rest found is first later = absurd cc
  one_more (gives y) overflows found is first later = absurd cc
  one_more (gives y) (gives ys) found is first later =
      let same : y ∷ ys ≡ found = cc in
      subst (λ zs. all_take zs ≡ true) same (and_from (takes m class y.0 y.1) (all_take ys) (first y refl) (later ys refl))

  pub assignments_take : (all : List Assignment) → list_all (is_assignment_typed m ps scope) all ≡ true → list_all (values.is_given ps) (flat_map names_set all) ≡ true
      → (found : List (Member × Datum)) → every (map (assignment_datum m s ds e) (map (typed_assignment m ps scope) all)) ≡ gives found → all_take found ≡ true
  assignments_take [] typed given found is = let same : [] ≡ found = cc in subst (λ zs. all_take zs ≡ true) same refl
  assignments_take (a ∷ all) typed given found is =
      let t = and_parts (is_assignment_typed m ps scope a) _ typed in
      let g = all_parts (values.is_given ps) (names_set a) (flat_map names_set all) given in
      one_more (assignment_datum m s ds e (typed_assignment m ps scope a)) (every (map (assignment_datum m s ds e) (map (typed_assignment m ps scope) all))) found is
      (λ y h. assignment_takes a t.0 g.0 y h) (λ ys h. assignments_take all t.1 g.1 ys h)
