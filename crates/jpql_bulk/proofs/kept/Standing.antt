-- Where paths lead from an object of a set that a store can hold: to what their sort says.
use Rattle.std.proofs.Common.{◌≡◌, ◌∙◌, inl, inr, refl, ap, sym, subst, ℕ, ℤ, suc, ◌-◌, Bool, true, false, T, List, [], ◌∷◌, map, length, arith}
use Rattle.std.specs.Prelude.{◌&&◌, ◌==◌, not, nat_lt, if◌then◌else◌, Option, Some, None, option_map, option_and_then, slice_get, slice_index_or, unwrap_or}
use Rattle.std.specs.List.{filter, list_any, list_all, zip, position_from}
use Rattle.std.specs.FinMap.Entries.{is_sorted}
use Rattle.std.proofs.lemmas.Bool.{and_from, and_parts, false≢true}
use Rattle.std.proofs.lemmas.Option.{get_or_from_slice_get}
use Rattle.jpa_value.specs.declared.value.Value.{Value}
use Rattle.jpa_value.specs.declared.value.Identity.{Identity}
use Rattle.jpa_value.specs.declared.value.Kind.{Kind}
use Rattle.jpa_value.specs.declared.refusal.PersistenceFault.{PersistenceFault}
use Rattle.jpa_value.specs.Value.{identity_cmp, same_identity, fits, is_null}
use Rattle.jpa_model.specs.declared.unit.PersistenceUnit.{PersistenceUnit}
use Rattle.jpa_model.specs.declared.unit.Attribute.{Attribute}
use Rattle.jpa_model.specs.declared.unit.Relation.{Relation}
use Rattle.jpa_model.specs.declared.unit.Root.{Root}
use Rattle.jpa_model.specs.declared.unit.Part.{Part}
use Rattle.jpa_model.specs.declared.unit.Member.{Member}
use Rattle.jpa_model.specs.Chains.{root_of, root_class, attributes_of, relations_of, no_relation, is_kind_of, is_held_by, is_to_one, owner_of, member_of, same_name}
use Rattle.jpa_rows.proofs.laws.Elements.{Has, found_has, has_found}
use Rattle.jpa_rows.proofs.laws.Lists.{each_passes}
use Rattle.jpa_rows.proofs.laws.Facts.{some_none, value_in}
use Rattle.jpa_stored.specs.declared.objects.stored.Stored.{Stored}
use Rattle.jpa_stored.specs.objects.Sets.{StoredSet, stored_at, all_shaped, is_shaped, all_lead, is_of, each_fits, is_identity_of, is_key_of, version_there, owns_well, owned_at, members, members_by, first_fault}
use Rattle.jpa_object_rows.proofs.meaning.Bytes.Orders.{identities}
use Rattle.jpql_trees.specs.declared.tree.Path.{Path}
use Rattle.jpql_trees.specs.tree.Names.{Text}
use Rattle.jpql_trees.specs.tree.Steps.{◌>>=◌}
use Rattle.jpql_trees.specs.declared.typed.path.Step.{Step}
use Rattle.jpql_trees.specs.declared.typed.path.TypedPath.{TypedPath}
use Rattle.jpql_types.specs.declared.sort.Sort.{Sort}
use Rattle.jpql_types.specs.Scope.{when, same_variable, target_of_one, step_at, is_last, last_step, steps_of, class_at, path_of, allows_steps, allows_path}
use Rattle.jpql_types.specs.Sorts.{integer, step_sort, last, path_sort}
use Rattle.jpql_types.specs.Typing.{sort_of_path, with_variable}
use Rattle.jpql_types.specs.Trees.{typed_path, no_path}
use Rattle.jpql_meaning.specs.declared.eval.datum.Datum.{Datum}
use Rattle.jpql_meaning.specs.plan.Paths.{Entry, entity, version, identity_datum, entry_at, member_datum, step_datum, next, walked, path_datum}
use Rattle.jpql_bulk.specs.kept.Fits.{is_kind, is_of_sort, AreInherited}
use Rattle.jpql_bulk.proofs.kept.Items.{fits_at, pair_at}
use Rattle.jpql_bulk.proofs.kept.Sorts.{null_of}

-- ---- shapes

pub record Shape (m : PersistenceUnit) (id : Identity) (x : Stored) : Type 0 where
  pub class : nat_lt x.class (length m.entities) ≡ true
  pub identity : is_identity_of (root_of m x.class) id ≡ true
  pub version : version_there (root_of m x.class).version x.version ≡ true
  pub values : each_fits (λ (a : Attribute) v. fits a.kind v) (attributes_of m x.class) x.values ≡ true
  pub owned : each_fits (owns_well m) (relations_of m x.class) x.owned ≡ true

pub shape_of : (m : PersistenceUnit) (id : Identity) (x : Stored) → is_shaped m id x ≡ true → Shape m id x
shape_of m id x h =
    let a = and_parts (nat_lt x.class (length m.entities)) _ h in
    let b = and_parts (is_identity_of (root_of m x.class) id) _ a.1 in
    let c = and_parts (version_there (root_of m x.class).version x.version) _ b.1 in
    let d = and_parts (each_fits (λ (at : Attribute) v. fits at.kind v) (attributes_of m x.class) x.values) _ c.1 in
    record { class = a.0; identity = b.0; version = c.0; values = d.0; owned = d.1 }

pub shaped_by : (m : PersistenceUnit) (id : Identity) (x : Stored) → Shape m id x → is_shaped m id x ≡ true
shaped_by m id x h =
    and_from (nat_lt x.class (length m.entities)) _ h.class
    (and_from (is_identity_of (root_of m x.class) id) _ h.identity
    (and_from (version_there (root_of m x.class).version x.version) _ h.version
    (and_from (each_fits (λ (at : Attribute) v. fits at.kind v) (attributes_of m x.class) x.values) _ h.values h.owned)))

pub fits_kind : (k : Kind) (v : Value) → fits k v ≡ true → is_kind k v ≡ true
fits_kind k Value.Null h = refl
fits_kind Kind.Int (Value.Int n) h = refl
fits_kind Kind.Int (Value.Text t) h = absurd (false≢true h)
fits_kind Kind.Int (Value.Bytes t) h = absurd (false≢true h)
fits_kind Kind.Text (Value.Int n) h = absurd (false≢true h)
fits_kind Kind.Text (Value.Text t) h = refl
fits_kind Kind.Text (Value.Bytes t) h = absurd (false≢true h)
fits_kind Kind.Bytes (Value.Int n) h = absurd (false≢true h)
fits_kind Kind.Bytes (Value.Text t) h = absurd (false≢true h)
fits_kind Kind.Bytes (Value.Bytes t) h = refl

pub leads_of : (a b c : Bool) → first_fault a b c ≡ None → b ≡ true
leads_of false b c e = absurd (some_none PersistenceFault.Null e)
leads_of true false c e = absurd (some_none PersistenceFault.Reference e)
leads_of true true c e = refl

-- ---- objects of a set

module _ (m : PersistenceUnit) (s : StoredSet) where
  -- an object of the set, of the class or one below it
  abbrev pub IsStanding : ℕ → Entry → Type 0
  IsStanding class e = Has s e × (is_kind_of m (e.1).class class ≡ true)

  abbrev pub IsAt : ℕ → Option Entry → Type 0
  IsAt class None = Unit {0}
  IsAt class (Some e) = IsStanding class e

  -- what is known of the unit and the set
  pub record IsBase : Type 0 where
    pub inherited : AreInherited m
    pub shaped : all_shaped m s ≡ true
    pub leads : all_lead m s ≡ true
    pub rising : T (is_sorted identity_cmp s)

module _ {m : PersistenceUnit} {s : StoredSet} (base : IsBase m s) where
  pub shape : (e : Entry) → Has s e → Shape m e.0 e.1
  shape e h = shape_of m e.0 e.1 (each_passes (λ (d : Entry). is_shaped m d.0 d.1) s base.shaped e h)

  -- ---- what a member holds

  version_of : (v : Option ℤ) → is_of_sort integer (version v) ≡ true
  version_of None = refl
  version_of (Some n) = refl

  identity_of : (root : ℕ) (o : Option Identity) → is_of_sort (Sort.Entity root) (identity_datum o) ≡ true
  identity_of root None = refl
  identity_of root (Some id) = refl

  module _ (class : ℕ) (e : Entry) (stands : IsStanding m s class e) (r : Sort) where
    part_of : (i : ℕ) (o : Option Part) → slice_get (root_of m class).key i ≡ o → option_map (λ (part : Part). Sort.Basic part.kind) o ≡ Some r
        → is_of_sort r (Datum.Plain (slice_index_or (e.0).key i Value.Null)) ≡ true
    part_of i None at is = absurd (some_none r (sym is))
    part_of i (Some part) at is =
        let own = shape e stands.0 in
        let keyed = (and_parts ((e.0).table == (root_of m (e.1).class).table) (is_key_of (root_of m (e.1).class) (e.0).key) own.identity).1 in
        let there = ap (λ (root : Root). slice_get root.key i) (base.inherited.roots class (e.1).class own.class stands.1) ∙ at in
        let fit = fits_at (λ (p : Part) v. fits p.kind v && not (is_null v)) Value.Null (root_of m (e.1).class).key (e.0).key i part keyed there in
        subst (λ t. is_of_sort t (Datum.Plain (slice_index_or (e.0).key i Value.Null)) ≡ true) (value_in (Sort.Basic part.kind) r is)
        (fits_kind part.kind (slice_index_or (e.0).key i Value.Null) (and_parts (fits part.kind (slice_index_or (e.0).key i Value.Null)) _ fit).0)

    attribute_of : (i : ℕ) (o : Option Attribute) → slice_get (attributes_of m class) i ≡ o → option_map (λ (a : Attribute). Sort.Basic a.kind) o ≡ Some r
        → is_of_sort r (Datum.Plain (slice_index_or (e.1).values i Value.Null)) ≡ true
    attribute_of i None at is = absurd (some_none r (sym is))
    attribute_of i (Some a) at is =
        let own = shape e stands.0 in
        let there = base.inherited.attributes class (e.1).class i a own.class stands.1 at in
        let fit = fits_at (λ (b : Attribute) v. fits b.kind v) Value.Null (attributes_of m (e.1).class) (e.1).values i a own.values there in
        subst (λ t. is_of_sort t (Datum.Plain (slice_index_or (e.1).values i Value.Null)) ≡ true) (value_in (Sort.Basic a.kind) r is)
        (fits_kind a.kind (slice_index_or (e.1).values i Value.Null) fit)

    target_of : (d : Option Identity) (o : Option ℕ) → option_map (λ c. Sort.Entity (root_class m c)) o ≡ Some r → is_of_sort r (identity_datum d) ≡ true
    target_of d None is = absurd (some_none r (sym is))
    target_of d (Some c) is = subst (λ t. is_of_sort t (identity_datum d) ≡ true) (value_in (Sort.Entity (root_class m c)) r is) (identity_of (root_class m c) d)

    member_of_sort : (member : Member) → step_sort m (record { class = class; member = member }) ≡ Some r → is_of_sort r (member_datum m s e class member) ≡ true
    member_of_sort (Member.KeyPart i) is = part_of i (slice_get (root_of m class).key i) refl is
    member_of_sort Member.Version is = subst (λ t. is_of_sort t (version (e.1).version) ≡ true) (value_in integer r is) (version_of (e.1).version)
    member_of_sort (Member.Attribute i) is = attribute_of i (slice_get (attributes_of m class) i) refl is
    member_of_sort (Member.Relation q) is = target_of _ (target_of_one m (record { class = class; member = Member.Relation q })) is

  pub step_of_sort : (class : ℕ) (e : Option Entry) (st : Step) (r : Sort) → IsAt m s class e → st.class ≡ class → step_sort m st ≡ Some r → is_of_sort r (step_datum m s e st) ≡ true
  step_of_sort class None st r stands same is = null_of r
  step_of_sort class (Some e) st r stands same is = member_of_sort st.class e (subst (λ c. IsStanding m s c e) (sym same) stands) r st.member is

  -- ---- where a relation leads

  abbrev all_of : ℕ → List Identity → Bool
  all_of c = list_all (λ id. is_of m (stored_at s id) c)

  entry_of : (c : ℕ) (id : Identity) (o : Option Stored) → stored_at s id ≡ o → is_of m o c ≡ true → IsAt m s c (option_map (λ x. (id, x)) o)
  entry_of c id None at h = tt
  entry_of c id (Some x) at h = (found_has identities id x s at, h)

  first_of : (c : ℕ) (ids : List Identity) → all_of c ids ≡ true → IsAt m s c (option_and_then (entry_at m s) (slice_get ids 0))
  first_of c [] h = tt
  first_of c (id ∷ ids) h = entry_of c id (stored_at s id) refl (and_parts (is_of m (stored_at s id) c) (all_of c ids) h).0

  -- what the object owns
  owned_of : (e : Entry) → Has s e → (r : ℕ) (relation : Relation) → slice_get (relations_of m (e.1).class) r ≡ Some relation → all_of relation.target (owned_at e.1 r) ≡ true
  owned_of e h r relation at =
      pair_at (λ (p : Relation × List Identity). all_of (p.0).target p.1) [] (relations_of m (e.1).class) (e.1).owned r relation
      (each_passes (λ (d : Entry). list_all (λ (p : Relation × List Identity). all_of (p.0).target p.1) (zip (relations_of m (d.1).class) (d.1).owned)) s base.leads e h) at refl

  -- what leads to it
  leading_of : (c : ℕ) (t : Entry → Bool) → ((e : Entry) → t e ≡ true → is_kind_of m (e.1).class c ≡ true) → (es : List Entry) → ((e : Entry) → Has es e → Has s e)
      → all_of c (map (λ (e : Entry). e.0) (filter t es)) ≡ true
  leading_of c t kinds [] within = refl
  leading_of c t kinds (e ∷ es) within = by_test (t e) refl (leading_of c t kinds es (λ d h. within d (inr h)))
    where
      by_test : (b : Bool) → t e ≡ b → all_of c (map (λ (d : Entry). d.0) (filter t es)) ≡ true
          → all_of c (map (λ (d : Entry). d.0) (if b then e ∷ filter t es else filter t es)) ≡ true
      by_test true g rest =
          and_from (is_of m (stored_at s e.0) c) (all_of c (map (λ (d : Entry). d.0) (filter t es)))
          (ap (λ o. is_of m o c) (has_found identities s base.rising e.0 e.1 (within e (inl refl))) ∙ kinds e g) rest
      by_test false g rest = rest

  members_lead : (e : Entry) → Has s e → (r : ℕ) (relation : Relation) → slice_get (relations_of m (e.1).class) r ≡ Some relation → all_of relation.target (members m s e.0 e.1 r) ≡ true
  members_lead e h r relation at =
      subst (λ (q : Relation). all_of relation.target (members_by m s e.0 e.1 r q.target (owner_of q.side)) ≡ true)
      (sym (get_or_from_slice_get (relations_of m (e.1).class) r relation no_relation at)) (by_owner (owner_of relation.side))
    where
      by_owner : (o : Option ℕ) → all_of relation.target (members_by m s e.0 e.1 r relation.target o) ≡ true
      by_owner None = owned_of e h r relation at
      by_owner (Some owner) =
          leading_of relation.target (λ (d : Entry). is_kind_of m (d.1).class relation.target && list_any (same_identity e.0) (owned_at d.1 owner))
          (λ d t. (and_parts (is_kind_of m (d.1).class relation.target) _ t).0) s (λ d k. k)

  target_is : (relation : Relation) (c : ℕ) → when (is_to_one relation.side) relation.target ≡ Some c → relation.target ≡ c
  target_is relation c = by_test (is_to_one relation.side)
    where
      by_test : (b : Bool) → when b relation.target ≡ Some c → relation.target ≡ c
      by_test true e = value_in relation.target c e
      by_test false e = absurd (some_none c (sym e))

  module _ (class : ℕ) (e : Entry) (stands : IsStanding m s class e) (c : ℕ) where
    held_leads : (r : ℕ) (o : Option Relation) → slice_get (relations_of m class) r ≡ o → (o >>= λ (q : Relation). when (is_to_one q.side) q.target) ≡ Some c
        → (b : Bool) → IsAt m s c (option_and_then (entry_at m s) (slice_get (if b then members m s e.0 e.1 r else []) 0))
    held_leads r None at is b = absurd (some_none c (sym is))
    held_leads r (Some relation) at is false = tt
    held_leads r (Some relation) at is true =
        let own = shape e stands.0 in
        let there = base.inherited.relations class (e.1).class r relation own.class stands.1 at in
        first_of c (members m s e.0 e.1 r) (subst (λ k. all_of k (members m s e.0 e.1 r) ≡ true) (target_is relation c is) (members_lead e stands.0 r relation there))

    member_leads : (member : Member) → target_of_one m (record { class = class; member = member }) ≡ Some c → IsAt m s c (next m s (Some e) (record { class = class; member = member }))
    member_leads (Member.KeyPart i) is = absurd (some_none c (sym is))
    member_leads Member.Version is = absurd (some_none c (sym is))
    member_leads (Member.Attribute i) is = absurd (some_none c (sym is))
    member_leads (Member.Relation r) is = held_leads r (slice_get (relations_of m class) r) refl is (is_held_by m class r (e.1).class)

  next_at : (class : ℕ) (e : Option Entry) (st : Step) (c : ℕ) → IsAt m s class e → st.class ≡ class → target_of_one m st ≡ Some c → IsAt m s c (next m s e st)
  next_at class None st c stands same is = tt
  next_at class (Some e) st c stands same is = member_leads st.class e (subst (λ k. IsStanding m s k e) (sym same) stands) c st.member is

  -- ---- steps in turn

  less_one : (n : ℕ) → suc n - 1 ≡ n
  less_one n = omega arith

  last_more : (st next : Step) (steps : List Step) → last (st ∷ next ∷ steps) ≡ last (next ∷ steps)
  last_more st next steps = ap (slice_get (st ∷ next ∷ steps)) (less_one (suc (length steps))) ∙ ap (slice_get (next ∷ steps)) (sym (less_one (length steps)))

  last_there : (st : Step) (steps : List Step) → (x : Step) × (last (st ∷ steps) ≡ Some x)
  last_there st [] = (st, refl)
  last_there st (next ∷ steps) = let there = last_there next steps in (there.0, last_more st next steps ∙ there.1)

  end_is : (p : TypedPath) (x : Step) → last p.steps ≡ Some x → path_sort m p ≡ step_sort m x
  end_is p x e = rw e

  abbrev end_sort : ℕ → ℕ → List Step → Option Sort
  end_sort variable class steps = path_sort m (record { variable = variable; class = class; steps = steps })

  -- it isn't where the path begins that tells
  end_more : (v a b : ℕ) (st next : Step) (steps : List Step) → end_sort v a (st ∷ next ∷ steps) ≡ end_sort v b (next ∷ steps)
  end_more v a b st next steps =
      let there = last_there next steps in
      end_is (record { variable = v; class = a; steps = st ∷ next ∷ steps }) there.0 (last_more st next steps ∙ there.1)
      ∙ sym (end_is (record { variable = v; class = b; steps = next ∷ steps }) there.0 there.1)

  end_one : (v a : ℕ) (st : Step) → end_sort v a (st ∷ []) ≡ step_sort m st
  end_one v a st = end_is (record { variable = v; class = a; steps = st ∷ [] }) st refl

  named_class : (class : ℕ) (o : Option Member) (st : Step) → (o >>= λ member. Some (record { class = class; member = member })) ≡ Some st → st.class ≡ class
  named_class class None st e = absurd (some_none st (sym e))
  named_class class (Some member) st e = sym (ap (λ (z : Step). z.class) (value_in (record { class = class; member = member }) st e))

  part_class : (class : ℕ) (o : Option ℕ) (st : Step) → (o >>= λ i. Some (record { class = class; member = Member.KeyPart i })) ≡ Some st → st.class ≡ class
  part_class class None st e = absurd (some_none st (sym e))
  part_class class (Some i) st e = sym (ap (λ (z : Step). z.class) (value_in (record { class = class; member = Member.KeyPart i }) st e))

  last_class : (class : ℕ) (name : Text) (names : List Text) (st : Step) → last_step m class name names ≡ Some st → st.class ≡ class
  last_class class name [] st e = named_class class (member_of m class name) st e
  last_class class name (part ∷ []) st e = part_class class (position_from (λ (p : Part). same_name p.name part) 0 (root_of m class).key) st e
  last_class class name (part ∷ next ∷ names) st e = absurd (some_none st (sym e))

  module _ (v : ℕ) (r : Sort) where
    abbrev Walks : List Text → Type 0
    Walks names = (class : ℕ) (steps : List Step) (e : Option Entry) → IsAt m s class e → steps_of m class names ≡ Some steps → end_sort v class steps ≡ Some r
        → is_of_sort r (walked m s e steps) ≡ true

    module _ (class : ℕ) (steps : List Step) (e : Option Entry) (stands : IsAt m s class e) (ends : end_sort v class steps ≡ Some r) where
      -- one step
      by_one : (o : Option Step) → ((st : Step) → o ≡ Some st → st.class ≡ class) → option_map (λ st. st ∷ []) o ≡ Some steps → is_of_sort r (walked m s e steps) ≡ true
      by_one None of is = absurd (some_none steps (sym is))
      by_one (Some st) of is =
          let same : st ∷ [] ≡ steps = value_in (st ∷ []) steps is in
          let own : end_sort v class (st ∷ []) ≡ Some r = ap (end_sort v class) same ∙ ends in
          subst (λ all. is_of_sort r (walked m s e all) ≡ true) same (step_of_sort class e st r stands (of st refl) (sym (end_one v class st) ∙ own))

      -- a step, and those after it
      after_it : (st : Step) (c : ℕ) (rest : List Step) → st.class ≡ class → target_of_one m st ≡ Some c → st ∷ rest ≡ steps
          → ((end_sort v c rest ≡ Some r) → is_of_sort r (walked m s (next m s e st) rest) ≡ true) → is_of_sort r (walked m s e steps) ≡ true
      after_it st c [] of to same goes =
          subst (λ all. is_of_sort r (walked m s e all) ≡ true) same
          (step_of_sort class e st r stands of (sym (end_one v class st) ∙ ap (end_sort v class) same ∙ ends))
      after_it st c (next ∷ rest) of to same goes =
          subst (λ all. is_of_sort r (walked m s e all) ≡ true) same
          (goes (sym (end_more v class c st next rest) ∙ ap (end_sort v class) same ∙ ends))

      by_rest : (st : Step) (c : ℕ) (names : List Text) (o : Option (List Step)) → Walks names → st.class ≡ class → target_of_one m st ≡ Some c → steps_of m c names ≡ o
          → (o >>= λ rest. Some (st ∷ rest)) ≡ Some steps → is_of_sort r (walked m s e steps) ≡ true
      by_rest st c names None walks of to at is = absurd (some_none steps (sym is))
      by_rest st c names (Some rest) walks of to at is =
          after_it st c rest of to (value_in (st ∷ rest) steps is) (λ k. walks c rest (next m s e st) (next_at class e st c stands of to) at k)

      by_target : (st : Step) (names : List Text) (o : Option ℕ) → Walks names → st.class ≡ class → target_of_one m st ≡ o
          → (o >>= λ c. steps_of m c names >>= λ rest. Some (st ∷ rest)) ≡ Some steps → is_of_sort r (walked m s e steps) ≡ true
      by_target st names None walks of to is = absurd (some_none steps (sym is))
      by_target st names (Some c) walks of to is = by_rest st c names (steps_of m c names) walks of to refl is

      by_step : (names : List Text) (o : Option Step) → Walks names → ((st : Step) → o ≡ Some st → st.class ≡ class)
          → (o >>= λ st. target_of_one m st >>= λ c. steps_of m c names >>= λ rest. Some (st ∷ rest)) ≡ Some steps → is_of_sort r (walked m s e steps) ≡ true
      by_step names None walks of is = absurd (some_none steps (sym is))
      by_step names (Some st) walks of is = by_target st names (target_of_one m st) walks (of st refl) refl is

      by_last : (name : Text) (names : List Text) (b : Bool) → Walks names
          → (if b then option_map (λ st. st ∷ []) (last_step m class name names) else step_at m class name >>= λ st. target_of_one m st >>= λ c. steps_of m c names >>= λ rest. Some (st ∷ rest)) ≡ Some steps
          → is_of_sort r (walked m s e steps) ≡ true
      by_last name names true walks is = by_one (last_step m class name names) (λ st. last_class class name names st) is
      by_last name names false walks is = by_step names (step_at m class name) walks (λ st. named_class class (member_of m class name) st) is

      no_steps : [] ≡ steps → is_of_sort r (walked m s e steps) ≡ true
      no_steps same =
          subst (λ all. is_of_sort r (walked m s e all) ≡ true) same
          (subst (λ t. is_of_sort t (entity e) ≡ true) (value_in (Sort.Entity (root_class m class)) r (ap (end_sort v class) same ∙ ends)) (entity_of e))
        where
          entity_of : (o : Option Entry) → is_of_sort (Sort.Entity (root_class m class)) (entity o) ≡ true
          entity_of None = refl
          entity_of (Some d) = refl

    walked_of : (names : List Text) → Walks names
    walked_of [] class steps e stands at ends = no_steps class steps e stands ends (value_in [] steps at)
    walked_of (name ∷ names) class steps e stands at ends = by_last class steps e stands ends name names (is_last m class name names) (walked_of names) at

  -- ---- paths in the scope of one variable

  pub record IsPath (from : ℕ) (p : Path) (path : TypedPath) : Type 0 where
    pub variable : path.variable ≡ 0
    pub class : path.class ≡ from
    pub steps : steps_of m from p.names ≡ Some path.steps

  module _ (class : ℕ) (p : Path) (path : TypedPath) where
    by_steps : (o : Option (List Step)) → steps_of m class p.names ≡ o → (o >>= λ steps. Some (record { variable = 0; class = class; steps = steps })) ≡ Some path → IsPath class p path
    by_steps None at is = absurd (some_none path (sym is))
    by_steps (Some steps) at is =
        let same : record { variable = 0; class = class; steps = steps } ≡ path = value_in (record { variable = 0; class = class; steps = steps }) path is in
        record { variable = sym (ap (λ (q : TypedPath). q.variable) same); class = sym (ap (λ (q : TypedPath). q.class) same); steps = at ∙ ap (λ (q : TypedPath). Some q.steps) same }

    by_name : (x : Text) (b : Bool) → ((if b then Some 0 else None) >>= λ place. class_at (with_variable [] x class) place >>= λ c. steps_of m c p.names >>= λ steps. Some (record { variable = place; class = c; steps = steps })) ≡ Some path
        → IsPath class p path
    by_name x true is = by_steps (steps_of m class p.names) refl is
    by_name x false is = absurd (some_none path (sym is))

    pub path_parts : (x : Text) → path_of m (with_variable [] x class) p ≡ Some path → IsPath class p path
    path_parts x is = by_name x (same_variable x p.variable) is

  -- what a path gives is of its sort, in whatever clause it stands
  module _ (class : ℕ) (x : Text) (ps : List (Text × Sort)) (p : Path) (r : Sort) (e : Entry) (stands : IsStanding m s class e) where
    resolved_is : (path : TypedPath) (b : Bool) → (when b path >>= λ q. path_sort m q) ≡ Some r → path_sort m path ≡ Some r
    resolved_is path true is = is
    resolved_is path false is = absurd (some_none r (sym is))

    found_path : (allows : TypedPath → Bool) (o : Option TypedPath) → path_of m (with_variable [] x class) p ≡ o → ((o >>= λ path. when (allows path) path) >>= λ q. path_sort m q) ≡ Some r
        → is_of_sort r (path_datum m s (Some e ∷ []) (typed_path m ps (with_variable [] x class) p)) ≡ true
    found_path allows None at is = absurd (some_none r (sym is))
    found_path allows (Some path) at is =
        let parts = path_parts class p path x at in
        let from : path_datum m s (Some e ∷ []) path ≡ walked m s (Some e) path.steps = ap (λ k. walked m s (slice_index_or (Some e ∷ []) k None) path.steps) parts.variable in
        subst (λ (q : TypedPath). is_of_sort r (path_datum m s (Some e ∷ []) q) ≡ true) (sym (ap (λ o. unwrap_or o no_path) at))
        (subst (λ d. is_of_sort r d ≡ true) (sym from)
        (walked_of path.variable r p.names class path.steps (Some e) stands parts.steps (ap (λ c. end_sort path.variable c path.steps) (sym parts.class) ∙ resolved_is path (allows path) is)))

    pub path_gives : (clause : _) → sort_of_path m [] (with_variable [] x class) clause p ≡ Some r
        → is_of_sort r (path_datum m s (Some e ∷ []) (typed_path m ps (with_variable [] x class) p)) ≡ true
    path_gives clause is = found_path (λ path. allows_steps clause (length path.steps) && allows_path clause [] p) (path_of m (with_variable [] x class) p) refl is
