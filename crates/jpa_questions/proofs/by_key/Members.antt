-- What an object tells by its row is the same over every set, and without its pairs.
use Rattle.std.proofs.Common.{◌≡◌, ◌∙◌, refl, ap, sym, arith, ℕ, zero, suc, ◌≤◌, Bool, true, false, cond, List, [], ◌∷◌, length, Option, Some, None, option_map, slice_index_or, slice_get, inl, inr}
use Rattle.std.specs.Prelude.{not, ◌||◌}
use Rattle.std.specs.List.{flat_map}
use Rattle.std.proofs.lemmas.Bool.{cases_lt, false≢true}
use Rattle.std.proofs.lemmas.List.{append-nil}
use Rattle.jpa_value.specs.declared.value.Identity.{Identity}
use Rattle.jpa_model.specs.declared.unit.Member.{Member}
use Rattle.jpa_model.specs.declared.unit.Origin.{Origin}
use Rattle.jpa_model.specs.declared.unit.PersistenceUnit.{PersistenceUnit}
use Rattle.jpa_model.specs.declared.unit.Relation.{Relation}
use Rattle.jpa_model.specs.declared.unit.Root.{Root}
use Rattle.jpa_model.specs.declared.unit.Side.{Side}
use Rattle.jpa_model.specs.Chains.{chain_from, entity_at, is_held_by, no_entity, no_relation, owner_of, relation_at, relations_of}
use Rattle.jpa_stored.specs.declared.objects.stored.Stored.{Stored}
use Rattle.jpa_stored.specs.objects.Sets.{StoredSet, members, members_by, members_of}
use Rattle.jpql_trees.specs.declared.typed.path.Step.{Step}
use Rattle.jpql_trees.specs.declared.typed.path.TypedPath.{TypedPath}
use Rattle.jpql_meaning.specs.plan.Paths.{Entry, Tuple, breaks, identity_datum, is_broken, member_datum, object_at, path_datum, walked}
use Rattle.jpa_questions.specs.by_key.ByKey.{has_pairs, pairless, without_pairs}
use Rattle.jpa_questions.specs.by_key.Own.{all_below, are_own_steps, is_own_member, is_own_path, is_single_if_held, is_single_side}
use Rattle.jpa_questions.proofs.by_key.Below.{below_at, past}
use Rattle.jpa_questions.proofs.by_key.Pairless.{object_pairless, pairless_entry, pairless_tuple}

-- a number that names no class has no relations
chain_root : (m : PersistenceUnit) (n class : ℕ) (r : Root) → chain_from m n class (Origin.Root r) ≡ class ∷ []
chain_root m zero class r = refl
chain_root m (suc n) class r = refl

nothing_there : (m : PersistenceUnit) (kind : ℕ) → length m.entities ≤ kind → entity_at m kind ≡ no_entity
nothing_there m kind l = past m.entities kind no_entity l

no_relations : (m : PersistenceUnit) (kind : ℕ) → length m.entities ≤ kind → relations_of m kind ≡ []
no_relations m kind l =
    ap (λ e. flat_map (λ c. (entity_at m c).relations) (chain_from m (length m.entities) kind e)) (λ i. (nothing_there m kind l i).origin)
    ∙ ap (flat_map (λ c. (entity_at m c).relations)) (chain_root m (length m.entities) kind _)
    ∙ append-nil (entity_at m kind).relations
    ∙ (λ i. (nothing_there m kind l i).relations)

no_link : (m : PersistenceUnit) (kind r : ℕ) → length m.entities ≤ kind → is_single_side (relation_at m kind r).side ≡ true
no_link m kind r l =
    ap (λ all. is_single_side (slice_index_or all r no_relation).side) (no_relations m kind l) ∙ ap (λ (x : Relation). is_single_side x.side) (past [] r no_relation (omega arith))

pub implied : (a b : Bool) → a ≡ true → (not a || b) ≡ true → b ≡ true
implied true b e h = h
implied false b e h = absurd (false≢true e)

-- who holds the relation has its link
single : (m : PersistenceUnit) (class r kind : ℕ) → all_below (is_single_if_held m class r) (length m.entities) ≡ true → is_held_by m class r kind ≡ true → is_single_side (relation_at m kind r).side ≡ true
single m class r kind h held =
    elim (cases_lt kind (length m.entities)) [
      | inl less ↦ implied (is_held_by m class r kind) (is_single_side (relation_at m kind r).side) held (below_at (is_single_if_held m class r) (length m.entities) kind less h)
      | inr le ↦ no_link m kind r le
    ]

single_owner : (side : Side) → is_single_side side ≡ true → owner_of side ≡ None
single_owner (Side.ManyToOne c) h = refl
single_owner (Side.OneToOne c) h = refl
single_owner (Side.OneToOneInverse owner) h = absurd (false≢true h)
single_owner (Side.OneToMany owner) h = absurd (false≢true h)
single_owner (Side.ManyToMany table) h = absurd (false≢true h)
single_owner (Side.ManyToManyInverse owner) h = absurd (false≢true h)

single_pairs : (side : Side) → is_single_side side ≡ true → has_pairs side ≡ false
single_pairs (Side.ManyToOne c) h = refl
single_pairs (Side.OneToOne c) h = refl
single_pairs (Side.OneToOneInverse owner) h = absurd (false≢true h)
single_pairs (Side.OneToMany owner) h = absurd (false≢true h)
single_pairs (Side.ManyToMany table) h = absurd (false≢true h)
single_pairs (Side.ManyToManyInverse owner) h = absurd (false≢true h)

-- what is owned along a relation to one object stays without pairs
link_stays : (relations : List Relation) (owned : List (List Identity)) (r : ℕ) → is_single_side (slice_index_or relations r no_relation).side ≡ true
    → slice_index_or owned r [] ≡ slice_index_or (without_pairs relations owned) r []
link_stays [] owned r h = refl
link_stays (x ∷ relations) [] r h = refl
link_stays (x ∷ relations) (ids ∷ owned) zero h = sym (ap (λ b. cond b [] ids) (single_pairs x.side h))
link_stays (x ∷ relations) (ids ∷ owned) (suc r) h = link_stays relations owned r h

module _ (m : PersistenceUnit) (s s' : StoredSet) where
  members_same : (class : ℕ) (id : Identity) (x : Stored) (r : ℕ) → is_own_member m class (Member.Relation r) ≡ true → members_of m s class id (Some x) r ≡ members_of m s' class id (Some (pairless m x)) r
  members_same class id x r h = by (is_held_by m class r x.class) refl
    where
      by : (b : Bool) → is_held_by m class r x.class ≡ b → cond b (members m s id x r) [] ≡ cond b (members m s' id (pairless m x) r) []
      by false e = refl
      by true e =
          let relation = relation_at m x.class r in
          let side = single m class r x.class h e in
          let none = single_owner relation.side side in
          ap (members_by m s id x r relation.target) none ∙ link_stays (relations_of m x.class) x.owned r side ∙ sym (ap (members_by m s' id (pairless m x) r relation.target) none)

  member_same : (e : Entry) (class : ℕ) (member : Member) → is_own_member m class member ≡ true → member_datum m s e class member ≡ member_datum m s' (pairless_entry m e) class member
  member_same e class (Member.KeyPart i) h = refl
  member_same e class Member.Version h = refl
  member_same e class (Member.Attribute i) h = refl
  member_same e class (Member.Relation r) h = ap (λ ids. identity_datum (slice_get ids 0)) (members_same class e.0 e.1 r h)

  walked_same : (e : Option Entry) (steps : List Step) → are_own_steps m steps ≡ true → walked m s e steps ≡ walked m s' (option_map (pairless_entry m) e) steps
  walked_same None [] h = refl
  walked_same (Some e) [] h = refl
  walked_same None (step ∷ []) h = refl
  walked_same (Some e) (step ∷ []) h = member_same e step.class step.member h
  walked_same e (step ∷ after ∷ steps) h = absurd (false≢true h)

  breaks_same : (e : Option Entry) (steps : List Step) → are_own_steps m steps ≡ true → breaks m s e steps ≡ breaks m s' (option_map (pairless_entry m) e) steps
  breaks_same e [] h = refl
  breaks_same e (step ∷ []) h = refl
  breaks_same e (step ∷ after ∷ steps) h = absurd (false≢true h)

  pub path_same : (p : TypedPath) → is_own_path m p ≡ true → (t : Tuple) → path_datum m s t p ≡ path_datum m s' (pairless_tuple m t) p
  path_same p h t = walked_same (object_at t p.variable) p.steps h ∙ ap (λ e. walked m s' e p.steps) (sym (object_pairless m t p.variable))

  pub broken_same : (p : TypedPath) → is_own_path m p ≡ true → (t : Tuple) → is_broken m s t p ≡ is_broken m s' (pairless_tuple m t) p
  broken_same p h t = breaks_same (object_at t p.variable) p.steps h ∙ ap (λ e. breaks m s' e p.steps) (sym (object_pairless m t p.variable))
