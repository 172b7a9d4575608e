-- What an object claims in its one-to-one relations: no claim twice is no identity twice, and what is told of each relation is told
-- of all claims.
use Rattle.std.specs.Prelude.{◌≡◌, ℕ, Bool, true, false, ◌&&◌, ◌||◌, ◌==◌, map, List, [], ◌∷◌, Option, Some, None}
use Rattle.std.proofs.Common.{refl, sym, ap, ◌∙◌, inl, inr, Ordering, Less, Equal, Greater}
use Rattle.std.specs.List.{list_any, flat_map}
use Rattle.std.specs.Ordering.{is_eq, nat_cmp, ordering_then}
use Rattle.std.specs.Cmp.{nat_cmp_is, nat_cmp_total, tied_itself}
use Rattle.std.proofs.lemmas.Bool.{cases_lt}
use Rattle.std.proofs.lemmas.List.Folds.{list_any-append}
use Rattle.jpa_value.specs.declared.value.Identity.{Identity}
use Rattle.jpa_value.specs.Value.{identity_cmp, same_identity}
use Rattle.jpa_model.specs.declared.unit.Relation.{Relation}
use Rattle.jpa_stored.specs.declared.objects.claims.Claim.{Claim}
use Rattle.jpa_stored.specs.objects.Sets.{claims_at, same_claim, one_to_one_column}
use Rattle.jpa_open.specs.Leads.{is_column, is_of_column}
use Rattle.jpa_open.proofs.Placed.{and_false}
use Rattle.jpa_open.proofs.Subclasses.{same_number, below_other, above_other, between_equal}
use Rattle.jpa_constraints.specs.Judged.{ids_apart, link_apart, links_apart}
use Rattle.jpa_stored.specs.objects.Sets.{all_distinct}
use Rattle.std.specs.Prelude.{not, ◌++◌}
use Rattle.std.specs.List.{list_all}
use Rattle.std.proofs.lemmas.List.Folds.{list_all-append}

both_tie : (a b : Ordering) → is_eq (ordering_then a b) ≡ (is_eq a && is_eq b)
both_tie Less b = refl
both_tie Equal b = refl
both_tie Greater b = refl

numbers_tie : (a b : ℕ) → is_eq (nat_cmp a b) ≡ (b == a)
numbers_tie a b = elim (cases_lt a b) [
  | inl less ↦ ap is_eq (sym (nat_cmp_is a b Less less)) ∙ sym (above_other b a less)
  | inr more ↦ elim (cases_lt b a) [
    | inl above ↦ ap is_eq (sym (nat_cmp_is a b Greater above)) ∙ sym (below_other b a above)
    | inr same ↦
        let e = between_equal a b more same in
        ap (λ n. is_eq (nat_cmp a n)) (sym e) ∙ ap is_eq (tied_itself nat_cmp_total a) ∙ sym (same_number b a (sym e))
  ]
]

shared : (t a b : Bool) → ((t && a) || (t && b)) ≡ (t && (a || b))
shared true a b = refl
shared false a b = refl

module _ (c : Claim) (t : ℕ) where
  one : (k : ℕ) (ids : List Identity) → list_any (same_claim c) (map (λ id. record { table = t; column = k; target = id }) ids) ≡ ((t == c.table) && ((k == c.column) && list_any (same_identity c.target) ids))
  one k [] = sym (ap (λ b. (t == c.table) && b) (and_false (k == c.column)) ∙ and_false (t == c.table))
  one k (id ∷ ids) =
      (λ i. (both_tie (nat_cmp c.table t) (ordering_then (nat_cmp c.column k) (identity_cmp c.target id))
      ∙ (λ j. numbers_tie c.table t j && (both_tie (nat_cmp c.column k) (identity_cmp c.target id) ∙ ap (λ b. b && same_identity c.target id) (numbers_tie c.column k)) j)) i
      || one k ids i)
      ∙ shared (t == c.table) ((k == c.column) && same_identity c.target id) ((k == c.column) && list_any (same_identity c.target) ids)
      ∙ ap (λ b. (t == c.table) && b) (shared (k == c.column) (same_identity c.target id) (list_any (same_identity c.target) ids))

  at_column : (column : Option ℕ) (ids : List Identity) → list_any (same_claim c) (claims_at t column ids) ≡ ((t == c.table) && (is_column c.column column && list_any (same_identity c.target) ids))
  at_column None ids = sym (and_false (t == c.table))
  at_column (Some k) ids = one k ids

  pairs : (ps : List (Relation × List Identity)) → list_any (same_claim c) (flat_map (λ (p : Relation × List Identity). claims_at t (one_to_one_column (p.0).side) p.1) ps)
      ≡ ((t == c.table) && list_any (λ (p : Relation × List Identity). is_of_column c.column p.0 && list_any (same_identity c.target) p.1) ps)
  pairs [] = sym (and_false (t == c.table))
  pairs (p ∷ ps) =
      list_any-append (same_claim c) (claims_at t (one_to_one_column (p.0).side) p.1) (flat_map (λ (p : Relation × List Identity). claims_at t (one_to_one_column (p.0).side) p.1) ps)
      ∙ (λ i. at_column (one_to_one_column (p.0).side) p.1 i || pairs ps i)
      ∙ shared (t == c.table) (is_of_column c.column p.0 && list_any (same_identity c.target) p.1) (list_any (λ (p : Relation × List Identity). is_of_column c.column p.0 && list_any (same_identity c.target) p.1) ps)

-- ---- the claims of an object of this table

and_assoc : (a b c : Bool) → ((a && b) && c) ≡ (a && (b && c))
and_assoc true b c = refl
and_assoc false b c = refl

module _ (t : ℕ) where
  abbrev pub claims_in : Relation × List Identity → List Claim
  claims_in p = claims_at t (one_to_one_column (p.0).side) p.1

  abbrev claim : ℕ → Identity → Claim
  claim k id = record { table = t; column = k; target = id }

  again : (k : ℕ) (id : Identity) (ids : List Identity) (ps : List (Relation × List Identity)) →
      (list_any (same_identity id) ids || list_any (λ (p : Relation × List Identity). is_of_column k p.0 && list_any (same_identity id) p.1) ps)
      ≡ list_any (same_claim (claim k id)) (map (claim k) ids ++ flat_map claims_in ps)
  again k id ids ps =
      let here : list_any (same_claim (claim k id)) (map (claim k) ids) ≡ list_any (same_identity id) ids =
      one (claim k id) t k ids
      ∙ (λ i. same_number t t refl i && (same_number k k refl i && list_any (same_identity id) ids)) in
      let there : list_any (same_claim (claim k id)) (flat_map claims_in ps) ≡ list_any (λ (p : Relation × List Identity). is_of_column k p.0 && list_any (same_identity id) p.1) ps =
      pairs (claim k id) t ps ∙ ap (λ b. b && list_any (λ (p : Relation × List Identity). is_of_column k p.0 && list_any (same_identity id) p.1) ps) (same_number t t refl) in
      sym (list_any-append (same_claim (claim k id)) (map (claim k) ids) (flat_map claims_in ps) ∙ (λ i. here i || there i))

  ids_are : (k : ℕ) (ids : List Identity) (ps : List (Relation × List Identity)) →
      (ids_apart k ids ps && all_distinct same_claim (flat_map claims_in ps)) ≡ all_distinct same_claim (map (claim k) ids ++ flat_map claims_in ps)
  ids_are k [] ps = refl
  ids_are k (id ∷ ids) ps =
      and_assoc (not (list_any (same_identity id) ids || list_any (λ (p : Relation × List Identity). is_of_column k p.0 && list_any (same_identity id) p.1) ps)) (ids_apart k ids ps) (all_distinct same_claim (flat_map claims_in ps))
      ∙ (λ i. not (again k id ids ps i) && ids_are k ids ps i)

  link_is : (column : Option ℕ) (ids : List Identity) (ps : List (Relation × List Identity)) →
      (link_apart column ids ps && all_distinct same_claim (flat_map claims_in ps)) ≡ all_distinct same_claim (claims_at t column ids ++ flat_map claims_in ps)
  link_is None ids ps = refl
  link_is (Some k) ids ps = ids_are k ids ps

  -- no claim is made twice
  pub links_are : (ps : List (Relation × List Identity)) → links_apart ps ≡ all_distinct same_claim (flat_map claims_in ps)
  links_are [] = refl
  links_are (p ∷ ps) = (λ i. link_apart (one_to_one_column (p.0).side) p.1 ps && links_are ps i) ∙ link_is (one_to_one_column (p.0).side) p.1 ps

  -- what holds of the claims of each relation holds of all
  pub all_claims : (g : Claim → Bool) (ps : List (Relation × List Identity)) → list_all (λ p. list_all g (claims_in p)) ps ≡ list_all g (flat_map claims_in ps)
  all_claims g [] = refl
  all_claims g (p ∷ ps) = ap (λ b. list_all g (claims_in p) && b) (all_claims g ps) ∙ sym (list_all-append g (claims_in p) (flat_map claims_in ps))
