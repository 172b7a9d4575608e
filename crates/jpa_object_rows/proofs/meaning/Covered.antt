-- Rows of which each is one of an object that stands, or of a next number, are exactly those of the set and the numbers.
use Rattle.std.specs.Prelude.{◌≡◌, ℕ, ◌==◌, List, [], ◌∷◌, ◌++◌, map, Option, Some, None, option_map}
use Rattle.std.proofs.Common.{refl, sym, ap, subst, ◌∙◌, inl, inr}
use Rattle.std.specs.FinMap.{find}
use Rattle.jpa_value.specs.declared.value.Value.{Value}
use Rattle.jpa_value.specs.declared.value.Identity.{Identity}
use Rattle.jpa_value.specs.Value.{identity_cmp}
use Rattle.jpa_model.specs.declared.unit.PersistenceUnit.{PersistenceUnit}
use Rattle.jpa_model.specs.declared.unit.Relation.{Relation}
use Rattle.jpa_model.specs.declared.unit.Side.{Side}
use Rattle.jpa_model.specs.Chains.{root_of}
use Rattle.jpa_rows.specs.rows.Rows.{RowId, Row, Rows, AreRising, table_rows}
use Rattle.jpa_rows.proofs.laws.Facts.{value_in, some_none}
use Rattle.jpa_rows.proofs.laws.Each.{Each}
use Rattle.jpa_rows.proofs.laws.Elements.{Has, from_filter, from_flat_map, has_found}
use Rattle.jpa_rows.proofs.laws.Lists.{all_each}
use Rattle.jpa_object_rows.specs.meaning.View.{PairsAre, SideHas}
use Rattle.jpa_object_rows.proofs.meaning.Bytes.Orders.{identities, are_same_numbers}
use Rattle.jpa_object_rows.specs.meaning.Objects.{pair_id, pair_row, side_pairs, pairs_along, as_pairs}
use Rattle.jpa_object_rows.specs.meaning.Sets.{key_after, identity_of, target_in, if_any, targets_in, AreOnes}
use Rattle.jpa_object_rows.proofs.meaning.Targets.{after_only}

-- a row that stands
abbrev pub Stands : Rows → RowId → Row → Type 0
Stands rows id row = find identity_cmp id rows ≡ Some row

-- ---- pairs

one_target : (o : Option Identity) (t : Identity) → Has (if_any o) t → o ≡ Some t
one_target None t h = absurd h
one_target (Some u) t (inl e) = ap Some e
one_target (Some u) t (inr h) = absurd h

record Followed (table : ℕ) (owner key : List Value) (t : Identity) : Type 0 where
  rest : List Value
  after : key_after owner key ≡ Some rest
  same : identity_of table rest ≡ t

followed : (table : ℕ) (owner key : List Value) (t : Identity) → option_map (identity_of table) (key_after owner key) ≡ Some t → Followed table owner key t
followed table owner key t e = by_answer (key_after owner key) refl e
  where
    by_answer : (o : Option (List Value)) → key_after owner key ≡ o → option_map (identity_of table) o ≡ Some t → Followed table owner key t
    by_answer None a f = absurd (some_none t (sym f))
    by_answer (Some rest) a f = record { rest = rest; after = a; same = value_in (identity_of table rest) t f }

-- a target that is read has its pair
pub target_stands : (m : PersistenceUnit) (rows : Rows) → AreRising rows → (owner : Identity) (join target : ℕ) → AreOnes join rows → (t : Identity) → Has (targets_in m rows owner join target) t
    → Stands rows (pair_id join owner t) pair_row
target_stands m rows rise owner join target ones t h =
    let from = from_flat_map (λ (e : RowId × Row). if_any (target_in m target owner e.0)) (table_rows join rows) t h in
    let e = from.0 in
    let f = followed (root_of m target).table owner.key (e.0).key t (one_target (target_in m target owner e.0) t from.2) in
    let here = from_filter (λ (d : RowId × Row). (d.0).table == join) rows e from.1 in
    let table : (e.0).table ≡ join = are_same_numbers (e.0).table join here.1 in
    let key : (e.0).key ≡ owner.key ++ t.key = sym (after_only owner.key (e.0).key f.rest f.after) ∙ ap (λ (id : Identity). owner.key ++ id.key) f.same in
    let row : e.1 ≡ pair_row = all_each (λ (d : RowId × Row). d.1 ≡ pair_row) (table_rows join rows) ones e from.1 in
    let id : e.0 ≡ pair_id join owner t = λ i. record { table = table i; key = key i } in
    ap (λ z. find identity_cmp z rows) (sym id) ∙ has_found identities rows rise e.0 e.1 here.0 ∙ ap Some row

module _ (m : PersistenceUnit) (rows : Rows) (rise : AreRising rows) (owner : Identity) where
  pairs_stand : (join target : ℕ) → AreOnes join rows → (ts : List Identity) → ((t : Identity) → Has ts t → Has (targets_in m rows owner join target) t) → Each (Stands rows) (as_pairs (map (pair_id join owner) ts))
  pairs_stand join target ones [] within = tt
  pairs_stand join target ones (t ∷ ts) within =
      (target_stands m rows rise owner join target ones t (within t (inl refl)), pairs_stand join target ones ts (λ u k. within u (inr k)))

  pub along_stand : (ps : List (Relation × List Identity)) → ((p : Relation × List Identity) → Has ps p → (join : ℕ) → (p.0).side ≡ Side.ManyToMany join → AreOnes join rows)
      → PairsAre (targets_in m rows owner) ps → Each (Stands rows) (as_pairs (pairs_along owner ps))
  along_stand [] ones h = tt
  along_stand (p ∷ ps) ones h =
      joined (side_pairs owner (p.0).side p.1) (pairs_along owner ps) (by_side (p.0).side (λ join e. ones p (inl refl) join e) h.0) (along_stand ps (λ q k. ones q (inr k)) h.1)
    where
      by_side : (side : Side) → ((join : ℕ) → side ≡ Side.ManyToMany join → AreOnes join rows) → SideHas (targets_in m rows owner) (p.0).target p.1 side → Each (Stands rows) (as_pairs (side_pairs owner side p.1))
      by_side (Side.ManyToOne c) g has = tt
      by_side (Side.OneToOne c) g has = tt
      by_side (Side.OneToOneInverse o) g has = tt
      by_side (Side.OneToMany o) g has = tt
      by_side (Side.ManyToMany join) g has = pairs_stand join (p.0).target (g join refl) p.1 (λ t k. subst (λ ts. Has ts t) (sym has) k)
      by_side (Side.ManyToManyInverse o) g has = tt

      joined : (xs ys : List RowId) → Each (Stands rows) (as_pairs xs) → Each (Stands rows) (as_pairs ys) → Each (Stands rows) (as_pairs (xs ++ ys))
      joined [] ys p q = q
      joined (x ∷ xs) ys p q = (p.0, joined xs ys p.1 q)
