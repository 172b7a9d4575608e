-- Identities and pairs have one spelling as row ids, and those of the unit are spelled.
use Rattle.std.specs.Prelude.{◌≡◌, ℕ, Bool, true, false, cond, ◌==◌, ◌&&◌, List, ◌++◌, length, drop, Option, Some, None}
use Rattle.std.proofs.Common.{refl, sym, ap, subst, ◌∙◌}
use Rattle.std.proofs.Math.Seq.{drop-append_seam}
use Rattle.jpa_value.specs.declared.value.Value.{Value}
use Rattle.jpa_value.specs.declared.value.Identity.{Identity}
use Rattle.jpa_value.specs.Value.{identity_cmp}
use Rattle.jpa_model.specs.declared.unit.Root.{Root}
use Rattle.jpa_model.specs.declared.unit.PersistenceUnit.{PersistenceUnit}
use Rattle.jpa_model.specs.Chains.{root_of}
use Rattle.jpa_rows.specs.keys.Keys.{key_bytes}
use Rattle.jpa_rows.specs.keys.Reading.{key_in}
use Rattle.jpa_stored.specs.objects.Sets.{is_identity_of}
use Rattle.jpa_rows.specs.rows.Cells.{names_representable}
use Rattle.jpa_rows.specs.laws.Entries.{Spells, IsSpelledBy}
use Rattle.jpa_rows.proofs.laws.Facts.{some_none, given_if, give_if, and_first, and_second, and_both}
use Rattle.jpa_object_rows.specs.meaning.Rows.{RowId, row_cmp, row_of, same_bytes}
use Rattle.jpa_rows.specs.rows.Tables.{kinds_of}
use Rattle.jpa_object_rows.specs.meaning.Identities.{root_at, identity_at, identity_in, identity_if, pair_row, is_join_of, target_at, target_if, IsSpelled}
use Rattle.jpa_object_rows.proofs.meaning.Bytes.Orders.{identities, row_ids, are_same_bytes, same_bytes_itself, are_same_numbers, same_number}
use Rattle.jpa_object_rows.proofs.meaning.Bytes.Keys.{key_read, table_is}

-- ---- main rows

-- what is read off a row: an identity of the root with the row's table, and the row is its own
record Read (root : Root) (r : RowId) (id : Identity) : Type 0 where
  of_root : is_identity_of root id ≡ true
  representable : names_representable id ≡ true
  own : row_of id ≡ r

read_if : (root : Root) (r : RowId) (o : Option (List Value)) (id : Identity) → identity_if root r o ≡ Some id → Read root r id
read_if root r None id e = absurd (some_none id (sym e))
read_if root r (Some key) id e =
    let guess : Identity = record { table = r.table; key = key } in
    let given = given_if (is_identity_of root guess) (names_representable guess && same_bytes (key_bytes key) r.row) guess id e in
    let bytes = are_same_bytes (key_bytes key) r.row (and_second (names_representable guess) _ given.1) in
    subst (Read root r) given.2 (record { of_root = given.0; representable = and_first (names_representable guess) _ given.1; own = λ i. record { table = r.table; row = bytes i } })

only_in : (o : Option Root) (r : RowId) (id : Identity) → identity_in o r ≡ Some id → row_of id ≡ r
only_in None r id e = absurd (some_none id (sym e))
only_in (Some root) r id e = (read_if root r (key_in (kinds_of root) r.row) id e).own

-- identities are spelled in one way
pub spells : (m : PersistenceUnit) → Spells identity_cmp row_cmp (identity_at m) row_of
spells m = record { keys = identities; rows = row_ids; only = λ r id e. only_in (root_at m r.table) r id e }

-- what it is for an identity to be spelled
pub record Spelling (m : PersistenceUnit) (id : Identity) : Type 0 where
  pub root : Root
  pub at : root_at m id.table ≡ Some root
  pub of_root : is_identity_of root id ≡ true
  pub representable : names_representable id ≡ true

spelling_in : (m : PersistenceUnit) (o : Option Root) (id : Identity) → root_at m id.table ≡ o → identity_in o (row_of id) ≡ Some id → Spelling m id
spelling_in m None id at e = absurd (some_none id (sym e))
spelling_in m (Some root) id at e =
    let read = read_if root (row_of id) (key_in (kinds_of root) (key_bytes id.key)) id e in
    record { root = root; at = at; of_root = read.of_root; representable = read.representable }

pub spelling : (m : PersistenceUnit) (id : Identity) → IsSpelled m id → Spelling m id
spelling m id spelled = spelling_in m (root_at m id.table) id refl spelled

-- each representable identity of a root of the unit is spelled
pub spelled : (m : PersistenceUnit) (root : Root) (id : Identity) → root_at m id.table ≡ Some root → is_identity_of root id ≡ true → names_representable id ≡ true → IsSpelled m id
spelled m root id at h g =
    ap (λ o. identity_in o (row_of id)) at
    ∙ ap (identity_if root (row_of id)) (key_read root id h g)
    ∙ give_if (is_identity_of root id) _ id h (and_both (names_representable id) _ g (same_bytes_itself (key_bytes id.key)))

-- ---- pairs

target_only_if : (root : Root) (owner : Identity) (r : RowId) (o : Option (List Value)) (t : Identity) → target_if root owner r o ≡ Some t
    → (is_identity_of root t ≡ true) × (names_representable t ≡ true) × (key_bytes owner.key ++ key_bytes t.key ≡ r.row)
target_only_if root owner r None t e = absurd (some_none t (sym e))
target_only_if root owner r (Some key) t e =
    let guess : Identity = record { table = root.table; key = key } in
    let given = given_if (is_identity_of root guess) (names_representable guess && same_bytes (key_bytes owner.key ++ key_bytes key) r.row) guess t e in
    let bytes = are_same_bytes (key_bytes owner.key ++ key_bytes key) r.row (and_second (names_representable guess) _ given.1) in
    subst (λ z. (is_identity_of root z ≡ true) × (names_representable z ≡ true) × (key_bytes owner.key ++ key_bytes z.key ≡ r.row)) given.2
    (given.0, and_first (names_representable guess) _ given.1, bytes)

-- a row that is read as a pair
pub record Paired (m : PersistenceUnit) (target : ℕ) (owner : Identity) (join : ℕ) (r : RowId) (t : Identity) : Type 0 where
  pub table : r.table ≡ join
  pub joins : is_join_of m join owner.table ≡ true
  pub of_target : is_identity_of (root_of m target) t ≡ true
  pub representable : names_representable t ≡ true
  pub own : pair_row join owner t ≡ r

pub paired : (m : PersistenceUnit) (target : ℕ) (owner : Identity) (join : ℕ) (r : RowId) (t : Identity) → target_at m target owner join r ≡ Some t → Paired m target owner join r t
paired m target owner join r t e = by_test ((r.table == join) && is_join_of m join owner.table) refl e
  where
    by_test : (b : Bool) → (r.table == join) && is_join_of m join owner.table ≡ b → cond b (target_if (root_of m target) owner r (key_in (kinds_of (root_of m target)) (drop (length (key_bytes owner.key)) r.row))) None ≡ Some t → Paired m target owner join r t
    by_test true h e =
        let tables = are_same_numbers r.table join (and_first (r.table == join) _ h) in
        let given = target_only_if (root_of m target) owner r (key_in (kinds_of (root_of m target)) (drop (length (key_bytes owner.key)) r.row)) t e in
        record {
          table = tables;
          joins = and_second (r.table == join) _ h;
          of_target = given.0;
          representable = given.1;
          own = λ i. record { table = sym tables i; row = given.2 i };
        }
    by_test false h e = absurd (some_none t (sym e))

-- pairs of one owner are spelled in one way
pub pair_spells : (m : PersistenceUnit) (target : ℕ) (owner : Identity) (join : ℕ) → Spells identity_cmp row_cmp (target_at m target owner join) (pair_row join owner)
pair_spells m target owner join = record { keys = identities; rows = row_ids; only = λ r t e. (paired m target owner join r t e).own }

-- each representable target is spelled
pub pair_spelled : (m : PersistenceUnit) (target : ℕ) (owner t : Identity) (join : ℕ) → is_join_of m join owner.table ≡ true → is_identity_of (root_of m target) t ≡ true → names_representable t ≡ true
    → IsSpelledBy (target_at m target owner join) (pair_row join owner) t
pair_spelled m target owner t join joins h g =
    let root = root_of m target in
    let row = key_bytes owner.key ++ key_bytes t.key in
    let bytes : drop (length (key_bytes owner.key)) row ≡ key_bytes t.key = drop-append_seam (key_bytes owner.key) (key_bytes t.key) in
    let tables : root.table ≡ t.table = sym (table_is root t h) in
    ap (λ b. cond b (target_if root owner (pair_row join owner t) (key_in (kinds_of root) (drop (length (key_bytes owner.key)) row))) None) (and_both (join == join) _ (same_number join) joins)
    ∙ ap (λ bs. target_if root owner (pair_row join owner t) (key_in (kinds_of root) bs)) bytes
    ∙ ap (target_if root owner (pair_row join owner t)) (key_read root t h g)
    ∙ ap (λ (z : Identity). cond (is_identity_of root z && (names_representable z && same_bytes (key_bytes owner.key ++ key_bytes z.key) row)) (Some z) None) (λ i. record { table = tables i; key = t.key })
    ∙ give_if (is_identity_of root t) _ t h (and_both (names_representable t) _ g (same_bytes_itself row))
