-- Rows of the unit's tables stay such when an object is put over them or dropped from them, and rows of join tables stay pairs.
use Rattle.std.specs.Prelude.{◌≡◌, ◌≢◌, ℕ, pos, Bool, true, false, cond, ◌==◌, ◌&&◌, not, is_some, List, [], ◌∷◌, ◌++◌, map}
use Rattle.std.proofs.Common.{refl, sym, ap, subst, ◌∙◌, inl, inr}
use Rattle.std.specs.List.{zip, AllByRecursion}
use Rattle.std.specs.FinMap.{put}
use Rattle.jpa_value.specs.declared.value.Identity.{Identity}
use Rattle.jpa_value.specs.Value.{identity_cmp, is_i64}
use Rattle.jpa_model.specs.declared.unit.PersistenceUnit.{PersistenceUnit}
use Rattle.jpa_model.specs.declared.unit.Relation.{Relation}
use Rattle.jpa_model.specs.declared.unit.Side.{Side}
use Rattle.jpa_model.specs.Chains.{root_of, entity_at, relations_of}
use Rattle.jpa_behaviour.specs.Behaviour.{World, IsRegular}
use Rattle.jpa_stored.specs.declared.objects.stored.Stored.{Stored}
use Rattle.jpa_rows.specs.declared.rows.schema.Schema.{Schema}
use Rattle.jpa_rows.specs.rows.Rows.{RowId, Row, Rows, table_rows, IsRowOf, table_of}
use Rattle.jpa_rows.specs.rows.Tables.{next_numbers, schema_of}
use Rattle.jpa_rows.proofs.laws.Facts.{and_both, and_second, true_false}
use Rattle.jpa_rows.proofs.laws.Maps.{put_rises}
use Rattle.jpa_rows.proofs.laws.Each.{Each, each_put}
use Rattle.jpa_rows.proofs.laws.Elements.{Has}
use Rattle.jpa_rows.proofs.laws.Lists.{all_each, all_from}
use Rattle.jpa_object_rows.specs.meaning.Unambiguous.{IsUnambiguous, is_class, joins_of}
use Rattle.jpa_object_rows.specs.meaning.Identities.{root_at, declarer_at, is_within, is_join_of}
use Rattle.jpa_object_rows.specs.meaning.View.{is_storable}
use Rattle.jpa_object_rows.proofs.meaning.Bytes.Orders.{identities, are_same_numbers}
use Rattle.jpa_object_rows.proofs.meaning.Bytes.Keys.{table_is}
use Rattle.jpa_object_rows.proofs.meaning.Bytes.Mapped.{IsMapped}
use Rattle.jpa_object_rows.proofs.meaning.Bytes.MappedClasses.{unambiguous_mapped}
use Rattle.jpa_object_rows.proofs.meaning.Bytes.Others.{join_no_root}
use Rattle.jpa_object_rows.proofs.meaning.Bytes.Reading.{storable}
use Rattle.jpa_object_rows.proofs.meaning.Bytes.Tables.{zero_join}
use Rattle.jpa_object_rows.specs.meaning.Raw.{AreWhole, AreFilled, IsRowBy}
use Rattle.jpa_object_rows.specs.meaning.Objects.{is_discriminator, pair_id, pair_row, side_pairs, pairs_along, pair_ids, number_id, number_row, with_rows, as_pairs, object_entries, object_rows, with_object}
use Rattle.jpa_object_rows.specs.meaning.Sets.{AreOnes, HoldsOnes, AreUnitRows}
use Rattle.jpa_object_rows.proofs.meaning.Tables.{join_table_found}
use Rattle.jpa_object_rows.proofs.meaning.Raw.{named_put}
use Rattle.jpa_object_rows.proofs.meaning.Named.{number_named}
use Rattle.jpa_object_rows.proofs.meaning.Sets.{put_rows}
use Rattle.jpa_object_rows.proofs.meaning.Whole.{main_row_in, main_row_filled}

-- ---- what holds of each row

module _ (P : RowId → Row → Type 0) where
  pub over_each : (es rows : Rows) → Each P es → Each P rows → Each P (with_rows es rows)
  over_each [] rows h g = g
  over_each (e ∷ es) rows h g = each_put identities P e.0 e.1 (with_rows es rows) h.0 (over_each es rows h.1 g)

  -- of each pair along relations
  pub along_each : (owner : Identity) (relations : List Relation) (owned : List (List Identity))
      → ((r : Relation) → Has relations r → (join : ℕ) → r.side ≡ Side.ManyToMany join → (t : Identity) → P (pair_id join owner t) pair_row) → Each P (as_pairs (pairs_along owner (zip relations owned)))
  along_each owner [] owned h = tt
  along_each owner (r ∷ relations) [] h = tt
  along_each owner (r ∷ relations) (ids ∷ owned) h =
      joined (side_pairs owner r.side ids) (pairs_along owner (zip relations owned)) (by_side r.side (λ join e t. h r (inl refl) join e t)) (along_each owner relations owned (λ s k. h s (inr k)))
    where
      pairs_each : (join : ℕ) → ((t : Identity) → P (pair_id join owner t) pair_row) → (ts : List Identity) → Each P (as_pairs (map (pair_id join owner) ts))
      pairs_each join g [] = tt
      pairs_each join g (t ∷ ts) = (g t, pairs_each join g ts)

      by_side : (side : Side) → ((join : ℕ) → side ≡ Side.ManyToMany join → (t : Identity) → P (pair_id join owner t) pair_row) → Each P (as_pairs (side_pairs owner side ids))
      by_side (Side.ManyToOne c) g = tt
      by_side (Side.OneToOne c) g = tt
      by_side (Side.OneToOneInverse o) g = tt
      by_side (Side.OneToMany o) g = tt
      by_side (Side.ManyToMany join) g = pairs_each join (g join refl) ids
      by_side (Side.ManyToManyInverse o) g = tt

      joined : (xs ys : List RowId) → Each P (as_pairs xs) → Each P (as_pairs ys) → Each P (as_pairs (xs ++ ys))
      joined [] ys p q = q
      joined (x ∷ xs) ys p q = (p.0, joined xs ys p.1 q)

-- ---- rows of their tables

abbrev InTable : Schema → RowId → Row → Type 0
InTable schema id row = IsRowBy (table_of schema id.table) row

module _ (world : World) (mapped : IsMapped world.model) (regular : IsRegular world) (id : Identity) (x : Stored) (storable_x : is_storable world id x ≡ true)
    (named : is_discriminator (entity_at world.model x.class) ≡ true) where
  clear : IsUnambiguous world.model
  clear = unambiguous_mapped world.model mapped

  pub entries_whole : AreWhole (schema_of world.model) (object_entries world id x)
  entries_whole = (
    main_row_in world mapped regular id x storable_x named,
    along_each (InTable (schema_of world.model)) id (relations_of world.model x.class) x.owned
        (λ r h join side t. subst (λ o. IsRowBy o pair_row) (sym (join_table_found world.model clear x.class (storable world id x storable_x).class r h join side)) (record { rising = tt; each = refl })),
  )

  pub object_rows_whole : AreWhole (schema_of world.model) (object_rows world id x)
  object_rows_whole = over_each (InTable (schema_of world.model)) (object_entries world id x) [] entries_whole tt

  pub put_whole : (rows : Rows) → AreWhole (schema_of world.model) rows → AreWhole (schema_of world.model) (with_object world id x rows)
  put_whole rows h = over_each (InTable (schema_of world.model)) (object_rows world id x) rows object_rows_whole h

pub number_row_whole : (k : ℕ) → is_i64 (pos k) ≡ true → IsRowOf next_numbers (number_row k)
number_row_whole k h = record { rising = tt; each = and_both (is_i64 (pos k) && true) _ (and_both (is_i64 (pos k)) _ h refl) refl }

pub number_whole : (m : PersistenceUnit) (table k : ℕ) → is_i64 (pos k) ≡ true → (rows : Rows) → AreWhole (schema_of m) rows → AreWhole (schema_of m) (put identity_cmp (number_id table) (number_row k) rows)
number_whole m table k small rows h = each_put identities (InTable (schema_of m)) (number_id table) (number_row k) rows (number_row_whole k small) h

-- ---- rows of join tables

-- a row of this table is that of a pair
abbrev pub OneIn : ℕ → RowId → Row → Type 0
OneIn join id row = id.table == join ≡ true → row ≡ pair_row

ones_each : (join : ℕ) (rows : Rows) → AreOnes join rows → Each (OneIn join) rows
ones_each join [] h = tt
ones_each join (e ∷ rows) h = by_test ((e.0).table == join) refl h (λ g. ones_each join rows g)
  where
    by_test : (b : Bool) → (e.0).table == join ≡ b → AllByRecursion (λ d. d.1 ≡ pair_row) (cond b (e ∷ table_rows join rows) (table_rows join rows)) → (AreOnes join rows → Each (OneIn join) rows) → Each (OneIn join) (e ∷ rows)
    by_test true t h rest = (λ k. h.0, rest h.1)
    by_test false t h rest = (λ k. absurd (true_false (sym k ∙ t)), rest h)

each_ones : (join : ℕ) (rows : Rows) → Each (OneIn join) rows → AreOnes join rows
each_ones join [] h = tt
each_ones join (e ∷ rows) h = by_test ((e.0).table == join) refl (each_ones join rows h.1)
  where
    by_test : (b : Bool) → (e.0).table == join ≡ b → AreOnes join rows → AllByRecursion (λ d. d.1 ≡ pair_row) (cond b (e ∷ table_rows join rows) (table_rows join rows))
    by_test true t rest = (h.0 t, rest)
    by_test false t rest = rest

kept_ones : (m : PersistenceUnit) (rows news : Rows) → ((class : ℕ) → is_class m class ≡ true → (join : ℕ) → Has (joins_of (relations_of m class)) join → Each (OneIn join) rows → Each (OneIn join) news)
    → HoldsOnes m rows → HoldsOnes m news
kept_ones m rows news kept h class is =
    all_from (λ join. AreOnes join news) (joins_of (relations_of m class))
    (λ join k. each_ones join news (kept class is join k (ones_each join rows (all_each (λ join. AreOnes join rows) (joins_of (relations_of m class)) (h class is) join k))))

-- a join table of a class is no root's, nor that of next numbers
pub join_of_class : (m : PersistenceUnit) → IsUnambiguous m → (class : ℕ) → is_class m class ≡ true → (join : ℕ) → Has (joins_of (relations_of m class)) join → is_join_of m join (root_of m class).table ≡ true
join_of_class m clear class is join k = all_each (λ join. is_join_of m join (root_of m class).table ≡ true) (joins_of (relations_of m class)) (clear.joins class is) join k

pairs_ones : (join : ℕ) (ids : List RowId) → Each (OneIn join) (as_pairs ids)
pairs_ones join [] = tt
pairs_ones join (id ∷ ids) = (λ k. refl, pairs_ones join ids)

put_ones : (world : World) → IsUnambiguous world.model → (id : Identity) (x : Stored) → is_storable world id x ≡ true → (rows : Rows) → HoldsOnes world.model rows → HoldsOnes world.model (with_object world id x rows)
put_ones world clear id x g rows h =
    let m = world.model in
    let s = storable world id x g in
    kept_ones m rows (with_object world id x rows)
    (λ class is join k each.
    let main = λ (same : id.table == join ≡ true). join_no_root m join (root_of m class).table (root_of m x.class) (join_of_class m clear class is join k)
    (ap (root_at m) (sym (are_same_numbers id.table join same) ∙ table_is (root_of m x.class) id s.of_root) ∙ clear.root x.class s.class) in
    over_each (OneIn join) (object_rows world id x) rows
    (over_each (OneIn join) (object_entries world id x) [] (λ same. absurd (main same), pairs_ones join (pair_ids world id x)) tt) each) h

number_ones : (m : PersistenceUnit) → IsUnambiguous m → (table : ℕ) (row : Row) (rows : Rows) → HoldsOnes m rows → HoldsOnes m (put identity_cmp (number_id table) row rows)
number_ones m clear table row rows h =
    kept_ones m rows (put identity_cmp (number_id table) row rows)
    (λ class is join k each. each_put identities (OneIn join) (number_id table) row rows
    (λ same. absurd (true_false (sym (and_second (not (is_some (root_at m join))) _ (join_of_class m clear class is join k))
    ∙ ap (λ j. is_within m (root_of m class).table (declarer_at m j)) (sym (are_same_numbers 0 join same)) ∙ ap (is_within m (root_of m class).table) (zero_join m clear.tables)))) each) h

-- ---- no row is empty
abbrev Filled : RowId → Row → Type 0
Filled id row = row ≢ []

pub object_rows_filled : (world : World) (id : Identity) (x : Stored) → AreFilled (object_rows world id x)
object_rows_filled world id x = over_each Filled (object_entries world id x) [] (main_row_filled world x, pairs_filled (pair_ids world id x)) tt
  where
    pairs_filled : (ids : List RowId) → AreFilled (as_pairs ids)
    pairs_filled [] = tt
    pairs_filled (i ∷ ids) = (λ e. cc, pairs_filled ids)

-- ---- all together

module _ (world : World) (mapped : IsMapped world.model) (regular : IsRegular world) (id : Identity) (x : Stored) (storable_x : is_storable world id x ≡ true)
    (named : is_discriminator (entity_at world.model x.class) ≡ true) (rows : Rows) (h : AreUnitRows world.model rows) where
  pub unit_put : AreUnitRows world.model (with_object world id x rows)
  unit_put =
      let clear = unambiguous_mapped world.model mapped in
      record {
        named = put_rows world clear id x storable_x rows h.named;
        whole = put_whole world mapped regular id x storable_x named rows h.whole;
        filled = over_each Filled (object_rows world id x) rows (object_rows_filled world id x) h.filled;
        ones = put_ones world clear id x storable_x rows h.ones;
      }

pub unit_numbered : (m : PersistenceUnit) → IsUnambiguous m → (table k : ℕ) → is_i64 (pos table) ≡ true → is_i64 (pos k) ≡ true → (rows : Rows) → AreUnitRows m rows
    → AreUnitRows m (put identity_cmp (number_id table) (number_row k) rows)
unit_numbered m clear table k small_table small rows h = record {
  named = record {
    rising = put_rises identities (number_id table) (number_row k) rows (h.named).rising;
    named = named_put (schema_of m) (number_id table) (number_named m table small_table) (number_row k) rows (h.named).named;
  };
  whole = number_whole m table k small rows h.whole;
  filled = each_put identities Filled (number_id table) (number_row k) rows (λ e. cc) h.filled;
  ones = number_ones m clear table (number_row k) rows h.ones;
}
