-- Where the cells of tables stand for a set and next numbers, each of their rows is sound: that of an object, a pair, a next number or the revision.
use Rattle.std.specs.Prelude.{◌≡◌, ◌≢◌, ◌==◌, ◌||◌, ℕ, pos, true, false, cond, nat_lt, ◌<◌, T, List, [], ◌∷◌, length, map, filter, slice_index_or, Some}
use Rattle.std.proofs.Common.{refl, sym, ap, subst, ◌∙◌, inl, inr, suc, arith}
use Rattle.std.proofs.lemmas.Bool.Decides.{nat_tests}
use Rattle.std.specs.List.{flat_map, list_any, AllByRecursion}
use Rattle.std.specs.FinMap.{is_sorted}
use Rattle.std.specs.FinMap.Entries.{below_all, is_sorted-where_key, where_key}
use Rattle.std.specs.Cmp.{tied_itself, nat_cmp_total}
use Rattle.std.specs.Ordering.{int_cmp, ordering_then, is_lt}
use Rattle.std.specs.declared.cmp.Ordering.TheVariants.{Less}
use Rattle.sqlite_trees.specs.Tree.{IsAscending}
use Rattle.jpa_value.specs.declared.value.Identity.{Identity}
use Rattle.jpa_model.specs.declared.unit.Entity.{Entity}
use Rattle.jpa_model.specs.declared.unit.PersistenceUnit.{PersistenceUnit}
use Rattle.jpa_model.specs.Chains.{entity_at, no_entity, relations_of}
use Rattle.jpa_behaviour.specs.Behaviour.{World, IsRegular}
use Rattle.jpa_stored.specs.declared.objects.stored.Stored.{Stored}
use Rattle.jpa_stored.specs.objects.Sets.{StoredSet}
use Rattle.jpa_rows.specs.declared.rows.schema.TableRule.{TableRule}
use Rattle.jpa_rows.specs.rows.Cells.{Cell, is_own_cell, are_numbers, tables_of, StandFor}
use Rattle.jpa_rows.specs.rows.Rows.{RowId, Row, Rows, table_of, table_rows}
use Rattle.jpa_rows.specs.rows.Tables.{schema_of}
use Rattle.jpa_rows.proofs.laws.Facts.{and_first, and_second, both_hold}
use Rattle.jpa_rows.proofs.laws.Each.{Each}
use Rattle.jpa_rows.proofs.laws.Elements.{Has, append_has, SameElements, has_from_contains, contains_from_has, from_flat_map, into_flat_map, from_map, from_filter, into_filter}
use Rattle.jpa_rows.proofs.laws.Lists.{all_each, all_from, all_where, has_any, flat_map-map, flat_map_same}
use Rattle.jpa_object_rows.specs.meaning.Flat as flat
use Rattle.jpa_object_rows.specs.meaning.Flat.{IsRow, IsNormal}
use Rattle.jpa_object_rows.specs.meaning.Rows as by_bytes
use Rattle.jpa_object_rows.specs.meaning.Rows.{row_cmp}
use Rattle.jpa_object_rows.specs.meaning.Unambiguous.{IsUnambiguous, is_class}
use Rattle.jpa_object_rows.specs.meaning.View.{is_storable, AreStorable}
use Rattle.jpa_object_rows.proofs.meaning.Bytes.Classes.{is_below, find_some}
use Rattle.jpa_object_rows.proofs.meaning.Bytes.Mapped.{IsMapped}
use Rattle.jpa_object_rows.proofs.meaning.Bytes.MappedClasses.{unambiguous_mapped}
use Rattle.jpa_object_rows.proofs.meaning.Bytes.OneRows.{one_rows}
use Rattle.jpa_object_rows.proofs.meaning.Bytes.Orders.{are_same_numbers, same_number}
use Rattle.jpa_object_rows.proofs.meaning.Bytes.Reading.{storable}
use Rattle.jpa_object_rows.proofs.meaning.Bytes.Rounds.{held_storable}
use Rattle.jpa_object_rows.specs.meaning.Raw.{raw, raw_entry, is_key_by, IsRowBy}
use Rattle.jpa_object_rows.specs.meaning.Objects.{is_discriminator, number_row, object_entries, object_rows}
use Rattle.jpa_rows.specs.rows.NextNumbers.{base_of, number_rows}
use Rattle.jpa_object_rows.specs.meaning.Sets.{with_set, rows_of, AreUnitRows}
use Rattle.jpa_object_rows.proofs.meaning.Cells.{raw_normal, rows_stand_for}
use Rattle.jpa_object_rows.proofs.meaning.Exact.{rows_of_unit}
use Rattle.jpa_object_rows.proofs.meaning.Kept.{over_each, along_each}
use Rattle.jpa_object_rows.proofs.meaning.NextNumbers.{zipped_first, entry_given, number_each, rows_each}
use Rattle.jpa_object_rows.proofs.meaning.Stored.{own_join}
use Rattle.jpa_object_rows.proofs.meaning.Tables.{unit_numbers}
use Rattle.jpa_cells.specs.declared.meaning.Cell.{Cell as StoredCell}
use Rattle.jpa_cells.specs.declared.meaning.CellRow.{CellRow}
use Rattle.jpa_cells.specs.meaning.Tables.{Tables, key_cmp, cell_cmp, row_of, AreRows}
use Rattle.jpa_cells.specs.rowspace.Stored.{stored_row}
use Rattle.jpa_cells.specs.rowspace.Reading.{columns_of, cells_from}
use Rattle.jpa_cells.proofs.rowspace.Ids.{numbered, IsIn}
use Rattle.jpa_cells.proofs.rowspace.Pairs.{spelled_cells}
use Rattle.jpa_cells.proofs.rowspace.Readings.{spells_own}
use Rattle.jpa_opening.specs.reader.Sound.{IsSoundRow, AreSoundRows}
use Rattle.jpa_opening.specs.reader.Damage.{cells_of_row, cells_in, IsSoundCells, IsSoundTable, IsLowestDamage, StandForNone}
use Rattle.jpa_opening.proofs.reader.TableKinds.{declared_above, declared_join}

-- ---- the rows of a set and of next numbers are sound

at_place : {A : Type 0} (xs : List A) (d x : A) → Has xs x → (k : ℕ) × (k < length xs) × (slice_index_or xs k d ≡ x)
at_place [] d x h = absurd h
at_place (y ∷ ys) d x (inl e) = (0, omega arith, e)
at_place (y ∷ ys) d x (inr h) = let r = at_place ys d x h in let less = r.1 in (suc r.0, omega arith, r.2)

above_one : (k : ℕ) → nat_lt 0 k ≡ true → k == 1 ≡ false → nat_lt 1 k ≡ true
above_one k h g = grind (arith, nat_tests)

module _ (world : World) (mapped : IsMapped world.model) where
  abbrev m : PersistenceUnit
  m = world.model

  clear : IsUnambiguous m
  clear = unambiguous_mapped m mapped

  abbrev Sound : RowId → Row → Type 0
  Sound id row = IsSoundRow world id row

  object_sound : (id : Identity) (x : Stored) → is_storable world id x ≡ true → Each Sound (object_rows world id x)
  object_sound id x g =
      let s = storable world id x g in
      over_each Sound (object_entries world id x) [] (
        inr (inr (inr (x, g, refl))),
        along_each Sound id (relations_of m x.class) x.owned
            (λ r k join side t.
            let a = declared_above m x.class join (own_join m clear x.class s.class id s.of_root s.named r k join side) in
            inr (inr (inl (record { join = declared_join m join a.above (mapped.within x.class s.class a.above a.in_chain) a.declares; says = refl })))),
      )
      tt

  set_sound : (set : StoredSet) → AreStorable world set → (base : Rows) → Each Sound base → Each Sound (with_set world set base)
  set_sound [] h base g = g
  set_sound (e ∷ set) h base g = over_each Sound (object_rows world e.0 e.1) (with_set world set base) (object_sound e.0 e.1 h.0) (set_sound set h.1 base g)

  base_sound : Each Sound (base_of m)
  base_sound =
      number_each Sound 0 m.revision
      (λ later. let second = are_same_numbers m.revision 2 (ap (λ b. b || m.revision == 2) (sym later) ∙ clear.revision) in inl (record { second = second; under = refl; says = ap number_row second }))

  numbers_sound : (numbers : List ℕ) → are_numbers m numbers ≡ true → Each Sound (number_rows m numbers)
  numbers_sound numbers are =
      rows_each Sound m numbers
      (λ p h root k.
      let c = at_place m.entities no_entity p.0 (zipped_first m.entities numbers p h) in
      let given = entry_given m numbers are p h root k in
      inr (inl (record {
        class = c.0;
        root = root;
        next = p.1;
        within = is_below c.0 (length m.entities) c.1;
        origin = ap (λ (d : Entity). d.origin) c.2 ∙ k.origin;
        generated = k.generated;
        under = refl;
        says = refl;
        more = above_one p.1 (and_first (nat_lt 0 p.1) _ given) k.more;
        small = and_second (nat_lt 0 p.1) _ given;
      })))
      base_sound

  pub rows_sound : (set : StoredSet) (numbers : List ℕ) → AreStorable world set → are_numbers m numbers ≡ true → AreSoundRows world (rows_of world set numbers)
  rows_sound set numbers h are = set_sound set h (number_rows m numbers) (numbers_sound numbers are)

-- ---- the rows of a table, by their bytes

abbrev row_in : ℕ → CellRow → by_bytes.Row
row_in n r = (record { table = n; row = r.row }, columns_of r.cells)

abbrev row_back : by_bytes.Row → CellRow
row_back r = row_of (r.0).row (cells_from r.1)

module _ (n : ℕ) where
  columns_back : (cells : List StoredCell) → cells_from (columns_of cells) ≡ cells
  columns_back [] = refl
  columns_back (c ∷ cells) = ap (λ l. c ∷ l) (columns_back cells)

  stored_back : (stored : List CellRow) → map row_back (map (row_in n) stored) ≡ stored
  stored_back [] = refl
  stored_back (r ∷ stored) = λ i. row_of r.row (columns_back r.cells i) ∷ stored_back stored i

  entries_back : (es : Rows) → map row_back (raw es) ≡ map stored_row es
  entries_back [] = refl
  entries_back (e ∷ es) = λ i. row_of (stored_row e).row (spelled_cells e.1 i) ∷ entries_back es i

  cells_shown : (row : List ℕ) (cells : List StoredCell)
      → map (flat.cell_in (record { table = n; row = row })) (columns_of cells) ≡ map (λ c. record { table = n; row = row; column = c.column; bytes = c.value }) cells
  cells_shown row [] = refl
  cells_shown row (c ∷ cells) = ap (λ l. record { table = n; row = row; column = c.column; bytes = c.value } ∷ l) (cells_shown row cells)

  all_shown : (stored : List CellRow) → flat.cells_of (map (row_in n) stored) ≡ flat_map (cells_of_row n) stored
  all_shown stored =
      flat_map-map flat.cells_of_row (row_in n) stored ∙ flat_map_same (λ r. flat.cells_of_row (row_in n r)) (cells_of_row n) stored (λ r k. cells_shown r.row r.cells)

  table_shown : (stored : List CellRow) (c : Cell) → Has (flat_map (cells_of_row n) stored) c → c.table ≡ n
  table_shown stored c h =
      let r = from_flat_map (cells_of_row n) stored c h in
      let d = from_map (λ (d : StoredCell). record { table = n; row = (r.0).row; column = d.column; bytes = d.value }) (r.0).cells c r.2 in
      ap (λ (c : Cell). c.table) (sym d.2)

  -- ---- rise as those of the table

  same_row : (a b : List ℕ) → row_cmp (record { table = n; row = a }) (record { table = n; row = b }) ≡ key_cmp a b
  same_row a b = ap (λ o. ordering_then o (key_cmp a b)) (tied_itself nat_cmp_total n)

  below_rows : (r : CellRow) (stored : List CellRow) → AllByRecursion (λ (s : CellRow). key_cmp r.row s.row ≡ Less) stored → T (below_all row_cmp (row_in n r).0 (map (row_in n) stored))
  below_rows r [] h = tt
  below_rows r (s ∷ stored) h = both_hold _ _ (subst (λ o. T (is_lt o)) (sym (same_row r.row s.row ∙ h.0)) tt) (below_rows r stored h.1)

  rows_rise : (stored : List CellRow) → IsAscending (λ (a b : CellRow). key_cmp a.row b.row ≡ Less) stored → T (is_sorted row_cmp (map (row_in n) stored))
  rows_rise [] h = tt
  rows_rise (r ∷ stored) h = both_hold _ _ (below_rows r stored h.0) (rows_rise stored h.1)

  below_columns : (c : StoredCell) (cells : List StoredCell) → AllByRecursion (λ (d : StoredCell). cell_cmp c d ≡ Less) cells → T (below_all int_cmp c.column (columns_of cells))
  below_columns c [] h = tt
  below_columns c (d ∷ cells) h = both_hold _ _ (subst (λ o. T (is_lt o)) (sym h.0) tt) (below_columns c cells h.1)

  columns_rise : (cells : List StoredCell) → IsAscending (λ (a b : StoredCell). cell_cmp a b ≡ Less) cells → T (is_sorted int_cmp (columns_of cells))
  columns_rise [] h = tt
  columns_rise (c ∷ cells) h = both_hold _ _ (below_columns c cells h.0) (columns_rise cells h.1)

  columns_filled : (cells : List StoredCell) → (length cells ≡ 0 → ⊥) → columns_of cells ≢ []
  columns_filled [] h e = h refl
  columns_filled (c ∷ cells) h e = cc

  each_row : (stored : List CellRow) → AllByRecursion (λ (r : CellRow). length r.cells ≡ 0 → ⊥) stored → AllByRecursion (λ (r : CellRow). IsAscending (λ (a b : StoredCell). cell_cmp a b ≡ Less) r.cells) stored
      → AllByRecursion (λ (row : by_bytes.Row). IsRow row.1) (map (row_in n) stored)
  each_row [] full columns = tt
  each_row (r ∷ stored) full columns = (record { rising = columns_rise r.cells columns.0; filled = columns_filled r.cells full.0 }, each_row stored full.1 columns.1)

  table_normal : (stored : List CellRow) → AreRows stored → IsNormal (map (row_in n) stored)
  table_normal stored h = record { rising = rows_rise stored h.rise; each = each_row stored h.full h.columns }

  -- ---- and so do those of the table among all rows

  raw_table : (es : Rows) → raw (table_rows n es) ≡ where_key row_cmp (λ r. r.table == n) (raw es)
  raw_table [] = refl
  raw_table (e ∷ es) =
      elim ((e.0).table == n) as (λ b. raw (cond b (e ∷ table_rows n es) (table_rows n es)) ≡ cond b (raw_entry e ∷ where_key row_cmp (λ r. r.table == n) (raw es)) (where_key row_cmp (λ r. r.table == n) (raw es))) [
        | true ↦ ap (λ l. raw_entry e ∷ l) (raw_table es)
        | false ↦ raw_table es
      ]

  own_normal : (es : Rows) → IsNormal (raw es) → IsNormal (raw (table_rows n es))
  own_normal es h =
      subst IsNormal (sym (raw_table es))
      (record { rising = is_sorted-where_key row_cmp (λ r. r.table == n) (raw es) h.rising; each = all_where (λ (row : by_bytes.Row). IsRow row.1) (λ (row : by_bytes.Row). (row.0).table == n) (raw es) h.each })

  table_of_cell : (e : RowId × Row) (c : Cell) → Has (flat.cells_of_row (raw_entry e)) c → c.table ≡ (e.0).table
  table_of_cell e c h = let d = from_map (flat.cell_in (raw_entry e).0) (raw_entry e).1 c h in ap (λ (c : Cell). c.table) (sym d.2)

  into_table : (es : Rows) (c : Cell) → Has (flat.cells_of (raw es)) c → c.table ≡ n → Has (flat.cells_of (raw (table_rows n es))) c
  into_table es c h own =
      let r = from_flat_map (λ e. flat.cells_of_row (raw_entry e)) es c (subst (λ l. Has l c) (flat_map-map flat.cells_of_row raw_entry es) h) in
      let e = r.0 in
      let here = into_filter (λ (d : RowId × Row). (d.0).table == n) es e r.1 (ap (λ t. t == n) (sym (table_of_cell e c r.2) ∙ own) ∙ same_number n) in
      subst (λ l. Has l c) (sym (flat_map-map flat.cells_of_row raw_entry (table_rows n es))) (into_flat_map (λ e. flat.cells_of_row (raw_entry e)) (table_rows n es) e c here r.2)

  from_table : (es : Rows) (c : Cell) → Has (flat.cells_of (raw (table_rows n es))) c → Has (flat.cells_of (raw es)) c × (c.table ≡ n)
  from_table es c h =
      let r = from_flat_map (λ e. flat.cells_of_row (raw_entry e)) (table_rows n es) c (subst (λ l. Has l c) (flat_map-map flat.cells_of_row raw_entry (table_rows n es)) h) in
      let e = r.0 in
      let of = from_filter (λ (d : RowId × Row). (d.0).table == n) es e r.1 in (
        subst (λ l. Has l c) (sym (flat_map-map flat.cells_of_row raw_entry es)) (into_flat_map (λ e. flat.cells_of_row (raw_entry e)) es e c of.0 r.2),
        table_of_cell e c r.2 ∙ are_same_numbers (e.0).table n of.1,
      )

-- ---- where cells stand for a set

module _ (world : World) (mapped : IsMapped world.model) (regular : IsRegular world) (discriminators : (class : ℕ) → is_class world.model class ≡ true → is_discriminator (entity_at world.model class) ≡ true)
    (tables : Tables) (set : StoredSet) (numbers : List ℕ) (stand : StandFor world (cells_in world tables) set numbers) where
  abbrev es : Rows
  es = rows_of world set numbers

  are_storable : AreStorable world set
  are_storable = held_storable world set numbers stand.held

  unit : AreUnitRows world.model es
  unit = rows_of_unit world mapped regular discriminators numbers (stand.held).numbered set are_storable

  spelled : StandFor world (flat.cells_of (raw es)) set numbers
  spelled = rows_stand_for world mapped regular discriminators set numbers stand.held

  -- cells that stand for the set have the own cells of others that do
  has_own : (xs ys : List Cell) → StandFor world xs set numbers → StandFor world ys set numbers → (c : Cell) → is_own_cell world.model c ≡ true → Has xs c → Has ys c
  has_own xs ys h g c own k =
      let in_set = (h.rows c).0 (contains_from_has (filter (is_own_cell world.model) xs) c (into_filter (is_own_cell world.model) xs c k own)) in
      (from_filter (is_own_cell world.model) ys c (has_from_contains (filter (is_own_cell world.model) ys) c ((g.rows c).1 in_set))).0

  module _ (rule : TableRule) (known : Has (schema_of world.model).tables rule) (found : table_of (schema_of world.model) rule.table ≡ Some rule) (are : AreRows (tables (pos rule.table))) where
    abbrev n : ℕ
    n = rule.table

    abbrev stored : List CellRow
    stored = tables (pos n)

    own_number : list_any (λ t. t == n) (tables_of world.model) ≡ true
    own_number =
        has_any (λ t. t == n) (tables_of world.model) n
        (subst (λ ns. Has ns n) (unit_numbers world.model) (into_flat_map (λ (u : TableRule). u.table ∷ []) (schema_of world.model).tables rule n known (inl refl))) (same_number n)

    own_cell : (c : Cell) → c.table ≡ n → is_own_cell world.model c ≡ true
    own_cell c e = ap (λ k. list_any (λ t. t == k) (tables_of world.model)) e ∙ own_number

    into_rows : (c : Cell) → Has (flat_map (cells_of_row n) stored) c → Has (flat.cells_of (raw (table_rows n es))) c
    into_rows c h =
        let e = table_shown n stored c h in
        let here = into_flat_map (λ (u : TableRule). flat_map (cells_of_row u.table) (tables (pos u.table))) (schema_of world.model).tables rule c known h in
        into_table n es c (has_own (cells_in world tables) (flat.cells_of (raw es)) stand spelled c (own_cell c e) here) e

    from_rows : (c : Cell) → Has (flat.cells_of (raw (table_rows n es))) c → Has (flat_map (cells_of_row n) stored) c
    from_rows c h =
        let k = from_table n es c h in
        let here = has_own (flat.cells_of (raw es)) (cells_in world tables) spelled stand c (own_cell c k.1) k.0 in
        let t = from_flat_map (λ (u : TableRule). flat_map (cells_of_row u.table) (tables (pos u.table))) (schema_of world.model).tables c here in
        let u = (t.0).table in
        subst (λ v. Has (flat_map (cells_of_row v) (tables (pos v))) c) (sym (table_shown u (tables (pos u)) c t.2) ∙ k.1) t.2

    same_cells : SameElements (flat.cells_of (map (row_in n) stored)) (flat.cells_of (raw (table_rows n es)))
    same_cells c = (λ h. into_rows c (subst (λ l. Has l c) (all_shown n stored) h), λ h. subst (λ l. Has l c) (sym (all_shown n stored)) (from_rows c h))

    -- the table has the rows of the set
    own_rows : stored ≡ map stored_row (table_rows n es)
    own_rows =
        sym (stored_back n stored)
        ∙ ap (map row_back) (one_rows (map (row_in n) stored) (raw (table_rows n es)) (table_normal n stored are) (own_normal n es (raw_normal world.model es unit)) same_cells)
        ∙ entries_back n (table_rows n es)

    entry_sound : (e : RowId × Row) → Has (table_rows n es) e → IsSoundCells world rule (stored_row e)
    entry_sound e k =
        let of = from_filter (λ (d : RowId × Row). (d.0).table == n) es e k in
        let own = are_same_numbers (e.0).table n of.1 in
        let by : table_of (schema_of world.model) (e.0).table ≡ Some rule = ap (table_of (schema_of world.model)) own ∙ found in
        let in_table : IsIn rule e = record {
          entry = record {
            named = subst (λ o. is_key_by o (e.0).key ≡ true) by (all_each (λ (d : RowId × Row). is_key_by (table_of (schema_of world.model) (d.0).table) (d.0).key ≡ true) es (unit.named).named e of.0);
            whole = subst (λ o. IsRowBy o e.1) by (all_each (λ (d : RowId × Row). IsRowBy (table_of (schema_of world.model) (d.0).table) d.1) es unit.whole e of.0);
            filled = all_each (λ (d : RowId × Row). d.1 ≢ []) es unit.filled e of.0;
          };
          own = own;
        } in
        (e, spells_own rule e in_table, all_each (λ (d : RowId × Row). IsSoundRow world d.0 d.1) es (rows_sound world mapped set numbers are_storable (stand.held).numbered) e of.0)

    table_sound : IsSoundTable world tables rule
    table_sound =
        subst (AllByRecursion (IsSoundCells world rule)) (sym own_rows)
        (all_from (IsSoundCells world rule) (map stored_row (table_rows n es))
        (λ r k. let d = from_map stored_row (table_rows n es) r k in subst (IsSoundCells world rule) d.2 (entry_sound d.0 d.1)))

  -- The law: each row of a table is sound.
  pub standing_sound : (t : ℕ) (rule : TableRule) → table_of (schema_of world.model) t ≡ Some rule → AreRows (tables (pos t)) → IsSoundTable world tables rule
  standing_sound t rule is are =
      let same = numbered (schema_of world.model) t rule is in
      let f = find_some (λ (u : TableRule). u.table == t) (schema_of world.model).tables rule is in
      table_sound rule f.0 (ap (table_of (schema_of world.model)) same ∙ is) (subst (λ u. AreRows (tables (pos u))) (sym same) are)

-- So where a row is the lowest damaged one, the cells stand for no set.
pub damaged_stand_for_none : (world : World) → IsMapped world.model → IsRegular world → ((class : ℕ) → is_class world.model class ≡ true → is_discriminator (entity_at world.model class) ≡ true)
    → (tables : Tables) (t : ℕ) (bytes : List ℕ) → AreRows (tables (pos t)) → IsLowestDamage world tables t bytes → StandForNone world tables
damaged_stand_for_none world mapped regular discriminators tables t bytes are d set numbers stand =
    let sound = standing_sound world mapped regular discriminators tables set numbers stand t d.rule d.own are in
    let here : AllByRecursion (IsSoundCells world d.rule) (tables (pos t)) = subst (λ u. AllByRecursion (IsSoundCells world d.rule) (tables (pos u))) (numbered (schema_of world.model) t d.rule d.own) sound in
    d.not_sound
    (all_each (IsSoundCells world d.rule) (tables (pos t)) here d.damaged
    (subst (λ l. Has l d.damaged) (sym d.split) (append_has d.before (d.damaged ∷ d.after) d.damaged (inr (inl refl)))))
