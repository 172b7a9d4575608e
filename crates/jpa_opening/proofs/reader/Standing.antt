-- Where the rows of a store's tables are those of a set and next numbers, its cells stand for them.
use Rattle.std.specs.Prelude.{◌≡◌, ◌≢◌, ℕ, pos, true, ◌==◌, not, List, [], ◌∷◌, map, filter, Contains, Option, Some, None, is_some}
use Rattle.std.proofs.Common.{refl, sym, ap, subst, ◌∙◌, inl, inr}
use Rattle.std.specs.List.{flat_map, AllByRecursion}
use Rattle.jpa_model.specs.Chains.{root_of, relations_of, entity_at}
use Rattle.jpa_behaviour.specs.Behaviour.{World, IsRegular}
use Rattle.jpa_stored.specs.objects.Sets.{StoredSet}
use Rattle.jpa_rows.specs.declared.rows.row.Field.{Field}
use Rattle.jpa_rows.specs.declared.rows.schema.Schema.{Schema}
use Rattle.jpa_rows.specs.declared.rows.schema.TableRule.{TableRule}
use Rattle.jpa_rows.specs.rows.Cells.{Cell, is_own_cell, CanBeHeld, StandFor}
use Rattle.jpa_rows.specs.rows.Rows.{RowId, Row, Rows, AreRising, table_of, table_rows, content_bytes}
use Rattle.jpa_rows.specs.rows.Tables.{schema_of}
use Rattle.jpa_rows.proofs.laws.Facts.{true_false, and_second}
use Rattle.jpa_rows.proofs.laws.Elements.{Has, SameElements, same_back, has_from_contains, contains_from_has, from_flat_map, into_flat_map, from_filter, into_filter}
use Rattle.jpa_rows.proofs.laws.Lists.{all_each, all_from, flat_map-map}
use Rattle.jpa_object_rows.specs.meaning.Flat as flat
use Rattle.jpa_object_rows.specs.meaning.Identities.{root_at, is_within, declarer_at}
use Rattle.jpa_object_rows.specs.meaning.Unambiguous.{IsUnambiguous, is_class, joins_of}
use Rattle.jpa_object_rows.proofs.meaning.Bytes.Orders.{are_same_numbers, same_number}
use Rattle.jpa_object_rows.proofs.meaning.Bytes.Classes.{find_some}
use Rattle.jpa_object_rows.proofs.meaning.Bytes.Keys.{table_is}
use Rattle.jpa_object_rows.proofs.meaning.Bytes.Mapped.{IsMapped}
use Rattle.jpa_object_rows.proofs.meaning.Bytes.MappedClasses.{unambiguous_mapped}
use Rattle.jpa_object_rows.proofs.meaning.Bytes.Others.{join_no_root}
use Rattle.jpa_object_rows.proofs.meaning.Bytes.Reading.{storable}
use Rattle.jpa_object_rows.proofs.meaning.Bytes.Tables.{zero_join}
use Rattle.jpa_object_rows.specs.meaning.Raw as objects
use Rattle.jpa_object_rows.specs.meaning.Raw.{raw, raw_entry, is_key_by, AreNamed, AreWhole, AreFilled, IsRowBy}
use Rattle.jpa_object_rows.specs.meaning.Objects.{pair_row, is_discriminator}
use Rattle.jpa_object_rows.specs.meaning.Sets.{AreOnes, HoldsOnes, AreUnitRows, rows_of}
use Rattle.jpa_object_rows.proofs.meaning.Cells.{cells_exactly}
use Rattle.jpa_object_rows.proofs.meaning.Kept.{join_of_class}
use Rattle.jpa_object_rows.proofs.meaning.Tables.{table_found}
use Rattle.jpa_cells.specs.meaning.Tables.{Tables}
use Rattle.jpa_cells.specs.rowspace.Stored.{cell_of, stored_row, IsEntryBy, AreRowsOf, AreStored}
use Rattle.jpa_cells.proofs.rowspace.Whole.{reads_all}
use Rattle.jpa_opening.specs.reader.Sound.{IsSoundRow, AreSoundRows}
use Rattle.jpa_opening.specs.reader.Judged.{AreOfNone}
use Rattle.jpa_opening.specs.reader.Damage.{cells_of_row, cells_in, AreSoundTables, StandForNone}
use Rattle.jpa_opening.proofs.reader.Lowest.{sound_tables}
use Rattle.jpa_opening.proofs.reader.Reading.{ReadsTables}

-- ---- rows of a schema, in the words of the laws of objects

named_by : (o : Option TableRule) (e : RowId × Row) → IsEntryBy o e → is_key_by o (e.0).key ≡ true
named_by None e h = absurd h
named_by (Some rule) e h = h.named

row_by : (o : Option TableRule) (e : RowId × Row) → IsEntryBy o e → IsRowBy o e.1
row_by None e h = absurd h
row_by (Some rule) e h = h.whole

filled_by : (o : Option TableRule) (e : RowId × Row) → IsEntryBy o e → e.1 ≢ []
filled_by None e h = absurd h
filled_by (Some rule) e h = h.filled

module _ (schema : Schema) where
  abbrev Each : Rows → Type 0
  Each rows = AllByRecursion (λ e. IsEntryBy (table_of schema (e.0).table) e) rows

  are_named : (rows : Rows) → Each rows → AreNamed schema rows
  are_named [] h = tt
  are_named (e ∷ rows) h = (named_by (table_of schema (e.0).table) e h.0, are_named rows h.1)

  pub named_rows : (rows : Rows) → AreRowsOf schema rows → objects.AreRowsOf schema rows
  named_rows rows h = record { rising = h.rising; named = are_named rows h.each }

  are_whole : (rows : Rows) → Each rows → AreWhole schema rows
  are_whole [] h = tt
  are_whole (e ∷ rows) h = (row_by (table_of schema (e.0).table) e h.0, are_whole rows h.1)

  pub whole_rows : (rows : Rows) → AreRowsOf schema rows → AreWhole schema rows
  whole_rows rows h = are_whole rows h.each

  are_filled : (rows : Rows) → Each rows → AreFilled rows
  are_filled [] h = tt
  are_filled (e ∷ rows) h = (filled_by (table_of schema (e.0).table) e h.0, are_filled rows h.1)

  pub filled_rows : (rows : Rows) → AreRowsOf schema rows → AreFilled rows
  filled_rows rows h = are_filled rows h.each

-- ---- sound rows of join tables are those of pairs

module _ (world : World) (clear : IsUnambiguous world.model) where
  -- table 0 is no join table
  zero_apart : (class : ℕ) → is_class world.model class ≡ true → (join : ℕ) → Has (joins_of (relations_of world.model class)) join → 0 ≡ join → ⊥
  zero_apart class is join k zero =
      let m = world.model in
      true_false (sym (and_second (not (is_some _)) _ (join_of_class m clear class is join k))
      ∙ ap (λ j. is_within m (root_of m class).table (declarer_at m j)) (sym zero) ∙ ap (is_within m (root_of m class).table) (zero_join m clear.tables))

  one_sound : (class : ℕ) → is_class world.model class ≡ true → (join : ℕ) → Has (joins_of (relations_of world.model class)) join → (e : RowId × Row) → (e.0).table ≡ join → IsSoundRow world e.0 e.1 → e.1 ≡ pair_row
  one_sound class is join k e own (inl revision) = absurd (zero_apart class is join k (sym (ap (λ (id : RowId). id.table) revision.under) ∙ own))
  one_sound class is join k e own (inr (inl number)) = absurd (zero_apart class is join k (sym (ap (λ (id : RowId). id.table) number.under) ∙ own))
  one_sound class is join k e own (inr (inr (inl pair))) = pair.says
  one_sound class is join k e own (inr (inr (inr main))) =
      let m = world.model in
      let x = main.0 in
      let s = storable world e.0 x main.1 in
      absurd (join_no_root m join (root_of m class).table (root_of m x.class) (join_of_class m clear class is join k)
      (ap (root_at m) (sym own ∙ table_is (root_of m x.class) e.0 s.of_root) ∙ clear.root x.class s.class))

  pub ones_sound : (rows : Rows) → AreSoundRows world rows → HoldsOnes world.model rows
  ones_sound rows s class is =
      all_from (λ join. AreOnes join rows) (joins_of (relations_of world.model class))
      (λ join k. all_from (λ (e : RowId × Row). e.1 ≡ pair_row) (table_rows join rows)
      (λ e g. let r = from_filter (λ (d : RowId × Row). (d.0).table == join) rows e g in
      one_sound class is join k e (are_same_numbers (e.0).table join r.1) (all_each (λ (d : RowId × Row). IsSoundRow world d.0 d.1) rows s e r.0)))

-- ---- the cells of the tables

one_cells : (table : ℕ) (row : List ℕ) (r : Row) → map (λ c. record { table = table; row = row; column = c.column; bytes = c.value }) (map cell_of r) ≡ map (flat.cell_in (record { table = table; row = row })) (map (λ (f : Field). (pos f.column, content_bytes f.content)) r)
one_cells table row [] = refl
one_cells table row (f ∷ r) = ap (λ l. record { table = table; row = row; column = pos f.column; bytes = content_bytes f.content } ∷ l) (one_cells table row r)

row_cells : (n : ℕ) (e : RowId × Row) → (e.0).table ≡ n → cells_of_row n (stored_row e) ≡ flat.cells_of_row (raw_entry e)
row_cells n e own = ap (λ m. cells_of_row m (stored_row e)) (sym own) ∙ one_cells (e.0).table _ e.1

module _ (world : World) (clear : IsUnambiguous world.model) (tables : Tables) (rows : Rows) (named : AreRowsOf (schema_of world.model) rows) (stored : AreStored (schema_of world.model) tables rows) where
  abbrev schema : Schema
  schema = schema_of world.model

  found : (rule : TableRule) → Has schema.tables rule → table_of schema rule.table ≡ Some rule
  found rule k = table_found world.model clear.tables rule k

  table_cells : (rule : TableRule) → Has schema.tables rule → tables (pos rule.table) ≡ map stored_row (table_rows rule.table rows)
  table_cells rule k = stored rule.table (ap is_some (found rule k))

  abbrev flat_cells : List Cell
  flat_cells = flat.cells_of (raw rows)

  from_tables : (c : Cell) → Has (cells_in world tables) c → Has flat_cells c
  from_tables c h =
      let t = from_flat_map (λ (rule : TableRule). flat_map (cells_of_row rule.table) (tables (pos rule.table))) schema.tables c h in
      let n = (t.0).table in
      let in_rows : Has (flat_map (λ e. cells_of_row n (stored_row e)) (table_rows n rows)) c =
      subst (λ l. Has l c) (ap (flat_map (cells_of_row n)) (table_cells t.0 t.1) ∙ flat_map-map (cells_of_row n) stored_row (table_rows n rows)) t.2 in
      let r = from_flat_map (λ e. cells_of_row n (stored_row e)) (table_rows n rows) c in_rows in
      let of = from_filter (λ (d : RowId × Row). (d.0).table == n) rows r.0 r.1 in
      subst (λ l. Has l c) (sym (flat_map-map flat.cells_of_row raw_entry rows))
      (into_flat_map (λ e. flat.cells_of_row (raw_entry e)) rows r.0 c of.0 (subst (λ l. Has l c) (row_cells n r.0 (are_same_numbers ((r.0).0).table n of.1)) r.2))

  rule_by : (o : Option TableRule) (e : RowId × Row) → table_of schema (e.0).table ≡ o → IsEntryBy o e → (rule : TableRule) × Has schema.tables rule × (rule.table == (e.0).table ≡ true)
  rule_by None e is h = absurd h
  rule_by (Some rule) e is h = let f = find_some (λ (t : TableRule). t.table == (e.0).table) schema.tables rule is in (rule, f.0, f.1)

  into_tables : (c : Cell) → Has flat_cells c → Has (cells_in world tables) c
  into_tables c h =
      let r = from_flat_map (λ e. flat.cells_of_row (raw_entry e)) rows c (subst (λ l. Has l c) (flat_map-map flat.cells_of_row raw_entry rows) h) in
      let e = r.0 in
      let of = rule_by (table_of schema (e.0).table) e refl (all_each (λ (d : RowId × Row). IsEntryBy (table_of schema (d.0).table) d) rows named.each e r.1) in
      let n = (of.0).table in
      let same : n ≡ (e.0).table = are_same_numbers n (e.0).table of.2 in
      let own : Has (table_rows n rows) e = into_filter (λ (d : RowId × Row). (d.0).table == n) rows e r.1 (ap (λ k. (e.0).table == k) same ∙ same_number (e.0).table) in
      into_flat_map (λ (rule : TableRule). flat_map (cells_of_row rule.table) (tables (pos rule.table))) schema.tables of.0 c of.1
      (subst (λ l. Has l c) (sym (ap (flat_map (cells_of_row n)) (table_cells of.0 of.1) ∙ flat_map-map (cells_of_row n) stored_row (table_rows n rows)))
      (into_flat_map (λ d. cells_of_row n (stored_row d)) (table_rows n rows) e c own (subst (λ l. Has l c) (sym (row_cells n e (sym same))) r.2)))

  pub same_cells : SameElements (cells_in world tables) flat_cells
  same_cells c = (from_tables c, into_tables c)

-- cells with the same elements stand for the same
module _ (world : World) (xs ys : List Cell) (same : SameElements xs ys) where
  filtered : (c : Cell) → Contains (filter (is_own_cell world.model) xs) c → Contains (filter (is_own_cell world.model) ys) c
  filtered c h =
      let r = from_filter (is_own_cell world.model) xs c (has_from_contains (filter (is_own_cell world.model) xs) c h) in
      contains_from_has (filter (is_own_cell world.model) ys) c (into_filter (is_own_cell world.model) ys c ((same c).0 r.0) r.1)

  filtered_back : (c : Cell) → Contains (filter (is_own_cell world.model) ys) c → Contains (filter (is_own_cell world.model) xs) c
  filtered_back c h =
      let r = from_filter (is_own_cell world.model) ys c (has_from_contains (filter (is_own_cell world.model) ys) c h) in
      contains_from_has (filter (is_own_cell world.model) xs) c (into_filter (is_own_cell world.model) xs c ((same c).1 r.0) r.1)

  pub stand_same : (set : StoredSet) (numbers : List ℕ) → StandFor world xs set numbers → StandFor world ys set numbers
  stand_same set numbers h = record {
    rows = λ c. (λ k. (h.rows c).0 (filtered_back c k), λ k. filtered c ((h.rows c).1 k));
    held = h.held;
  }

-- ---- rows that are read whole, and judged

module _ (world : World) (mapped : IsMapped world.model) (regular : IsRegular world) (discriminators : (class : ℕ) → is_class world.model class ≡ true → is_discriminator (entity_at world.model class) ≡ true)
    (tables : Tables) (rows : Rows) (named : AreRowsOf (schema_of world.model) rows) (stored : AreStored (schema_of world.model) tables rows) (sound : AreSoundRows world rows) where
  clear : IsUnambiguous world.model
  clear = unambiguous_mapped world.model mapped

  unit : AreUnitRows world.model rows
  unit = record {
    named = named_rows (schema_of world.model) rows named;
    whole = whole_rows (schema_of world.model) rows named;
    filled = filled_rows (schema_of world.model) rows named;
    ones = ones_sound world clear rows sound;
  }

  same : SameElements (cells_in world tables) (flat.cells_of (raw rows))
  same = same_cells world clear tables rows named stored

  pub stand_held : (set : StoredSet) (numbers : List ℕ) → CanBeHeld world set numbers → rows ≡ rows_of world set numbers → StandFor world (cells_in world tables) set numbers
  stand_held set numbers held is =
      stand_same world (flat.cells_of (raw rows)) (cells_in world tables) (same_back (cells_in world tables) (flat.cells_of (raw rows)) same) set numbers
      ((cells_exactly world mapped regular discriminators set numbers rows unit).1 (held, is))

  pub held_standing : (set : StoredSet) (numbers : List ℕ) → StandFor world (cells_in world tables) set numbers → CanBeHeld world set numbers × (rows ≡ rows_of world set numbers)
  held_standing set numbers h =
      (cells_exactly world mapped regular discriminators set numbers rows unit).0 (stand_same world (cells_in world tables) (flat.cells_of (raw rows)) same set numbers h)

module _ (world : World) (mapped : IsMapped world.model) (regular : IsRegular world) (discriminators : (class : ℕ) → is_class world.model class ≡ true → is_discriminator (entity_at world.model class) ≡ true)
    (tables : Tables) (rows : Rows) (rising : AreRising rows) (reads : ReadsTables (schema_of world.model) tables rows) (h : AreOfNone world rows) where
  pub stand_none : StandForNone world tables
  stand_none set numbers k =
      let all = reads_all (schema_of world.model) tables rows rising reads in
      let held = held_standing world mapped regular discriminators tables rows all.0 all.1 h.sound set numbers k in
      h.none set numbers held.0 held.1

  pub sound_none : AreSoundTables world tables
  sound_none = sound_tables world tables rows reads h.sound
