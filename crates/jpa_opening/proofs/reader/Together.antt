-- Sound rows are those of a set and of next numbers that stand together with the revision, and of no others.
use Rattle.std.specs.Prelude.{◌≡◌, ◌⊎◌, ◌==◌, ◌&&◌, ◌||◌, ℕ, pos, Bool, true, false, nat_lt, T, List, [], ◌∷◌, map, Option, Some, None, is_some, cond, length, ◌<◌}
use Rattle.std.proofs.Common.{refl, sym, ap, subst, ◌∙◌, inl, inr, arith}
use Rattle.std.proofs.lemmas.Bool.Decides.{nat_tests}
use Rattle.std.specs.List.{zip, list_all, AllByRecursion}
use Rattle.std.specs.FinMap.{find, is_sorted}
use Rattle.jpa_value.specs.declared.value.Value.{Value}
use Rattle.jpa_value.specs.declared.value.Identity.{Identity}
use Rattle.jpa_value.specs.Value.{identity_cmp, is_i64}
use Rattle.jpa_model.specs.declared.unit.Attribute.{Attribute}
use Rattle.jpa_model.specs.declared.unit.Entity.{Entity}
use Rattle.jpa_model.specs.declared.unit.Origin.{Origin}
use Rattle.jpa_model.specs.declared.unit.PersistenceUnit.{PersistenceUnit}
use Rattle.jpa_model.specs.Chains.{entity_at, root_of, attributes_of, chain}
use Rattle.jpa_behaviour.specs.Behaviour.{World, IsRegular}
use Rattle.jpa_stored.specs.declared.objects.stored.Stored.{Stored}
use Rattle.jpa_stored.specs.objects.Sets.{StoredSet, stored_at, each_fits, is_of, is_shaped, all_shaped, IsSound}
use Rattle.jpa_rows.specs.rows.Cells.{CanBeHeld, is_next, are_numbers, all_representable, all_pass, names_representable, holds_representable, passes, keys_given}
use Rattle.jpa_rows.specs.rows.Rows.{RowId, Row, Rows}
use Rattle.jpa_rows.specs.rows.Tables.{schema_of}
use Rattle.jpa_rows.proofs.laws.Facts.{true_false, and_first, and_second, and_both}
use Rattle.jpa_rows.proofs.laws.Each.{Each}
use Rattle.jpa_rows.proofs.laws.Elements.{Has, found_has, has_found}
use Rattle.jpa_rows.proofs.laws.Lists.{all_each, all_from, any_has, each_passes}
use Rattle.jpa_rows.proofs.laws.Maps.{found_put}
use Rattle.jpa_object_rows.specs.meaning.Unambiguous.{IsUnambiguous, is_class}
use Rattle.jpa_object_rows.specs.meaning.View.{is_storable, AreStorable}
use Rattle.jpa_object_rows.proofs.meaning.Bytes.Classes.{below, has_entity}
use Rattle.jpa_object_rows.proofs.meaning.Bytes.Kept.{each_storable}
use Rattle.jpa_object_rows.proofs.meaning.Bytes.Mapped.{IsMapped}
use Rattle.jpa_object_rows.proofs.meaning.Bytes.MappedClasses.{unambiguous_mapped}
use Rattle.jpa_object_rows.proofs.meaning.Bytes.Orders.{identities, are_same_numbers}
use Rattle.jpa_object_rows.proofs.meaning.Bytes.Reading.{storable, object_spelled}
use Rattle.jpa_object_rows.proofs.meaning.Bytes.Rounds.{held_storable}
use Rattle.jpa_object_rows.specs.meaning.Raw.{raw, AreRowsOf, AreWhole, AreFilled}
use Rattle.jpa_object_rows.specs.meaning.Objects.{is_discriminator, number_id, number_row}
use Rattle.jpa_object_rows.specs.meaning.Sets.{set_in, number_in, next_at, numbers_in, AreUnitRows, rows_of}
use Rattle.jpa_rows.specs.rows.NextNumbers.{base_of}
use Rattle.jpa_object_rows.proofs.meaning.NextNumbers.{number_each}
use Rattle.jpa_object_rows.proofs.meaning.Clean.{IsObject, IsPairOf, IsNumber, IsRevision, IsKnown, known_rows}
use Rattle.jpa_object_rows.proofs.meaning.Covered.{Stands}
use Rattle.jpa_object_rows.proofs.meaning.Exact.{set_read_in, numbers_read_in}
use Rattle.jpa_object_rows.proofs.meaning.Marked.{revision_found, later_base}
use Rattle.jpa_object_rows.proofs.meaning.Named.{object_named}
use Rattle.jpa_object_rows.proofs.meaning.Read.{stands_in}
use Rattle.jpa_object_rows.proofs.meaning.Sets.{set_in_rises}
use Rattle.jpa_object_rows.specs.mapper.Mapped.{IsMainRow}
use Rattle.jpa_opening.specs.reader.Sound.{IsNumberRow, IsRevisionRow, IsPairRow, IsSoundRow, AreSoundRows}
use Rattle.jpa_opening.specs.reader.Owners.{owner_of, is_owned_by, is_owned, are_owned}
use Rattle.jpa_opening.specs.reader.Judged.{AreHeld, AreOfNone}
use Rattle.jpa_opening.specs.reader.Read.{AreObjectsOf, AreOfClasses}
use Rattle.jpa_opening.specs.reader.Together.{is_marked, StandTogether}
use Rattle.jpa_opening.proofs.reader.TableKinds.{declarer, kind_in_zero, revision_at}
use Rattle.jpa_opening.proofs.reader.Built.{sound_ones}
use Rattle.jpa_opening.proofs.reader.Owned.{owned_pair, rows_owned}

-- ---- small facts

above_one : (k : ℕ) → nat_lt 1 k ≡ true → k == 1 ≡ false
above_one k h = grind (arith, nat_tests)

above_zero : (k : ℕ) → nat_lt 1 k ≡ true → nat_lt 0 k ≡ true
above_zero k h = grind (arith, nat_tests)

list_from : {X : Type 0} (p : X → Bool) (xs : List X) → AllByRecursion (λ x. p x ≡ true) xs → list_all p xs ≡ true
list_from p [] h = refl
list_from p (x ∷ xs) h = and_both (p x) _ h.0 (list_from p xs h.1)

under : (m : PersistenceUnit) (o : Option Stored) (class : ℕ) → is_of m o class ≡ true → (x : Stored) × (o ≡ Some x) × (is_of m (Some x) class ≡ true)
under m None class h = absurd (true_false (sym h))
under m (Some x) class h = (x, refl, h)

some_of : {A : Type 0} (o : Option A) → is_some o ≡ true → (x : A) × (o ≡ Some x)
some_of None h = absurd (true_false (sym h))
some_of (Some x) h = (x, refl)

-- ---- storable objects, as a store can hold them

storable_split : (world : World) (set : StoredSet) → AreStorable world set → record {
  representable : all_representable set ≡ true;
  shaped : all_shaped world.model set ≡ true;
  converted : all_pass world set ≡ true;
}
storable_split world [] h = record { representable = refl; shaped = refl; converted = refl }
storable_split world (e ∷ set) h =
    let m = world.model in
    let passing = list_all (λ (a : Attribute × Value). passes world a.0 a.1) (zip (attributes_of m (e.1).class) (e.1).values) in
    let rest = storable_split world set h.1 in
    let real = and_second (is_shaped m e.0 e.1) _ h.0 in
    let holds = and_second (names_representable e.0) _ real in
    record {
      representable = and_both (names_representable e.0 && holds_representable e.1) _ (and_both (names_representable e.0) _ (and_first (names_representable e.0) _ real) (and_first (holds_representable e.1) _ holds)) rest.representable;
      shaped = and_both (is_shaped m e.0 e.1) _ (and_first (is_shaped m e.0 e.1) _ h.0) rest.shaped;
      converted = and_both passing _ (and_second (holds_representable e.1) _ holds) rest.converted;
    }

pub of_classes : (world : World) (set : StoredSet) → AreStorable world set → AreOfClasses world.model set
of_classes world set h =
    all_from (λ (e : Identity × Stored). (e.1).class < length (world.model).entities) set
    (λ e k. below (e.1).class (length (world.model).entities) (storable world e.0 e.1 (all_each (λ (e : Identity × Stored). is_storable world e.0 e.1 ≡ true) set h e k)).class)

pub read_storable : (world : World) (rows : Rows) (set : StoredSet) → set ≡ set_in world rows → AreStorable world set
read_storable world rows set e = subst (AreStorable world) (sym e) (each_storable world (raw rows))

module _ (world : World) (mapped : IsMapped world.model) (regular : IsRegular world) (named : (class : ℕ) → is_class world.model class ≡ true → is_discriminator (entity_at world.model class) ≡ true)
    (rows : Rows) (h : AreRowsOf (schema_of world.model) rows) (whole : AreWhole (schema_of world.model) rows) (filled : AreFilled rows) where
  abbrev m : PersistenceUnit
  m = world.model

  clear : IsUnambiguous m
  clear = unambiguous_mapped m mapped

  module _ (sound : AreSoundRows world rows) where
    unit : AreUnitRows m rows
    unit = record { named = h; whole = whole; filled = filled; ones = sound_ones world mapped rows sound }

    sound_row : (id : RowId) (row : Row) → Has rows (id, row) → IsSoundRow world id row
    sound_row id row k = all_each (λ (e : RowId × Row). IsSoundRow world e.0 e.1) rows sound (id, row) k

    -- ---- next numbers

    is_next_number : (table : ℕ) (o : Option Row) → find identity_cmp (number_id table) rows ≡ o → nat_lt 0 (number_in o) && is_i64 (pos (number_in o)) ≡ true
    is_next_number table None e = refl
    is_next_number table (Some row) e =
        by_kind (kind_in_zero world clear (number_id table) row refl (sound_row (number_id table) row (found_has identities (number_id table) row rows e)))
      where
        by_kind : IsRevisionRow m (number_id table) row ⊎ IsNumberRow m (number_id table) row → nat_lt 0 (number_in (Some row)) && is_i64 (pos (number_in (Some row))) ≡ true
        by_kind (inl r) = ap (λ r. nat_lt 0 (number_in (Some r)) && is_i64 (pos (number_in (Some r)))) r.says
        by_kind (inr n) = ap (λ r. nat_lt 0 (number_in (Some r)) && is_i64 (pos (number_in (Some r)))) n.says ∙ and_both (nat_lt 0 n.next) _ (above_zero n.next n.more) n.small

    next_is : (origin : Origin) → is_next origin (next_at rows origin) ≡ true
    next_is (Origin.Extends parent) = refl
    next_is (Origin.Root root) =
        let k = number_in (find identity_cmp (number_id root.table) rows) in
        elim root.generated as (λ b. cond b (nat_lt 0 (cond b k 1) && is_i64 (pos (cond b k 1))) (cond b k 1 == 1) ≡ true) [
          | true ↦ is_next_number root.table (find identity_cmp (number_id root.table) rows) refl
          | false ↦ refl
        ]

    next_each : (entities : List Entity) → each_fits (λ e k. is_next e.origin k) entities (map (λ e. next_at rows e.origin) entities) ≡ true
    next_each [] = refl
    next_each (e ∷ entities) = and_both (is_next e.origin (next_at rows e.origin)) _ (next_is e.origin) (next_each entities)

    numbers_are : are_numbers m (numbers_in m rows) ≡ true
    numbers_are = next_each m.entities

    number_known : (id : RowId) (row : Row) → Has rows (id, row) → IsNumberRow m id row → IsNumber m rows id
    number_known id row k n =
        let found : find identity_cmp (number_id (n.root).table) rows ≡ Some row = ap (λ i. find identity_cmp i rows) (sym n.under) ∙ has_found identities rows h.rising id row k in
        record {
          entity = entity_at m n.class;
          there = has_entity m n.class n.within;
          root = n.root;
          origin = n.origin;
          generated = n.generated;
          same = n.under;
          more = ap (λ o. number_in o == 1) (found ∙ ap Some n.says) ∙ above_one n.next n.more;
        }

    -- ---- the revision

    revision_known : (id : RowId) (row : Row) → IsRevisionRow m id row → IsRevision m id
    revision_known id row r = record { same = r.under; later = ap (λ n. n == 1) r.second }

    revision_stands : is_marked m rows ≡ true → m.revision == 1 ≡ false → Stands rows (number_id 0) (number_row m.revision)
    revision_stands marked later =
        let there = some_of (find identity_cmp (number_id 0) rows) (ap (λ b. b || is_some (find identity_cmp (number_id 0) rows)) (sym later) ∙ marked) in
        let r = revision_at world clear there.0 (sound_row (number_id 0) there.0 (found_has identities (number_id 0) there.0 rows there.1)) in
        there.1 ∙ ap Some (r.says ∙ ap number_row (sym r.second))

    stood : is_marked m rows ≡ true → Each (Stands rows) (base_of m)
    stood marked = number_each (Stands rows) 0 m.revision (revision_stands marked)

    -- ---- objects and pairs

    module _ (set : StoredSet) (is : AreObjectsOf world rows set) where
      object_known : (id : RowId) (row : Row) → Has rows (id, row) → IsMainRow world id row → IsObject world rows id
      object_known id row k main =
          let there = all_each (λ (e : RowId × Row). IsMainRow world e.0 e.1 → is_some (stored_at set e.0) ≡ true) rows is.each (id, row) k main in
          let x = some_of (stored_at set id) there in
          record { object = x.0; stands = ap (λ s. stored_at s id) (sym is.same) ∙ x.1 }

      pair_known : (id : RowId) (row : Row) → Has rows (id, row) → IsPairRow m id row → is_owned m set id ≡ true → IsPairOf world rows id
      pair_known id row k pair owned =
          let d = declarer m id.table pair.join in
          let root = root_of m d.class in
          let owner = owner_of root id.key in
          let o = under m (stored_at set owner) d.class (ap (is_owned_by m set id.key) (sym d.at) ∙ owned) in
          let x = o.0 in
          let at : stored_at (set_in world rows) owner ≡ Some x = ap (λ s. stored_at s owner) (sym is.same) ∙ o.1 in
          let g = all_each (λ (e : Identity × Stored). is_storable world e.0 e.1 ≡ true) (set_in world rows) (each_storable world (raw rows)) (owner, x) (found_has identities owner x (set_in world rows) at) in
          let s = stands_in world mapped regular rows h whole unit.ones named owner x (object_named world clear owner x g) (object_spelled world clear owner x g) at in
          let c = any_has (λ c. c == d.class) (chain m x.class) o.2 in
          record {
            owner = owner;
            object = x;
            stands = at;
            pair = owned_pair m rows id row k root x (storable world owner x g).owned (s.1).pairs d.class (subst (Has (chain m x.class)) (are_same_numbers c.0 d.class c.2) c.1) (d.does).declares;
          }

      module _ (together : are_owned m set rows ≡ true) (marked : is_marked m rows ≡ true) where
        known : (e : RowId × Row) → Has rows e → IsSoundRow world e.0 e.1 → IsKnown world rows e.0
        known e k (inl revision) = inr (inr (inr (revision_known e.0 e.1 revision)))
        known e k (inr (inl n)) = inr (inr (inl (number_known e.0 e.1 k n)))
        known e k (inr (inr (inl pair))) = inr (inl (pair_known e.0 e.1 k pair (each_passes (λ (e : RowId × Row). is_owned m set e.0) rows together e k)))
        known e k (inr (inr (inr main))) = inl (object_known e.0 e.1 k main)

        rows_same : rows ≡ rows_of world (set_in world rows) (numbers_in m rows)
        rows_same = known_rows world mapped regular named rows unit (stood marked) numbers_are (all_from (λ (e : RowId × Row). IsKnown world rows e.0) rows (λ e k. known e k (sound_row e.0 e.1 k)))

      -- ---- what is judged

      module _ (numbers : List ℕ) (numbered : numbers ≡ numbers_in m rows) where
        pub held : StandTogether m rows set numbers → AreHeld world rows (record { set = set; numbers = numbers })
        held together =
            let split = storable_split world set (read_storable world rows set is.same) in
            record {
              sound = sound;
              held = record {
                representable = split.representable;
                numbered = ap (are_numbers m) numbered ∙ numbers_are;
                rising = subst (λ s. T (is_sorted identity_cmp s)) (sym is.same) (set_in_rises world rows);
                shaped = split.shaped;
                sound = together.sound;
                converted = split.converted;
                given = together.given;
              };
              same = rows_same together.owned together.marked ∙ (λ i. rows_of world (sym is.same i) (sym numbered i));
            }

        -- the rows of any set have the row of the revision
        marked_of : (other : StoredSet) (others : List ℕ) → AreStorable world other → is_marked m (rows_of world other others) ≡ true
        marked_of other others h =
            elim (m.revision == 1) as (λ b. m.revision == 1 ≡ b → b || is_some (find identity_cmp (number_id 0) (rows_of world other others)) ≡ true) [
              | true ↦ λ first. refl
              | false ↦ λ later.
                  ap is_some (revision_found world clear other others h ∙ ap (find identity_cmp (number_id 0)) (later_base m later) ∙ found_put identities (number_id 0) (number_row m.revision) [])
            ] refl

        -- whatever the rows are those of stands together
        together_of : (other : StoredSet) (others : List ℕ) → CanBeHeld world other others → rows ≡ rows_of world other others → StandTogether m rows set numbers
        together_of other others can e =
            let storables = held_storable world other others can in
            let same_set : other ≡ set = sym (set_read_in world mapped regular named others can.numbered other can.rising storables) ∙ ap (set_in world) (sym e) ∙ sym is.same in
            let same_numbers : others ≡ numbers = sym (numbers_read_in world mapped regular named others can.numbered other storables) ∙ ap (numbers_in m) (sym e) ∙ sym numbered in
            let owned : are_owned m other rows ≡ true = ap (are_owned m other) e ∙ list_from (λ (d : RowId × Row). is_owned m other d.0) (rows_of world other others) (rows_owned world mapped other can.rising storables others) in
            record {
              owned = ap (λ s. are_owned m s rows) (sym same_set) ∙ owned;
              sound = subst (IsSound m) same_set can.sound;
              given = (λ i. keys_given m (sym same_set i) (sym same_numbers i)) ∙ can.given;
              marked = ap (is_marked m) e ∙ marked_of other others storables;
            }

        pub of_none : (StandTogether m rows set numbers → ⊥) → AreOfNone world rows
        of_none apart = record { sound = sound; none = λ other others can e. apart (together_of other others can e) }
