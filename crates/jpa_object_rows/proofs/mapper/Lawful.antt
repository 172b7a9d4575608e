-- What is written for an object is read as the object, and cells stand for at most one set and next numbers.
use Rattle.std.specs.Prelude.{◌≡◌, true, List, [], ◌∷◌, Some, option_map}
use Rattle.std.proofs.Common.{refl, sym, ap, subst, ◌∙◌}
use Rattle.std.specs.FinMap.{find}
use Rattle.std.specs.List.{zip}
use Rattle.jpa_value.specs.declared.value.Identity.{Identity}
use Rattle.jpa_value.specs.Value.{identity_cmp}
use Rattle.jpa_model.specs.declared.unit.PersistenceUnit.{PersistenceUnit}
use Rattle.jpa_model.specs.declared.unit.Relation.{Relation}
use Rattle.jpa_model.specs.declared.unit.Side.{Side}
use Rattle.jpa_model.specs.Chains.{entity_at, relations_of}
use Rattle.jpa_behaviour.specs.Behaviour.{World, IsRegular}
use Rattle.jpa_stored.specs.declared.objects.stored.Stored.{Stored}
use Rattle.jpa_stored.specs.objects.Sets.{stored_at}
use Rattle.jpa_rows.specs.rows.Cells.{StandFor}
use Rattle.jpa_rows.specs.rows.Rows.{Rows}
use Rattle.jpa_rows.specs.rows.Rows as typed
use Rattle.jpa_rows.proofs.laws.Lists.{all_from}
use Rattle.jpa_rows.proofs.laws.Maps.{found_put}
use Rattle.jpa_object_rows.specs.meaning.Flat.{cells_of}
use Rattle.jpa_object_rows.specs.meaning.Unambiguous.{IsUnambiguous, joins_of}
use Rattle.jpa_object_rows.specs.meaning.View.{is_storable, pairs_of, PairsAre, SideHas, HoldsNone}
use Rattle.jpa_object_rows.proofs.meaning.Bytes.Described.{unambiguous, described_mapped}
use Rattle.jpa_object_rows.proofs.meaning.Bytes.Mapped.{IsMapped}
use Rattle.jpa_object_rows.proofs.meaning.Bytes.MappedClasses.{unambiguous_mapped}
use Rattle.jpa_object_rows.proofs.meaning.Bytes.Orders.{identities}
use Rattle.jpa_object_rows.proofs.meaning.Bytes.Reading.{Storable, storable, object_spelled}
use Rattle.jpa_object_rows.proofs.meaning.Bytes.Rounds.{held_storable}
use Rattle.jpa_object_rows.proofs.meaning.Bytes.Whole.{read_pairs}
use Rattle.jpa_object_rows.specs.meaning.Raw.{raw}
use Rattle.jpa_object_rows.specs.meaning.Objects.{main_row, is_discriminator, pair_ids, as_pairs, with_rows, object_entries, object_rows, with_object}
use Rattle.jpa_object_rows.specs.meaning.Sets.{set_in, numbers_in, targets_in, AreOnes, AreUnitRows, rows_of}
use Rattle.jpa_object_rows.proofs.meaning.Cells.{rows_only, rows_stand_for}
use Rattle.jpa_object_rows.proofs.meaning.Exact.{rows_of_unit, set_read_in, numbers_read_in}
use Rattle.jpa_object_rows.proofs.meaning.Kept.{unit_put}
use Rattle.jpa_object_rows.proofs.meaning.Named.{object_named}
use Rattle.jpa_object_rows.proofs.meaning.Over.{over_together}
use Rattle.jpa_object_rows.proofs.meaning.Places.{one_object}
use Rattle.jpa_object_rows.proofs.meaning.Sets.{stored_read_in, set_put_in}
use Rattle.jpa_object_rows.proofs.meaning.Stored.{pairs_typed}
use Rattle.jpa_object_rows.proofs.mapper.OwnPairs.{own_ones}
use Rattle.jpa_object_rows.specs.mapper.Laws.{StandsWhole, ReadsWhatIsWritten, ReadsOne, StandForOne}

-- ---- one object

pub reads_one : ReadsOne
reads_one world id row pairs x y described regular h g =
    one_object world (unambiguous world.model described) regular id x y h.storable g.storable pairs h.pairs g.pairs (h.main ∙ sym g.main)

-- ---- written and read

no_rows : (m : PersistenceUnit) → AreUnitRows m []
no_rows m = record {
  named = record { rising = tt; named = tt };
  whole = tt;
  filled = tt;
  ones = λ class is. all_from (λ join. AreOnes join []) (joins_of (relations_of m class)) (λ join k. tt);
}

none_held : (m : PersistenceUnit) (owner : Identity) (relations : List Relation) → HoldsNone m [] owner relations
none_held m owner [] = tt
none_held m owner (r ∷ relations) = (by_side r.side, none_held m owner relations)
  where
    by_side : (side : Side) → SideHas (pairs_of m [] owner) r.target [] side
    by_side (Side.ManyToOne c) = tt
    by_side (Side.OneToOne c) = tt
    by_side (Side.OneToOneInverse o) = tt
    by_side (Side.OneToMany o) = tt
    by_side (Side.ManyToMany join) = refl
    by_side (Side.ManyToManyInverse o) = tt

module _ (world : World) (mapped : IsMapped world.model) (regular : IsRegular world) (id : Identity) (x : Stored) (named : is_discriminator (entity_at world.model x.class) ≡ true)
    (g : is_storable world id x ≡ true) where
  clear : IsUnambiguous world.model
  clear = unambiguous_mapped world.model mapped

  own : Storable world id x
  own = storable world id x g

  abbrev alone : Rows
  alone = with_object world id x []

  unit : AreUnitRows world.model alone
  unit = unit_put world mapped regular id x g named [] (no_rows world.model)

  stands : stored_at (set_in world alone) id ≡ Some x
  stands =
      ap (λ s. stored_at s id) (set_put_in world clear id x g [] (no_rows world.model).named regular (none_held world.model id (relations_of world.model x.class)))
      ∙ found_put identities id x (set_in world [])

  pairs_stand : PairsAre (targets_in world.model alone id) (zip (relations_of world.model x.class) x.owned)
  pairs_stand =
      pairs_typed world.model clear x.class own.class id own.of_root own.named alone unit.named unit.ones x.owned
      (read_pairs world (raw alone) id x (option_map typed.cells_of (find identity_cmp id alone))
      (sym (stored_read_in world alone unit.named id (object_named world clear id x g) (object_spelled world clear id x g)) ∙ stands))

  same : alone ≡ object_rows world id x
  same = over_together (object_entries world id x) [] tt

  main_stands : find identity_cmp id alone ≡ Some (main_row world x)
  main_stands = ap (find identity_cmp id) same ∙ found_put identities id (main_row world x) (with_rows (as_pairs (pair_ids world id x)) [])

  stands_whole : StandsWhole world id x (object_rows world id x)
  stands_whole =
      subst (StandsWhole world id x) same
      (record { rows = unit.named; main = main_stands; read = record { storable = g; main = refl; pairs = pairs_stand }; ones = own_ones world.model x.class own.class id alone unit.ones })

pub reads_written : ReadsWhatIsWritten
reads_written world id x described regular named g = stands_whole world (described_mapped world.model described) regular id x named g

-- ---- cells

pub stand_for_one : StandForOne
stand_for_one world cells set set' numbers numbers' described regular named h g =
    let mapped = described_mapped world.model described in
    let storable_set = held_storable world set numbers h.held in
    let storable_set' = held_storable world set' numbers' g.held in
    let rows = rows_of world set numbers in
    let mine = rows_stand_for world mapped regular named set numbers h.held in
    let unit_rows = rows_of_unit world mapped regular named numbers (h.held).numbered set storable_set in
    let other : StandFor world (cells_of (raw rows)) set' numbers' = record {
      rows = λ c. (λ k. (g.rows c).0 ((h.rows c).1 ((mine.rows c).0 k)), λ k. (mine.rows c).1 ((h.rows c).0 ((g.rows c).1 k)));
      held = g.held;
    } in
    let one : rows ≡ rows_of world set' numbers' = rows_only world mapped regular named set' numbers' rows unit_rows other in (
      sym (set_read_in world mapped regular named numbers (h.held).numbered set (h.held).rising storable_set)
          ∙ ap (set_in world) one ∙ set_read_in world mapped regular named numbers' (g.held).numbered set' (g.held).rising storable_set',
      sym (numbers_read_in world mapped regular named numbers (h.held).numbered set storable_set)
          ∙ ap (numbers_in world.model) one ∙ numbers_read_in world mapped regular named numbers' (g.held).numbered set' storable_set',
    )
