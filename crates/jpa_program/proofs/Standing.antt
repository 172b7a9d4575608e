-- Where a store has the rows of a set and of next numbers, its cells stand for them.
use Rattle.std.specs.Prelude.{◌≡◌, ℕ, true, List}
use Rattle.std.proofs.Common.{sym, subst}
use Rattle.sqlite_trees.specs.declared.store.Store.{Ghosts}
use Rattle.sqlite.specs.Held.{Held}
use Rattle.jpa_model.specs.declared.unit.PersistenceUnit.{PersistenceUnit}
use Rattle.jpa_model.specs.Chains.{entity_at}
use Rattle.jpa_model.specs.Kept.{IsDescribed}
use Rattle.jpa_behaviour.specs.Behaviour.{World, IsRegular}
use Rattle.jpa_behaviour.specs.Registered.{Registered, Meaning, world_of}
use Rattle.jpa_stored.specs.objects.Sets.{StoredSet}
use Rattle.jpa_rows.proofs.laws.Elements.{same_back}
use Rattle.jpa_rows.specs.rows.Cells.{CanBeHeld}
use Rattle.jpa_rows.specs.rows.Rows.{Rows}
use Rattle.jpa_rows.specs.rows.Tables.{schema_of}
use Rattle.jpa_object_rows.specs.meaning.Flat as flat
use Rattle.jpa_object_rows.specs.meaning.Unambiguous.{is_class}
use Rattle.jpa_object_rows.proofs.meaning.Bytes.Described.{described_mapped}
use Rattle.jpa_object_rows.proofs.meaning.Bytes.Mapped.{IsMapped}
use Rattle.jpa_object_rows.proofs.meaning.Bytes.MappedClasses.{unambiguous_mapped}
use Rattle.jpa_object_rows.specs.meaning.Objects.{is_discriminator}
use Rattle.jpa_object_rows.specs.meaning.Raw.{raw}
use Rattle.jpa_object_rows.specs.meaning.Sets.{rows_of}
use Rattle.jpa_object_rows.proofs.meaning.Cells.{rows_stand_for}
use Rattle.jpa_cells.specs.meaning.Store.{IsClean, tables_in}
use Rattle.jpa_cells.specs.rowspace.Space.{Space, HoldsRows}
use Rattle.jpa_opening.specs.reader.Damage.{cells_in}
use Rattle.jpa_opening.proofs.reader.Standing.{same_cells, stand_same}
use Rattle.jpa_machine.specs.machine.Machine.{Machine, opened}
use Rattle.jpa_provider.specs.Provided.{Provided}
use Rattle.jpa_program.specs.Opening.{HoldsCells}
use Rattle.jpa_program.specs.Run.{HoldsCommitted}

pub rows_held : {S : Type 0} (g : Ghosts S) (world : World) → IsDescribed world.model → IsRegular world
    → ((class : ℕ) → is_class world.model class ≡ true → is_discriminator (entity_at world.model class) ≡ true)
    → (conn : Held S) (set : StoredSet) (numbers : List ℕ) → CanBeHeld world set numbers
    → (IsClean g conn → HoldsRows g (schema_of world.model) conn (rows_of world set numbers)) → HoldsCells g world conn set numbers
rows_held g world described regular discriminators conn set numbers held holds clean live =
    let mapped : IsMapped world.model = described_mapped world.model described in
    let rows : Rows = rows_of world set numbers in
    let stored = holds clean in
    let same = same_cells world (unambiguous_mapped world.model mapped) (tables_in g conn) rows (stored.whole clean) (stored.stored clean live) in
    stand_same world (flat.cells_of (raw rows)) (cells_in world (tables_in g conn)) (same_back (cells_in world (tables_in g conn)) (flat.cells_of (raw rows)) same) set numbers
    (rows_stand_for world mapped regular discriminators set numbers held)

-- a provider that was made of what its store's cells stand for
module _ {S L C : Type 0} (g : Ghosts S) (meaning : Meaning L C) (model : PersistenceUnit) (registry : Registered L C) (space : Space S) (set : StoredSet) (numbers : List ℕ) (p : Provided (Space S) L C) where
  pub made_holds : p.model ≡ model → p.registry ≡ registry → p.machine ≡ opened set numbers → p.rows ≡ space → HoldsCells g (world_of meaning model registry) space.store.conn set numbers → HoldsCommitted g meaning p
  made_holds m r machine rows h =
      subst (λ (n : PersistenceUnit). HoldsCells g (world_of meaning n p.registry) (p.rows).store.conn (p.machine).committed (p.machine).stored_numbers) (sym m)
      (subst (λ (k : Registered L C). HoldsCells g (world_of meaning model k) (p.rows).store.conn (p.machine).committed (p.machine).stored_numbers) (sym r)
      (subst (λ (M : Machine). HoldsCells g (world_of meaning model registry) (p.rows).store.conn M.committed M.stored_numbers) (sym machine)
      (subst (λ (s : Space S). HoldsCells g (world_of meaning model registry) s.store.conn set numbers) (sym rows) h)))
