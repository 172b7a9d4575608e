-- A database that an opening found keeps the rows of its table in the order of their rowids.
use Rattle.std.proofs.Common.{◌≡◌, inl, inr, ℕ, List, IsTrue, true≢false, refl, sym, ap, subst, ◌∙◌}
use Rattle.std.proofs.Math.Logic.{∥∥₁_elim}
use Rattle.sqlite_disk.specs.declared.Disk as disk
use Rattle.sqlite_wal.specs.Recovery.{Image}
use Rattle.sqlite.specs.declared.types.Value.{Value}
use Rattle.sqlite.specs.declared.types.Value.TheVariants.{Null, Int, Real, Text, Blob}
use Rattle.sqlite.specs.Order.{Row}
use Rattle.sqlite.specs.Values.{IsInt}
use Rattle.sqlite_trees.specs.declared.store.Shape.{Shape}
use Rattle.sqlite_trees.specs.declared.store.Shape.TheVariants.{Table}
use Rattle.sqlite_trees.specs.Tree.{Trees, rowid}
use Rattle.sqlite_trees.specs.View.{is_int, IsShaped, IsOrdered}
use Rattle.sqlite_trees.specs.Objects.{catalog_tree, IsListed}
use Rattle.sqlite_trees.specs.Props.{IsShaped-prop}
use Rattle.sqlite_catalog.specs.Listing.{IsSound, Lists}
use Rattle.sqlite_catalog.proofs.LayoutLemmas.{table_shape}
use Rattle.sqlite_keyed.proofs.ListLemmas.{all_weaker}
use Rattle.sqlite_store.specs.declared.store.FileStore.{FileStore}
use Rattle.sqlite_store.specs.Listing.{all_shapes, all_reals}
use Rattle.sqlite_store.specs.Listed.{catalog_rows, is_listed}
use Rattle.sqlite_store.proofs.ListingLemmas.{all_ordered}
use Rattle.sqlite.specs.State.{State, HasCleanDisk, IsLive, Opens}
use Rattle.sqlite.specs.Held.{Held}
use Rattle.sqlite.specs.Files.{AreFoundIn, file_state, over_files}
use Rattle.jpa_cells.specs.meaning.Schema.{cell_table, cell_schema}
use Rattle.jpa_cells.specs.meaning.Content.{AreInOrder}
use Rattle.jpa_cells.specs.meaning.Store.{IsOrderedIfFound}

int_is : (v : Value) → IsTrue (is_int v) → IsInt v
int_is Null h = absurd (true≢false (sym h))
int_is (Int n) h = (n, refl)
int_is (Real x) h = absurd (true≢false (sym h))
int_is (Text t) h = absurd (true≢false (sym h))
int_is (Blob b) h = absurd (true≢false (sym h))

-- trees that their store keeps in order, and lists by these shapes
pub table_shaped : (shape : ℕ → Shape) (reals : ℕ → ℕ) (trees : Trees) → IsOrdered shape trees → IsListed (trees catalog_tree) shape reals → IsSound cell_schema trees → IsShaped Table (trees 0)
table_shaped shape reals trees ordered listed sound =
    let rising : IsShaped Table (trees catalog_tree) = subst (λ s. IsShaped s (trees catalog_tree)) listed.itself.0 (ordered catalog_tree) in
    let is : shape 0 ≡ Table = (table_shape listed rising.0 sound.lists.listed cell_table (inl refl)).0 in
    subst (λ s. IsShaped s (trees 0)) is (ordered 0)

pub shaped_in_order : (rows : List Row) → IsShaped Table rows → AreInOrder rows
shaped_in_order rows h = record { rise = h.0; numbered = all_weaker (λ r. IsTrue (is_int (rowid r))) (λ r. IsInt (rowid r)) (λ r. int_is (rowid r)) rows h.1 }

-- what is found in files is so
found_shaped : (image : Image) (trees : Trees) → AreFoundIn image trees → IsSound cell_schema trees → IsShaped Table (trees 0)
found_shaped image trees (inl (size, pages, wanted, adopts, ours, is)) sound = ∥∥₁_elim ours (IsShaped-prop Table (trees 0)) (λ its.
    let listed : IsListed (trees catalog_tree) (all_shapes wanted) (all_reals wanted) = subst (λ rows. IsListed rows (all_shapes wanted) (all_reals wanted)) (sym (ap (λ (t : Trees). t catalog_tree) is ∙ catalog_rows size wanted _)) (is_listed wanted) in
    table_shaped (all_shapes wanted) (all_reals wanted) trees (subst (IsOrdered (all_shapes wanted)) (sym is) (all_ordered its.file.db _)) listed sound)
found_shaped image trees (inr (nothing, empty)) sound = absurd (subst (λ rows. Lists rows cell_schema) empty.1 sound.lists).listed.tables

pub found_in_order : (image : Image) (s : State) → IsLive s → s.now ≡ s.committed → AreFoundIn image s.committed.trees → IsTrue s.is_open → s.now.schema ≡ cell_schema → AreInOrder (s.now.trees 0)
found_in_order image s live same found is_open is =
    shaped_in_order _ (found_shaped image s.now.trees (subst (λ d. AreFoundIn image d.trees) (sym same) found) (subst (λ schema. IsSound schema s.now.trees) is (live is_open).0))

-- so it may be taken, whatever the files held
pub files_in_order : {D : Type 0} {g : disk.Ghosts D} (image : Image) (c : Held (FileStore D g)) → (HasCleanDisk (file_state c) → Opens (file_state c) × IsLive (file_state c))
    → (HasCleanDisk (file_state c) → AreFoundIn image (file_state c).committed.trees) → IsOrderedIfFound over_files c
files_in_order image c opened found clean is_open is = let it = opened clean in found_in_order image (file_state c) it.1 it.0.clean (found clean) is_open is
