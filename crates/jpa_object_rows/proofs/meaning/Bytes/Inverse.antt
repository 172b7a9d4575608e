-- The members of an inverse relation are sought in the rows of one table.
use Rattle.std.specs.Prelude.{◌≡◌, ℕ, Bool, true, ◌==◌, ◌&&◌, [], ◌∷◌, map}
use Rattle.std.proofs.Common.{refl, ap, ◌∙◌}
use Rattle.std.specs.List.{filter, list_any}
use Rattle.std.specs.FinMap.Entries.{where_key}
use Rattle.jpa_value.specs.declared.value.Identity.{Identity}
use Rattle.jpa_value.specs.Value.{identity_cmp, same_identity}
use Rattle.jpa_model.specs.declared.unit.Root.{Root}
use Rattle.jpa_model.specs.Chains.{is_kind_of, root_of}
use Rattle.jpa_behaviour.specs.Behaviour.{World}
use Rattle.jpa_stored.specs.declared.objects.stored.Stored.{Stored}
use Rattle.jpa_stored.specs.objects.Sets.{StoredSet, leading_to, owned_at}
use Rattle.jpa_rows.proofs.laws.Facts.{and_first}
use Rattle.jpa_rows.proofs.laws.Each.{Each}
use Rattle.jpa_rows.proofs.laws.Parts.{entries_where, AreWithin, filter_within}
use Rattle.jpa_object_rows.specs.meaning.Rows.{Rows, AreRising}
use Rattle.jpa_object_rows.specs.meaning.View.{set_of, stored_in, is_storable, scanned}
use Rattle.jpa_object_rows.specs.meaning.Unambiguous.{IsUnambiguous}
use Rattle.jpa_object_rows.proofs.meaning.Bytes.Orders.{same_number}
use Rattle.jpa_object_rows.proofs.meaning.Bytes.Keys.{table_is}
use Rattle.jpa_object_rows.proofs.meaning.Bytes.Spelling.{spells}
use Rattle.jpa_object_rows.proofs.meaning.Bytes.Reading.{storable}
use Rattle.jpa_object_rows.proofs.meaning.Bytes.Kept.{each_storable}

-- one table is scanned
pub scan_is : (world : World) (rows : Rows) → AreRising rows → (table : ℕ) → scanned world table rows ≡ where_key identity_cmp (λ id. id.table == table) (set_of world rows)
scan_is world rows rise table = entries_where (spells world.model) (stored_in world rows) (λ r. r.table == table) (λ id. id.table == table) (λ id. refl) rows rise

abbrev leads : World → ℕ → ℕ → Identity → Identity × Stored → Bool
leads world class owner id e = is_kind_of world.model (e.1).class class && list_any (same_identity id) (owned_at e.1 owner)

-- objects of a class stand in the table of its root
all_within : (world : World) → IsUnambiguous world.model → (class owner : ℕ) (id : Identity) (set : StoredSet) → Each (λ q x. is_storable world q x ≡ true) set
    → AreWithin (leads world class owner id) (λ q. q.table == (root_of world.model class).table) set
all_within world clear class owner id [] h = tt
all_within world clear class owner id (e ∷ set) h = (
  λ k.
      let m = world.model in
      let s = storable world e.0 e.1 h.0 in
      let same = clear.kinds (e.1).class class s.class (and_first (is_kind_of m (e.1).class class) _ k) in
      let table : (e.0).table ≡ (root_of m class).table = table_is (root_of m (e.1).class) e.0 s.of_root ∙ ap (λ (root : Root). root.table) same in
      ap (λ n. n == (root_of m class).table) table ∙ same_number (root_of m class).table,
  all_within world clear class owner id set h.1,
)

-- so the scan of that table has each that leads to the identity
pub leading_read : (world : World) → IsUnambiguous world.model → (rows : Rows) → AreRising rows → (class owner : ℕ) (id : Identity)
    → leading_to world.model (scanned world (root_of world.model class).table rows) class owner id ≡ leading_to world.model (set_of world rows) class owner id
leading_read world clear rows rise class owner id =
    let table = (root_of world.model class).table in
    ap (map (λ e. e.0)) (ap (filter (leads world class owner id)) (scan_is world rows rise table)
    ∙ filter_within identity_cmp (leads world class owner id) (λ q. q.table == table) (set_of world rows) (all_within world clear class owner id (set_of world rows) (each_storable world rows)))
