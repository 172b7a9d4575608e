-- The drop of a person is a change of the schema.
use Rattle.std.proofs.Common.{◌≡◌, refl, [], ◌∷◌}
use Rattle.std.proofs.lemmas.List.Elements.{All-cons, All-nil}
use Rattle.jpa_rows.specs.declared.rows.row.RowChange.{RowChange}
use Rattle.jpa_rows.specs.rows.Rows.{table_of, IsChangeBy, AreChanges}
use Rattle.jpa_cells.specs.rowspace.Samples.{shop}
use Rattle.jpa_tests.specs.Samples.{drops_person}

abbrev Fits : RowChange → Type 0
Fits change = IsChangeBy (table_of shop (change.id).table) change

fits : Fits drops_person
fits = record { named = refl; whole = cc; filled = cc }

pub is_change : AreChanges shop (drops_person ∷ [])
is_change = record { rising = tt; each = All-cons Fits drops_person [] fits (All-nil Fits) }
