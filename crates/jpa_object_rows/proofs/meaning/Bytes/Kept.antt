-- Whatever is read off rows is an object that a row can stand for, under an identity that is spelled.
use Rattle.std.specs.Prelude.{◌≡◌, true, Some}
use Rattle.jpa_behaviour.specs.Behaviour.{World}
use Rattle.jpa_rows.proofs.laws.Each.{Each, each_read}
use Rattle.jpa_object_rows.specs.meaning.Rows.{Rows}
use Rattle.jpa_object_rows.specs.meaning.Identities.{identity_at}
use Rattle.jpa_object_rows.specs.meaning.View.{set_of, stored_in, is_storable}
use Rattle.jpa_object_rows.proofs.meaning.Bytes.Orders.{identities}
use Rattle.jpa_object_rows.proofs.meaning.Bytes.Whole.{read_storable}

-- shaped, of values of the program, and no converter throws: whatever the rows are
pub each_storable : (world : World) (rows : Rows) → Each (λ id x. is_storable world id x ≡ true) (set_of world rows)
each_storable world rows =
    each_read identities (λ id x. is_storable world id x ≡ true) (identity_at world.model) (stored_in world rows) (λ r id columns x at e. read_storable world rows id x (Some columns) e) rows
