-- What it is for an object to be read off its rows: its main row, and its pairs in the join tables
-- (Jakarta Persistence 3.1, chapters 2.10 relations, 2.12 hierarchies, 3.8 converters).
use Rattle.std.specs.Prelude.{◌≡◌, Bool, true, []}
use Rattle.std.specs.List.{list_all, zip}
use Rattle.jpa_value.specs.declared.value.Identity.{Identity}
use Rattle.jpa_model.specs.Chains.{attributes_of, relations_of}
use Rattle.jpa_behaviour.specs.Behaviour.{World}
use Rattle.jpa_stored.specs.declared.objects.stored.Stored.{Stored}
use Rattle.jpa_rows.specs.rows.Cells.{passes}
use Rattle.jpa_rows.specs.rows.Rows.{Row}
use Rattle.jpa_object_rows.specs.meaning.View.{is_storable, Pairs, PairsAre}
use Rattle.jpa_object_rows.specs.meaning.Objects.{main_row}

-- no converter throws for a value of the object
abbrev pub all_pass : World → Stored → Bool
all_pass world x = list_all (λ p. passes world p.0 p.1) (zip (attributes_of world.model x.class) x.values)

-- no owner has pairs
abbrev pub no_pairs : Pairs
no_pairs join target = []

-- the object can be stored under the identity, this is its main row, and these are its pairs
pub record IsReadAs (world : World) (id : Identity) (row : Row) (held : Pairs) (x : Stored) : Type 0 where
  pub storable : is_storable world id x ≡ true
  pub main : main_row world x ≡ row
  pub pairs : PairsAre held (zip (relations_of world.model x.class) x.owned)

-- it is the main row of some object
abbrev pub IsMainRow : World → Identity → Row → Type 0
IsMainRow world id row = (x : Stored) × (is_storable world id x ≡ true) × (main_row world x ≡ row)
