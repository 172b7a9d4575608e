-- The pairs of an object: what a row of a join table gives an owner, and an object with other pairs
-- (Jakarta Persistence 3.1, chapter 2.10.4: relations kept in join tables).
use Rattle.std.specs.Prelude.{ℕ, ◌==◌, List, [], ◌∷◌, Option, None, option_map, if◌then◌else◌}
use Rattle.jpa_value.specs.declared.value.Value.{Value}
use Rattle.jpa_value.specs.declared.value.Identity.{Identity}
use Rattle.jpa_model.specs.declared.unit.PersistenceUnit.{PersistenceUnit}
use Rattle.jpa_model.specs.declared.unit.Relation.{Relation}
use Rattle.jpa_model.specs.declared.unit.Side.{Side}
use Rattle.jpa_model.specs.Chains.{relations_of}
use Rattle.jpa_stored.specs.declared.objects.stored.Stored.{Stored}
use Rattle.jpa_rows.specs.rows.Rows.{RowId}
use Rattle.jpa_object_rows.specs.meaning.View.{Pairs}
use Rattle.jpa_object_rows.specs.meaning.Sets.{key_after, identity_of}

-- what of its key follows the owner's, in the target's table; nothing where the row is of another
-- table or another owner
abbrev pub pair_target : ℕ → ℕ → List Value → RowId → Option Identity
pair_target join table owner id =
    if id.table == join then option_map (identity_of table) (key_after owner id.key) else None

-- these pairs in the place of what is owned along a side, if it has a join table
abbrev pub side_owned : Pairs → ℕ → List Identity → Side → List Identity
side_owned pairs target ids (Side.ManyToOne c) = ids
side_owned pairs target ids (Side.OneToOne c) = ids
side_owned pairs target ids (Side.OneToOneInverse owner) = ids
side_owned pairs target ids (Side.OneToMany owner) = ids
side_owned pairs target ids (Side.ManyToMany join) = pairs join target
side_owned pairs target ids (Side.ManyToManyInverse owner) = ids

-- what is owned along relations, with these pairs in join tables
abbrev pub owned_with : Pairs → List Relation → List (List Identity) → List (List Identity)
owned_with pairs [] owned = owned
owned_with pairs (r ∷ relations) [] = []
owned_with pairs (r ∷ relations) (ids ∷ owned) = side_owned pairs r.target ids r.side ∷ owned_with pairs relations owned

-- the object with these pairs
abbrev pub with_pairs : PersistenceUnit → Pairs → Stored → Stored
with_pairs m pairs x = record x { owned = owned_with pairs (relations_of m x.class) x.owned }
