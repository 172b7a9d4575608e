-- What a metamodel keeps for each class, so that no chain is walked again.
use Rattle.std.specs.Prelude.{ℕ, ◌≡◌, ◌==◌, Bool, List, map, length, Option, Some, None, if◌then◌else◌}
use Rattle.std.specs.List.{list_any, range_with_len}
use Rattle.jpa_model.specs.Chains.{chain, root_class, root_of, attributes_of, relations_of, declarers_of}
use Rattle.jpa_model.specs.Chains.{is_version_name}
use Rattle.jpa_model.specs.WellFormed.{IsWellFormed}
use Rattle.jpa_model.specs.Described.{unit_of}
use Rattle.jpa_model.specs.declared.draft.Draft.{Draft}
use Rattle.jpa_model.specs.declared.unit.PersistenceUnit.{PersistenceUnit}
use Rattle.jpa_model.specs.declared.unit.Member.{Member}
use Rattle.jpa_model.specs.declared.unit.Root.{Root}
use Rattle.jpa_model.specs.declared.lineage.Lineage.{Lineage}

-- whether the class is of the kind of each of the entities
abbrev pub kinds_of : PersistenceUnit → List ℕ → List Bool
kinds_of m chain = map (λ above. list_any (λ c. c == above) chain) (range_with_len 0 (length m.entities))

-- what is kept for a class
abbrev pub lineage_of : PersistenceUnit → ℕ → Lineage
lineage_of m class =
    record {
      chain = chain m class;
      kinds = kinds_of m (chain m class);
      root_class = root_class m class;
      root = root_of m class;
      attributes =
          attributes_of m class;
      relations = relations_of m class;
      declarers = declarers_of m class;
    }

-- what is kept for each class
abbrev pub lineages_of : PersistenceUnit → List Lineage
lineages_of m = map (lineage_of m) (range_with_len 0 (length m.entities))

-- the version, where the name is the version's
abbrev pub version_member : Root → List ℕ → Option Member
version_member root name = if is_version_name root name then Some Member.Version else None

-- what some well-formed description describes
abbrev pub IsDescribed : PersistenceUnit → Type 0
IsDescribed m = (d : Draft) × (IsWellFormed d × (m ≡ unit_of d))
