-- The unit that is served without a mapping, as a mapping describes it.
use Rattle.std.specs.Prelude.{◌≡◌, [], ◌∷◌, codes, Ok, refl}
use Rattle.std.specs.Str.{is_utf8, chars}
use Rattle.serde_json.proofs.OnLiterals.{serde_json_on_literals}
use Rattle.jpa_json.specs.readers.JsonOf.{text_data}
use Rattle.jpa_json.specs.mapping.DraftOf.{draft_of, entity_of, root_of, part_of, version_of, attribute_of, side_of, relation_of}
use Rattle.jpa_json.specs.mapping.HistoryOf.{history_of, class_history_of, change_of}
use Rattle.jpa_json.specs.mapping.MappingOf.{drafts_of, drafts_in, mapping_of}
use Rattle.jpa_description.specs.declared.history.history.Change.{Change}
use Rattle.jpa_description.specs.declared.history.history.ClassHistory.{ClassHistory}
use Rattle.jpa_description.specs.declared.history.history.History.{History}
use Rattle.jpa_json.specs.functions.FunctionsIn.{functions_in}
use Rattle.jpql_trees.specs.declared.tree.Language.{Language}
use Rattle.jpa.specs.Served.{own_unit, unit_in}

-- it has nothing that a second revision might say
abbrev persons_history : History
persons_history = record { classes = kept ∷ kept ∷ [] }
  where
    kept : ClassHistory
    kept = record { dropped = []; changes = Change.Kept ∷ [] }

persons_described : unit_in Language.Profile (codes "{\"revision\":1,\"entities\":[{\"name\":\"Person\",\"table\":1,\"key\":[{\"name\":\"id\",\"type\":\"int\"}],\"generated\":true,\"version\":{\"name\":\"version\",\"column\":1},\"attributes\":[{\"name\":\"name\",\"type\":\"text\",\"column\":2}],\"relations\":[{\"name\":\"orders\",\"kind\":\"oneToMany\",\"target\":\"Order\",\"mappedBy\":\"person\",\"cascade\":[\"ALL\"],\"orphanRemoval\":true}]},{\"name\":\"Order\",\"table\":2,\"key\":[{\"name\":\"number\",\"type\":\"int\"}],\"attributes\":[{\"name\":\"amount\",\"type\":\"int\",\"column\":1}],\"relations\":[{\"name\":\"person\",\"kind\":\"manyToOne\",\"target\":\"Person\",\"column\":2}]}]}") ≡ Ok (own_unit Language.Profile, persons_history)
unfolding mapping_of drafts_in drafts_of history_of class_history_of change_of text_data draft_of entity_of root_of part_of version_of attribute_of side_of relation_of functions_in is_utf8 chars serde_json_on_literals
persons_described = refl
