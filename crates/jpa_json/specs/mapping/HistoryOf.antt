-- What a mapping description says of what has changed since revision 1: members of attributes and
-- of root entities, each of its type. Which members an object may have stands with what it
-- describes.
use Rattle.std.specs.Prelude.{codes, Option, Some}
use Rattle.jpa_value.specs.declared.value.Value.{Value}
use Rattle.jpa_description.specs.declared.history.draft.DraftChange.{DraftChange}
use Rattle.jpa_description.specs.declared.history.draft.DraftClassHistory.{DraftClassHistory}
use Rattle.jpa_description.specs.declared.history.draft.DraftHistory.{DraftHistory}
use Rattle.serde_json.specs.Data.{Data, null}
use Rattle.jpa_json.specs.readers.Members.{integer_of, list_of}
use Rattle.jpa_json.specs.readers.Outcome.{◌>>=◌}
use Rattle.jpa_json.specs.readers.Values.{value_of}
use Rattle.jpa_json.specs.mapping.DraftOf.{required, optional, list_at}

-- a value, or null
abbrev pub value_or_null : Data → Option Value
value_or_null null = Some Value.Null
value_or_null d = value_of d

-- of an attribute
unfoldable pub change_of : Data → Option DraftChange
change_of d = do
  since ← optional integer_of (codes "since") d
  default ← optional value_or_null (codes "default") d
  was ← optional integer_of (codes "was") d
  Some (record { since = since; default = default; was = was })

-- of an entity, with its attributes
unfoldable pub class_history_of : Data → Option DraftClassHistory
class_history_of d = do
  dropped ← optional (list_of integer_of) (codes "dropped") d
  changes ← list_at change_of (codes "attributes") d
  Some (record { dropped = dropped; changes = changes })

-- of all entities
unfoldable pub history_of : Data → Option DraftHistory
history_of d = do
  classes ← required (list_of class_history_of) (codes "entities") d
  Some (record { classes = classes })
