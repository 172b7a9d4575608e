-- What the bytes of a mapping description give.
use Rattle.std.specs.Prelude.{ℕ, List, Option, Some, Result, Ok}
use Rattle.std.specs.Option.{ok_or}
use Rattle.jpa_value.specs.declared.refusal.Cause.{Cause}
use Rattle.jpa_value.specs.declared.refusal.MappingFault.{MappingFault}
use Rattle.jpa_model.specs.Described.{checked}
use Rattle.jpa_description.specs.history.Condition.{checked_history}
use Rattle.serde_json.specs.Data.{Data}
use Rattle.jpa_json.specs.readers.JsonOf.{json_of}
use Rattle.jpa_json.specs.readers.Outcome.{◌>>=◌, and_then}
use Rattle.jpa_json.specs.mapping.DraftOf.{draft_of}
use Rattle.jpa_json.specs.mapping.HistoryOf.{history_of}
use Rattle.jpa_json.specs.declared.mapping.reading.Drafts.{Drafts}
use Rattle.jpa_json.specs.declared.mapping.reading.Mapping.{Mapping}

-- the description, and what it says of changes
unfoldable pub drafts_of : Data → Option Drafts
drafts_of d = do
  draft ← draft_of d
  history ← history_of d
  Some (record { draft = draft; history = history })

-- both, or the first that is wrong with them: the text, the shape
unfoldable pub drafts_in : List ℕ → Result Drafts Cause
drafts_in bytes = and_then (json_of bytes) (λ d. ok_or (drafts_of d) (Cause.Mapping MappingFault.Shape))

-- the metamodel and its history, where they are well formed
abbrev pub checked_mapping : Drafts → Result Mapping Cause
checked_mapping drafts =
    and_then (checked drafts.draft) (λ metamodel.
    and_then (checked_history metamodel drafts.history)
    (λ history. Ok (record { metamodel = metamodel; history = history })))

-- the metamodel and its history, or the first that is wrong: the text, the shape, the model
unfoldable pub mapping_of : List ℕ → Result Mapping Cause
mapping_of bytes = and_then (drafts_in bytes) checked_mapping
