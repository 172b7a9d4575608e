-- What bytes say as a text of JSON.
use Rattle.std.specs.Prelude.{ℕ, List, Option, Result}
use Rattle.std.specs.Option.{ok_or}
use Rattle.std.specs.Str.{is_utf8}
use Rattle.jpa_value.specs.declared.refusal.Cause.{Cause}
use Rattle.jpa_value.specs.declared.refusal.MappingFault.{MappingFault}
use Rattle.serde_json.specs.Data.{Data}
use Rattle.serde_json.specs.Read.{read}
use Rattle.jpa_json.specs.readers.Outcome.{◌>>=◌, guard}

-- what the bytes say in UTF-8
unfoldable pub text_data : List ℕ → Option Data
text_data bytes = do
  unicode ← guard (is_utf8 bytes)
  read bytes

-- what the bytes of a mapping say
abbrev pub json_of : List ℕ → Result Data Cause
json_of bytes = ok_or (text_data bytes) (Cause.Mapping MappingFault.Json)
