-- How many members a value has.
use Rattle.std.proofs.Common.{◌≡◌, ℕ, Option, Some, None, refl}
use Rattle.serde_json.specs.Data.{Data, null, boolean, number, string, array, object, Members}
use Rattle.serde_json.specs.Events.{members_len}
use Rattle.serde_json.specs.Find.{as_object}
use Rattle.jpa_json.specs.readers.Members.{count_of}

abbrev pub members_or_none : Option Members → ℕ
members_or_none (Some ms) = members_len ms
members_or_none None = 0

pub counted : (d : Data) → count_of d ≡ members_or_none (as_object d)
counted null = refl
counted (boolean b) = refl
counted (number n) = refl
counted (string s) = refl
counted (array ds) = refl
counted (object ms) = refl
