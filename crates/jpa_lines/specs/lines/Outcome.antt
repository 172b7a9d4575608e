-- What a writer of JSON wrote, beside what a definition says.
use Rattle.std.specs.Prelude.{◌≡◌, ◌++◌, ℕ, List, codes, Option, Result, Ok, Err}
use Rattle.jpa_value.specs.declared.refusal.Cause.{Cause}
use Rattle.json.specs.Token.{Token}
use Rattle.json.specs.Tree.{json_tokens}
use Rattle.json.specs.Written.{Written}
use Rattle.serde_json.specs.Data.{Data, number, string, object, unsigned, member}
use Rattle.serde_json.specs.Written.{outline}
use Rattle.jpa_lines.specs.lines.ReplyText.{why_member}

-- the tokens of a value
abbrev pub data_tokens : Data → List Token
data_tokens d = json_tokens (outline d)

-- these tokens were written
abbrev pub Adds : Written → Written → List Token → Type 0
Adds old new ts = (new.before ≡ old.before) × (new.tokens ≡ old.tokens ++ ts)

-- this value was written, unless memory ran out
abbrev pub Tells : Result (Unit {0}) Cause → Written → Written → Data → Type 0
Tells (Ok told) old new d = Adds old new (data_tokens d)
Tells (Err cause) old new d = cause ≡ Cause.OutOfMemory

-- a refusal by its name and number, and why, where there is more to tell
abbrev pub named_data : List ℕ → ℕ → Option (List ℕ) → Data
named_data name n why =
    object (member (codes "name") (string name) (member (codes "no") (number (unsigned n)) (why_member why)))
