-- What code assigns, beside what is meant: the same, unless memory ran out.
use Rattle.std.specs.Prelude.{◌≡◌, List, [], ◌∷◌, Option, Some, None, Result, Ok, Err}
use Rattle.jpa_value.specs.declared.refusal.Cause.{Cause}
use Rattle.jpa_value.specs.declared.value.Identity.{Identity}
use Rattle.jpa_value.specs.declared.value.Value.{Value}
use Rattle.jpql_bulk.specs.bulk.Causes.{cause_of}
use Rattle.jpql_bulk.specs.declared.bulk.refused.Refused.{Refused}
use Rattle.jpql_meaning.specs.declared.eval.datum.Datum.{Datum}

-- what a refusal says of the wanted result: Memory nothing, others that it is theirs
abbrev pub Refuses : {A : Type 0} → Refused → Result A Cause → Type 0
Refuses Refused.Memory wanted = Unit {0}
Refuses Refused.Limit wanted = wanted ≡ Err (cause_of Refused.Limit)
Refuses Refused.Converter wanted = wanted ≡ Err (cause_of Refused.Converter)
Refuses Refused.Null wanted = wanted ≡ Err (cause_of Refused.Null)

-- a result is the wanted one, as `view` sees it; a refusal says of it what `Refuses` says
abbrev pub Assigns : {A B : Type 0} → (A → B) → Result A Refused → Result B Cause → Type 0
Assigns view (Ok a) wanted = wanted ≡ Ok (view a)
Assigns view (Err e) wanted = Refuses e wanted

-- a thing as it is
abbrev pub same : {A : Type 0} → A → A
same a = a

-- the value that a datum is, where it is no entity
abbrev pub plain : Datum → Option Value
plain (Datum.Plain v) = Some v
plain (Datum.Entity id) = None

-- the identities of a link to it
abbrev pub link_of : Datum → List Identity
link_of (Datum.Plain v) = []
link_of (Datum.Entity id) = id ∷ []
