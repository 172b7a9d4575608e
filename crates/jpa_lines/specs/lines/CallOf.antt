-- Which call a line means.
use Rattle.jpa_value.specs.Limits.{most_line_bytes}
use Rattle.std.specs.Prelude.{◌==◌, ◌+◌, ℕ, ℤ, Bool, true, false, nat_lt, List, [], ◌∷◌, length, codes, if◌then◌else◌}
use Rattle.std.specs.Prelude.{Option, Some, None, is_some, Result, Ok, Err, bytes_eq}
use Rattle.std.specs.List.{list_all}
use Rattle.std.specs.Option.{ok_or}
use Rattle.hex.specs.Hex.{decode_of}
use Rattle.hex.specs.declared.error.FromHexError.{FromHexError}
use Rattle.jpa_value.specs.declared.refusal.Cause.{Cause}
use Rattle.jpa_value.specs.declared.refusal.Cause.TheVariants.{BadLine, Limit}
use Rattle.jpa_value.specs.declared.value.Value.TheVariants.{Null, Int, Text, Bytes}
use Rattle.jpa_protocol.specs.declared.call.Call.{Call}
use Rattle.jpa_protocol.specs.declared.call.Call.TheVariants.{CreateEntityManager, NewObject, SetValue, Get, Add}
use Rattle.jpa_protocol.specs.declared.call.Call.TheVariants.{TakeOut, Begin, Persist, Remove, Refresh, Detach}
use Rattle.jpa_protocol.specs.declared.call.Call.TheVariants.{Contains, Clear, Close, Flush, Commit, Rollback}
use Rattle.jpa_protocol.specs.declared.call.Call.TheVariants.{SetRollbackOnly, Merge, Lock, SetFlushMode, Find}
use Rattle.jpa_protocol.specs.declared.call.Call.TheVariants.{GetReference, Query, QuerySingle, ExecuteUpdate, Values}
use Rattle.jpa_protocol.specs.declared.call.Call.TheVariants.{Pending, Restart, Index}
use Rattle.jpa_protocol.specs.declared.call.Given.{Given}
use Rattle.jpa_protocol.specs.declared.call.Given.TheVariants as given
use Rattle.jpa_protocol.specs.declared.call.FlushMode.{FlushMode}
use Rattle.jpa_protocol.specs.declared.call.FlushMode.TheVariants as flush
use Rattle.jpa_protocol.specs.declared.call.LockMode.{LockMode}
use Rattle.jpa_protocol.specs.declared.call.LockMode.TheVariants as mode
use Rattle.jpa_protocol.specs.declared.call.Parameter.{Parameter}
use Rattle.jpa_protocol.specs.declared.call.ParameterValue.{ParameterValue}
use Rattle.jpa_protocol.specs.declared.call.ParameterValue.TheVariants.{Single, Collection}
use Rattle.jpql_trees.specs.declared.tree.Language.{Language}
use Rattle.serde_json.specs.Data.{Data, null, boolean, number, string, array, object, Members}
use Rattle.serde_json.specs.Data as json
use Rattle.serde_json.specs.Find.{get, as_str, as_object, as_i64}
use Rattle.jpa_json.specs.readers.JsonOf.{text_data}
use Rattle.jpa_json.specs.readers.Members.{count_of, each, integer_of, list_of, text_at}
use Rattle.jpa_json.specs.readers.Outcome.{◌>>=◌, guard}
use Rattle.jpa_lines.specs.declared.lines.reading.QueryMembers.{QueryMembers}
use Rattle.jpa_lines.specs.declared.lines.reading.Word.{Word}
use Rattle.jpa_lines.specs.declared.lines.reading.Word.TheVariants as word

-- the integer of 64 bits in the member of a name
abbrev pub integer_at : List ℕ → Data → Option ℤ
integer_at name d = get name d >>= integer_of

-- the bytes that hex digits of either case stand for
abbrev pub decoded : Result (List ℕ) FromHexError → Option (List ℕ)
decoded (Ok bytes) = Some bytes
decoded (Err e) = None

-- the bytes of hexadecimal digits
unfoldable pub hex_of : List ℕ → Option (List ℕ)
hex_of digits = decoded (decode_of digits)

-- an object of the one member `object`, or of the one member `hex`
abbrev pub marked : Option Data → Option Data → Option Given
marked (Some n) digits = do
  z ← integer_of n
  Some (given.Object z)
marked None digits = do
  d ← digits
  s ← as_str d
  bytes ← hex_of s
  Some (given.Plain (Bytes bytes))

-- an object by its number, or bytes, as a value that is handed in
unfoldable pub marked_of : Data → Option Given
marked_of d = do
  one ← guard (count_of d == 1)
  marked (get (codes "object") d) (get (codes "hex") d)

-- an integer as a value that is handed in
abbrev pub plain_integer : Option ℤ → Option Given
plain_integer (Some z) = Some (given.Plain (Int z))
plain_integer None = None

-- a value that is handed in: null, an integer, a text, bytes or an object
unfoldable pub given_of : Data → Option Given
given_of null = Some (given.Plain Null)
given_of (boolean b) = None
given_of (number n) = plain_integer (as_i64 n)
given_of (string s) = Some (given.Plain (Text s))
given_of (array ds) = None
given_of (object ms) = marked_of (object ms)

-- ---- the calls, each of exactly its members

-- the call createEntityManager
unfoldable pub create_of : Data → Option Call
create_of d = do
  all ← guard (count_of d == 1)
  Some CreateEntityManager

-- the call new
unfoldable pub new_of : Data → Option Call
new_of d = do
  all ← guard (count_of d == 2)
  entity ← text_at (codes "entity") d
  Some (NewObject entity)

-- the call set
unfoldable pub set_of : Data → Option Call
set_of d = do
  all ← guard (count_of d == 4)
  on ← integer_at (codes "object") d
  name ← text_at (codes "name") d
  member ← get (codes "value") d
  value ← given_of member
  Some (SetValue on name value)

-- the call get
unfoldable pub get_of : Data → Option Call
get_of d = do
  all ← guard (count_of d == 3)
  on ← integer_at (codes "object") d
  name ← text_at (codes "name") d
  Some (Get on name)

-- a call that changes a collection by a member
unfoldable pub by_member_of : (ℤ → List ℕ → ℤ → Call) → Data → Option Call
by_member_of call d = do
  all ← guard (count_of d == 4)
  on ← integer_at (codes "object") d
  name ← text_at (codes "name") d
  member ← integer_at (codes "member") d
  Some (call on name member)

-- the manager, of a call that has no other member
unfoldable pub em_of : Data → Option ℤ
em_of d = do
  all ← guard (count_of d == 2)
  integer_at (codes "em") d

-- a call of a manager alone
abbrev pub of_em : (ℤ → Call) → Data → Option Call
of_em call d = do
  em ← em_of d
  Some (call em)

-- the manager and the object, of a call that has no other member
unfoldable pub em_and_object_of : Data → Option (ℤ × ℤ)
em_and_object_of d = do
  all ← guard (count_of d == 3)
  em ← integer_at (codes "em") d
  on ← integer_at (codes "object") d
  Some (em, on)

-- a call of a manager and an object
abbrev pub of_em_and_object : (ℤ → ℤ → Call) → Data → Option Call
of_em_and_object call d = do
  named ← em_and_object_of d
  Some (call named.0 named.1)

-- a lock by one of its two names
abbrev pub lock_mode_of : List ℕ → Option LockMode
lock_mode_of name =
    if bytes_eq name (codes "READ") then Some mode.Read
    else if bytes_eq name (codes "OPTIMISTIC") then Some mode.Read
    else if bytes_eq name (codes "WRITE") then Some mode.Write
    else if bytes_eq name (codes "OPTIMISTIC_FORCE_INCREMENT") then Some mode.Write
    else None

-- the call lock
unfoldable pub lock_of : Data → Option Call
lock_of d = do
  all ← guard (count_of d == 4)
  em ← integer_at (codes "em") d
  on ← integer_at (codes "object") d
  name ← text_at (codes "mode") d
  how ← lock_mode_of name
  Some (Lock em on how)

-- a call that finds by a key
unfoldable pub by_key_of : (ℤ → List ℕ → List Given → Call) → Data → Option Call
by_key_of call d = do
  all ← guard (count_of d == 4)
  em ← integer_at (codes "em") d
  entity ← text_at (codes "entity") d
  member ← get (codes "key") d
  key ← list_of given_of member
  Some (call em entity key)

-- a flush mode by its name
abbrev pub flush_mode_of : List ℕ → Option FlushMode
flush_mode_of name =
    if bytes_eq name (codes "AUTO") then Some flush.Auto
    else if bytes_eq name (codes "COMMIT") then Some flush.Commit
    else None

-- the call setFlushMode
unfoldable pub set_flush_mode_of : Data → Option Call
set_flush_mode_of d = do
  all ← guard (count_of d == 3)
  em ← integer_at (codes "em") d
  name ← text_at (codes "mode") d
  how ← flush_mode_of name
  Some (SetFlushMode em how)

-- ---- statements, with members that may be absent

-- one where the member is there
abbrev pub count_at : List ℕ → Data → ℕ
count_at name d = if is_some (get name d) then 1 else 0

-- an integer, where the member is there
abbrev pub integer_if_there : Option Data → Option (Option ℤ)
integer_if_there None = Some None
integer_if_there (Some d) = do
  z ← integer_of d
  Some (Some z)

-- an integer in a member that may be absent
abbrev pub optional_integer_at : List ℕ → Data → Option (Option ℤ)
optional_integer_at name d = integer_if_there (get name d)

-- what is handed in for a parameter: a value, or a collection of values in an array (chapter 4.6.9)
unfoldable pub parameter_value : Data → Option ParameterValue
parameter_value (array ds) = do
  all ← each given_of ds
  Some (Collection all)
parameter_value d = do
  value ← given_of d
  Some (Single value)

-- a parameter for each member; an object has each name once, in the order of the names
abbrev pub parameters : Members → Option (List Parameter)
parameters json.no_members = Some []
parameters (json.member name d ms) = do
  value ← parameter_value d
  others ← parameters ms
  Some (record { name = name; value = value } ∷ others)

-- parameters, where the member is there
abbrev pub parameters_if_there : Option Data → Option (List Parameter)
parameters_if_there None = Some []
parameters_if_there (Some d) = as_object d >>= parameters

-- the parameters of a statement
abbrev pub parameters_at : Data → Option (List Parameter)
parameters_at d = parameters_if_there (get (codes "params") d)

-- the members of a call that asks for rows
unfoldable pub query_members_of : Data → Option QueryMembers
query_members_of d = do
  all ← guard (count_of d == 3 + count_at (codes "params") d + (count_at (codes "first") d + count_at (codes "max") d))
  em ← integer_at (codes "em") d
  text ← text_at (codes "text") d
  values ← parameters_at d
  first ← optional_integer_at (codes "first") d
  most ← optional_integer_at (codes "max") d
  Some (record { em = em; text = text; parameters = values; first = first; max = most })

-- a call that asks for rows
abbrev pub of_query_members : (ℤ → List ℕ → List Parameter → Option ℤ → Option ℤ → Call) → Data → Option Call
of_query_members call d = do
  q ← query_members_of d
  Some (call q.em q.text q.parameters q.first q.max)

-- the call executeUpdate
unfoldable pub execute_update_of : Data → Option Call
execute_update_of d = do
  all ← guard (count_of d == 3 + count_at (codes "params") d)
  em ← integer_at (codes "em") d
  text ← text_at (codes "text") d
  values ← parameters_at d
  Some (ExecuteUpdate em text values)

-- ---- calls that are this provider's own

-- the call values
unfoldable pub values_of : Data → Option Call
values_of d = do
  all ← guard (count_of d == 2)
  member ← get (codes "objects") d
  objects ← list_of integer_of member
  Some (Values objects)

-- the call restart
unfoldable pub restart_of : Data → Option Call
restart_of d = do
  all ← guard (count_of d == 1)
  Some Restart

-- the call index
unfoldable pub index_of : Data → Option Call
index_of d = do
  all ← guard (count_of d == 3)
  entity ← text_at (codes "entity") d
  name ← text_at (codes "name") d
  Some (Index entity name)

-- ---- the words

-- the word that names a call
abbrev pub word_of : List ℕ → Option Word
word_of name =
    if bytes_eq name (codes "createEntityManager") then Some word.CreateEntityManager
    else if bytes_eq name (codes "new") then Some word.New
    else if bytes_eq name (codes "set") then Some word.Set
    else if bytes_eq name (codes "get") then Some word.Get
    else if bytes_eq name (codes "add") then Some word.Add
    else if bytes_eq name (codes "takeOut") then Some word.TakeOut
    else if bytes_eq name (codes "begin") then Some word.Begin
    else if bytes_eq name (codes "persist") then Some word.Persist
    else if bytes_eq name (codes "remove") then Some word.Remove
    else if bytes_eq name (codes "refresh") then Some word.Refresh
    else if bytes_eq name (codes "detach") then Some word.Detach
    else if bytes_eq name (codes "merge") then Some word.Merge
    else if bytes_eq name (codes "lock") then Some word.Lock
    else if bytes_eq name (codes "contains") then Some word.Contains
    else if bytes_eq name (codes "clear") then Some word.Clear
    else if bytes_eq name (codes "close") then Some word.Close
    else if bytes_eq name (codes "flush") then Some word.Flush
    else if bytes_eq name (codes "setFlushMode") then Some word.SetFlushMode
    else if bytes_eq name (codes "commit") then Some word.Commit
    else if bytes_eq name (codes "rollback") then Some word.Rollback
    else if bytes_eq name (codes "setRollbackOnly") then Some word.SetRollbackOnly
    else if bytes_eq name (codes "find") then Some word.Find
    else if bytes_eq name (codes "getReference") then Some word.GetReference
    else if bytes_eq name (codes "query") then Some word.Query
    else if bytes_eq name (codes "querySingle") then Some word.QuerySingle
    else if bytes_eq name (codes "executeUpdate") then Some word.ExecuteUpdate
    else if bytes_eq name (codes "values") then Some word.Values
    else if bytes_eq name (codes "pending") then Some word.Pending
    else if bytes_eq name (codes "restart") then Some word.Restart
    else if bytes_eq name (codes "index") then Some word.Index
    else None

-- the call of this word with the members of d
abbrev pub worded_call : Word → Data → Option Call
worded_call word.CreateEntityManager d = create_of d
worded_call word.New d = new_of d
worded_call word.Set d = set_of d
worded_call word.Get d = get_of d
worded_call word.Add d = by_member_of Add d
worded_call word.TakeOut d = by_member_of TakeOut d
worded_call word.Begin d = of_em Begin d
worded_call word.Persist d = of_em_and_object Persist d
worded_call word.Remove d = of_em_and_object Remove d
worded_call word.Refresh d = of_em_and_object Refresh d
worded_call word.Detach d = of_em_and_object Detach d
worded_call word.Merge d = of_em_and_object Merge d
worded_call word.Lock d = lock_of d
worded_call word.Contains d = of_em_and_object Contains d
worded_call word.Clear d = of_em Clear d
worded_call word.Close d = of_em Close d
worded_call word.Flush d = of_em Flush d
worded_call word.SetFlushMode d = set_flush_mode_of d
worded_call word.Commit d = of_em Commit d
worded_call word.Rollback d = of_em Rollback d
worded_call word.SetRollbackOnly d = of_em SetRollbackOnly d
worded_call word.Find d = by_key_of Find d
worded_call word.GetReference d = by_key_of GetReference d
worded_call word.Query d = of_query_members Query d
worded_call word.QuerySingle d = of_query_members QuerySingle d
worded_call word.ExecuteUpdate d = execute_update_of d
worded_call word.Values d = values_of d
worded_call word.Pending d = of_em Pending d
worded_call word.Restart d = restart_of d
worded_call word.Index d = index_of d

-- whether one value or object is handed in for a parameter
abbrev pub is_single : ParameterValue → Bool
is_single (Single value) = true
is_single (Collection all) = false

-- the parameters of a call; none of one that has no query text
abbrev pub parameters_of : Call → List Parameter
parameters_of (Query em text values first most) = values
parameters_of (QuerySingle em text values first most) = values
parameters_of (ExecuteUpdate em text values) = values
parameters_of _ = []

-- whether a call is one of the language: a collection as a parameter is the wider one's alone
abbrev pub speaks : Language → Call → Bool
speaks Language.Wide call = true
speaks Language.Profile call = list_all (λ (p : Parameter). is_single p.value) (parameters_of call)

-- the call that JSON means in a language, by its word and its members
unfoldable pub call_of : Language → Data → Option Call
call_of language d = do
  name ← text_at (codes "call") d
  w ← word_of name
  call ← worded_call w d
  spoken ← guard (speaks language call)
  Some call

-- the call that a text means in a language, where it is one
unfoldable pub text_call : Language → List ℕ → Option Call
text_call language text = do
  d ← text_data text
  call_of language d

-- ---- lines

-- what a line means in a language: a call, or the refusal that answers it
unfoldable pub meaning : Language → List ℕ → Result Call Cause
meaning language line =
    if nat_lt most_line_bytes (length line) then Err Limit else ok_or (text_call language line) BadLine
