-- Worked examples: what lines mean, and how replies are written.
use Rattle.std.proofs.Common.{◌≡◌, [], ◌∷◌, Some, None, Ok, Err, codes, pos, negsuc, refl}
use Rattle.std.specs.Str.{is_utf8, chars}
use Rattle.std.specs.Fmt.{digits}
use Rattle.hex.specs.Hex.{decode_pairs, encode_with}
use Rattle.serde_json.proofs.OnLiterals.{serde_json_on_literals}
use Rattle.jpa_value.specs.declared.refusal.Cause.{Cause}
use Rattle.jpa_value.specs.declared.refusal.PersistenceFault.{PersistenceFault}
use Rattle.jpa_value.specs.declared.refusal.Refusal.{Refusal}
use Rattle.jpa_value.specs.declared.value.Value.{Value}
use Rattle.jpa_protocol.specs.declared.call.Call.{Call}
use Rattle.jpa_protocol.specs.declared.call.Given.{Given}
use Rattle.jpa_protocol.specs.declared.call.FlushMode.{FlushMode}
use Rattle.jpa_protocol.specs.declared.call.LockMode.{LockMode}
use Rattle.jpa_protocol.specs.declared.call.Parameter.{Parameter}
use Rattle.jpa_protocol.specs.declared.call.ParameterValue.{ParameterValue}
use Rattle.jpql_trees.specs.declared.tree.Language.{Language}
use Rattle.jpa_value.specs.declared.event.LifecycleEvent.{LifecycleEvent}
use Rattle.jpa_protocol.specs.declared.reply.Answer.{Answer}
use Rattle.jpa_protocol.specs.declared.reply.Item.{Item}
use Rattle.jpa_protocol.specs.declared.reply.Reached.{Reached}
use Rattle.jpa_json.specs.readers.JsonOf.{text_data}
use Rattle.jpa_lines.specs.lines.CallOf.{meaning, text_call, call_of, create_of, new_of, set_of, get_of, by_member_of, em_of, em_and_object_of, lock_of, set_flush_mode_of, by_key_of, parameter_value, query_members_of, execute_update_of, values_of, restart_of, index_of, given_of, marked_of, hex_of}
use Rattle.jpa_lines.specs.lines.ReplyText.{reply_text}
use Rattle.jpa_lines.specs.lines.Run.{lines_of}

-- ---- lines

-- a line feed ends a line, and the last one may go without
lines_apart : lines_of (codes "ab\n\nc") ≡ codes "ab" ∷ [] ∷ codes "c" ∷ []
lines_apart = refl

no_lines : lines_of [] ≡ []
no_lines = refl

-- ---- what they mean

creates : meaning Language.Profile (codes "{\"call\":\"createEntityManager\"}") ≡ Ok Call.CreateEntityManager
unfolding is_utf8 chars meaning text_call text_data call_of create_of serde_json_on_literals
creates = refl

makes : meaning Language.Profile (codes "{\"call\":\"new\",\"entity\":\"Person\"}") ≡ Ok (Call.NewObject (codes "Person"))
unfolding is_utf8 chars meaning text_call text_data call_of new_of serde_json_on_literals
makes = refl

gives_text : meaning Language.Profile (codes "{\"call\":\"set\",\"object\":1,\"name\":\"name\",\"value\":\"Ada\"}") ≡ Ok (Call.SetValue (pos 1) (codes "name") (Given.Plain (Value.Text (codes "Ada"))))
unfolding is_utf8 chars meaning text_call text_data call_of set_of given_of serde_json_on_literals
gives_text = refl

gives_bytes : meaning Language.Profile (codes "{\"call\":\"set\",\"object\":1,\"name\":\"name\",\"value\":{\"hex\":\"0aFF\"}}") ≡ Ok (Call.SetValue (pos 1) (codes "name") (Given.Plain (Value.Bytes (10 ∷ 255 ∷ []))))
unfolding is_utf8 chars meaning text_call text_data call_of set_of given_of marked_of hex_of decode_pairs serde_json_on_literals
gives_bytes = refl

-- members in any order
gives_object : meaning Language.Profile (codes "{\"value\":{\"object\":-2},\"call\":\"set\",\"name\":\"a\",\"object\":1}") ≡ Ok (Call.SetValue (pos 1) (codes "a") (Given.Object (negsuc 1)))
unfolding is_utf8 chars meaning text_call text_data call_of set_of given_of marked_of serde_json_on_literals
gives_object = refl

gets : meaning Language.Profile (codes "{\"call\":\"get\",\"object\":1,\"name\":\"x\"}") ≡ Ok (Call.Get (pos 1) (codes "x"))
unfolding is_utf8 chars meaning text_call text_data call_of get_of serde_json_on_literals
gets = refl

adds : meaning Language.Profile (codes "{\"call\":\"add\",\"object\":1,\"name\":\"orders\",\"member\":2}") ≡ Ok (Call.Add (pos 1) (codes "orders") (pos 2))
unfolding is_utf8 chars meaning text_call text_data call_of by_member_of serde_json_on_literals
adds = refl

takes_out : meaning Language.Profile (codes "{\"member\":-1,\"object\":1,\"name\":\"orders\",\"call\":\"takeOut\"}") ≡ Ok (Call.TakeOut (pos 1) (codes "orders") (negsuc 0))
unfolding is_utf8 chars meaning text_call text_data call_of by_member_of serde_json_on_literals
takes_out = refl

-- a member is written as its number
adds_no_value : meaning Language.Profile (codes "{\"call\":\"add\",\"object\":1,\"name\":\"orders\",\"member\":{\"object\":2}}") ≡ Err Cause.BadLine
unfolding is_utf8 chars meaning text_call text_data call_of by_member_of serde_json_on_literals
adds_no_value = refl

begins : meaning Language.Profile (codes "{\"call\":\"begin\",\"em\":1}") ≡ Ok (Call.Begin (pos 1))
unfolding is_utf8 chars meaning text_call text_data call_of em_of serde_json_on_literals
begins = refl

persists : meaning Language.Profile (codes "{\"call\":\"persist\",\"em\":1,\"object\":1}") ≡ Ok (Call.Persist (pos 1) (pos 1))
unfolding is_utf8 chars meaning text_call text_data call_of em_and_object_of serde_json_on_literals
persists = refl

removes : meaning Language.Profile (codes "{\"call\":\"remove\",\"em\":1,\"object\":2}") ≡ Ok (Call.Remove (pos 1) (pos 2))
unfolding is_utf8 chars meaning text_call text_data call_of em_and_object_of serde_json_on_literals
removes = refl

refreshes : meaning Language.Profile (codes "{\"object\":2,\"em\":1,\"call\":\"refresh\"}") ≡ Ok (Call.Refresh (pos 1) (pos 2))
unfolding is_utf8 chars meaning text_call text_data call_of em_and_object_of serde_json_on_literals
refreshes = refl

detaches : meaning Language.Profile (codes "{\"call\":\"detach\",\"em\":2,\"object\":1}") ≡ Ok (Call.Detach (pos 2) (pos 1))
unfolding is_utf8 chars meaning text_call text_data call_of em_and_object_of serde_json_on_literals
detaches = refl

merges : meaning Language.Profile (codes "{\"call\":\"merge\",\"em\":2,\"object\":1}") ≡ Ok (Call.Merge (pos 2) (pos 1))
unfolding is_utf8 chars meaning text_call text_data call_of em_and_object_of serde_json_on_literals
merges = refl

locks : meaning Language.Profile (codes "{\"call\":\"lock\",\"em\":1,\"object\":2,\"mode\":\"READ\"}") ≡ Ok (Call.Lock (pos 1) (pos 2) LockMode.Read)
unfolding is_utf8 chars meaning text_call text_data call_of lock_of serde_json_on_literals
locks = refl

locks_optimistically : meaning Language.Profile (codes "{\"call\":\"lock\",\"em\":1,\"object\":2,\"mode\":\"OPTIMISTIC\"}") ≡ Ok (Call.Lock (pos 1) (pos 2) LockMode.Read)
unfolding is_utf8 chars meaning text_call text_data call_of lock_of serde_json_on_literals
locks_optimistically = refl

locks_to_write : meaning Language.Profile (codes "{\"mode\":\"WRITE\",\"call\":\"lock\",\"em\":1,\"object\":2}") ≡ Ok (Call.Lock (pos 1) (pos 2) LockMode.Write)
unfolding is_utf8 chars meaning text_call text_data call_of lock_of serde_json_on_literals
locks_to_write = refl

locks_to_increment : meaning Language.Profile (codes "{\"call\":\"lock\",\"em\":1,\"object\":2,\"mode\":\"OPTIMISTIC_FORCE_INCREMENT\"}") ≡ Ok (Call.Lock (pos 1) (pos 2) LockMode.Write)
unfolding is_utf8 chars meaning text_call text_data call_of lock_of serde_json_on_literals
locks_to_increment = refl

-- capitals matter
locks_by_no_word : meaning Language.Profile (codes "{\"call\":\"lock\",\"em\":1,\"object\":2,\"mode\":\"read\"}") ≡ Err Cause.BadLine
unfolding is_utf8 chars meaning text_call text_data call_of lock_of serde_json_on_literals
locks_by_no_word = refl

asks : meaning Language.Profile (codes "{\"call\":\"contains\",\"em\":1,\"object\":2}") ≡ Ok (Call.Contains (pos 1) (pos 2))
unfolding is_utf8 chars meaning text_call text_data call_of em_and_object_of serde_json_on_literals
asks = refl

clears : meaning Language.Profile (codes "{\"call\":\"clear\",\"em\":1}") ≡ Ok (Call.Clear (pos 1))
unfolding is_utf8 chars meaning text_call text_data call_of em_of serde_json_on_literals
clears = refl

closes : meaning Language.Profile (codes "{\"call\":\"close\",\"em\":1}") ≡ Ok (Call.Close (pos 1))
unfolding is_utf8 chars meaning text_call text_data call_of em_of serde_json_on_literals
closes = refl

flushes : meaning Language.Profile (codes "{\"call\":\"flush\",\"em\":1}") ≡ Ok (Call.Flush (pos 1))
unfolding is_utf8 chars meaning text_call text_data call_of em_of serde_json_on_literals
flushes = refl

-- the object is missing
of_no_object : meaning Language.Profile (codes "{\"call\":\"remove\",\"em\":1}") ≡ Err Cause.BadLine
unfolding is_utf8 chars meaning text_call text_data call_of em_and_object_of serde_json_on_literals
of_no_object = refl

refers : meaning Language.Profile (codes "{\"call\":\"getReference\",\"em\":1,\"entity\":\"Person\",\"key\":[1]}") ≡ Ok (Call.GetReference (pos 1) (codes "Person") (Given.Plain (Value.Int (pos 1)) ∷ []))
unfolding is_utf8 chars meaning text_call text_data call_of by_key_of given_of serde_json_on_literals
refers = refl

commits : meaning Language.Profile (codes " {\"call\":\"commit\",\"em\":1}\t") ≡ Ok (Call.Commit (pos 1))
unfolding is_utf8 chars meaning text_call text_data call_of em_of serde_json_on_literals
commits = refl

rolls_back : meaning Language.Profile (codes "{\"call\":\"rollback\",\"em\":1}") ≡ Ok (Call.Rollback (pos 1))
unfolding is_utf8 chars meaning text_call text_data call_of em_of serde_json_on_literals
rolls_back = refl

only_rolls_back : meaning Language.Profile (codes "{\"call\":\"setRollbackOnly\",\"em\":1}") ≡ Ok (Call.SetRollbackOnly (pos 1))
unfolding is_utf8 chars meaning text_call text_data call_of em_of serde_json_on_literals
only_rolls_back = refl

finds : meaning Language.Profile (codes "{\"call\":\"find\",\"em\":1,\"entity\":\"Person\",\"key\":[1,null]}") ≡ Ok (Call.Find (pos 1) (codes "Person") (Given.Plain (Value.Int (pos 1)) ∷ Given.Plain Value.Null ∷ []))
unfolding is_utf8 chars meaning text_call text_data call_of by_key_of given_of serde_json_on_literals
finds = refl

flushes_before_queries : meaning Language.Profile (codes "{\"call\":\"setFlushMode\",\"em\":1,\"mode\":\"AUTO\"}") ≡ Ok (Call.SetFlushMode (pos 1) FlushMode.Auto)
unfolding is_utf8 chars meaning text_call text_data call_of set_flush_mode_of serde_json_on_literals
flushes_before_queries = refl

flushes_at_commit : meaning Language.Profile (codes "{\"mode\":\"COMMIT\",\"call\":\"setFlushMode\",\"em\":1}") ≡ Ok (Call.SetFlushMode (pos 1) FlushMode.Commit)
unfolding is_utf8 chars meaning text_call text_data call_of set_flush_mode_of serde_json_on_literals
flushes_at_commit = refl

flushes_by_no_word : meaning Language.Profile (codes "{\"call\":\"setFlushMode\",\"em\":1,\"mode\":\"NEVER\"}") ≡ Err Cause.BadLine
unfolding is_utf8 chars meaning text_call text_data call_of set_flush_mode_of serde_json_on_literals
flushes_by_no_word = refl

asks_for_rows : meaning Language.Profile (codes "{\"call\":\"query\",\"em\":1,\"text\":\"SELECT p FROM Person p\"}") ≡ Ok (Call.Query (pos 1) (codes "SELECT p FROM Person p") [] None None)
unfolding is_utf8 chars meaning text_call text_data call_of query_members_of serde_json_on_literals
asks_for_rows = refl

asks_for_some_rows : meaning Language.Profile (codes "{\"call\":\"query\",\"em\":1,\"text\":\"SELECT p FROM Person p\",\"max\":2,\"first\":-1}") ≡ Ok (Call.Query (pos 1) (codes "SELECT p FROM Person p") [] (Some (negsuc 0)) (Some (pos 2)))
unfolding is_utf8 chars meaning text_call text_data call_of query_members_of serde_json_on_literals
asks_for_some_rows = refl

-- in the order of the names
asks_with_parameters : meaning Language.Profile (codes "{\"call\":\"query\",\"em\":1,\"text\":\"SELECT p FROM Person p\",\"params\":{\"x\":{\"object\":2},\"1\":null,\"y\":{\"hex\":\"0a\"}},\"max\":0}") ≡ Ok (Call.Query (pos 1) (codes "SELECT p FROM Person p") (record { name = codes "1"; value = ParameterValue.Single (Given.Plain Value.Null) } ∷ record { name = codes "x"; value = ParameterValue.Single (Given.Object (pos 2)) } ∷ record { name = codes "y"; value = ParameterValue.Single (Given.Plain (Value.Bytes (10 ∷ []))) } ∷ []) None (Some (pos 0)))
unfolding is_utf8 chars meaning text_call text_data call_of query_members_of given_of marked_of hex_of decode_pairs parameter_value serde_json_on_literals
asks_with_parameters = refl

-- the last value of a name that is repeated
asks_with_the_last_value : meaning Language.Profile (codes "{\"call\":\"query\",\"em\":1,\"text\":\"SELECT p FROM Person p\",\"params\":{\"x\":1,\"x\":\"a\"}}") ≡ Ok (Call.Query (pos 1) (codes "SELECT p FROM Person p") (record { name = codes "x"; value = ParameterValue.Single (Given.Plain (Value.Text (codes "a"))) } ∷ []) None None)
unfolding is_utf8 chars meaning text_call text_data call_of query_members_of given_of parameter_value serde_json_on_literals
asks_with_the_last_value = refl

asks_for_one_row : meaning Language.Profile (codes "{\"call\":\"querySingle\",\"em\":1,\"text\":\"SELECT p FROM Person p\",\"params\":{}}") ≡ Ok (Call.QuerySingle (pos 1) (codes "SELECT p FROM Person p") [] None None)
unfolding is_utf8 chars meaning text_call text_data call_of query_members_of parameter_value serde_json_on_literals
asks_for_one_row = refl

executes : meaning Language.Profile (codes "{\"call\":\"executeUpdate\",\"em\":1,\"text\":\"DELETE FROM Person p WHERE p.id = :id\",\"params\":{\"id\":3}}") ≡ Ok (Call.ExecuteUpdate (pos 1) (codes "DELETE FROM Person p WHERE p.id = :id") (record { name = codes "id"; value = ParameterValue.Single (Given.Plain (Value.Int (pos 3))) } ∷ []))
unfolding is_utf8 chars meaning text_call text_data call_of execute_update_of given_of parameter_value serde_json_on_literals
executes = refl

shows : meaning Language.Profile (codes "{\"call\":\"values\",\"objects\":[2,1,2]}") ≡ Ok (Call.Values (pos 2 ∷ pos 1 ∷ pos 2 ∷ []))
unfolding is_utf8 chars meaning text_call text_data call_of values_of serde_json_on_literals
shows = refl

-- objects are named by their numbers
shows_no_value : meaning Language.Profile (codes "{\"call\":\"values\",\"objects\":[{\"object\":2}]}") ≡ Err Cause.BadLine
unfolding is_utf8 chars meaning text_call text_data call_of values_of serde_json_on_literals
shows_no_value = refl

waits : meaning Language.Profile (codes "{\"call\":\"pending\",\"em\":1}") ≡ Ok (Call.Pending (pos 1))
unfolding is_utf8 chars meaning text_call text_data call_of em_of serde_json_on_literals
waits = refl

restarts : meaning Language.Profile (codes "{\"call\":\"restart\"}") ≡ Ok Call.Restart
unfolding is_utf8 chars meaning text_call text_data call_of restart_of serde_json_on_literals
restarts = refl

indexes : meaning Language.Profile (codes "{\"call\":\"index\",\"entity\":\"Title\",\"name\":\"name\"}") ≡ Ok (Call.Index (codes "Title") (codes "name"))
unfolding is_utf8 chars meaning text_call text_data call_of index_of serde_json_on_literals
indexes = refl

-- a restart is of no manager
restarts_none : meaning Language.Profile (codes "{\"call\":\"restart\",\"em\":1}") ≡ Err Cause.BadLine
unfolding is_utf8 chars meaning text_call text_data call_of restart_of serde_json_on_literals
restarts_none = refl

-- a bulk statement has no cut
executes_uncut : meaning Language.Profile (codes "{\"call\":\"executeUpdate\",\"em\":1,\"text\":\"DELETE FROM Person\",\"max\":3}") ≡ Err Cause.BadLine
unfolding is_utf8 chars meaning text_call text_data call_of execute_update_of serde_json_on_literals
executes_uncut = refl

-- null is no integer
null_max : meaning Language.Profile (codes "{\"call\":\"query\",\"em\":1,\"text\":\"SELECT p FROM Person p\",\"max\":null}") ≡ Err Cause.BadLine
unfolding is_utf8 chars meaning text_call text_data call_of query_members_of serde_json_on_literals
null_max = refl

-- and no object
null_params : meaning Language.Profile (codes "{\"call\":\"query\",\"em\":1,\"text\":\"SELECT p FROM Person p\",\"params\":null}") ≡ Err Cause.BadLine
unfolding is_utf8 chars meaning text_call text_data call_of query_members_of parameter_value serde_json_on_literals
null_params = refl

listed_params : meaning Language.Profile (codes "{\"call\":\"executeUpdate\",\"em\":1,\"text\":\"DELETE FROM Person\",\"params\":[1]}") ≡ Err Cause.BadLine
unfolding is_utf8 chars meaning text_call text_data call_of execute_update_of parameter_value serde_json_on_literals
listed_params = refl

truth_param : meaning Language.Profile (codes "{\"call\":\"executeUpdate\",\"em\":1,\"text\":\"DELETE FROM Person\",\"params\":{\"x\":true}}") ≡ Err Cause.BadLine
unfolding is_utf8 chars meaning text_call text_data call_of execute_update_of given_of parameter_value serde_json_on_literals
truth_param = refl

surplus_of_query : meaning Language.Profile (codes "{\"call\":\"query\",\"em\":1,\"text\":\"SELECT p FROM Person p\",\"first\":1,\"x\":1}") ≡ Err Cause.BadLine
unfolding is_utf8 chars meaning text_call text_data call_of query_members_of serde_json_on_literals
surplus_of_query = refl

cut_short : meaning Language.Profile (codes "{\"call\":\"find\"") ≡ Err Cause.BadLine
unfolding is_utf8 chars meaning text_call text_data call_of serde_json_on_literals
cut_short = refl

no_text : meaning Language.Profile (255 ∷ []) ≡ Err Cause.BadLine
unfolding is_utf8 chars meaning text_call text_data call_of serde_json_on_literals
no_text = refl

no_call : meaning Language.Profile (codes "{\"call\":\"x\"}") ≡ Err Cause.BadLine
unfolding is_utf8 chars meaning text_call text_data call_of serde_json_on_literals
no_call = refl

empty : meaning Language.Profile [] ≡ Err Cause.BadLine
unfolding is_utf8 chars meaning text_call text_data call_of serde_json_on_literals
empty = refl

surplus : meaning Language.Profile (codes "{\"call\":\"begin\",\"em\":1,\"x\":1}") ≡ Err Cause.BadLine
unfolding is_utf8 chars meaning text_call text_data call_of em_of serde_json_on_literals
surplus = refl

nameless : meaning Language.Profile (codes "{\"call\":\"get\",\"object\":1}") ≡ Err Cause.BadLine
unfolding is_utf8 chars meaning text_call text_data call_of get_of serde_json_on_literals
nameless = refl

fraction : meaning Language.Profile (codes "{\"call\":\"begin\",\"em\":1.5}") ≡ Err Cause.BadLine
unfolding is_utf8 chars meaning text_call text_data call_of em_of serde_json_on_literals
fraction = refl

beyond : meaning Language.Profile (codes "{\"call\":\"begin\",\"em\":9223372036854775808}") ≡ Err Cause.BadLine
unfolding is_utf8 chars meaning text_call text_data call_of em_of serde_json_on_literals
beyond = refl

-- ---- collections of values as parameters

-- the wider language reads an array as the values in it
asks_with_a_collection : meaning Language.Wide (codes "{\"call\":\"query\",\"em\":1,\"text\":\"q\",\"params\":{\"p\":[1,\"a\",{\"object\":3}]}}")
    ≡ Ok (Call.Query (pos 1) (codes "q")
    (record { name = codes "p"; value = ParameterValue.Collection (Given.Plain (Value.Int (pos 1)) ∷ Given.Plain (Value.Text (codes "a")) ∷ Given.Object (pos 3) ∷ []) } ∷ []) None None)
unfolding is_utf8 chars meaning text_call text_data call_of query_members_of parameter_value given_of marked_of serde_json_on_literals
asks_with_a_collection = refl

-- a collection may have nothing, and stand beside single values
executes_with_none : meaning Language.Wide (codes "{\"call\":\"executeUpdate\",\"em\":1,\"text\":\"u\",\"params\":{\"p\":[],\"q\":2}}")
    ≡ Ok (Call.ExecuteUpdate (pos 1) (codes "u")
    (record { name = codes "p"; value = ParameterValue.Collection [] } ∷ record { name = codes "q"; value = ParameterValue.Single (Given.Plain (Value.Int (pos 2))) } ∷ []))
unfolding is_utf8 chars meaning text_call text_data call_of execute_update_of parameter_value given_of serde_json_on_literals
executes_with_none = refl

-- the profile has no collections
asks_with_no_collection : meaning Language.Profile (codes "{\"call\":\"query\",\"em\":1,\"text\":\"q\",\"params\":{\"p\":[1]}}") ≡ Err Cause.BadLine
unfolding is_utf8 chars meaning text_call text_data call_of query_members_of parameter_value given_of serde_json_on_literals
asks_with_no_collection = refl

-- a collection has no collections
asks_with_nested_collections : meaning Language.Wide (codes "{\"call\":\"query\",\"em\":1,\"text\":\"q\",\"params\":{\"p\":[[1]]}}") ≡ Err Cause.BadLine
unfolding is_utf8 chars meaning text_call text_data call_of query_members_of parameter_value given_of serde_json_on_literals
asks_with_nested_collections = refl

-- elsewhere an array is no value in either language
sets_no_collection : meaning Language.Wide (codes "{\"call\":\"set\",\"object\":1,\"name\":\"a\",\"value\":[1]}") ≡ Err Cause.BadLine
unfolding is_utf8 chars meaning text_call text_data call_of set_of given_of serde_json_on_literals
sets_no_collection = refl

-- ---- replies

numbered : reply_text (record { events = []; answer = Ok (Answer.Number 1) }) ≡ codes "{\"events\":[],\"ok\":1}\n"
unfolding digits serde_json_on_literals
numbered = refl

made : reply_text (record { events = []; answer = Ok (Answer.Object 1) }) ≡ codes "{\"events\":[],\"ok\":{\"object\":1}}\n"
unfolding digits serde_json_on_literals
made = refl

persisted : reply_text (record { events = record { event = LifecycleEvent.PrePersist; object = 1; ran = codes "d" ∷ codes "b" ∷ [] } ∷ []; answer = Ok Answer.Null }) ≡ codes "{\"events\":[[\"PrePersist\",1,\"d\",\"b\"]],\"ok\":null}\n"
unfolding digits serde_json_on_literals
persisted = refl

stale : reply_text (record { events = record { event = LifecycleEvent.PreUpdate; object = 1; ran = [] } ∷ []; answer = Err (Refusal.Rollback (Cause.Persistence PersistenceFault.Version)) }) ≡ codes "{\"error\":{\"name\":\"Rollback\",\"no\":14,\"why\":\"Persistence(version)\"},\"events\":[[\"PreUpdate\",1]]}\n"
unfolding digits serde_json_on_literals
stale = refl

marked : reply_text (record { events = []; answer = Err Refusal.RollbackMarked }) ≡ codes "{\"error\":{\"name\":\"Rollback\",\"no\":14,\"why\":\"marked\"},\"events\":[]}\n"
unfolding digits serde_json_on_literals
marked = refl

bad : reply_text (record { events = []; answer = Err (Refusal.Because Cause.BadLine) }) ≡ codes "{\"error\":{\"name\":\"BadLine\",\"no\":3},\"events\":[]}\n"
unfolding digits serde_json_on_literals
bad = refl

listed : reply_text (record { events = []; answer = Ok (Answer.Objects (2 ∷ 3 ∷ 2 ∷ [])) }) ≡ codes "{\"events\":[],\"ok\":[{\"object\":2},{\"object\":3},{\"object\":2}]}\n"
unfolding digits serde_json_on_literals
listed = refl

rows : reply_text (record { events = []; answer = Ok (Answer.Rows ((Item.Value (Value.Int (negsuc 0)) ∷ []) ∷ (Item.Value (Value.Bytes (10 ∷ 255 ∷ [])) ∷ Item.Value Value.Null ∷ []) ∷ [])) }) ≡ codes "{\"events\":[],\"ok\":[-1,[{\"hex\":\"0aff\"},null]]}\n"
unfolding digits encode_with serde_json_on_literals
rows = refl

-- the row of a query is the item where it has one, a null too
found_null : reply_text (record { events = []; answer = Ok (Answer.Row (Item.Value Value.Null ∷ [])) }) ≡ codes "{\"events\":[],\"ok\":null}\n"
unfolding digits serde_json_on_literals
found_null = refl

found_pair : reply_text (record { events = []; answer = Ok (Answer.Row (Item.Object 2 ∷ Item.Value (Value.Text (codes "a")) ∷ [])) }) ≡ codes "{\"events\":[],\"ok\":[{\"object\":2},\"a\"]}\n"
unfolding digits serde_json_on_literals
found_pair = refl

found_none : reply_text (record { events = []; answer = Ok (Answer.Rows []) }) ≡ codes "{\"events\":[],\"ok\":[]}\n"
unfolding digits serde_json_on_literals
found_none = refl

shown : reply_text (record { events = []; answer = Ok (Answer.Shown (record { entity = codes "Company"; relations = Reached.Nothing ∷ Reached.Object 3 ∷ Reached.Key (Value.Int (pos 5) ∷ []) ∷ Reached.Unread ∷ Reached.Objects (4 ∷ []) ∷ []; values = Value.Int (pos 7) ∷ Value.Int (pos 0) ∷ Value.Text (codes "Ada") ∷ Value.Bytes (10 ∷ 255 ∷ []) ∷ [] } ∷ [])) }) ≡ codes "{\"events\":[],\"ok\":[{\"entity\":\"Company\",\"relations\":[null,{\"object\":3},{\"key\":[5]},{\"unread\":true},[{\"object\":4}]],\"values\":[7,0,\"Ada\",{\"hex\":\"0aff\"}]}]}\n"
unfolding digits encode_with serde_json_on_literals
shown = refl

due : reply_text (record { events = []; answer = Ok (Answer.Due (record { event = LifecycleEvent.PrePersist; object = 4 } ∷ record { event = LifecycleEvent.PreUpdate; object = 1 } ∷ [])) }) ≡ codes "{\"events\":[],\"ok\":[[\"PrePersist\",4],[\"PreUpdate\",1]]}\n"
unfolding digits serde_json_on_literals
due = refl
