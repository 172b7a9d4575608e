-- What a reply is as JSON, and its bytes.
use Rattle.std.specs.Prelude.{ℕ, true, List, [], ◌∷◌, ◌++◌, map, codes, Option, Some, None, Result, Ok, Err}
use Rattle.hex.specs.Hex.{encode_lower}
use Rattle.jpa_value.specs.declared.refusal.Refusal.{Refusal}
use Rattle.jpa_value.specs.declared.value.Value.{Value}
use Rattle.jpa_value.specs.declared.value.Value.TheVariants.{Null, Int, Text, Bytes}
use Rattle.jpa_value.specs.Refusal.{refusal_name, refusal_number, refusal_detail}
use Rattle.jpa_protocol.specs.declared.event.Told.{Told}
use Rattle.jpa_protocol.specs.declared.reply.Answer.{Answer}
use Rattle.jpa_protocol.specs.declared.reply.Answer.TheVariants as answer
use Rattle.jpa_protocol.specs.declared.reply.Due.{Due}
use Rattle.jpa_protocol.specs.declared.reply.Item.{Item}
use Rattle.jpa_protocol.specs.declared.reply.Item.TheVariants as row
use Rattle.jpa_protocol.specs.declared.reply.Reached.{Reached}
use Rattle.jpa_protocol.specs.declared.reply.Reached.TheVariants as reached
use Rattle.jpa_protocol.specs.declared.reply.Reply.{Reply}
use Rattle.jpa_protocol.specs.declared.reply.Shown.{Shown}
use Rattle.jpa_value.specs.Event.{event_name}
use Rattle.serde_json.specs.Data.{Data, null, boolean, number, string, array, object, unsigned, no_items, item, Members}
use Rattle.serde_json.specs.Data.{member, no_members}
use Rattle.serde_json.specs.Find.{of_integer}
use Rattle.serde_json.specs.View.{items_of}
use Rattle.serde_json.specs.Written.{compact_text}

-- bytes are hex digits, in lower case
abbrev pub value_data : Value → Data
value_data Null = null
value_data (Int z) = number (of_integer z)
value_data (Text text) = string text
value_data (Bytes bytes) = object (member (codes "hex") (string (encode_lower bytes)) no_members)

-- an object, by its number
abbrev pub object_data : ℕ → Data
object_data n = object (member (codes "object") (number (unsigned n)) no_members)

-- an item of a row: a value or an object
abbrev pub item_data : Item → Data
item_data (row.Value v) = value_data v
item_data (row.Object n) = object_data n

-- a row of one item is the item, any other a list
abbrev pub row_data : List Item → Data
row_data [] = array no_items
row_data (x ∷ []) = item_data x
row_data (x ∷ y ∷ xs) = array (items_of (map item_data (x ∷ y ∷ xs)))

-- values, in their order
abbrev pub values_data : List Value → Data
values_data vs = array (items_of (map value_data vs))

-- what a relation holds: null, an object, a key, a list, or that it wasn't read
abbrev pub reached_data : Reached → Data
reached_data reached.Nothing = null
reached_data (reached.Object n) = object_data n
reached_data (reached.Key vs) = object (member (codes "key") (values_data vs) no_members)
reached_data (reached.Objects ns) = array (items_of (map object_data ns))
reached_data reached.Unread = object (member (codes "unread") (boolean true) no_members)

-- what an object holds
abbrev pub shown_data : Shown → Data
shown_data x = object (member (codes "entity") (string x.entity)
    (member (codes "relations") (array (items_of (map reached_data x.relations)))
    (member (codes "values") (values_data x.values) no_members)))

-- a callback that would run: the event and the object
abbrev pub due_data : Due → Data
due_data d = array (item (string (event_name d.event)) (item (number (unsigned d.object)) no_items))

-- an answer
abbrev pub answer_data : Answer → Data
answer_data answer.Null = null
answer_data (answer.Truth b) = boolean b
answer_data (answer.Number n) = number (unsigned n)
answer_data (answer.Value v) = value_data v
answer_data (answer.Object n) = object_data n
answer_data (answer.Objects ns) = array (items_of (map object_data ns))
answer_data (answer.Row xs) = row_data xs
answer_data (answer.Rows rows) = array (items_of (map row_data rows))
answer_data (answer.Shown xs) = array (items_of (map shown_data xs))
answer_data (answer.Due ds) = array (items_of (map due_data ds))

-- the event, the object, and the listeners and callbacks that ran
abbrev pub event_data : Told → Data
event_data told = array
    (item (string (event_name told.event)) (item (number (unsigned told.object)) (items_of (map string told.ran))))

-- the events that were told
abbrev pub events_data : List Told → Data
events_data events = array (items_of (map event_data events))

-- the member `why`, where a refusal has a detail
abbrev pub why_member : Option (List ℕ) → Members
why_member None = no_members
why_member (Some detail) = member (codes "why") (string detail) no_members

-- a refusal: name, number and detail
abbrev pub refusal_data : Refusal → Data
refusal_data r = object (member (codes "name") (string (refusal_name r))
    (member (codes "no") (number (unsigned (refusal_number r))) (why_member (refusal_detail r))))

-- the members in the order of their names
abbrev pub accepted_data : Data → Data → Data
accepted_data events ok = object (member (codes "events") events (member (codes "ok") ok no_members))

-- the reply of a refused call
abbrev pub refused_data : Data → Data → Data
refused_data events error = object (member (codes "error") error (member (codes "events") events no_members))

-- the reply of an accepted or a refused call
abbrev pub outcome_data : Data → Result Answer Refusal → Data
outcome_data events (Ok answer) = accepted_data events (answer_data answer)
outcome_data events (Err refusal) = refused_data events (refusal_data refusal)

-- a reply
abbrev pub reply_data : Reply → Data
reply_data r = outcome_data (events_data r.events) r.answer

-- the reply as compact JSON, and a line feed
abbrev pub reply_text : Reply → List ℕ
reply_text r = compact_text (reply_data r) ++ 10 ∷ []
