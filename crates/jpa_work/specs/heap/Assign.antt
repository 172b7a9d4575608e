-- What set makes of an object, or why it is refused (Jakarta Persistence 3.1, chapters 2.2 and
-- 3.2).
use Rattle.std.specs.Prelude.{ℕ, Bool, true, false, List, slice_get, Option, Some, None, Result, Ok, Err}
use Rattle.jpa_value.specs.declared.value.Value.{Value}
use Rattle.jpa_value.specs.declared.refusal.Cause.{Cause}
use Rattle.jpa_value.specs.declared.refusal.Argument.{Argument}
use Rattle.jpa_value.specs.Value.{fits}
use Rattle.jpa_model.specs.declared.unit.PersistenceUnit.{PersistenceUnit}
use Rattle.jpa_model.specs.declared.unit.Member.{Member}
use Rattle.jpa_model.specs.declared.unit.Attribute.{Attribute}
use Rattle.jpa_model.specs.declared.unit.Part.{Part}
use Rattle.jpa_model.specs.Chains.{attributes_of, relation_at, root_of, is_to_one, is_kind_of, member_of}
use Rattle.jpa_work.specs.declared.heap.Link.{Link}
use Rattle.jpa_work.specs.declared.heap.Held.{Held}
use Rattle.jpa_work.specs.declared.heap.LiveObject.{LiveObject}
use Rattle.jpa_work.specs.declared.heap.Handed.{Handed}
use Rattle.jpa_work.specs.heap.Objects.{object_at, is_new, with_value, with_held}

-- ---- which values a member takes

-- a key part takes a value that fits its kind
abbrev pub fits_part : Option Part → Handed → Bool
fits_part None v = false
fits_part (Some part) (Handed.Plain v) = fits part.kind v
fits_part (Some part) (Handed.Object k) = false

-- a version takes null and integers
abbrev pub fits_version : Handed → Bool
fits_version (Handed.Plain Value.Null) = true
fits_version (Handed.Plain (Value.Int n)) = true
fits_version (Handed.Plain (Value.Text bytes)) = false
fits_version (Handed.Plain (Value.Bytes bytes)) = false
fits_version (Handed.Object k) = false

-- an attribute takes a value that fits it; nothing else takes one
abbrev pub fits_attribute : Option Attribute → Value → Bool
fits_attribute None v = false
fits_attribute (Some a) v = fits a.kind v

-- an attribute takes a value that fits it, and no object
abbrev pub fits_plain : Option Attribute → Handed → Bool
fits_plain a (Handed.Plain v) = fits_attribute a v
fits_plain a (Handed.Object k) = false

-- a to-one relation takes null and an object of the relation's target or a subclass, in whatever
-- state
abbrev pub fits_link : PersistenceUnit → List LiveObject → ℕ → Handed → Bool
fits_link m objects target (Handed.Plain Value.Null) = true
fits_link m objects target (Handed.Plain (Value.Int n)) = false
fits_link m objects target (Handed.Plain (Value.Text bytes)) = false
fits_link m objects target (Handed.Plain (Value.Bytes bytes)) = false
fits_link m objects target (Handed.Object k) = is_kind_of m (object_at objects k).class target

-- a value that is handed in; null where an object is
abbrev pub plain : Handed → Value
plain (Handed.Plain v) = v
plain (Handed.Object k) = Value.Null

-- the link to an object that is handed in; none where a value is
abbrev pub link_to : Handed → Link
link_to (Handed.Plain v) = Link.None
link_to (Handed.Object k) = Link.Object k

-- ---- set

-- the rest where the test holds, else the refusal
abbrev pub unless_refused : Bool → Argument → Result LiveObject Cause → Result LiveObject Cause
unless_refused true argument rest = rest
unless_refused false argument rest = Err (Cause.IllegalArgument argument)

-- a key part and the version are set of a new object alone
abbrev pub set_part : List Part → LiveObject → Handed → ℕ → Result LiveObject Cause
set_part parts x v i =
    unless_refused (fits_part (slice_get parts i) v) Argument.Type
    (unless_refused (is_new x.life) Argument.Key (Ok (with_value x (Member.KeyPart i) (plain v))))

-- the version is set of a new object alone, to null or an integer
abbrev pub set_version : LiveObject → Handed → Result LiveObject Cause
set_version x v =
    unless_refused (fits_version v) Argument.Type
    (unless_refused (is_new x.life) Argument.Version (Ok (with_value x Member.Version (plain v))))

-- an attribute is set to a value that fits it, in any state of the object
abbrev pub set_attribute : List Attribute → LiveObject → Handed → ℕ → Result LiveObject Cause
set_attribute attributes x v i =
    unless_refused (fits_plain (slice_get attributes i) v) Argument.Type
    (Ok (with_value x (Member.Attribute i) (plain v)))

-- a collection is not set
abbrev pub set_member : PersistenceUnit → List LiveObject → LiveObject → Handed → Option Member →
    Result LiveObject Cause
set_member m objects x v None = Err (Cause.IllegalArgument Argument.Name)
set_member m objects x v (Some (Member.KeyPart i)) = set_part (root_of m x.class).key x v i
set_member m objects x v (Some Member.Version) = set_version x v
set_member m objects x v (Some (Member.Attribute i)) = set_attribute (attributes_of m x.class) x v i
set_member m objects x v (Some (Member.Relation r)) =
    let relation = relation_at m x.class r in
    unless_refused (is_to_one relation.side) Argument.Name
    (unless_refused (fits_link m objects relation.target v) Argument.Type (Ok (with_held x r (Held.One (link_to v)))))

-- by the name of the member
abbrev pub set_in : PersistenceUnit → List LiveObject → ℕ → List ℕ → Handed → Result LiveObject Cause
set_in m objects n name v = let x = object_at objects n in set_member m objects x v (member_of m x.class name)
