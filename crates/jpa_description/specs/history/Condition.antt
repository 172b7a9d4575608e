-- When a description gives a history: revision 1 has none of its members, and revision 2 meets
-- condition 8 on them.
use Rattle.std.specs.Prelude.{◌≡◌, ◌⊎◌, ℕ, ℤ, pos, Bool, true, not, ◌&&◌, ◌||◌, ◌==◌, List, [], ◌∷◌, ◌++◌, map, filter}
use Rattle.std.specs.Prelude.{length, Option, Some, None, is_some, unsigned_abs, if◌then◌else◌, Result, Ok, Err, IsTrue}
use Rattle.std.specs.List.{list_all, list_any, flat_map, range_with_len}
use Rattle.std.specs.Ordering.{int_eq}
use Rattle.jpa_value.specs.declared.value.Value.{Value}
use Rattle.jpa_value.specs.declared.refusal.Cause.{Cause}
use Rattle.jpa_value.specs.declared.refusal.MappingFault.{MappingFault}
use Rattle.jpa_model.specs.Chains.{entity_at, root_class, column_of}
use Rattle.jpa_model.specs.Drafted.{listed}
use Rattle.jpa_model.specs.WellFormed.{if_some, is_number}
use Rattle.jpa_model.specs.declared.unit.Attribute.{Attribute}
use Rattle.jpa_model.specs.declared.unit.Entity.{Entity}
use Rattle.jpa_model.specs.declared.unit.Origin.{Origin}
use Rattle.jpa_model.specs.declared.unit.PersistenceUnit.{PersistenceUnit}
use Rattle.jpa_rows.specs.keys.Keys.{is_part_of}
use Rattle.jpa_behaviour.specs.Behaviour.{is_short}
use Rattle.jpa_description.specs.declared.history.draft.DraftChange.{DraftChange}
use Rattle.jpa_description.specs.declared.history.draft.DraftClassHistory.{DraftClassHistory}
use Rattle.jpa_description.specs.declared.history.draft.DraftHistory.{DraftHistory}
use Rattle.jpa_description.specs.declared.history.history.Change.{Change}
use Rattle.jpa_description.specs.declared.history.history.ClassHistory.{ClassHistory}
use Rattle.jpa_description.specs.declared.history.history.History.{History}
use Rattle.jpa_description.specs.history.History.{class_at, unchanged}

-- ---- what is described

-- what an attribute is beside revision 1: moved, new or kept
abbrev pub change_by : Option ℤ → Option Value → Option ℤ → Change
change_by since default (Some column) = Change.Moved (unsigned_abs column)
change_by (Some revision) default None = Change.New default
change_by None default None = Change.Kept

-- what a description says that an attribute is beside revision 1
abbrev pub change_of : DraftChange → Change
change_of c = change_by c.since c.default c.was

-- the numbers of a list, where there is one
abbrev pub some_list : Option (List ℤ) → List ℤ
some_list None = []
some_list (Some numbers) = numbers

-- the history of a class
abbrev pub class_history_of : DraftClassHistory → ClassHistory
class_history_of c = record { dropped = map unsigned_abs (some_list c.dropped); changes = map change_of c.changes }

-- the history that a description describes
abbrev pub history_of : DraftHistory → History
history_of e = record { classes = map class_history_of e.classes }

-- ---- revision 1 has none of the members, not even an empty list

-- an attribute has none of the members
abbrev pub says_nothing : DraftChange → Bool
says_nothing c = not (is_some c.since) && not (is_some c.default) && not (is_some c.was)

-- a class has none of the members
abbrev pub is_as_before : DraftClassHistory → Bool
is_as_before c = not (is_some c.dropped) && list_all says_nothing c.changes

-- ---- 8. With revision 2 an attribute may be new (its `since` is 2) or have moved (from the column
-- that it `was` in), not both. A new one may have a default, a value of its type of at most 65,535
-- bytes, and has one where it is required; no other one has. The columns of a hierarchy, those that
-- its attributes had and those that are dropped are distinct and lie from 1 to 1,000,000.

-- a value of an attribute's type, short enough
abbrev pub is_value_of : Attribute → Value → Bool
is_value_of a v = is_part_of a.kind v && is_short v

-- what condition 8 asks of an attribute
abbrev pub is_changed_well : Attribute → DraftChange → Bool
is_changed_well a c =
    if_some (int_eq (pos 2)) c.since && if_some (is_value_of a) c.default && if_some is_number c.was
    && (is_some c.since || not (is_some c.default))
    && not (is_some c.was && is_some c.since)
    && (not a.required || not (is_some c.since) || is_some c.default)

-- the test passes at each of the first list with the one beside it in the second
abbrev pub all_paired : {A B : Type 0} → (A → B → Bool) → List A → List B → Bool
all_paired p [] ys = true
all_paired p (x ∷ xs) [] = true
all_paired p (x ∷ xs) (y ∷ ys) = p x y && all_paired p xs ys

-- what condition 8 asks of a class by itself
abbrev pub is_class_changed_well : Entity → DraftClassHistory → Bool
is_class_changed_well e c =
    list_all is_number (some_list c.dropped) && all_paired is_changed_well e.attributes c.changes

-- the columns of version, attributes and relations
abbrev pub version_columns : Origin → List ℕ
version_columns (Origin.Root root) = listed (λ v. v.column) root.version
version_columns (Origin.Extends parent) = []

-- the columns that a class declares: of its version, its attributes and its links
abbrev pub columns : PersistenceUnit → ℕ → List ℕ
columns m class =
    let e = entity_at m class in
    version_columns e.origin ++ map (λ a. a.column) e.attributes
    ++ flat_map (λ r. listed (λ c. c.column) (column_of r.side)) e.relations

-- the columns that a class had in revision 1 and has no more
abbrev pub moved_from : Change → List ℕ
moved_from Change.Kept = []
moved_from (Change.New default) = []
moved_from (Change.Moved column) = column ∷ []

-- the columns that a class had in revision 1 and has no more, and those that it drops
abbrev pub old_columns : History → ℕ → List ℕ
old_columns h class = flat_map moved_from (class_at h class).changes ++ (class_at h class).dropped

-- no number stands twice
abbrev pub are_distinct : List ℕ → Bool
are_distinct [] = true
are_distinct (n ∷ ns) = not (list_any (λ k. n == k) ns) && are_distinct ns

-- the places of the classes
abbrev pub classes : PersistenceUnit → List ℕ
classes m = range_with_len 0 (length m.entities)

-- the classes whose chains begin with this one
abbrev pub hierarchy : PersistenceUnit → ℕ → List ℕ
hierarchy m root = filter (λ class. root_class m class == root) (classes m)

-- the columns that these classes have and had are distinct
abbrev pub is_apart : PersistenceUnit → History → List ℕ → Bool
is_apart m h places = are_distinct (flat_map (columns m) places ++ flat_map (old_columns h) places)

-- the columns of each hierarchy, and those that it had, are distinct
abbrev pub are_apart : PersistenceUnit → History → Bool
are_apart m h = list_all (λ root. is_apart m h (hierarchy m root)) (classes m)

-- a unit of revision 1 has no history, and one of revision 2 meets condition 8
abbrev pub has_changes : PersistenceUnit → DraftHistory → Bool
has_changes m e =
    (m.revision == 1 && list_all is_as_before e.classes)
    || (m.revision == 2 && all_paired is_class_changed_well m.entities e.classes && are_apart m (history_of e))

-- what a check answers where there is memory
abbrev pub checked_history : PersistenceUnit → DraftHistory → Result History Cause
checked_history m e = if has_changes m e then Ok (history_of e) else Err (Cause.Mapping MappingFault.Model)

-- what some description says of the unit; a unit of revision 1 has also the history without a
-- change
abbrev pub IsHistoryOf : PersistenceUnit → History → Type 0
IsHistoryOf m h =
    ((m.revision ≡ 1) × (h ≡ unchanged)) ⊎ ((e : DraftHistory) × (IsTrue (has_changes m e) × (h ≡ history_of e)))
