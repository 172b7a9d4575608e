-- Persons by their names: where they stand, what spans cover, and whom an index knows.
use Rattle.std.specs.Prelude.{◌≡◌, refl, ℕ, true, false, pos, List, [], ◌∷◌, Some, None}
use Rattle.std.proofs.Common.{Less, Greater}
use Rattle.std.specs.List.{list_any}
use Rattle.jpa_value.specs.declared.value.Value.{Value}
use Rattle.jpa_value.specs.declared.value.Identity.{Identity}
use Rattle.jpa_model.specs.declared.unit.Member.{Member}
use Rattle.jpa_stored.specs.declared.objects.stored.Stored.{Stored}
use Rattle.jpa_stored.specs.declared.ordered.column.Column.{Column}
use Rattle.jpa_stored.specs.declared.ordered.cut.Cut.{Cut}
use Rattle.jpa_stored.specs.declared.ordered.cut.Span.{Span}
use Rattle.jpa_stored.specs.declared.ordered.valued.Valued.{Valued}
use Rattle.jpa_stored.specs.ordered.Values.{own_value, at_object, cut_cmp, valued_cmp, valued, lies_in, lies_in_any, owners_in, same_valued, IsIn, has_column}

abbrev ada : Value
ada = Value.Text (65 ∷ 100 ∷ 97 ∷ [])

abbrev bob : Value
bob = Value.Text (66 ∷ 111 ∷ 98 ∷ [])

abbrev under : ℕ → Identity
under n = record { table = 1; key = Value.Int (pos n) ∷ [] }

-- of class 0, with a name alone
abbrev named : Value → Stored
named name = record { class = 0; version = None; values = name ∷ []; owned = [] }

abbrev name : Member
name = Member.Attribute 0

-- what a person has by the name, by the key, and where nothing is
by_name : own_value name (under 7, named ada) ≡ ada
by_name = refl

by_key : own_value (Member.KeyPart 0) (under 7, named ada) ≡ Value.Int (pos 7)
by_key = refl

by_no_attribute : own_value (Member.Attribute 1) (under 7, named ada) ≡ Value.Null
by_no_attribute = refl

by_version : own_value Member.Version (under 7, named ada) ≡ Value.Null
by_version = refl

-- who has no name stands first, then names go by their letters, then keys by number
nobody_first : cut_cmp (at_object name (under 9, named Value.Null)) (at_object name (under 7, named ada)) ≡ Less
nobody_first = refl

by_letters : cut_cmp (at_object name (under 9, named ada)) (at_object name (under 7, named bob)) ≡ Less
by_letters = refl

by_number : cut_cmp (at_object name (under 10, named ada)) (at_object name (under 9, named ada)) ≡ Greater
by_number = refl

abbrev behind : Value → Cut
behind v = record { value = v; behind = true; owner = record { table = 0; key = [] } }

abbrev before : Value → Cut
before v = record { value = v; behind = false; owner = record { table = 0; key = [] } }

-- behind all who have the name, and before the next name
behind_ada : cut_cmp (at_object name (under 10, named ada)) (behind ada) ≡ Less
behind_ada = refl

before_bob : cut_cmp (behind ada) (at_object name (under 1, named bob)) ≡ Less
before_bob = refl

-- all of one name, whatever their keys
abbrev all_of : Value → Span
all_of v = record { from = Some (before v); to = Some (behind v) }

adas : lies_in name (all_of ada) (under 10, named ada) ≡ true
adas = refl

no_bobs : lies_in name (all_of ada) (under 10, named bob) ≡ false
no_bobs = refl

no_namesakes : lies_in name (all_of ada) (under 10, named (Value.Text (65 ∷ 100 ∷ 97 ∷ 109 ∷ []))) ≡ false
no_namesakes = refl

-- above a name, without an end
abbrev above : Value → Span
above v = record { from = Some (behind v); to = None }

-- null is above no name
above_ada : lies_in_any name (above ada ∷ all_of Value.Null ∷ []) (under 3, named bob) ≡ true
above_ada = refl

null_not_above : lies_in_any name (above ada ∷ []) (under 3, named Value.Null) ≡ false
null_not_above = refl

null_in_its_span : lies_in_any name (above ada ∷ all_of Value.Null ∷ []) (under 3, named Value.Null) ≡ true
null_in_its_span = refl

-- from one number in front of the next
numbers_first : valued_cmp (valued 0 (at_object name (under 9, named bob))) (valued 1 (at_object name (under 1, named ada))) ≡ Less
numbers_first = refl

abbrev entry : ℕ → ℕ → Value → Valued
entry number key v = valued number (at_object name (under key, named v))

-- of index 0, and one of index 1
abbrev entries : List Valued
entries = entry 0 3 Value.Null ∷ entry 0 7 ada ∷ entry 0 9 ada ∷ entry 0 4 bob ∷ entry 1 8 ada ∷ []

owners_of_ada : owners_in entries 0 (all_of ada ∷ []) ≡ under 7 ∷ under 9 ∷ []
owners_of_ada = refl

owners_span_by_span : owners_in entries 0 (above ada ∷ all_of Value.Null ∷ []) ≡ under 4 ∷ under 3 ∷ []
owners_span_by_span = refl

owners_of_all : owners_in entries 1 (record { from = None; to = None } ∷ []) ≡ under 8 ∷ []
owners_of_all = refl

-- a span that ends where it begins has none
owners_of_none : owners_in entries 0 (record { from = Some (behind ada); to = Some (before ada) } ∷ []) ≡ []
owners_of_none = refl

abbrev column : Column
column = record { class = 0; member = name; number = 0 }

-- an object has its entry, whatever else is there
has_entry : IsIn entries (entry 0 9 ada)
has_entry = refl

no_entry : list_any (same_valued (entry 0 9 bob)) entries ≡ false
no_entry = refl

same_column : has_column (column ∷ []) 0 name 0 ≡ true
same_column = refl

other_member : has_column (column ∷ []) 0 (Member.KeyPart 0) 0 ≡ false
other_member = refl
