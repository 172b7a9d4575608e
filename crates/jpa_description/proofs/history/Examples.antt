-- Worked examples of the condition on a history, and of the history that a description gives.
use Rattle.std.specs.Prelude.{codes, ◌≡◌, refl, ℕ, ℤ, pos, negsuc, true, false, List, [], ◌∷◌, Option, Some, None, Ok, Err}
use Rattle.jpa_value.specs.declared.value.Value.{Value}
use Rattle.jpa_value.specs.declared.value.Kind.{Kind}
use Rattle.jpa_value.specs.declared.refusal.Cause.{Cause}
use Rattle.jpa_value.specs.declared.refusal.MappingFault.{MappingFault}
use Rattle.jpa_model.specs.declared.unit.Attribute.{Attribute}
use Rattle.jpa_model.specs.declared.unit.Entity.{Entity}
use Rattle.jpa_model.specs.declared.unit.Origin.{Origin}
use Rattle.jpa_model.specs.declared.unit.PersistenceUnit.{PersistenceUnit}
use Rattle.jpa_description.specs.declared.history.draft.DraftChange.{DraftChange}
use Rattle.jpa_description.specs.declared.history.draft.DraftHistory.{DraftHistory}
use Rattle.jpa_description.specs.declared.history.history.Change.{Change}
use Rattle.jpa_description.specs.declared.history.history.History.{History}
use Rattle.jpa_description.specs.history.Condition.{has_changes, checked_history, change_of}
use Rattle.jpa_description.specs.history.History.{changes_along, unchanged}

-- a person, versioned in column 1, with one required attribute in column 3, and a customer below
abbrev hits : Attribute
hits = record { name = codes "hits"; kind = Kind.Int; column = 3; required = true; converter = None }

abbrev rank : Attribute
rank = record { name = codes "rank"; kind = Kind.Text; column = 6; required = false; converter = None }

abbrev person : Entity
person = record {
  name = codes "Person";
  origin = Origin.Root (record { table = 1; key = record { name = codes "id"; kind = Kind.Int } ∷ []; embedded = None; generated = true; version = Some (record { name = codes "version"; column = 1 }) });
  discriminator = codes "Person";
  attributes = hits ∷ [];
  relations = [];
  listeners = [];
  callbacks = [];
  exclude_default = false;
  exclude_super = false;
}

abbrev customer : Entity
customer = record person { name = codes "Customer"; origin = Origin.Extends 0; discriminator = codes "Customer"; attributes = rank ∷ [] }

abbrev unit : ℕ → PersistenceUnit
unit revision = record { revision = revision; listeners = []; entities = person ∷ customer ∷ [] }

-- the members of the attribute of persons and of their root, and those of customers' attribute
abbrev change : Option ℤ → Option Value → Option ℤ → DraftChange
change since default was = record { since = since; default = default; was = was }

abbrev no_change : DraftChange
no_change = change None None None

abbrev of_both : DraftChange → Option (List ℤ) → DraftChange → DraftHistory
of_both c dropped below = record { classes = record { dropped = dropped; changes = c ∷ [] } ∷ record { dropped = None; changes = below ∷ [] } ∷ [] }

abbrev of : DraftChange → Option (List ℤ) → DraftHistory
of c dropped = of_both c dropped no_change

abbrev zero : Option Value
zero = Some (Value.Int (pos 0))

abbrev new_zero : DraftChange
new_zero = change (Some (pos 2)) zero None

abbrev moved : Option ℤ → DraftChange
moved was = change None None was

as_before : has_changes (unit 1) (of no_change None) ≡ true
as_before = refl

second : has_changes (unit 2) (of new_zero (Some (pos 2 ∷ pos 4 ∷ []))) ≡ true
second = refl

second_unchanged : has_changes (unit 2) (of no_change None) ≡ true
second_unchanged = refl

second_moved : has_changes (unit 2) (of (moved (Some (pos 2))) None) ≡ true
second_moved = refl

second_drops_none : has_changes (unit 2) (of no_change (Some [])) ≡ true
second_drops_none = refl

-- the members with revision 1, an empty list and null too; another revision
first_since : has_changes (unit 1) (of new_zero None) ≡ false
first_since = refl

first_was : has_changes (unit 1) (of (moved (Some (pos 2))) None) ≡ false
first_was = refl

first_null : has_changes (unit 1) (of (change None (Some Value.Null) None) None) ≡ false
first_null = refl

first_dropped : has_changes (unit 1) (of no_change (Some [])) ≡ false
first_dropped = refl

first_below : has_changes (unit 1) (of_both no_change None (moved (Some (pos 2)))) ≡ false
first_below = refl

third : has_changes (unit 3) (of no_change None) ≡ false
third = refl

-- since other than 2; a required attribute without a default; a default without since; a default of another type, null, too long
since_one : has_changes (unit 2) (of (change (Some (pos 1)) zero None) None) ≡ false
since_one = refl

required_new : has_changes (unit 2) (of (change (Some (pos 2)) None None) None) ≡ false
required_new = refl

not_required_new : has_changes (unit 2) (of_both no_change None (change (Some (pos 2)) None None)) ≡ true
not_required_new = refl

default_alone : has_changes (unit 2) (of (change None zero None) None) ≡ false
default_alone = refl

default_text : has_changes (unit 2) (of (change (Some (pos 2)) (Some (Value.Text [])) None) None) ≡ false
default_text = refl

default_null : has_changes (unit 2) (of (change (Some (pos 2)) (Some Value.Null) None) None) ≡ false
default_null = refl

null_not_required : has_changes (unit 2) (of_both no_change None (change (Some (pos 2)) (Some Value.Null) None)) ≡ false
null_not_required = refl

-- was beside since; was the version's column, or the attribute's own; a number twice, or 0, or below it, or too great
was_since : has_changes (unit 2) (of (change (Some (pos 2)) zero (Some (pos 2))) None) ≡ false
was_since = refl

was_version : has_changes (unit 2) (of (moved (Some (pos 1))) None) ≡ false
was_version = refl

was_own : has_changes (unit 2) (of (moved (Some (pos 3))) None) ≡ false
was_own = refl

was_below : has_changes (unit 2) (of (moved (Some (pos 6))) None) ≡ false
was_below = refl

both_were : has_changes (unit 2) (of_both (moved (Some (pos 2))) None (moved (Some (pos 2)))) ≡ false
both_were = refl

was_dropped : has_changes (unit 2) (of (moved (Some (pos 2))) (Some (pos 2 ∷ []))) ≡ false
was_dropped = refl

was_negative : has_changes (unit 2) (of (moved (Some (negsuc 1))) None) ≡ false
was_negative = refl

dropped_twice : has_changes (unit 2) (of no_change (Some (pos 5 ∷ pos 5 ∷ []))) ≡ false
dropped_twice = refl

dropped_zero : has_changes (unit 2) (of no_change (Some (pos 0 ∷ []))) ≡ false
dropped_zero = refl

dropped_greatest : has_changes (unit 2) (of no_change (Some (pos 1000000 ∷ []))) ≡ true
dropped_greatest = refl

dropped_too_great : has_changes (unit 2) (of no_change (Some (pos 1000001 ∷ []))) ≡ false
dropped_too_great = refl

-- what is described
moved_from : change_of (moved (Some (pos 2))) ≡ Change.Moved 2
moved_from = refl

new_with : change_of new_zero ≡ Change.New (Some (Value.Int (pos 0)))
new_with = refl

new_without : change_of (change (Some (pos 2)) None None) ≡ Change.New None
new_without = refl

abbrev second_history : History
second_history = record { classes = record { dropped = 2 ∷ 4 ∷ []; changes = Change.New (Some (Value.Int (pos 0))) ∷ [] } ∷ record { dropped = []; changes = Change.Moved 5 ∷ [] } ∷ [] }

second_checked : checked_history (unit 2) (of_both new_zero (Some (pos 2 ∷ pos 4 ∷ [])) (moved (Some (pos 5)))) ≡ Ok second_history
second_checked = refl

first_checked : checked_history (unit 1) (of new_zero None) ≡ Err (Cause.Mapping MappingFault.Model)
first_checked = refl

-- along a chain, and of a history that says nothing
along : changes_along (unit 2) second_history 1 ≡ (hits, Change.New (Some (Value.Int (pos 0)))) ∷ (rank, Change.Moved 5) ∷ []
along = refl

along_unchanged : changes_along (unit 2) unchanged 1 ≡ (hits, Change.Kept) ∷ (rank, Change.Kept) ∷ []
along_unchanged = refl
