-- What a history says of the classes of a unit: of each attribute what it is beside revision 1, and
-- which columns are no more.
use Rattle.std.specs.Prelude.{ℕ, List, [], ◌∷◌, slice_index_or}
use Rattle.std.specs.List.{flat_map}
use Rattle.jpa_model.specs.Chains.{chain, entity_at}
use Rattle.jpa_model.specs.declared.unit.Attribute.{Attribute}
use Rattle.jpa_model.specs.declared.unit.PersistenceUnit.{PersistenceUnit}
use Rattle.jpa_description.specs.declared.history.history.Change.{Change}
use Rattle.jpa_description.specs.declared.history.history.ClassHistory.{ClassHistory}
use Rattle.jpa_description.specs.declared.history.history.History.{History}

-- what stands where a history says nothing of a class
abbrev pub no_class : ClassHistory
no_class = record { dropped = []; changes = [] }

-- the history of a class
abbrev pub class_at : History → ℕ → ClassHistory
class_at h class = slice_index_or h.classes class no_class

-- each attribute with its change; one beyond the list is kept
abbrev pub changed : List Attribute → List Change → List (Attribute × Change)
changed [] changes = []
changed (a ∷ attributes) [] = (a, Change.Kept) ∷ changed attributes []
changed (a ∷ attributes) (c ∷ changes) = (a, c) ∷ changed attributes changes

-- those that a class itself declares
abbrev pub changes_of : PersistenceUnit → History → ℕ → List (Attribute × Change)
changes_of m h class = changed (entity_at m class).attributes (class_at h class).changes

-- those of a class and its superclasses, the root's first
abbrev pub changes_along : PersistenceUnit → History → ℕ → List (Attribute × Change)
changes_along m h class = flat_map (changes_of m h) (chain m class)

-- the columns that a class drops
abbrev pub dropped_by : History → ℕ → List ℕ
dropped_by h class = (class_at h class).dropped

-- nothing has changed
abbrev pub unchanged : History
unchanged = record { classes = [] }
