-- An index of values keeps what it has of objects through more entries.
use Rattle.std.specs.Prelude.{◌≡◌, ℕ, ◌<◌, true, List, All}
use Rattle.std.proofs.Common.{sym, subst, get_or}
use Rattle.jpa_model.specs.declared.unit.PersistenceUnit.{PersistenceUnit}
use Rattle.jpa_model.specs.Chains.{is_kind_of}
use Rattle.jpa_stored.specs.objects.Sets.{StoredSet}
use Rattle.jpa_stored.specs.declared.ordered.column.Column.{Column}
use Rattle.jpa_stored.specs.ordered.Values.{Indexed, HasEntry, KeepsAll, has_column, valued, at_object}
use Rattle.jpa_open.specs.Holding.{HaveEntries, KeepsEntries}

pub keeps_entries : (old new : Indexed) → new.columns ≡ old.columns → KeepsAll old.entries new.entries → KeepsEntries old new
keeps_entries old new same keeps id x all =
    subst (λ (cs : List Column). All (HasEntry new.entries id x) cs) (sym same) (λ k d l c. keeps (valued (get_or old.columns k d).number (at_object (get_or old.columns k d).member (id, x))) (all k d l c))

-- what an index has of each object of a set, one that keeps all entries has too
pub have_later : (old new : Indexed) (s : StoredSet) → KeepsEntries old new → HaveEntries s old → HaveEntries s new
have_later old new s keeps have id x found = keeps id x (have id x found)

-- each class before this one that is of the kind of the column's class has a column of its number and member
abbrev pub HaveBelow : PersistenceUnit → List Column → Column → ℕ → Type 0
HaveBelow m columns c n = (below : ℕ) → below < n → is_kind_of m below c.class ≡ true → has_column columns below c.member c.number ≡ true
