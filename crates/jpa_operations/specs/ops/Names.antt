-- The entries of a context are of different identities (Jakarta Persistence 3.1, chapter 3.1: a
-- context has one instance of a persistent identity).
use Rattle.std.specs.Prelude.{Bool}
use Rattle.jpa_value.specs.declared.value.Identity.{Identity}
use Rattle.jpa_value.specs.Value.{same_identity}
use Rattle.jpa_model.specs.declared.unit.PersistenceUnit.{PersistenceUnit}
use Rattle.jpa_model.specs.Chains.{root_of}
use Rattle.jpa_stored.specs.objects.Sets.{all_distinct}
use Rattle.jpa_work.specs.declared.heap.LiveObject.{LiveObject}
use Rattle.jpa_work.specs.declared.context.Entry.{Entry}
use Rattle.jpa_work.specs.context.Work.{Work, object}

-- the identity of an object whose key is whole
abbrev pub name_of : PersistenceUnit → LiveObject → Identity
name_of m x = record { table = (root_of m x.class).table; key = x.key }

-- whether two entries are of one identity
abbrev pub are_one : PersistenceUnit → Work → Entry → Entry → Bool
are_one m w a b = same_identity (name_of m (object w a.object)) (name_of m (object w b.object))

-- no two entries of a context are of one identity
abbrev pub has_distinct_entries : PersistenceUnit → Work → Bool
has_distinct_entries m w = all_distinct (are_one m w) w.context
