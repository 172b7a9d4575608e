-- What stands for a datum.
use Rattle.jpa_value.specs.declared.value.Value.{Value}
use Rattle.jpql_meaning.specs.declared.eval.datum.Datum.{Datum}
use Rattle.jpql_meaning.specs.eval.Data.{null}
use Rattle.jpql_meaning.specs.eval.Numbers.{number}
use Rattle.jpql_meaning.specs.declared.eval.seen.Seen.{Seen}

-- the datum that something stands for
abbrev pub seen : Seen → Datum
seen Seen.Null = null
seen (Seen.Int n) = number n
seen (Seen.Text t) = Datum.Plain (Value.Text t.now)
seen (Seen.Bytes b) = Datum.Plain (Value.Bytes b.now)
seen (Seen.Entity id) = Datum.Entity id.now
seen (Seen.Made t) = Datum.Plain (Value.Text t)
