use Rattle.std.proofs.Common.{rules, ◌≡◌, ◌⊎◌, ◌<◌, ℕ, length, sym, ap, subst, inl, inr, arith, ◌∙◌, ◌+◌, ◌++◌, slice_index_or}
use Rattle.std.proofs.lemmas.List.{take_all}
use Rattle.jpa_model.specs.declared.unit.PersistenceUnit.{PersistenceUnit}
use Rattle.jpa_behaviour.specs.Registered.{world_of}
use Rattle.jpa_rows.specs.declared.rows.schema.Schema.{Schema}
use Rattle.jpa_rows.specs.rows.Tables.{schema_of}
use Rattle.jpa_rows.proofs.laws.Facts.{some_none}
use Rattle.jpa_object_rows.proofs.meaning.Bytes.Described.{unambiguous}
use Rattle.jpa_cells.specs.meaning.Store.{up_to_greatest, tables_in}
use Rattle.jpa_opening.specs.migration.Migration.{opened_tables}
use Rattle.jpa_opening.specs.reader.Reads.{AreReadInto}
use Rattle.jpa_opening.proofs.reader.Keeping.{keeps_then}
use Rattle.jpa_opening.proofs.reader.Reading.{known_tables}
use Rattle.jpa_opening.proofs.reader.Rising.{begins_at_zero, narrow_number}
use Rattle.jpa_opening.proofs.reader.Steps.{HasRead, Gathered, SoFar, ended, next}
use Rattle.jpa_opening.proofs.reader.read.read_tables.Goals as goal

pub read_table-requires-clause-narrow : goal.read_table-requires-clause-narrow
read_table-requires-clause-narrow g c =
    let m = c.args.metamodel.now in
    narrow_number m c.args.space.now.schema c.requires.schema c.args.numbers.now c.requires.numbers (unambiguous m c.unit-unit.ensures.described) c.tables.table-index c.tables-test.true

pub returns-in-Some-clause-found : goal.returns-in-Some-clause-found
returns-in-Some-clause-found g c =
    let e = c.in_ok-part.ensures in
    let store = g.S.Store in
    let m = c.args.metamodel.now in
    let world = world_of g.B.Behaviour.meaning m c.args.registry.now in
    let h = c.args.history.now in
    let first = c.args.space.now in
    let now = c.tables.space in
    let new = c.read_table.new.space in
    let numbers = c.args.numbers.now in
    let i = c.tables.table-index in
    let n = slice_index_or numbers i 0 in
    let begins = begins_at_zero m first.schema c.requires.schema numbers c.requires.numbers in
    let read : HasRead store world h now new n c.tables.migration c.read_table.new.migration c.in_ok-part.part c.in_ok-part.stopped =
    record { opened = e.opened; counted = e.counted; told = e.reads.told; keeps = e.reads.keeps } in
    let rows : c.append.new.rows ≡ c.tables.rows ++ c.in_ok-part.part = c.in_ok-append.ensures.ok ∙ ap (λ l. c.tables.rows ++ l) c.into_vec.ensures in
    record {
      found = λ clean. record {
        read = subst (λ rs. AreReadInto first.schema (opened_tables world h (tables_in store first.store.conn)) numbers rs n c.in-Some.bytes) (sym rows)
            (ended store world h c.unit-unit.ensures.described first now new numbers i c.tables-test.true c.requires.numbers.rising begins (known_tables first.schema numbers c.requires.numbers) c.tables.rows c.in_ok-part.part c.in_ok-part.stopped
            c.tables.migration c.read_table.new.migration c.tables.invariant read c.in-Some.bytes c.in-Some.is clean);
        changes = λ none. absurd (some_none (n, c.in-Some.bytes) none);
        rows = λ none. absurd (some_none (n, c.in-Some.bytes) none);
      };
      first = search rules;
      live = search rules;
      counted = search rules;
    }

pub returns-in_err-append-clause-reads : goal.returns-in_err-append-clause-reads
returns-in_err-append-clause-reads g c = record {
  refused = search rules;
  told = search rules;
  cause = search rules;
  keeps = keeps_then g.S.Store c.args.space.now c.tables.space c.read_table.new.space c.tables.invariant.keeps c.in_ok-part.ensures.reads.keeps;
}

-- a schema has the table of next numbers at least
some_tables : (m : PersistenceUnit) (schema : Schema) → schema ≡ schema_of m → 0 < length schema.tables
some_tables m schema is = subst (λ (s : Schema). 0 < length s.tables) (sym is) (omega arith)

all_counted : (i n first now : ℕ) → 0 < i → i ≡ n → ((i ≡ 0) × (now ≡ first)) ⊎ (now ≡ up_to_greatest (first + i)) → now ≡ up_to_greatest (first + n)
all_counted i n first now some is (inl none) = absurd (let zero = none.0 in omega (arith, zero, some))
all_counted i n first now some is (inr counted) = counted ∙ ap (λ k. up_to_greatest (first + k)) is

pub returns-clause-found : goal.returns-clause-found
returns-clause-found g c =
    let store = g.S.Store in
    let m = c.args.metamodel.now in
    let world = world_of g.B.Behaviour.meaning m c.args.registry.now in
    let h = c.args.history.now in
    let first = c.args.space.now in
    let numbers = c.args.numbers.now in
    let i = c.tables.table-index in
    let so_far = c.tables.invariant in
    let tables = some_tables m first.schema c.requires.schema in
    let all : i ≡ length numbers = omega (arith, c.tables-test.false, c.tables.auto.table-index-end) in
    let some : 0 < i = omega (arith, all, tables, c.requires.numbers.all) in
    record {
      found = λ clean.
          let whole = subst (λ ns. Gathered world h first.schema (tables_in store first.store.conn) ns c.tables.migration c.tables.rows) (take_all i numbers c.tables-test.false) (so_far.gathered clean) in
          record { read = whole.read; changes = λ _. whole.changes; rows = λ _. whole.found };
      first = λ one. (so_far.idle one).1;
      live = λ clean. so_far.live clean some;
      counted = λ _. all_counted i (length numbers) first.store.table_selects c.tables.space.store.table_selects some all so_far.counted;
    }

pub tables-preserved : goal.tables-preserved
tables-preserved g c =
    let e = c.in_ok-part.ensures in
    let store = g.S.Store in
    let m = c.args.metamodel.now in
    let world = world_of g.B.Behaviour.meaning m c.args.registry.now in
    let h = c.args.history.now in
    let first = c.args.space.now in
    let now = c.tables.space in
    let new = c.read_table.new.space in
    let numbers = c.args.numbers.now in
    let i = c.tables.table-index in
    let begins = begins_at_zero m first.schema c.requires.schema numbers c.requires.numbers in
    let read : HasRead store world h now new (slice_index_or numbers i 0) c.tables.migration c.read_table.new.migration c.in_ok-part.part c.in_ok-part.stopped =
    record { opened = e.opened; counted = e.counted; told = e.reads.told; keeps = e.reads.keeps } in
    let rows : c.append.new.rows ≡ c.tables.rows ++ c.in_ok-part.part = c.in_ok-append.ensures.ok ∙ ap (λ l. c.tables.rows ++ l) c.into_vec.ensures in
    subst (SoFar store world h first new numbers (i + 1) c.read_table.new.migration) (sym rows)
    (next store world h c.unit-unit.ensures.described first now new numbers i c.tables-test.true c.requires.numbers.rising begins (known_tables first.schema numbers c.requires.numbers) c.tables.rows c.in_ok-part.part c.in_ok-part.stopped
    c.tables.migration c.read_table.new.migration c.tables.invariant read c.in_default.is)
