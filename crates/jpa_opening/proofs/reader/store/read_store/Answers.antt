use Rattle.std.proofs.Common.{rules, ◌≡◌, ◌⊎◌, ◌∙◌, sym, ap, subst, ℕ, List}
use Rattle.jpa_value.specs.declared.refusal.Cause.{Cause}
use Rattle.jpa_behaviour.specs.Registered.{world_of}
use Rattle.jpa_rows.specs.declared.rows.schema.Schema.{Schema}
use Rattle.jpa_rows.specs.rows.Rows.{Rows}
use Rattle.jpa_object_rows.proofs.meaning.Bytes.Described.{described_mapped}
use Rattle.jpa_cells.specs.meaning.Store.{IsClean, tables_in}
use Rattle.jpa_opening.specs.migration.Migration.{opened_tables}
use Rattle.jpa_cells.specs.rowspace.Space.{Space}
use Rattle.jpa_cells.specs.rowspace.Stored.{AreRowsOf}
use Rattle.jpa_opening.specs.reader.Reads.{AreNumbersOf, AreReadUpTo, IsTold}
use Rattle.jpa_opening.proofs.reader.Final.{committed, refuses}
use Rattle.jpa_opening.proofs.reader.Migrated.{makes_opened}
use Rattle.jpa_opening.proofs.reader.Rising.{unit_order}
use Rattle.jpa_opening.proofs.reader.store.read_store.Goals as goal

numbers_of : (schema given : Schema) (items ns : List ℕ) → AreNumbersOf given items → given ≡ schema → ns ≡ items → AreNumbersOf schema ns
numbers_of schema given items ns h same is = subst (λ s. AreNumbersOf s ns) same (subst (AreNumbersOf given) (sym is) h)

pub returns-in-Ok-clause-read : goal.returns-in-Ok-clause-read
returns-in-Ok-clause-read g c =
    let m = c.args.metamodel.now in
    let world = world_of g.B.Behaviour.meaning m c.args.registry.now in
    let h = c.args.history.now in
    let first = c.args.space.now in
    let new = c.read_tables.new.space in
    let numbers = c.as_slice.result.now in
    let rows = c.as_slice-2.result.now in
    let end = c.in_ok-rows.field-0.end in
    let all = c.in_ok-rows.ensures.found in
    let given : AreNumbersOf first.schema numbers = numbers_of first.schema c.schema.result.now c.in_ok-numbers.numbers.items numbers c.in_ok-numbers.ensures.ok c.schema.ensures c.as_slice.ensures.value in
    let read : IsClean g.S.Store new.store.conn → AreReadUpTo first.schema (opened_tables world h (tables_in g.S.Store first.store.conn)) numbers rows end =
    λ clean. subst (λ (rs : Rows). AreReadUpTo first.schema (opened_tables world h (tables_in g.S.Store first.store.conn)) numbers rs end) (sym c.as_slice-2.ensures) (all.found clean).read in
    record {
      can_be_held = search rules;
      committed = committed g.S.Store world (described_mapped m c.unit-unit.ensures.described) (c.laws.ensures.regular m) c.discriminator_law.ensures h first new c.requires.schema numbers given c.in_ok-rows.ensures.reads.keeps rows end read
          all.live c.in-Ok.committed c.in-Ok.ensures.whole c.in-Ok.ensures.held;
      changes = λ clean.
          makes_opened world c.unit-unit.ensures.described h (tables_in g.S.Store first.store.conn) numbers (unit_order m first.schema c.requires.schema numbers given) ((all.found clean).rows c.in-Ok.ensures.whole) c.in_ok-rows.field-0.changes
          ((all.found clean).changes c.in-Ok.ensures.whole);
      first = search rules;
      live = search rules;
      counted = search rules;
    }

pub returns-clause-refused : goal.returns-clause-refused
returns-clause-refused g c =
    let m = c.args.metamodel.now in
    let world = world_of g.B.Behaviour.meaning m c.args.registry.now in
    let h = c.args.history.now in
    let first = c.args.space.now in
    let new = c.read_tables.new.space in
    let numbers = c.as_slice.result.now in
    let rows = c.as_slice-2.result.now in
    let end = c.in_ok-rows.field-0.end in
    let all = c.in_ok-rows.ensures.found in
    let given : AreNumbersOf first.schema numbers = numbers_of first.schema c.schema.result.now c.in_ok-numbers.numbers.items numbers c.in_ok-numbers.ensures.ok c.schema.ensures c.as_slice.ensures.value in
    let read : IsClean g.S.Store new.store.conn → AreReadUpTo first.schema (opened_tables world h (tables_in g.S.Store first.store.conn)) numbers rows end =
    λ clean. subst (λ (rs : Rows). AreReadUpTo first.schema (opened_tables world h (tables_in g.S.Store first.store.conn)) numbers rs end) (sym c.as_slice-2.ensures) (all.found clean).read in
    let keeps = c.in_ok-rows.ensures.reads.keeps in
    record {
      refused = refuses g.S.Store world (described_mapped m c.unit-unit.ensures.described) (c.laws.ensures.regular m) c.discriminator_law.ensures h first new c.requires.schema numbers given keeps rows end read all.live c.in-Err.cause
          (subst (λ (s : Schema). (c.in-Err.cause ≡ Cause.OutOfMemory) ⊎ ((t : ℕ) × (bytes : List ℕ) × (c.in-Err.cause ≡ Cause.Damaged t bytes) × (AreRowsOf s rows → IsTold world rows end t bytes)))
          (c.schema-2.ensures ∙ ap (λ (s : Space g.row.S.Denot). s.schema) keeps.others ∙ c.requires.schema) c.in-Err.ensures.err);
      live = search rules;
    }
