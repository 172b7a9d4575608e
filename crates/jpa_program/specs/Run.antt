-- What the store of a provider over cells is, and what it holds; how a run ends.
use Rattle.std.specs.Prelude.{◌≡◌, ◌+◌, ℕ, List, Option, Result, OnOk, IfErr}
use Rattle.std.proofs.Common.{subst}
use Rattle.sqlite_trees.specs.declared.store.Store.{Ghosts}
use Rattle.jpa_behaviour.specs.Registered.{Meaning}
use Rattle.jpa_behaviour.specs.Served.{world_of_unit}
use Rattle.jpa_behaviour.specs.declared.served_unit.ServedUnit.{ServedUnit}
use Rattle.jpa_rows.specs.declared.rows.source.RowSource.{Ghosts as SourceGhosts}
use Rattle.jpa_rows.specs.rows.Cells.{CanBeHeld}
use Rattle.jpa_cells.specs.meaning.Store.{up_to_greatest, IsClean}
use Rattle.jpa_cells.specs.rowspace.Enduring.{EnduresRows, rows_then, rows_wider}
use Rattle.jpa_cells.specs.rowspace.Space.{Space, HoldsRows}
use Rattle.jpa_protocol.specs.declared.call.Call.{Call}
use Rattle.jpa_protocol.specs.declared.reply.Reply.{Reply}
use Rattle.jpql_trees.specs.declared.tree.Language.{Language}
use Rattle.jpa_lines.specs.declared.lines.run.RunFault.{RunFault}
use Rattle.jpa_lines.specs.lines.Run.{Served, Broken, AnswersRead}
use Rattle.jpa_machine.specs.machine.Machine.{opened}
use Rattle.jpa_provider.specs.Provided.{Provided, world_in}
use Rattle.jpa_program.specs.Opening.{HoldsCells}

-- the rows that the cells of a database spell, as a store of rows
abbrev pub rows_over : {S : Type 0} → Ghosts S → SourceGhosts (Space S)
rows_over g =
    record {
      schema = λ space. space.schema;
      holds = λ space rows. HoldsRows g space.schema space.store.conn rows;
      clean = λ space. IsClean g space.store.conn;
      faults = λ space. space.store.faults;
      reads = λ space. up_to_greatest (space.store.row_selects + space.store.table_selects);
      writes = λ space. space.store.writes;
      creates = λ space. space.store.creates;
      endures = λ old new Holds. EnduresRows g old.schema old.store.conn new.store.conn Holds;
      wider = λ old new P Q weaker e. rows_wider g old.schema old.store.conn new.store.conn P Q weaker e;
      then = λ first second third P Q same a b. rows_then g first.schema first.store.conn second.store.conn
          third.store.conn P Q a (subst (λ schema. EnduresRows g schema second.store.conn third.store.conn Q) same b);
    }

-- How a run over lines of a language ends: all of them are answered. Where a fault ends it a front of them is, and
-- after a failed read all whole lines that were read
pub record EndsAs {M : Type 0} (language : Language) (steps : M → Call → Reply → M → Type 0) (old new : M)
    (result : Result (Unit {0}) RunFault) (known left before after : Option (List ℕ)) : Type 0 where
  pub ok : OnOk result (Served language steps old new known before after)
  pub err : IfErr result (λ fault. Broken language steps old new fault known before after)
  pub read : IfErr result (λ fault. AnswersRead language steps old new fault known left before after)

-- it serves the same unit as at first
pub record ServesSame {R L C : Type 0} (first p : Provided R L C) : Type 0 where
  pub model : p.model ≡ first.model
  pub registry : p.registry ≡ first.registry

module _ {S L C : Type 0} (g : Ghosts S) (meaning : Meaning L C) where
  -- where the connection is open and its disk clean, the unit's tables have the cells of the
  -- committed set and of its stored next numbers, and no others
  abbrev pub HoldsCommitted : Provided (Space S) L C → Type 0
  HoldsCommitted p = HoldsCells g (world_in meaning p)
      (p.rows).store.conn (p.machine).committed (p.machine).stored_numbers

  -- It serves the unit, and holds what its store's cells stand for and nothing else: no object
  -- lives, and no manager was made.
  pub record ServesUnit {B : Type 0} (unit : ServedUnit B L C) (p : Provided (Space S) L C) : Type 0 where
    pub model : p.model ≡ unit.metamodel
    pub registry : p.registry ≡ unit.registry
    pub machine : p.machine ≡ opened (p.machine).committed (p.machine).stored_numbers
    pub held : CanBeHeld (world_of_unit meaning unit) (p.machine).committed (p.machine).stored_numbers
    pub cells : HoldsCommitted p
