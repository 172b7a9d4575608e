-- CREATE TABLE, from what a connection says of it.
use Rattle.std.proofs.Common.{◌≡◌, ◌⊎◌, inl, inr, ℕ, [], false, Ok, Err, Result, OnOk, IsTrue, None, sym, ap, subst, ◌∙◌}
use Rattle.sqlite.specs.Command.TheVariants.{CreateTable}
use Rattle.sqlite.specs.Change.{created, next_tree}
use Rattle.sqlite.specs.Does.{Tally, lacks_sequence}
use Rattle.sqlite.specs.Effect.{Database, IsDatabase}
use Rattle.sqlite.specs.declared.error.Error.{Error}
use Rattle.sqlite.specs.State.{State, HasCleanDisk, Writes, Executes, ExecutesInside}
use Rattle.sqlite.proofs.Callers.{runs_as}
use Rattle.jpa_cells.specs.meaning.Schema.{cell_table, cell_schema, no_schema, create_text}
use Rattle.jpa_cells.specs.meaning.Content.{AreInOrder, Makes}
use Rattle.jpa_cells.proofs.meaning.Rows.{tables_empty}
use Rattle.jpa_cells.proofs.meaning.Texts.{create_is, create_plain}

pub went : {B E R : Type 0} {b : B} {Stops : E → Type 0} → ((stop : E) × Stops stop × (Ok b ≡ Err stop)) ⊎ R → R
went (inl stopped) = absurd (let e = stopped.2 in cc)
went (inr on) = on

pub same_value : {B E : Type 0} {a b : B} → ◌≡◌ {A = Result B E} (Ok a) (Ok b) → a ≡ b
same_value e = cc

pub creates : (old new : State) (count : ℕ) → old.now.schema ≡ no_schema → Executes create_text [] old new (Ok count) → (new.now.schema ≡ cell_schema) × (new.now.trees 0 ≡ []) × IsDatabase new.now
creates old new count has h =
    let w = subst (λ t. Writes old new None CreateTable t [] count) create_is.1 (runs_as create_text [] old new no_schema has CreateTable create_is.0 create_plain count h) in
    let all = went w.changed in
    let first = went all.1 in
    let made = first.1 in
    let both : Ok made.table ≡ Ok cell_table = sym made.defined ∙ create_is.2 in
    let same : made.table ≡ cell_table = cc in
    let schema : first.0.schema ≡ cell_schema = made.is ∙ ap (λ s. created s made.table) has ∙ ap (created no_schema) same ∙ create_is.3 in
    let plain : lacks_sequence first.0.schema ≡ false = ap lacks_sequence schema in
    let now : new.now ≡ first.0 = ap (λ (p : Tally × Database). p.1) (same_value all.2) ∙ same_value (rw plain at first.2) in
    (ap (λ (d : Database). d.schema) now ∙ schema, ap (λ (d : Database). d.trees 0) now ∙ subst (λ s. first.0.trees (next_tree s) ≡ []) has made.empty, w.sound)

pub create_makes : (old new : State) → (HasCleanDisk old → IsTrue old.is_open → old.now.schema ≡ no_schema) → HasCleanDisk old → (r : Result ℕ Error) → ExecutesInside 0 create_text [] old new r → OnOk r (Makes old new)
create_makes old new empty clean (Err e) h = tt
create_makes old new empty clean (Ok n) h =
    let it = creates old new n (empty clean h.1.was_open) h.0 in
    let none : AreInOrder (new.now.trees 0) = subst AreInOrder (sym it.1) (record { rise = tt; numbered = tt }) in
    record {
      was_open = h.1.was_open;
      is_open = h.1.is_open;
      inside = h.1.mode;
      committed = h.1.committed_is;
      holds = record { schema = it.0; sound = it.2; ordered = none };
      empty = tables_empty new.now it.1;
    }
