-- The first row that is not sound, or the ill-formed one after sound ones, is the lowest damaged row of the tables.
use Rattle.std.specs.Prelude.{◌≡◌, ℕ, pos, ◌<◌, ◌≤◌, Bool, true, false, cond, ◌==◌, T, List, [], ◌∷◌, ◌++◌, Option, Some, None, is_some, IsSome}
use Rattle.std.proofs.Common.{refl, sym, ap, subst, ◌∙◌, arith, eqb→eq}
use Rattle.std.proofs.lemmas.Bool.Decides.{nat_tests}
use Rattle.std.specs.List.{AllByRecursion, list_any}
use Rattle.jpa_behaviour.specs.Behaviour.{World}
use Rattle.jpa_rows.specs.declared.rows.schema.Schema.{Schema}
use Rattle.jpa_rows.specs.declared.rows.schema.TableRule.{TableRule}
use Rattle.jpa_rows.specs.rows.Rows.{RowId, Row, Rows, AreRising, table_of, table_rows}
use Rattle.jpa_rows.specs.rows.Tables.{schema_of}
use Rattle.jpa_rows.proofs.laws.Lists.{all_each, all_where}
use Rattle.jpa_object_rows.proofs.meaning.Bytes.Classes.{below}
use Rattle.jpa_cells.specs.declared.meaning.CellRow.{CellRow}
use Rattle.jpa_cells.specs.meaning.Tables.{Tables, AreRows}
use Rattle.jpa_cells.specs.rowspace.Reading.{IsEntry, AreEntries, IsReadBy}
use Rattle.jpa_cells.proofs.rowspace.Ids.{numbered}
use Rattle.jpa_opening.specs.reader.Sound.{IsSoundRow, AreSoundRows}
use Rattle.jpa_opening.specs.reader.Damage.{IsSoundCells, IsSoundTable, IsLowestDamage}
use Rattle.jpa_opening.specs.reader.Reads.{AreNumbersOf, AreReadInto, IsFirstUnsound}
use Rattle.jpa_rows.proofs.rows.Splits.{all_then}
use Rattle.jpa_opening.proofs.reader.Parts.{all_front, all_back, append_nil, rows_append, no_rows, rows_from, tables_from}
use Rattle.jpa_opening.proofs.reader.Reading.{ReadsTables, into_all, seen, before, lower_front, seen_lower, seen_front, seen_own, into_rises, known_number}

below_other : (u n : ℕ) → u ≤ n → u == n ≡ false → u < n
below_other u n less apart = grind (arith, nat_tests)

-- ---- the rows of cells that spell rows

-- where one of the rows stands among the rows of cells
record Split (rule : TableRule) (stored : List CellRow) (front : Rows) (e : RowId × Row) : Type 0 where
  before : List CellRow
  here : CellRow
  after : List CellRow
  split : stored ≡ before ++ here ∷ after
  entries : AreEntries rule before front
  entry : IsEntry rule here e

split_entries : (rule : TableRule) (stored : List CellRow) (front : Rows) (e : RowId × Row) (back : Rows) → AreEntries rule stored (front ++ e ∷ back) → Split rule stored front e
split_entries rule [] [] e back h = absurd h
split_entries rule [] (d ∷ front) e back h = absurd h
split_entries rule (r ∷ stored) [] e back h = record { before = []; here = r; after = stored; split = refl; entries = tt; entry = h.0 }
split_entries rule (r ∷ stored) (d ∷ front) e back h =
    let s = split_entries rule stored front e back h.1 in
    record { before = r ∷ s.before; here = s.here; after = s.after; split = ap (λ l. r ∷ l) s.split; entries = (h.0, s.entries); entry = s.entry }

module _ (world : World) where
  abbrev schema : Schema
  schema = schema_of world.model

  sound_cells : (rule : TableRule) (stored : List CellRow) (es : Rows) → AreEntries rule stored es → AreSoundRows world es → AllByRecursion (IsSoundCells world rule) stored
  sound_cells rule [] [] h s = tt
  sound_cells rule [] (e ∷ es) h s = absurd h
  sound_cells rule (r ∷ stored) [] h s = absurd h
  sound_cells rule (r ∷ stored) (e ∷ es) h s = ((e, (h.0 e).0 refl, s.0), sound_cells rule stored es h.1 s.1)

  sound_of : (n : ℕ) (rows : Rows) → AreSoundRows world rows → AreSoundRows world (table_rows n rows)
  sound_of n rows s = all_where (λ (e : RowId × Row). IsSoundRow world e.0 e.1) (λ e. (e.0).table == n) rows s

  -- what a table has, where it is read whole
  sound_table : (tables : Tables) (u : ℕ) (rule : TableRule) (es : Rows) → table_of schema u ≡ Some rule → IsReadBy (table_of schema u) (tables (pos u)) es → AreSoundRows world es → IsSoundTable world tables rule
  sound_table tables u rule es own read s =
      subst (λ n. AllByRecursion (IsSoundCells world rule) (tables (pos n))) (sym (numbered schema u rule own))
      (sound_cells rule (tables (pos u)) es (subst (λ o. IsReadBy o (tables (pos u)) es) own read).1 s)

  pub sound_tables : (tables : Tables) (rows : Rows) → ReadsTables schema tables rows → AreSoundRows world rows → (u : ℕ) (rule : TableRule) → table_of schema u ≡ Some rule → IsSoundTable world tables rule
  sound_tables tables rows reads s u rule own = sound_table tables u rule (table_rows u rows) own (reads u) (sound_of u rows s)

  -- ---- the first row that is not sound

  module _ (tables : Tables) (rows : Rows) (rising : AreRising rows) (reads : ReadsTables schema tables rows) (n : ℕ) (bytes : List ℕ) (h : IsFirstUnsound world rows n bytes) where
    abbrev e : RowId × Row
    e = (h.id, h.row)

    own_read : table_rows n rows ≡ table_rows n h.front ++ e ∷ table_rows n h.back
    own_read = ap (table_rows n) h.split ∙ rows_from n h.front e h.back h.own

    -- rows of a lower table come before it
    lower_read : (u : ℕ) → u < n → table_rows u rows ≡ table_rows u h.front
    lower_read u less =
        let up = tables_from h.front e h.back (subst AreRising h.split rising) in
        let own = h.own in
        ap (table_rows u) h.split ∙ rows_append u h.front (e ∷ h.back)
        ∙ ap (λ l. table_rows u h.front ++ l) (no_rows u (e ∷ h.back) (all_then (λ (d : RowId × Row). (h.id).table ≤ (d.0).table) (λ d. (d.0).table ≡ u → ⊥) (λ d more same. omega arith) (e ∷ h.back) up))
        ∙ append_nil (table_rows u h.front)

    nothing_in : List CellRow → (front : Rows) (back : Rows) → front ++ e ∷ back ≡ [] → ⊥
    nothing_in stored [] back k = cc
    nothing_in stored (d ∷ front) back k = cc

    lowest_in : (o : Option TableRule) → table_of schema n ≡ o → IsReadBy o (tables (pos n)) (table_rows n h.front ++ e ∷ table_rows n h.back) → IsLowestDamage world tables n bytes
    lowest_in None own read = absurd (nothing_in [] (table_rows n h.front) (table_rows n h.back) read)
    lowest_in (Some rule) own read =
        let s = split_entries rule (tables (pos n)) (table_rows n h.front) e (table_rows n h.back) read.1 in
        record {
          rule = rule;
          before = s.before;
          damaged = s.here;
          after = s.after;
          own = own;
          split = s.split;
          row = sym (((s.entry e).0 refl).named).same ∙ h.named;
          not_sound = λ f. h.damaged (subst (λ (d : RowId × Row). IsSoundRow world d.0 d.1) (sym ((s.entry f.0).1 f.1)) f.2);
          first = sound_cells rule s.before (table_rows n h.front) s.entries (sound_of n h.front h.sound);
          lowest = λ u other less known.
              sound_table tables u other (table_rows u h.front) known (subst (IsReadBy (table_of schema u) (tables (pos u))) (lower_read u (below u n less)) (reads u)) (sound_of u h.front h.sound);
        }

    pub lowest_unsound : IsLowestDamage world tables n bytes
    lowest_unsound = lowest_in (table_of schema n) refl (subst (IsReadBy (table_of schema n) (tables (pos n))) own_read (reads n))

  -- ---- a reading that an ill-formed row ended

  module _ (tables : Tables) (ns : List ℕ) (numbers : AreNumbersOf schema ns) (rows : Rows) (n : ℕ) (bytes : List ℕ) (h : AreReadInto schema tables ns rows n bytes) where
    abbrev As : Tables
    As = seen schema tables ns numbers.rising rows n bytes h

    some_of : (u : ℕ) (rule : TableRule) → table_of schema u ≡ Some rule → IsSome (table_of schema u)
    some_of u rule own = ap is_some own

    -- the rows of cells of each table that was reached rise
    pub rows_reached : (u : ℕ) (rule : TableRule) → u ≤ n → table_of schema u ≡ Some rule → AreRows (tables (pos u))
    rows_reached u rule less own =
        elim (u == n) as (λ b. u == n ≡ b → AreRows (tables (pos u))) [
          | true ↦ λ e. subst (λ v. AreRows (tables (pos v))) (sym (eqb→eq u n (subst T (sym e) tt))) h.rise
          | false ↦ λ e.
              let k = seen_lower schema tables ns numbers.rising rows n bytes h numbers u (below_other u n less e) (some_of u rule own) in
              (subst (λ o. IsReadBy o (tables (pos u)) (table_rows u h.whole)) own (all_each (λ m. IsReadBy (table_of schema m) (tables (pos m)) (table_rows m h.whole)) h.front (h.read).each u k)).0
        ] refl

    lower_seen : (u : ℕ) (rule : TableRule) → u < n → table_of schema u ≡ Some rule → As (pos u) ≡ tables (pos u)
    lower_seen u rule less own =
        seen_front schema tables ns numbers.rising rows n bytes h u (seen_lower schema tables ns numbers.rising rows n bytes h numbers u less (some_of u rule own))

    -- none before it is damaged
    pub lowest_ended : AreSoundRows world rows → IsLowestDamage world tables n bytes
    lowest_ended s =
        let parts = subst (AreSoundRows world) h.both s in
        let stopped = h.stopped in
        let Sound : RowId × Row → Type 0 = λ e. IsSoundRow world e.0 e.1 in
        record {
          rule = h.rule;
          before = stopped.0;
          damaged = stopped.1;
          after = stopped.2;
          own = h.own;
          split = stopped.3;
          row = stopped.6;
          not_sound = λ f. stopped.5 f.0 f.1;
          first = sound_cells h.rule stopped.0 h.part stopped.4 (all_back Sound h.whole h.part parts);
          lowest = λ u other less known.
              let k = seen_lower schema tables ns numbers.rising rows n bytes h numbers u (below u n less) (some_of u other known) in
              sound_table tables u other (table_rows u h.whole) known (all_each (λ m. IsReadBy (table_of schema m) (tables (pos m)) (table_rows m h.whole)) h.front (h.read).each u k)
              (sound_of u h.whole (all_front Sound h.whole h.part parts));
        }

    -- or one of those before it is
    module _ (t : ℕ) (told : List ℕ) (first : IsFirstUnsound world rows t told) where
      in_seen : IsLowestDamage world As t told
      in_seen = lowest_unsound As rows (into_rises schema tables ns numbers.rising rows n bytes h) (into_all schema tables ns numbers.rising rows n bytes h) t told first

      -- its table is one of those that were read
      record Reached : Type 0 where
        tail : List CellRow
        rest : tables (pos t) ≡ As (pos t) ++ tail
        up_to : t ≤ n

      empty_not : (xs : List CellRow) (x : CellRow) (ys : List CellRow) → [] ≡ xs ++ x ∷ ys → ⊥
      empty_not [] x ys k = cc
      empty_not (y ∷ xs) x ys k = cc

      unseen : (b : Bool) → list_any (λ m. m == t) h.front ≡ b → t == n ≡ false → Reached
      unseen true k apart =
          let has = known_number t h.front k in
          let less = all_each (λ m. m < n) h.front (lower_front schema tables ns numbers.rising rows n bytes h) t has in
          record { tail = []; rest = sym (seen_front schema tables ns numbers.rising rows n bytes h t has) ∙ sym (append_nil (As (pos t))); up_to = omega arith }
      unseen false k apart =
          let d = in_seen in
          let none : As (pos t) ≡ [] = (λ i. cond (apart i) (before schema tables ns numbers.rising rows n bytes h) (cond (k i) (tables (pos t)) [])) in
          absurd (empty_not d.before d.damaged d.after (sym none ∙ d.split))

      reached : Reached
      reached =
          elim (t == n) as (λ b. t == n ≡ b → Reached) [
            | true ↦ λ e.
                let same : t ≡ n = eqb→eq t n (subst T (sym e) tt) in
                let stopped = h.stopped in
                record {
                  tail = stopped.1 ∷ stopped.2;
                  rest = subst (λ u. tables (pos u) ≡ As (pos u) ++ stopped.1 ∷ stopped.2) (sym same)
                      (stopped.3 ∙ ap (λ l. l ++ stopped.1 ∷ stopped.2) (sym (seen_own schema tables ns numbers.rising rows n bytes h)));
                  up_to = omega arith;
                }
            | false ↦ λ e. unseen (list_any (λ m. m == t) h.front) refl e
          ] refl

      append_split : (xs : List CellRow) (x : CellRow) (ys zs : List CellRow) → (xs ++ x ∷ ys) ++ zs ≡ xs ++ x ∷ (ys ++ zs)
      append_split [] x ys zs = refl
      append_split (w ∷ xs) x ys zs = ap (λ l. w ∷ l) (append_split xs x ys zs)

      pub reached_table : t ≤ n
      reached_table = reached.up_to

      pub lowest_before : IsLowestDamage world tables t told
      lowest_before =
          let d = in_seen in
          let r = reached in
          record {
            rule = d.rule;
            before = d.before;
            damaged = d.damaged;
            after = d.after ++ r.tail;
            own = d.own;
            split = r.rest ∙ ap (λ l. l ++ r.tail) d.split ∙ append_split d.before d.damaged d.after r.tail;
            row = d.row;
            not_sound = d.not_sound;
            first = d.first;
            lowest = λ u other less known.
                let first = below u t less in
                let up_to = r.up_to in
                let lower : u < n = omega arith in
                subst (λ cells. AllByRecursion (IsSoundCells world other) cells) (ap (λ m. As (pos m)) (numbered schema u other known) ∙ lower_seen u other lower known ∙ ap (λ m. tables (pos m)) (sym (numbered schema u other known)))
                (d.lowest u other less known);
          }
