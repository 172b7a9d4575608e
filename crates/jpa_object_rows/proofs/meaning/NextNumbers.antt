-- The rows of next numbers: what holds of each, and what is found among them.
use Rattle.std.specs.Prelude.{◌≡◌, ℕ, zero, suc, pos, Bool, true, false, cond, ◌==◌, ◌&&◌, nat_lt, T, List, [], ◌∷◌, ◌++◌, map, length, slice_set, slice_index_or, Option, Some, None}
use Rattle.std.proofs.Common.{refl, sym, ap, subst, ◌∙◌, inl, inr, arith}
use Rattle.std.proofs.lemmas.Bool.Decides.{nat_tests}
use Rattle.std.specs.List.{flat_map, zip}
use Rattle.std.specs.FinMap.{find, put}
use Rattle.std.specs.Ordering.{eq_by_cmp}
use Rattle.jpa_value.specs.declared.value.Value.{Value}
use Rattle.jpa_value.specs.Value.{identity_cmp, is_i64}
use Rattle.jpa_model.specs.declared.unit.Entity.{Entity}
use Rattle.jpa_model.specs.declared.unit.Origin.{Origin}
use Rattle.jpa_model.specs.declared.unit.PersistenceUnit.{PersistenceUnit}
use Rattle.jpa_model.specs.declared.unit.Root.{Root}
use Rattle.jpa_model.specs.Chains.{or_else, no_entity}
use Rattle.jpa_stored.specs.objects.Sets.{each_fits}
use Rattle.jpa_rows.specs.rows.Cells.{is_next, are_numbers, root_tables, join_tables}
use Rattle.jpa_rows.specs.rows.Rows.{RowId, Row, Rows}
use Rattle.jpa_rows.proofs.laws.Facts.{and_first, and_second}
use Rattle.jpa_rows.proofs.laws.Each.{Each, each_put}
use Rattle.jpa_rows.proofs.laws.Elements.{Has, append_has, into_flat_map}
use Rattle.jpa_rows.proofs.laws.Maps.{same_key, ties_itself}
use Rattle.jpa_object_rows.specs.meaning.Objects.{number_id, number_row, with_rows}
use Rattle.jpa_rows.specs.rows.NextNumbers.{number_entry, next_entry, next_entries, base_of, number_rows}
use Rattle.jpa_object_rows.specs.meaning.Sets.{number_in, next_at}
use Rattle.jpa_object_rows.specs.meaning.Unambiguous.{IsUnambiguous, are_distinct_numbers}
use Rattle.jpa_object_rows.proofs.meaning.Bytes.Orders.{identities, are_same_numbers}
use Rattle.jpa_object_rows.proofs.meaning.Bytes.Tables.{own_tables, distinct_rest, distinct_apart}
use Rattle.jpa_object_rows.proofs.meaning.Over.{found_over, either_first}

-- ---- what holds of each

-- a root with generated keys, and its next number, which is not 1
pub record HasEntry (e : Entity) (k : ℕ) (root : Root) : Type 0 where
  pub origin : e.origin ≡ Origin.Root root
  pub generated : root.generated ≡ true
  pub more : k == 1 ≡ false

module _ (P : RowId → Row → Type 0) where
  each_joined : (es fs : Rows) → Each P es → Each P fs → Each P (es ++ fs)
  each_joined [] fs h g = g
  each_joined (e ∷ es) fs h g = (h.0, each_joined es fs h.1 g)

  pub number_each : (table k : ℕ) → (k == 1 ≡ false → P (number_id table) (number_row k)) → Each P (number_entry table k)
  number_each table k h =
      elim (k == 1) as (λ b. k == 1 ≡ b → Each P (cond b [] ((number_id table, number_row k) ∷ []))) [ true ↦ λ e. tt | false ↦ λ e. (h e, tt) ] refl

  next_each : (origin : Origin) (k : ℕ) → ((root : Root) → origin ≡ Origin.Root root → root.generated ≡ true → k == 1 ≡ false → P (number_id root.table) (number_row k)) → Each P (next_entry origin k)
  next_each (Origin.Extends parent) k h = tt
  next_each (Origin.Root root) k h =
      elim root.generated as (λ b. root.generated ≡ b → Each P (cond b (number_entry root.table k) [])) [
        | true ↦ λ g. number_each root.table k (h root refl g)
        | false ↦ λ g. tt
      ] refl

  pub entry_each : (e : Entity) (k : ℕ) → ((root : Root) → HasEntry e k root → P (number_id root.table) (number_row k)) → Each P (next_entry e.origin k)
  entry_each e k h = next_each e.origin k (λ root is g more. h root (record { origin = is; generated = g; more = more }))

  pub entries_each : (ps : List (Entity × ℕ)) → ((p : Entity × ℕ) → Has ps p → (root : Root) → HasEntry p.0 p.1 root → P (number_id root.table) (number_row p.1)) → Each P (next_entries ps)
  entries_each [] h = tt
  entries_each (p ∷ ps) h = each_joined (next_entry (p.0).origin p.1) (next_entries ps) (entry_each p.0 p.1 (h p (inl refl))) (entries_each ps (λ q k. h q (inr k)))

  over_each : (es rows : Rows) → Each P es → Each P rows → Each P (with_rows es rows)
  over_each [] rows h g = g
  over_each (e ∷ es) rows h g = each_put identities P e.0 e.1 (with_rows es rows) h.0 (over_each es rows h.1 g)

  -- so of each of them all
  pub rows_each : (m : PersistenceUnit) (numbers : List ℕ) → ((p : Entity × ℕ) → Has (zip m.entities numbers) p → (root : Root) → HasEntry p.0 p.1 root → P (number_id root.table) (number_row p.1)) → Each P (base_of m)
      → Each P (number_rows m numbers)
  rows_each m numbers h g = over_each (next_entries (zip m.entities numbers)) (base_of m) (entries_each (zip m.entities numbers) h) g

-- what stays when one of them is put
module _ (Q : Rows → Type 0) where
  abbrev Keeps : RowId → Row → Type 0
  Keeps id row = (rows : Rows) → Q rows → Q (put identity_cmp id row rows)

  over_keeps : (es rows : Rows) → Each Keeps es → Q rows → Q (with_rows es rows)
  over_keeps [] rows h q = q
  over_keeps (e ∷ es) rows h q = h.0 (with_rows es rows) (over_keeps es rows h.1 q)

  pub base_keeps : (m : PersistenceUnit) → (m.revision == 1 ≡ false → Keeps (number_id 0) (number_row m.revision)) → Q [] → Q (base_of m)
  base_keeps m h q =
      elim (m.revision == 1) as (λ b. m.revision == 1 ≡ b → Q (cond b [] ((number_id 0, number_row m.revision) ∷ []))) [ true ↦ λ e. q | false ↦ λ e. h e [] q ] refl

  pub rows_keep : (m : PersistenceUnit) (numbers : List ℕ) → ((p : Entity × ℕ) → Has (zip m.entities numbers) p → (root : Root) → HasEntry p.0 p.1 root → Keeps (number_id root.table) (number_row p.1)) → Q (base_of m)
      → Q (number_rows m numbers)
  rows_keep m numbers h q = over_keeps (next_entries (zip m.entities numbers)) (base_of m) (entries_each Keeps (zip m.entities numbers) h) q

-- ---- classes with their next numbers

pub zipped_first : {A B : Type 0} (xs : List A) (ys : List B) (p : A × B) → Has (zip xs ys) p → Has xs p.0
zipped_first [] ys p h = absurd h
zipped_first (x ∷ xs) [] p h = absurd h
zipped_first (x ∷ xs) (y ∷ ys) p (inl e) = inl (ap (λ (q : _ × _). q.0) e)
zipped_first (x ∷ xs) (y ∷ ys) p (inr h) = inr (zipped_first xs ys p h)

zipped_fits : {A B : Type 0} (f : A → B → Bool) (xs : List A) (ys : List B) → each_fits f xs ys ≡ true → (p : A × B) → Has (zip xs ys) p → f p.0 p.1 ≡ true
zipped_fits f [] ys h p k = absurd k
zipped_fits f (x ∷ xs) [] h p k = absurd k
zipped_fits f (x ∷ xs) (y ∷ ys) h p (inl e) = ap (λ (q : _ × _). f q.0 q.1) (sym e) ∙ and_first (f x y) _ h
zipped_fits f (x ∷ xs) (y ∷ ys) h p (inr k) = zipped_fits f xs ys (and_second (f x y) _ h) p k

-- a next number that has a row is an integer of the program
pub entry_given : (m : PersistenceUnit) (numbers : List ℕ) → are_numbers m numbers ≡ true → (p : Entity × ℕ) → Has (zip m.entities numbers) p → (root : Root) → HasEntry p.0 p.1 root → nat_lt 0 p.1 && is_i64 (pos p.1) ≡ true
entry_given m numbers are p h root k =
    sym ((λ i. is_next (k.origin i) p.1) ∙ ap (λ b. cond b (nat_lt 0 p.1 && is_i64 (pos p.1)) (p.1 == 1)) k.generated) ∙ zipped_fits (λ (e : Entity) n. is_next e.origin n) m.entities numbers are p h

-- a root's table is one of the class's own
pub own_table : (e : Entity) (root : Root) → e.origin ≡ Origin.Root root → Has (own_tables e) root.table
own_table e root is = append_has (root_tables e.origin) (flat_map (λ r. join_tables r.side) e.relations) root.table (inl (subst (λ o. Has (root_tables o) root.table) (sym is) (inl refl)))

pub among_tables : (entities : List Entity) (numbers : List ℕ) (p : Entity × ℕ) → Has (zip entities numbers) p → (root : Root) → (p.0).origin ≡ Origin.Root root → Has (flat_map own_tables entities) root.table
among_tables entities numbers p h root is = into_flat_map own_tables entities p.0 root.table (zipped_first entities numbers p h) (own_table p.0 root is)

-- ---- what is found

pub unless_same : (q id : RowId) → (q ≡ id → ⊥) → eq_by_cmp identity_cmp q id ≡ false
unless_same q id apart = by_test (eq_by_cmp identity_cmp q id) refl
  where
    by_test : (b : Bool) → eq_by_cmp identity_cmp q id ≡ b → eq_by_cmp identity_cmp q id ≡ false
    by_test true e = absurd (apart (same_key identities q id e))
    by_test false e = e

pub not_among : (q : RowId) (es : Rows) → Each (λ id row. q ≡ id → ⊥) es → find identity_cmp q es ≡ None
not_among q [] h = refl
not_among q (e ∷ es) h = ap (λ b. cond b (Some e.1) (find identity_cmp q es)) (unless_same q e.0 h.0) ∙ not_among q es h.1

pub same_table : (a b : ℕ) → number_id a ≡ number_id b → a ≡ b
same_table a b e = in_key a b (ap (λ (id : RowId). id.key) e)
  where
    in_key : (a b : ℕ) → ◌≡◌ {A = List Value} (Value.Int (pos a) ∷ []) (Value.Int (pos b) ∷ []) → a ≡ b
    in_key a b e = cc

pub or_none : (o : Option Row) → or_else o None ≡ o
or_none None = refl
or_none (Some row) = refl

pub found_joined : (q : RowId) (es fs : Rows) → find identity_cmp q (es ++ fs) ≡ or_else (find identity_cmp q es) (find identity_cmp q fs)
found_joined q [] fs = refl
found_joined q (e ∷ es) fs =
    ap (cond (eq_by_cmp identity_cmp q e.0) (Some e.1)) (found_joined q es fs) ∙ either_first (eq_by_cmp identity_cmp q e.0) e.1 (find identity_cmp q es) (find identity_cmp q fs)

-- no row of a table that is none of these classes'
pub no_entry : (table : ℕ) (entities : List Entity) (numbers : List ℕ) → (Has (flat_map own_tables entities) table → ⊥) → find identity_cmp (number_id table) (next_entries (zip entities numbers)) ≡ None
no_entry table entities numbers apart =
    not_among (number_id table) (next_entries (zip entities numbers))
    (entries_each (λ id row. number_id table ≡ id → ⊥) (zip entities numbers)
    (λ p h root k same. apart (subst (Has (flat_map own_tables entities)) (sym (same_table table root.table same)) (among_tables entities numbers p h root k.origin))))

-- that of a root with generated keys is its own, since no table stands for two things
found_entry : (entities : List Entity) (numbers : List ℕ) → are_distinct_numbers (flat_map own_tables entities) ≡ true → (p : Entity × ℕ) → Has (zip entities numbers) p → (root : Root) → (p.0).origin ≡ Origin.Root root
    → root.generated ≡ true → find identity_cmp (number_id root.table) (next_entries (zip entities numbers)) ≡ find identity_cmp (number_id root.table) (number_entry root.table p.1)
found_entry [] numbers distinct p h root is g = absurd h
found_entry (e ∷ entities) [] distinct p h root is g = absurd h
found_entry (e ∷ entities) (k ∷ numbers) distinct p (inl s) root is g =
    let q = number_id root.table in
    let here : e.origin ≡ Origin.Root root = ap (λ (r : Entity × ℕ). (r.0).origin) s ∙ is in
    found_joined q (next_entry e.origin k) (next_entries (zip entities numbers))
    ∙ ap (or_else (find identity_cmp q (next_entry e.origin k)))
    (no_entry root.table entities numbers (distinct_apart (own_tables e) (flat_map own_tables entities) distinct root.table (own_table e root here)))
    ∙ or_none (find identity_cmp q (next_entry e.origin k))
    ∙ ap (λ o. find identity_cmp q (next_entry o k)) here
    ∙ ap (λ b. find identity_cmp q (cond b (number_entry root.table k) [])) g
    ∙ ap (λ (r : Entity × ℕ). find identity_cmp q (number_entry root.table r.1)) s
found_entry (e ∷ entities) (k ∷ numbers) distinct p (inr h) root is g =
    let q = number_id root.table in
    found_joined q (next_entry e.origin k) (next_entries (zip entities numbers))
    ∙ ap (λ o. or_else o (find identity_cmp q (next_entries (zip entities numbers))))
    (not_among q (next_entry e.origin k)
    (entry_each (λ id row. q ≡ id → ⊥) e k
    (λ r at same. distinct_apart (own_tables e) (flat_map own_tables entities) distinct root.table (subst (Has (own_tables e)) (sym (same_table root.table r.table same)) (own_table e r at.origin))
    (among_tables entities numbers p h root is))))
    ∙ found_entry entities numbers (distinct_rest (own_tables e) (flat_map own_tables entities) distinct) p h root is g

module _ (m : PersistenceUnit) (clear : IsUnambiguous m) where
  abbrev all : List ℕ
  all = flat_map own_tables m.entities

  distinct : are_distinct_numbers all ≡ true
  distinct = distinct_rest (0 ∷ []) all clear.tables

  -- the row of the revision is none of a hierarchy's
  pub no_base : (table : ℕ) → Has all table → find identity_cmp (number_id table) (base_of m) ≡ None
  no_base table h =
      not_among (number_id table) (base_of m)
      (number_each (λ id row. number_id table ≡ id → ⊥) 0 m.revision (λ more same. distinct_apart (0 ∷ []) all clear.tables 0 (inl refl) (subst (Has all) (same_table table 0 same) h)))

  pub found_row : (numbers : List ℕ) (p : Entity × ℕ) → Has (zip m.entities numbers) p → (root : Root) → (p.0).origin ≡ Origin.Root root → root.generated ≡ true
      → find identity_cmp (number_id root.table) (number_rows m numbers) ≡ find identity_cmp (number_id root.table) (number_entry root.table p.1)
  found_row numbers p h root is g =
      let q = number_id root.table in
      found_over q (next_entries (zip m.entities numbers)) (base_of m)
      ∙ (λ i. or_else (found_entry m.entities numbers distinct p h root is g i) (no_base root.table (among_tables m.entities numbers p h root is) i))
      ∙ or_none (find identity_cmp q (number_entry root.table p.1))

  -- that of the revision
  pub found_base : (numbers : List ℕ) → find identity_cmp (number_id 0) (number_rows m numbers) ≡ find identity_cmp (number_id 0) (base_of m)
  found_base numbers =
      found_over (number_id 0) (next_entries (zip m.entities numbers)) (base_of m)
      ∙ ap (λ o. or_else o (find identity_cmp (number_id 0) (base_of m))) (no_entry 0 m.entities numbers (distinct_apart (0 ∷ []) all clear.tables 0 (inl refl)))

-- ---- numbers are read again

number_says : (table k : ℕ) → number_in (find identity_cmp (number_id table) (number_entry table k)) ≡ k
number_says table k =
    elim (k == 1) as (λ b. k == 1 ≡ b → number_in (find identity_cmp (number_id table) (cond b [] ((number_id table, number_row k) ∷ []))) ≡ k) [
      | true ↦ λ e. sym (are_same_numbers k 1 e)
      | false ↦ λ e. ap (λ b. number_in (cond b (Some (number_row k)) None)) (ties_itself identities (number_id table))
    ] refl

pub number_found : (table k : ℕ) → k == 1 ≡ false → find identity_cmp (number_id table) (number_entry table k) ≡ Some (number_row k)
number_found table k more =
    ap (λ b. find identity_cmp (number_id table) (cond b [] ((number_id table, number_row k) ∷ []))) more ∙ ap (λ b. cond b (Some (number_row k)) None) (ties_itself identities (number_id table))

-- off any rows in which each is found as among these
module _ (rows : Rows) where
  next_read : (origin : Origin) (k : ℕ) → is_next origin k ≡ true
      → ((root : Root) → origin ≡ Origin.Root root → root.generated ≡ true → find identity_cmp (number_id root.table) rows ≡ find identity_cmp (number_id root.table) (number_entry root.table k)) → next_at rows origin ≡ k
  next_read (Origin.Extends parent) k h found = sym (are_same_numbers k 1 h)
  next_read (Origin.Root root) k h found =
      elim root.generated as (λ b. root.generated ≡ b → cond b (nat_lt 0 k && is_i64 (pos k)) (k == 1) ≡ true → cond b (number_in (find identity_cmp (number_id root.table) rows)) 1 ≡ k) [
        | true ↦ λ g j. ap number_in (found root refl g) ∙ number_says root.table k
        | false ↦ λ g j. sym (are_same_numbers k 1 j)
      ] refl h

  pub all_read : (entities : List Entity) (numbers : List ℕ) → each_fits (λ e k. is_next e.origin k) entities numbers ≡ true
      → ((p : Entity × ℕ) → Has (zip entities numbers) p → (root : Root) → (p.0).origin ≡ Origin.Root root → root.generated ≡ true
      → find identity_cmp (number_id root.table) rows ≡ find identity_cmp (number_id root.table) (number_entry root.table p.1))
      → map (λ e. next_at rows e.origin) entities ≡ numbers
  all_read [] [] h found = refl
  all_read [] (k ∷ numbers) h found = absurd (subst T (sym h) tt)
  all_read (e ∷ entities) [] h found = absurd (subst T (sym h) tt)
  all_read (e ∷ entities) (k ∷ numbers) h found =
      let here = next_read e.origin k (and_first (is_next e.origin k) _ h) (found (e, k) (inl refl)) in
      let others = all_read entities numbers (and_second (is_next e.origin k) _ h) (λ p g. found p (inr g)) in
      λ i. here i ∷ others i

-- ---- another number in the place of one

pub has_set : (entities : List Entity) (numbers : List ℕ) (i k : ℕ) → nat_lt i (length entities) ≡ true → nat_lt i (length numbers) ≡ true → Has (zip entities (slice_set numbers i k)) (slice_index_or entities i no_entity, k)
has_set [] numbers i k h g = absurd (no_place i h)
  where
    no_place : (i : ℕ) → nat_lt i 0 ≡ true → ⊥
    no_place i h = grind (arith, nat_tests)
has_set (e ∷ entities) [] i k h g = absurd (no_place i g)
  where
    no_place : (i : ℕ) → nat_lt i 0 ≡ true → ⊥
    no_place i h = grind (arith, nat_tests)
has_set (e ∷ entities) (n ∷ numbers) zero k h g = inl refl
has_set (e ∷ entities) (n ∷ numbers) (suc i) k h g = inr (has_set entities numbers i k (later i (length entities) h) (later i (length numbers) g))
  where
    later : (i n : ℕ) → nat_lt (suc i) (suc n) ≡ true → nat_lt i n ≡ true
    later i n h = grind (arith, nat_tests)

-- no other row is found otherwise
pub others_set : (q : RowId) (entities : List Entity) (numbers : List ℕ) (i k : ℕ) (root : Root) → (slice_index_or entities i no_entity).origin ≡ Origin.Root root → (q ≡ number_id root.table → ⊥)
    → find identity_cmp q (next_entries (zip entities (slice_set numbers i k))) ≡ find identity_cmp q (next_entries (zip entities numbers))
others_set q [] numbers i k root is apart = refl
others_set q (e ∷ entities) [] i k root is apart = refl
others_set q (e ∷ entities) (n ∷ numbers) zero k root is apart =
    let rest = next_entries (zip entities numbers) in
    let none = λ (j : ℕ). not_among q (next_entry e.origin j) (entry_each (λ id row. q ≡ id → ⊥) e j (λ r at same. apart (same ∙ ap (λ o. number_id o) (one_root r root (sym at.origin ∙ is))))) in
    found_joined q (next_entry e.origin k) rest ∙ ap (λ o. or_else o (find identity_cmp q rest)) (none k ∙ sym (none n)) ∙ sym (found_joined q (next_entry e.origin n) rest)
  where
    one_root : (a b : Root) → Origin.Root a ≡ Origin.Root b → a.table ≡ b.table
    one_root a b e = cc
others_set q (e ∷ entities) (n ∷ numbers) (suc i) k root is apart =
    let here = next_entry e.origin n in
    found_joined q here (next_entries (zip entities (slice_set numbers i k)))
    ∙ ap (or_else (find identity_cmp q here)) (others_set q entities numbers i k root is apart)
    ∙ sym (found_joined q here (next_entries (zip entities numbers)))
