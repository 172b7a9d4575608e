-- The rows of an owner's pairs: those tested so far, the one that is told, and that rows of a unit pass the test.
use Rattle.std.specs.Prelude.{◌≡◌, ◌⊎◌, ℕ, zero, suc, ◌+◌, ◌<◌, ◌==◌, true, List, [], ◌∷◌, ◌++◌, length, take, drop}
use Rattle.std.proofs.Common.{inl, inr, sym, ap, subst, ◌∙◌, arith, get_or, drop-cons}
use Rattle.std.proofs.lemmas.List.{take-append-drop}
use Rattle.std.specs.List.{list_any, AllByRecursion}
use Rattle.jpa_value.specs.declared.value.Identity.{Identity}
use Rattle.jpa_value.specs.declared.refusal.Cause.{Cause}
use Rattle.jpa_rows.specs.keys.Keys.{key_bytes}
use Rattle.jpa_model.specs.declared.unit.PersistenceUnit.{PersistenceUnit}
use Rattle.jpa_model.specs.declared.unit.Relation.{Relation}
use Rattle.jpa_model.specs.Chains.{relations_of}
use Rattle.jpa_rows.proofs.laws.Elements.{into_filter, into_flat_map}
use Rattle.jpa_rows.proofs.laws.Facts.{and_first}
use Rattle.jpa_rows.proofs.laws.Lists.{all_each, all_from, any_has}
use Rattle.jpa_rows.specs.rows.Cells.{join_tables}
use Rattle.jpa_rows.specs.rows.Rows.{RowId, Row, Rows, table_rows}
use Rattle.jpa_object_rows.specs.meaning.Unambiguous.{is_class, joins_of}
use Rattle.jpa_object_rows.proofs.meaning.Bytes.Orders.{are_same_numbers, same_number}
use Rattle.jpa_object_rows.specs.meaning.Objects.{pair_row}
use Rattle.jpa_object_rows.specs.meaning.Sets.{AreOnes, HoldsOnes}
use Rattle.jpa_object_rows.specs.mapper.Own.{keeps_pairs_in, is_own_pair, OwnAreOnes, IsDamagedPair}

-- ---- lists, item by item

with_next : {X : Type 0} (P : X → Type 0) (xs : List X) (k : ℕ) (x : X) → k < length xs → x ≡ get_or xs k x → AllByRecursion P (take k xs) → P x → AllByRecursion P (take (suc k) xs)
with_next P [] k x lt is h p = absurd (omega arith)
with_next P (y ∷ xs) zero x lt is h p = (subst P is p, tt)
with_next P (y ∷ xs) (suc k) x lt is h p = (h.0, with_next P xs k x (omega arith) is h.1 p)

pub all_further : {X : Type 0} (P : X → Type 0) (xs : List X) (k : ℕ) (x : X) → k < length xs → x ≡ get_or xs k x → AllByRecursion P (take k xs) → P x → AllByRecursion P (take (k + 1) xs)
all_further P xs k x lt is h p = let next : suc k ≡ k + 1 = omega arith in subst (λ n. AllByRecursion P (take n xs)) next (with_next P xs k x lt is h p)

pub split_at : {X : Type 0} (xs : List X) (k : ℕ) (x : X) → k < length xs → x ≡ get_or xs k x → xs ≡ take k xs ++ x ∷ drop (suc k) xs
split_at {X} xs k x lt is = sym (take-append-drop k xs) ∙ ap (λ l. take k xs ++ l) (drop-cons xs k x lt ∙ ap (λ (y : X). y ∷ drop (suc k) xs) (sym is))

-- ---- rows of join tables that are those of pairs

pub own_ones : (m : PersistenceUnit) (class : ℕ) → is_class m class ≡ true → (owner : Identity) (rows : Rows) → HoldsOnes m rows → OwnAreOnes m class owner rows
own_ones m class is owner rows ones =
    all_from (λ (e : RowId × Row). is_own_pair m class owner e.0 ≡ true → e.1 ≡ pair_row) rows
    (λ e has own.
    let table = (e.0).table in
    let r = any_has (λ (r : Relation). list_any (λ t. t == table) (join_tables r.side)) (relations_of m class) (and_first (keeps_pairs_in m class table) _ own) in
    let j = any_has (λ t. t == table) (join_tables (r.0).side) r.2 in
    let kept = into_flat_map (λ (r : Relation). join_tables r.side) (relations_of m class) r.0 j.0 r.1 j.1 in
    let there : AreOnes j.0 rows = all_each (λ join. AreOnes join rows) (joins_of (relations_of m class)) (ones class is) j.0 kept in
    all_each (λ (d : RowId × Row). d.1 ≡ pair_row) (table_rows table rows) (subst (λ t. AreOnes t rows) (are_same_numbers j.0 table j.2) there) e
    (into_filter (λ (d : RowId × Row). (d.0).table == table) rows e has (same_number table)))

-- ---- what is told

module _ (m : PersistenceUnit) (class : ℕ) (owner : Identity) (rows : Rows) (k : ℕ) (e : RowId × Row) (lt : k < length rows) (is : e ≡ get_or rows k e) (first : OwnAreOnes m class owner (take k rows)) where
  pub told_at : (cause : Cause) → is_own_pair m class owner e.0 ≡ true → (e.1 ≡ pair_row → ⊥) → (cause ≡ Cause.OutOfMemory) ⊎ (cause ≡ Cause.Damaged (e.0).table (key_bytes (e.0).key))
      → (cause ≡ Cause.OutOfMemory) ⊎ IsDamagedPair m class owner rows cause
  told_at cause own damaged (inl none) = inl none
  told_at cause own damaged (inr told) =
      inr (record { front = take k rows; id = e.0; row = e.1; back = drop (suc k) rows; split = split_at rows k e lt is; first = first; own = own; damaged = damaged; told = told })

  pub ones_further : (is_own_pair m class owner e.0 ≡ true → e.1 ≡ pair_row) → OwnAreOnes m class owner (take (k + 1) rows)
  ones_further one = all_further (λ (d : RowId × Row). is_own_pair m class owner d.0 ≡ true → d.1 ≡ pair_row) rows k e lt is first one
