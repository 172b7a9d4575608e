-- No two cells that become of those of a row have one column, unless a cell stood in a new column.
use Rattle.std.specs.Prelude.{◌≡◌, ◌≢◌, ℕ, ℤ, pos, Bool, true, false, cond, ◌&&◌, List, [], ◌∷◌, ◌++◌, map, Option, Some, None}
use Rattle.std.proofs.Common.{refl, sym, ap, ◌∙◌, ◌⊎◌, inl, inr, Less}
use Rattle.std.specs.List.{flat_map, list_any}
use Rattle.std.specs.Ordering.{int_eq}
use Rattle.std.proofs.lemmas.Bool.Decides.{Decides-int_eq}
use Rattle.sqlite.specs.Tree.{IsAscending}
use Rattle.jpa_value.specs.declared.value.Value.{Value}
use Rattle.jpa_model.specs.declared.unit.Attribute.{Attribute}
use Rattle.jpa_behaviour.specs.Behaviour.{World}
use Rattle.jpa_description.specs.declared.history.history.Change.{Change}
use Rattle.jpa_rows.proofs.laws.Facts.{and_second, and_both, true_false}
use Rattle.jpa_rows.proofs.laws.Elements.{Has, from_flat_map}
use Rattle.jpa_rows.proofs.laws.Lists.{all_each, has_any}
use Rattle.jpa_cells.specs.declared.meaning.Cell.{Cell}
use Rattle.jpa_cells.specs.meaning.Tables.{cell_cmp, ColumnsDiffer}
use Rattle.jpa_object_rows.specs.meaning.Unambiguous.{are_distinct_numbers}
use Rattle.jpa_opening.specs.migration.Migration.{is_new, was_in, default_in, default_bytes, cell_if, is_taken, column_after, cell_after}
use Rattle.jpa_opening.specs.migration.Changed.{default_cell}
use Rattle.jpa_opening.proofs.migration.Columns.{ascending-append, less_apart, not_later}

abbrev column_of : Attribute × Change → ℕ
column_of p = (p.0).column

natural : (a b : ℕ) → pos a ≡ pos b → a ≡ b
natural a b e = cc

-- ---- defaults

pub record IsDefaultOf (p : Attribute × Change) (d : Cell) : Type 0 where
  pub column : d.column ≡ pos (p.0).column
  pub default : Option Value
  pub new : p.1 ≡ Change.New default

pub of_default : (world : World) (p : Attribute × Change) (d : Cell) → Has (default_cell world p) d → IsDefaultOf p d
of_default world (a, Change.Kept) d h = absurd h
of_default world (a, Change.New default) d h = by (default_bytes world a default) h
  where
    by : (o : Option (List ℕ)) → Has (cell_if a.column o) d → IsDefaultOf (a, Change.New default) d
    by None k = absurd k
    by (Some bytes) (inl e) = record { column = ap (λ (c : Cell). c.column) (sym e); default = default; new = refl }
    by (Some bytes) (inr k) = absurd k
of_default world (a, Change.Moved was) d h = absurd h

one_cell : (column : ℕ) (o : Option (List ℕ)) → ColumnsDiffer (cell_if column o)
one_cell column None = tt
one_cell column (Some bytes) = (tt, tt)

pub defaults_differ : (world : World) (ps : List (Attribute × Change)) → are_distinct_numbers (map (λ p. (p.0).column) ps) ≡ true → ColumnsDiffer (flat_map (default_cell world) ps)
defaults_differ world [] h = tt
defaults_differ world (p ∷ ps) h =
    ascending-append (λ a b. a.column ≢ b.column) (default_cell world p) (flat_map (default_cell world) ps) (one_cell (p.0).column (default_bytes world p.0 (default_in p.1)))
    (defaults_differ world ps (and_second _ _ h))
    (λ x y i j e.
    let r = from_flat_map (default_cell world) ps y j in
    not_later column_of p ps h r.0 r.1 (natural (p.0).column ((r.0).0).column (sym (of_default world p x i).column ∙ e ∙ (of_default world r.0 y r.2).column)))

-- ---- cells that stay

pub was_new : (column : ℤ) (change : Change) → was_in column change ≡ true → is_new change ≡ true
was_new column Change.Kept h = cc
was_new column (Change.New default) h = cc
was_new column (Change.Moved was) h = refl

was_once : (c d : ℤ) (change : Change) → was_in c change ≡ true → was_in d change ≡ true → c ≡ d
was_once c d Change.Kept h g = cc
was_once c d (Change.New default) h g = cc
was_once c d (Change.Moved was) h g = sym ((Decides-int_eq (pos was) c).0 h) ∙ (Decides-int_eq (pos was) d).0 g

pub record IsMovedTo (ps : List (Attribute × Change)) (column now : ℤ) : Type 0 where
  pub by : Attribute × Change
  pub there : Has ps by
  pub was : was_in column by.1 ≡ true
  pub to : now ≡ pos (by.0).column

pub stays_or_moves : (ps : List (Attribute × Change)) (column : ℤ) → (column_after ps column ≡ column) ⊎ IsMovedTo ps column (column_after ps column)
stays_or_moves [] column = inl refl
stays_or_moves (p ∷ ps) column = go (was_in column p.1) refl (stays_or_moves ps column)
  where
    more : IsMovedTo ps column (column_after ps column) → IsMovedTo (p ∷ ps) column (column_after ps column)
    more r = record { by = r.by; there = inr r.there; was = r.was; to = r.to }

    go : (b : Bool) → was_in column p.1 ≡ b → (column_after ps column ≡ column) ⊎ IsMovedTo ps column (column_after ps column)
        → (cond b (pos (p.0).column) (column_after ps column) ≡ column) ⊎ IsMovedTo (p ∷ ps) column (cond b (pos (p.0).column) (column_after ps column))
    go true h rest = inr (record { by = p; there = inl refl; was = h; to = refl })
    go false h (inl e) = inl e
    go false h (inr r) = inr (more r)

module _ (ps : List (Attribute × Change)) (cells : List Cell) (free : is_taken ps cells ≡ false) where
  -- no cell stands in a new column
  pub none_in : (c : Cell) (p : Attribute × Change) → Has cells c → Has ps p → is_new p.1 ≡ true → pos (p.0).column ≡ c.column → ⊥
  none_in c p h k new e =
      true_false (sym (has_any (λ c. list_any (λ p. is_new p.1 && int_eq (pos (p.0).column) c.column) ps) cells c h
      (has_any (λ p. is_new p.1 && int_eq (pos (p.0).column) c.column) ps p k (and_both (is_new p.1) (int_eq (pos (p.0).column) c.column) new ((Decides-int_eq (pos (p.0).column) c.column).1 e))))
      ∙ free)

  module _ (one : (p q : Attribute × Change) → Has ps p → Has ps q → (p.0).column ≡ (q.0).column → p ≡ q) where
    kept_once : (c d : Cell) → Has cells c → Has cells d → column_after ps c.column ≡ column_after ps d.column → c.column ≡ d.column
    kept_once c d h k e = go (stays_or_moves ps c.column) (stays_or_moves ps d.column)
      where
        go : (column_after ps c.column ≡ c.column) ⊎ IsMovedTo ps c.column (column_after ps c.column) → (column_after ps d.column ≡ d.column) ⊎ IsMovedTo ps d.column (column_after ps d.column) → c.column ≡ d.column
        go (inl a) (inl b) = sym a ∙ e ∙ b
        go (inl a) (inr b) = absurd (none_in c b.by h b.there (was_new d.column (b.by).1 b.was) (sym b.to ∙ sym e ∙ a))
        go (inr a) (inl b) = absurd (none_in d a.by k a.there (was_new c.column (a.by).1 a.was) (sym a.to ∙ e ∙ b))
        go (inr a) (inr b) =
            let same = one a.by b.by a.there b.there (natural ((a.by).0).column ((b.by).0).column (sym a.to ∙ e ∙ b.to)) in
            was_once c.column d.column (b.by).1 (ap (λ (p : Attribute × Change). was_in c.column p.1) (sym same) ∙ a.was) b.was

    of_kept : (dropped : List ℕ) (c x : Cell) → Has (cell_after ps dropped c) x → x.column ≡ column_after ps c.column
    of_kept dropped c x h = by (list_any (λ n. int_eq (pos n) c.column) dropped) h
      where
        by : (b : Bool) → Has (cond b [] (record { column = column_after ps c.column; value = c.value } ∷ [])) x → x.column ≡ column_after ps c.column
        by true k = absurd k
        by false (inl e) = ap (λ (c : Cell). c.column) (sym e)
        by false (inr k) = absurd k

    one_kept : (dropped : List ℕ) (c : Cell) → ColumnsDiffer (cell_after ps dropped c)
    one_kept dropped c = by (list_any (λ n. int_eq (pos n) c.column) dropped)
      where
        by : (b : Bool) → ColumnsDiffer (cond b [] (record { column = column_after ps c.column; value = c.value } ∷ []))
        by true = tt
        by false = (tt, tt)

    kept_differ : (dropped : List ℕ) (rest : List Cell) → IsAscending (λ a b. cell_cmp a b ≡ Less) rest → ((c : Cell) → Has rest c → Has cells c) → ColumnsDiffer (flat_map (cell_after ps dropped) rest)
    kept_differ dropped [] up within = tt
    kept_differ dropped (c ∷ rest) up within =
        ascending-append (λ a b. a.column ≢ b.column) (cell_after ps dropped c) (flat_map (cell_after ps dropped) rest) (one_kept dropped c) (kept_differ dropped rest up.1 (λ d k. within d (inr k)))
        (λ x y i j e.
        let r = from_flat_map (cell_after ps dropped) rest y j in
        less_apart c r.0 (all_each (λ d. cell_cmp c d ≡ Less) rest up.0 r.0 r.1)
        (kept_once c r.0 (within c (inl refl)) (within r.0 (inr r.1)) (sym (of_kept dropped c x i) ∙ e ∙ of_kept dropped r.0 y r.2)))

    -- no default stands in the column of a cell that stays
    default_apart : (c d : Cell) (p : Attribute × Change) → Has cells c → Has ps p → IsDefaultOf p d → column_after ps c.column ≡ d.column → ⊥
    default_apart c d p h k is e = go (stays_or_moves ps c.column)
      where
        go : (column_after ps c.column ≡ c.column) ⊎ IsMovedTo ps c.column (column_after ps c.column) → ⊥
        go (inl a) = none_in c p h k (ap is_new is.new) (sym is.column ∙ sym e ∙ a)
        go (inr a) =
            let same = one a.by p a.there k (natural ((a.by).0).column (p.0).column (sym a.to ∙ e ∙ is.column)) in
            true_false (sym a.was ∙ ap (λ (q : Attribute × Change). was_in c.column q.1) same ∙ ap (was_in c.column) is.new)

    -- together with defaults of different columns
    pub loose_differ : (dropped : List ℕ) (defaults : List Cell) → IsAscending (λ a b. cell_cmp a b ≡ Less) cells → ColumnsDiffer defaults
        → ((d : Cell) → Has defaults d → (p : Attribute × Change) × Has ps p × IsDefaultOf p d) → ColumnsDiffer (flat_map (cell_after ps dropped) cells ++ defaults)
    loose_differ dropped defaults up differ each =
        ascending-append (λ a b. a.column ≢ b.column) (flat_map (cell_after ps dropped) cells) defaults (kept_differ dropped cells up (λ c k. k)) differ
        (λ x y i j e.
        let r = from_flat_map (cell_after ps dropped) cells x i in
        let s = each y j in
        default_apart r.0 y s.0 r.1 s.1 s.2 (sym (of_kept dropped r.0 x r.2) ∙ e))
