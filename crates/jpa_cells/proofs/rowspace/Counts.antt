-- The statements of changes are counted by the changes of rows.
use Rattle.std.proofs.Common.{◌≡◌, ◌∙◌, sym, ap, subst, arith, ℕ, ◌<◌, ◌^◌, List, [], ◌∷◌, length}
use Rattle.std.specs.Prelude.{⊤, Result, Ok, sum_by}
use Rattle.jpa_value.specs.declared.refusal.Cause.{Cause}
use Rattle.jpa_rows.specs.declared.rows.row.RowChange.{RowChange}
use Rattle.jpa_cells.specs.declared.meaning.CellChange.{CellChange}
use Rattle.jpa_cells.specs.meaning.Tables as cells
use Rattle.jpa_cells.specs.meaning.Store.{Counts}
use Rattle.jpa_rows.specs.rows.Statements.{statements_of}
use Rattle.jpa_cells.specs.rowspace.Stored.{cell_changes}
use Rattle.jpa_cells.proofs.rowspace.After.{same_statements}

none_counted : (old : ℕ) → old < 2 ^ 64 → Counts {T = ⊤} {E = Cause} (Ok tt) old old 0
none_counted old small = (omega (arith, small), omega arith, omega (arith, small))

pub counts : (r : Result ⊤ Cause) (made : List CellChange) (changes : List RowChange) (old new : ℕ) → old < 2 ^ 64 → made ≡ cell_changes changes
    → (0 < length made → Counts r old new (sum_by cells.statements_of made)) → (length made ≡ 0 → (r ≡ Ok tt) × (new ≡ old)) → Counts r old new (sum_by statements_of changes)
counts r made [] old new small is some none =
    let n = none (ap (λ (cs : List CellChange). length cs) is) in
    subst (λ q. Counts q old new 0) (sym n.0) (subst (λ m. Counts {T = ⊤} {E = Cause} (Ok tt) old m 0) (sym n.1) (none_counted old small))
counts r made (c ∷ changes) old new small is some none =
    subst (Counts r old new) (ap (sum_by cells.statements_of) is ∙ same_statements (c ∷ changes)) (some (subst (λ (cs : List CellChange). 0 < length cs) (sym is) (omega arith)))
