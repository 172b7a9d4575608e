-- The first rows are enough for those that are asked.
use Rattle.std.proofs.Common.{◌≡◌, ◌∙◌, ◌+◌, ap, sym, arith, ℕ, ℤ, List, take, drop, Option}
use Rattle.std.proofs.lemmas.List.{drop-take, take-take}
use Rattle.jpql_meaning.specs.declared.eval.datum.Datum.{Datum}
use Rattle.jpa_queries.specs.Queries.{skipped, limited, cut}

-- so many as are kept behind those that are skipped
pub enough : (first max : Option ℤ) (k n : ℕ) → ((rows : List (List Datum)) → skipped first rows ≡ drop k rows)
    → ((rows : List (List Datum)) → limited max rows ≡ take n rows)
    → (rows : List (List Datum)) → cut first max (take (k + n) rows) ≡ cut first max rows
enough first max k n h g rows =
    ap (limited max) (h (take (k + n) rows) ∙ drop-take k n rows) ∙ g (take n (drop k rows)) ∙ take-take n n (drop k rows) (omega arith)
    ∙ sym (g (drop k rows)) ∙ ap (limited max) (sym (h rows))
