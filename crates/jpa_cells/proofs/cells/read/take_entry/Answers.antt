use Rattle.std.proofs.Common.{◌≡◌, ◌∙◌, ◌∷◌, [], sym, ap, rules}
use Rattle.jpa_cells.specs.meaning.Tables.{row_of}
use Rattle.jpa_cells.proofs.meaning.Adding.{added_to, added_after}
use Rattle.jpa_cells.proofs.cells.read.take_entry.Goals as goal

pub returns-in_ok-push-in-Some : goal.returns-in_ok-push-in-Some
returns-in_ok-push-in-Some c =
    let same : c.in-Some.last.row ≡ c.args.row = search rules in
    rw (c.in-Some.is) (added_to [] c.in-Some.last c.args.row c.args.cell same ∙ ap (λ l. row_of c.in-Some.last.row l ∷ []) (sym c.in_ok-push-in-Some.ensures.ok))

pub returns-in_ok-begin_row-in-Some-2 : goal.returns-in_ok-begin_row-in-Some-2
returns-in_ok-begin_row-in-Some-2 c =
    let other : c.in-Some.last.row ≡ c.args.row → ⊥ = search rules in
    rw (c.in-Some.is, c.in_ok-begin_row-in-Some-2.ensures) (added_after [] c.in-Some.last c.args.row c.args.cell other)
