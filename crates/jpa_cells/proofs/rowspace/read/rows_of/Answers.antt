use Rattle.std.proofs.Common.{◌∙◌, ◌++◌, ◌∷◌, [], sym, ap, subst}
use Rattle.std.specs.Prelude.{MatchResult, ◌≡◌}
use Rattle.std.proofs.lemmas.List.{append_assoc}
use Rattle.jpa_cells.specs.rowspace.Reading.{AreEntries, IsEntry, IsDamaged}
use Rattle.jpa_cells.proofs.rowspace.Readings.{entries_last}
use Rattle.jpa_cells.proofs.rowspace.read.rows_of.Goals as goal

pub rows-preserved : goal.rows-preserved
rows-preserved c =
    let rule = c.args.table.now in
    let row = c.in-Some.row in
    let here : IsEntry rule row c.in-Ok.entry = subst (λ r. MatchResult r (IsEntry rule row) (λ bytes. IsDamaged rule row × (row.row ≡ bytes))) c.in-Ok.is c.in_ok-entry.ensures.read in (
      subst (AreEntries rule (c.rows.yielded ++ row ∷ [])) (sym c.in_ok-push-in-Ok.ensures.ok) (entries_last rule c.rows.yielded c.rows.rows row c.in-Ok.entry c.rows.invariant.0 here),
      c.rows.invariant.1 ∙ ap (λ l. c.rows.yielded ++ l) c.in-Some.ensures.steps.0 ∙ sym (append_assoc c.rows.yielded (row ∷ []) c.next.new.self.rest.items),
    )
