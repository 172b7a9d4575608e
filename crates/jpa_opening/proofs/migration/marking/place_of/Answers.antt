use Rattle.std.specs.Prelude.{length, unwrap_or}
use Rattle.std.proofs.Common.{sym, ap, ◌∙◌}
use Rattle.jpa_opening.specs.migration.Migration.{revision_key}
use Rattle.jpa_opening.specs.migration.Places.{is_from}
use Rattle.jpa_opening.proofs.migration.Placed.{place_or_end}
use Rattle.jpa_opening.proofs.migration.marking.place_of.Goals as goal

pub returns-in-None-clause-place : goal.returns-in-None-clause-place
returns-in-None-clause-place c =
    ap (λ o. unwrap_or o (length c.args.rows.now)) (sym c.in-None.is ∙ c.place_from.ensures) ∙ place_or_end (is_from revision_key) c.args.rows.now
