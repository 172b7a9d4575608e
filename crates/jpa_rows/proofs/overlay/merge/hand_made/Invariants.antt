use Rattle.std.specs.Prelude.{Bool, Result}
use Rattle.std.proofs.Common.{drop}
use Rattle.jpa_value.specs.declared.refusal.Cause.{Cause}
use Rattle.jpa_rows.specs.laws.Handing.{Hands}
use Rattle.jpa_rows.specs.overlay.Overlay.{rows_put}
use Rattle.jpa_rows.specs.overlay.Merging.{IsMemory}
use Rattle.jpa_rows.proofs.overlay.merge.hand_made.Given as goal

-- what is handed on of the changes that are left goes on what was handed on
abbrev pub invariant-changes : goal.invariant-changes
invariant-changes g l =
    let takes = g.K.RowSink.takes in
    (r : Result Bool Cause) (last : g.row.K.Denot) → Hands takes IsMemory l.sink (rows_put (drop l.change-index l.changes)) r last → Hands takes IsMemory l.initial.sink (rows_put l.changes) r last
