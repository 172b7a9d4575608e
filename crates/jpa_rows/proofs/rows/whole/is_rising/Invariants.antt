use Rattle.std.proofs.Common.{◌≡◌, drop}
use Rattle.jpa_rows.specs.rows.Reading.{rises_from}
use Rattle.jpa_rows.proofs.rows.whole.is_rising.Given as goal

abbrev pub invariant-loop-field : goal.invariant-loop-field
invariant-loop-field l = rises_from 0 l.row ≡ rises_from l.least (drop l.field-index l.row)
