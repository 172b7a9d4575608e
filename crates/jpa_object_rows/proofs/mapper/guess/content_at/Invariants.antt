use Rattle.std.proofs.Common.{◌≡◌, drop}
use Rattle.jpa_object_rows.specs.meaning.Sets.{content_at}
use Rattle.jpa_object_rows.proofs.mapper.guess.content_at.Given as goal

abbrev pub invariant-loop-field : goal.invariant-loop-field
invariant-loop-field l = content_at l.column (drop l.field-index l.row) ≡ content_at l.column l.row
