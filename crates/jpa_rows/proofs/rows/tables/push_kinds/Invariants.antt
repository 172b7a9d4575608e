use Rattle.std.proofs.Common.{◌≡◌, ◌++◌, map, take}
use Rattle.jpa_rows.proofs.rows.tables.push_kinds.Given as goal

abbrev pub invariant-loop-part : goal.invariant-loop-part
invariant-loop-part l = l.kinds ≡ l.fn.kinds ++ map (λ part. part.kind) (take l.part-index l.root.key)
