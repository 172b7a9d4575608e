use Rattle.std.proofs.Common.{◌≡◌, drop}
use Rattle.std.specs.Prelude.{fold}
use Rattle.jpa_work.specs.context.Near.{with_value}
use Rattle.jpa_work.proofs.context.fingerprint.fingerprint.Given as goal

-- what is left of the key makes the same of it
abbrev pub invariant-loop-value : goal.invariant-loop-value
invariant-loop-value l = fold with_value l.print (drop l.value-index l.key) ≡ fold with_value 1 l.key
