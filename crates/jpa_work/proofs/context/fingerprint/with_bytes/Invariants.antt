use Rattle.std.proofs.Common.{◌≡◌, drop}
use Rattle.std.specs.Prelude.{fold}
use Rattle.jpa_work.specs.context.Near.{mixed}
use Rattle.jpa_work.proofs.context.fingerprint.with_bytes.Given as goal

-- what is left of the bytes makes the same of it
abbrev pub invariant-loop-byte : goal.invariant-loop-byte
invariant-loop-byte l = fold mixed l.print (drop l.byte-index l.bytes) ≡ fold mixed l.fn.print l.bytes
