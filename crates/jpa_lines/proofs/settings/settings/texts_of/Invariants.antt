use Rattle.std.proofs.Common.{◌≡◌, map, take}
use Rattle.jpa_lines.proofs.settings.settings.texts_of.Given as goal

abbrev pub invariant-loop-value : goal.invariant-loop-value
invariant-loop-value l = l.texts ≡ map (λ v. v.now) (take l.value-index l.values)
