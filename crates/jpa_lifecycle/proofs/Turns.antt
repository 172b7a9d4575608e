-- Listeners and callbacks that ran before others.
use Rattle.std.proofs.Common.{ℕ, List, ◌++◌}
use Rattle.jpa_lifecycle.specs.declared.firing.Fired.{Fired}

-- with these names before those that ran
abbrev pub behind : List (List ℕ) → Fired → Fired
behind ran f = record f { names = ran ++ f.names }
