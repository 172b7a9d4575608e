use Rattle.std.proofs.Common.{◌≡◌, ◌++◌, drop, length}
use Rattle.std.specs.Option.{option_map}
use Rattle.jpa_machine.specs.machine.Calls.{whole_key}
use Rattle.jpa_provider.proofs.handing.whole_key.Given as goal

-- the parts so far, before what the rest makes, are the whole key
abbrev pub invariant-loop-place : goal.invariant-loop-place
invariant-loop-place l = record {
  alike : length l.given ≡ length l.parts;
  whole : option_map (λ vs. l.key ++ vs) (whole_key (drop l.place l.parts) (drop l.place l.given)) ≡ whole_key l.parts l.given;
}
