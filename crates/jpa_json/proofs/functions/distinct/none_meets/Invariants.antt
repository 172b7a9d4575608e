use Rattle.std.proofs.Common.{◌≡◌, drop}
use Rattle.jpa_json.specs.functions.Distinct as distinct
use Rattle.jpa_json.proofs.functions.distinct.none_meets.Given as goal

abbrev pub invariant-loop-place : goal.invariant-loop-place
invariant-loop-place g l = distinct.none_meets g.T.Meets.meeting (drop l.place l.items) ≡ distinct.none_meets g.T.Meets.meeting l.items
