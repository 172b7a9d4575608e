use Rattle.std.proofs.Common.{◌≡◌, [], ◌∷◌, ◌++◌, map, take}
use Rattle.jpa_value.specs.Event.{event_name}
use Rattle.serde_json.specs.Data.{number, string, unsigned}
use Rattle.jpa_lines.specs.lines.Outcome.{Adds}
use Rattle.jpa_lines.proofs.lines.Told.{begun}
use Rattle.jpa_lines.proofs.lines.writing.tell_event.Given as goal

abbrev pub invariant-loop-name : goal.invariant-loop-name
invariant-loop-name l = record {
  whole : l.name-items ≡ l.fn.told.ran;
  told : Adds l.fn.out l.out (begun ((string (event_name l.fn.told.event) ∷ number (unsigned l.fn.told.object) ∷ []) ++ map string (take l.name-index l.name-items)));
}
