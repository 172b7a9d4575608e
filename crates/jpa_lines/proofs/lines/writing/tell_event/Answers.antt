use Rattle.std.proofs.Common.{[], ◌∷◌, ◌++◌, map, subst, arith}
use Rattle.jpa_value.specs.Event.{event_name}
use Rattle.serde_json.specs.Data.{array, number, string, unsigned}
use Rattle.serde_json.specs.View.{items_of}
use Rattle.jpa_lines.specs.lines.Outcome.{Adds, data_tokens}
use Rattle.jpa_lines.proofs.lines.Told.{whole_list}
use Rattle.jpa_lines.proofs.lines.writing.tell_event.Goals as goal

pub returns : goal.returns
returns c =
    let front = string (event_name c.args.told.now.event) ∷ number (unsigned c.args.told.now.object) ∷ [] in
    subst (λ names. Adds c.args.out.now c.end_array.new.self (data_tokens (array (items_of (front ++ map string names))))) c.loop-name.invariant.whole
    (whole_list _ string c.args.out.now c.loop-name.out c.end_array.new.self front c.as_slice-name-items.result.now c.loop-name.name-index (omega arith) c.loop-name.invariant.told c.in_ok-end_array.ensures)
