use Rattle.std.proofs.Common.{◌≡◌, ◌++◌, take, true}
use Rattle.std.specs.List.{list_all}
use Rattle.jpa_value.specs.Value.{is_representable}
use Rattle.jpa_rows.specs.keys.Keys as keys
use Rattle.jpa_rows.proofs.keys.write.push_key.Given as goal

abbrev pub invariant-loop-part : goal.invariant-loop-part
invariant-loop-part l = record {
  written : l.out.items ≡ l.fn.out.items ++ keys.key_bytes (take l.part-index l.key);
  representable : list_all is_representable (take l.part-index l.key) ≡ true;
}
