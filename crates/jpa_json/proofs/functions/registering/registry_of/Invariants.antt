use Rattle.std.proofs.Common.{◌≡◌, ◌++◌}
use Rattle.jpa_json.specs.functions.Sorts.{listeners_in, converters_in}
use Rattle.jpa_json.proofs.functions.registering.registry_of.Given as goal

abbrev pub invariant-loop-function : goal.invariant-loop-function
invariant-loop-function l = record {
  listeners : l.registry.listeners ≡ listeners_in l.yielded;
  converters : l.registry.converters ≡ converters_in l.yielded;
  language : l.registry.language ≡ l.fn.language;
  rest : l.fn.functions ≡ l.yielded ++ l.function-iterator.rest.items;
}
