-- Functions by sort and name.
use Rattle.std.specs.Prelude.{ℕ, Bool, true, false, ◌&&◌, List, if◌then◌else◌, Option, Some, None, is_some, Result, Ok}
use Rattle.std.specs.Prelude.{Err}
use Rattle.std.specs.List.{filter_map}
use Rattle.jpa_value.specs.declared.refusal.Argument.{Argument}
use Rattle.jpa_value.specs.declared.refusal.Cause.{Cause}
use Rattle.jpa_model.specs.Chains.{same_name}
use Rattle.jpql_trees.specs.declared.tree.Language.{Language}
use Rattle.jpa_behaviour.specs.Registered.{Known, Registered, known_as}
use Rattle.jpa_json.specs.functions.Distinct.{none_meets}
use Rattle.jpa_json.specs.declared.functions.make.Function.{Function}
use Rattle.jpa_json.specs.declared.functions.make.Make.{Make}
use Rattle.jpa_json.specs.declared.functions.make.Listener.{Listener}
use Rattle.jpa_json.specs.declared.functions.make.Converter.{Converter}

-- whether both are listeners, or both converters
abbrev pub are_of_one_sort : Make → Make → Bool
are_of_one_sort (Make.Listener l) (Make.Listener m) = true
are_of_one_sort (Make.Converter c) (Make.Converter d) = true
are_of_one_sort a b = false

-- whether two functions of one sort have one name
abbrev pub share_a_name : Function → Function → Bool
share_a_name f g = are_of_one_sort f.make g.make && same_name f.name g.name

-- no name of a sort stands twice
abbrev pub are_named_once : List Function → Bool
are_named_once = none_meets share_a_name

-- ---- what is registered

-- a listener under a name, where the function is one
abbrev pub listener_so : List ℕ → Make → Option (Known Listener)
listener_so name (Make.Listener l) = Some (record { name = name; what = l })
listener_so name (Make.Converter c) = None

-- a converter under a name, where the function is one
abbrev pub converter_so : List ℕ → Make → Option (Known Converter)
converter_so name (Make.Listener l) = None
converter_so name (Make.Converter c) = Some (record { name = name; what = c })

-- the listeners among functions
abbrev pub listeners_in : List Function → List (Known Listener)
listeners_in = filter_map (λ f. listener_so f.name f.make)

-- the converters among functions
abbrev pub converters_in : List Function → List (Known Converter)
converters_in = filter_map (λ f. converter_so f.name f.make)

-- each function in its sort under its name, in the order of the list, beside a language of queries
abbrev pub in_sorts : Language → List Function → Registered Listener Converter
in_sorts l fs = record { listeners = listeners_in fs; converters = converters_in fs; language = l }

-- a second name of a sort is refused
abbrev pub registered : Language → List Function → Result (Registered Listener Converter) Cause
registered l fs =
    if are_named_once fs then Ok (in_sorts l fs)
    else Err (Cause.IllegalArgument Argument.Second)

-- the name stands in its sort already
abbrev pub stands : Registered Listener Converter → List ℕ → Make → Bool
stands r name (Make.Listener l) = is_some (known_as name r.listeners)
stands r name (Make.Converter c) = is_some (known_as name r.converters)
