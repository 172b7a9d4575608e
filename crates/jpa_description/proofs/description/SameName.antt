-- Names are compared by their bytes.
use Rattle.std.proofs.lemmas.Map.Text.{is_eq-slice_cmp}
use Rattle.jpa_model.proofs.Distinct.{are_distinct_by-map, map-self}

pub ruleset same_names = (is_eq-slice_cmp)

pub ruleset same_texts = (map-self)

pub ruleset distinct_names = (are_distinct_by-map)
