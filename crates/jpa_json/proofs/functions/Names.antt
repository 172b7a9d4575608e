-- Names are compared by their bytes.
use Rattle.std.proofs.lemmas.Map.Text.{is_eq-slice_cmp}

pub ruleset same_names = (is_eq-slice_cmp)
