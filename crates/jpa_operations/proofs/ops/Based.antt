-- An entry that is lent.
use Rattle.std.proofs.Common.{◌≡◌, ◌∙◌, ℕ, List, ap, sym, Option, Some, None, Bor}
use Rattle.std.specs.Prelude.{slice_get}
use Rattle.std.specs.Option.{option_copied}
use Rattle.std.specs.Slice.{IsItemAt}
use Rattle.std.proofs.lemmas.Option.{slice_get-get_or, slice_get_past}
use Rattle.jpa_work.specs.declared.context.Entry.{Entry}

-- it is the one at its place
pub lent : (es : List Entry) (i : ℕ) (r : Option (Bor Entry)) → IsItemAt es i r → option_copied r ≡ slice_get es i
lent es i None h = sym (slice_get_past es i h.3)
lent es i (Some x) h = sym (slice_get-get_or es i x.now (h.3).0 ∙ ap Some (sym ((h.3).1 x.now)))
