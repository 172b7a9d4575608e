use Rattle.std.proofs.Common.{◌≡◌, sym, subst, true}
use Rattle.std.specs.Str.{is_utf8}
use Rattle.std.proofs.lemmas.Str.{is_utf8-from_IsUtf8}
use Rattle.jpa_json.proofs.functions.Proven.{text_is}
use Rattle.jpa_json.proofs.functions.makes.text_for.Goals as goal

pub invariant_of-result : goal.invariant_of-result
invariant_of-result c = record { is_text = subst (λ t. is_utf8 t ≡ true) (sym c.in_ok-value.ensures) (is_utf8-from_IsUtf8 _ c.utf8.value) }

pub returns : goal.returns
returns c = text_is c.args.attribute c.args.value.now c.in_ok-value.value _ c.in_ok-value.ensures
