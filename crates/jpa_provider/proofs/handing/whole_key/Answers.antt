use Rattle.std.proofs.Common.{◌≡◌, ◌≢◌, suc, List, [], ◌∷◌, length, Option, Some, None, refl, sym, ap}
use Rattle.jpa_value.specs.declared.value.Value.{Value}
use Rattle.jpa_model.specs.declared.unit.Part.{Part}
use Rattle.jpa_protocol.specs.declared.call.Given.{Given}
use Rattle.jpa_machine.specs.machine.Calls.{onto, part_given, whole_key}
use Rattle.jpa_provider.proofs.handing.whole_key.Goals as goal

onto_none : (x : Option Value) → onto x None ≡ None
onto_none None = refl
onto_none (Some v) = refl

-- too many or too few values make no key
unlike : (ps : List Part) (gs : List Given) → length ps ≢ length gs → whole_key ps gs ≡ None
unlike [] [] other = absurd (other refl)
unlike [] (g ∷ gs) other = refl
unlike (p ∷ ps) [] other = refl
unlike (p ∷ ps) (g ∷ gs) other = rw (unlike ps gs (λ e. other (ap suc e))) (onto_none (part_given p g))

pub returns-then-parts-given-clause-ok : goal.returns-then-parts-given-clause-ok
returns-then-parts-given-clause-ok c = sym (unlike c.args.parts.now c.args.given.now c.if-parts-given.true)
