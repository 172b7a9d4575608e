-- Functions for samples and tests: a listener that sets a text, and a converter that turns integers
-- round.
use Rattle.std.specs.Prelude.{◌≡◌, ◌↔◌, ℕ, ℤ, pos, negsuc, true, ◌&&◌, List, [], ◌∷◌, Option, Some, None}
use Rattle.std.specs.Str.{is_utf8}
use Rattle.std.proofs.Common.{refl, sym, ap, ◌∙◌}
use Rattle.std.proofs.lemmas.Option.{none-some, same_Some}
use Rattle.jpa_value.specs.declared.value.Value.{Value}
use Rattle.jpa_behaviour.specs.declared.Heard.{Heard}
use Rattle.jpa_behaviour.specs.Behaviour.{answers_representable}

-- the answer of a listener that sets an attribute to a text
abbrev pub sets : List ℕ → List ℕ → Heard
sets attribute text = Heard.Assign ((record { name = attribute; value = Value.Text text }) ∷ [])

-- i and -1-i
abbrev pub flipped : ℤ → ℤ
flipped (pos n) = negsuc n
flipped (negsuc n) = pos n

-- it throws for what is no integer
abbrev pub flip : Value → Option Value
flip Value.Null = None
flip (Value.Int n) = Some (Value.Int (flipped n))
flip (Value.Text bytes) = None
flip (Value.Bytes bytes) = None

-- ---- their laws

-- a text in UTF-8 that is set is a value of the program
pub sets_representable : (attribute text : List ℕ) → is_utf8 text ≡ true → answers_representable (sets attribute text)
    ≡ true
sets_representable attribute text h = ap (λ b. b && true) h

twice : (n : ℤ) → flipped (flipped n) ≡ n
twice (pos n) = refl
twice (negsuc n) = refl

turned_back : (v d : Value) → flip v ≡ Some d → flip d ≡ Some v
turned_back Value.Null d e = absurd (none-some d e)
turned_back (Value.Int n) d e =
    ap flip (sym (same_Some (Value.Int (flipped n)) d e)) ∙ ap (λ m. Some (Value.Int m)) (twice n)
turned_back (Value.Text bytes) d e = absurd (none-some d e)
turned_back (Value.Bytes bytes) d e = absurd (none-some d e)

-- the converter that turns integers round is its own inverse
pub flip_inverse : (v d : Value) → (flip v ≡ Some d) ↔ (flip d ≡ Some v)
flip_inverse v d = (turned_back v d, turned_back d v)

-- the converter that changes nothing is its own inverse
pub same_inverse : (v d : Value) → (Some v ≡ Some d) ↔ (Some d ≡ Some v)
same_inverse v d = (λ e. sym e, λ e. sym e)
