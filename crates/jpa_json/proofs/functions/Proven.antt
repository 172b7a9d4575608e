-- Records that hold a proof.
use Rattle.std.proofs.Common.{◌≡◌, ℕ, Bool, true, false, List, Option, Some, None, refl, sym, ap, subst, T}
use Rattle.std.proofs.Math.Bool.{Bool-set}
use Rattle.std.specs.Str.{is_utf8}
use Rattle.jpa_json.specs.readers.Outcome.{◌>>=◌, proof_of}
use Rattle.jpa_json.specs.declared.functions.make.Pair.{Pair}
use Rattle.jpa_json.specs.functions.Pairs.{are_apart}
use Rattle.jpa_json.specs.functions.FunctionsOf.{text_for, table_with}

-- there is one proof alone
proof_is : (b : Bool) (p : b ≡ true) → proof_of b ≡ Some p
proof_is true p = ap Some (Bool-set true true refl p)
proof_is false p = absurd (subst T (sym p) tt)

no_proof : {A : Type 0} (b : Bool) (f : b ≡ true → Option A) → b ≡ false → (proof_of b >>= f) ≡ None
no_proof true f h = absurd (subst T h tt)
no_proof false f h = refl

text_itself : (attribute value : List ℕ) (p : is_utf8 value ≡ true) → text_for attribute value ≡ Some (record { attribute = attribute; value = value; is_text = p })
unfolding text_for
text_itself attribute value p = ap (λ o. o >>= λ q. Some (record { attribute = attribute; value = value; is_text = q })) (proof_is (is_utf8 value) p)

pub text_is : (attribute value text : List ℕ) (p : is_utf8 text ≡ true) → text ≡ value → text_for attribute value ≡ Some (record { attribute = attribute; value = text; is_text = p })
text_is attribute value text p e =
    subst (λ v. text_for attribute v ≡ Some (record { attribute = attribute; value = text; is_text = p })) e (text_itself attribute text p)

pub table_is : (pairs : List Pair) (p : are_apart pairs ≡ true) → table_with pairs ≡ Some (record { pairs = pairs; apart = p })
unfolding table_with
table_is pairs p = ap (λ o. o >>= λ q. Some (record { pairs = pairs; apart = q })) (proof_is (are_apart pairs) p)

pub no_table : (pairs : List Pair) → are_apart pairs ≡ false → table_with pairs ≡ None
unfolding table_with
no_table pairs h = no_proof (are_apart pairs) _ h
