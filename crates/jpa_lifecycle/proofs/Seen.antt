-- One more value of an image.
use Rattle.std.proofs.Common.{◌≡◌, ◌∙◌, ℕ, ◌+◌, ◌<◌, List, [], ◌∷◌, ◌++◌, take, length, get_or, map, ap, sym, arith}
use Rattle.std.specs.List.{zip}
use Rattle.std.proofs.lemmas.List.{append-nil, append_assoc, map-append, get_or-map, length-map}
use Rattle.jpa_value.specs.declared.value.Value.{Value}
use Rattle.jpa_behaviour.specs.declared.Named.{Named}
use Rattle.jpa_stored.proofs.objects.Zips.{no_pairs, zip_more}
use Rattle.jpa_lifecycle.specs.Callbacks.{named}

abbrev pub pair : List ℕ × Value → Named
pair p = record { name = p.0; value = p.1 }

pub one_more : {A : Type 0} (f : A → List ℕ) (xs : List A) (vs : List Value) (before : List Named) (i : ℕ) (x : A) (v : Value) → i < length xs → i < length vs → x ≡ get_or xs i x → v ≡ get_or vs i v →
    (before ++ named (zip (map f xs) (take i vs))) ++ record { name = f x; value = v } ∷ [] ≡ before ++ named (zip (map f xs) (take (i + 1) vs))
one_more {A} f xs vs before i x v l k read held =
    let now = named (zip (map f xs) (take i vs)) in
    let named_so : get_or (map f xs) i (f x) ≡ f x = get_or-map f xs i x (f x) l ∙ ap f (sym read) in
    let within : i < length (map f xs) = omega (arith, l, length-map xs f) in
    let here : pair (get_or (map f xs) i (f x), get_or vs i v) ≡ record { name = f x; value = v } = λ j. record { name = named_so j; value = sym held j } in
    append_assoc before now (record { name = f x; value = v } ∷ [])
    ∙ ap (λ ns. before ++ ns) (sym
    (ap named (zip_more (map f xs) vs i (f x) v within k)
    ∙ map-append pair (zip (map f xs) (take i vs)) ((get_or (map f xs) i (f x), get_or vs i v) ∷ [])
    ∙ ap (λ (n : Named). now ++ n ∷ []) here))

pub none : {A : Type 0} (f : A → List ℕ) (xs : List A) (before : List Named) → before ≡ before ++ named (zip (map f xs) [])
none f xs before = sym (ap (λ ps. before ++ named ps) (no_pairs (map f xs)) ∙ append-nil before)
