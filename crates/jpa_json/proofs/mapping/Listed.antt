-- The names of an object's members, one after another.
use Rattle.std.proofs.Common.{◌≡◌, ◌∷◌, [], ◌||◌, ℕ, Bool, true, false, List, map, None, Global, String, string_bytes, refl, ap}
use Rattle.std.specs.List.{list_any}
use Rattle.serde_json.specs.View.{members_view}
use Rattle.serde_json.specs.declared.value.Value.{Value}
use Rattle.jpa_json.specs.readers.Outcome.{guard}
use Rattle.jpa_json.specs.mapping.DraftOf.{is_listed, are_listed}

pub list_any-seen : {A B : Type 0} (view : A → B) (p : B → Bool) (xs : List A) → list_any (λ x. p (view x)) xs ≡ list_any p (map view xs)
list_any-seen view p [] = refl
list_any-seen view p (x ∷ xs) = ap (λ b. p (view x) || b) (list_any-seen view p xs)

-- the next member is listed
pub one_listed : (names : List (List ℕ)) (k : String Global) (v : Value) (es : List (String Global × Value)) → is_listed names (string_bytes k) ≡ true
    → are_listed names (members_view ((k, v) ∷ es)) ≡ are_listed names (members_view es)
one_listed names k v es e = rw e refl

-- the next member is not
pub one_unlisted : (names : List (List ℕ)) (k : String Global) (v : Value) (es : List (String Global × Value)) → is_listed names (string_bytes k) ≡ false
    → guard (are_listed names (members_view ((k, v) ∷ es))) ≡ None
one_unlisted names k v es e = rw e refl
