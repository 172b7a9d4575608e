-- What stands under a name, in a map with texts as keys and in a list of names.
use Rattle.std.specs.Prelude.{◌≡◌, ℕ, Bool, true, false, cond, not, ◌||◌, List, [], ◌∷◌, ◌++◌, find, Option, Some, None, option_map, String, string_bytes}
use Rattle.std.specs.Str.{bytes_eq}
use Rattle.std.specs.List.{list_any}
use Rattle.std.specs.Map.{lookup}
use Rattle.std.proofs.Common.{refl, sym, ap, ◌∙◌}
use Rattle.std.proofs.lemmas.List.{map-append}
use Rattle.std.proofs.lemmas.List.Folds.{list_any-append}
use Rattle.std.proofs.lemmas.Map.Text.{is_eq-slice_cmp}
use Rattle.std.proofs.lemmas.Slice.Eq.{bytes_eq-Decides}
use Rattle.std.specs.Cmp.Derive.{both_true}
use Rattle.std.specs.Cmp.{first_so, second_so}
use Rattle.std.proofs.lemmas.Option.{none-some}
use Rattle.jpa_model.specs.Chains.{same_name}
use Rattle.jpa_model.specs.WellFormed.{are_distinct_by}
use Rattle.jpa_behaviour.specs.Registered.{Known, has_name, known_as}
use Rattle.jpa_behaviour.specs.Entries.{known_in}
use Rattle.jpa_behaviour.proofs.Facts.{not_either, by_cases}

same_bytes : (xs ys : List ℕ) → bytes_eq xs ys ≡ bytes_eq ys xs
same_bytes xs ys =
    by_cases (bytes_eq xs ys) (bytes_eq ys xs) (λ h. (bytes_eq-Decides ys xs).1 (sym ((bytes_eq-Decides xs ys).0 h)))
    (λ h. (bytes_eq-Decides xs ys).1 (sym ((bytes_eq-Decides ys xs).0 h)))

found_first : {W : Type 0} (b : Bool) (k : Known W) (o : Option (Known W)) → cond b (Some k.what) (option_map (λ k. k.what) o) ≡ option_map (λ k. k.what) (cond b (Some k) o)
found_first true k o = refl
found_first false k o = refl

-- a look-up in the map finds what stands under the name
pub found : {Z W : Type 0} (name : List ℕ) (es : List (String Z × W)) → lookup (λ key. bytes_eq name (string_bytes key)) es ≡ known_as name (known_in es)
found name [] = refl
found {Z} {W} name (e ∷ es) =
    let k : Known W = record { name = string_bytes e.0; what = e.1 } in
    ap (λ o. cond (bytes_eq name k.name) (Some e.1) o) (found name es)
    ∙ ap (λ b. cond b (Some k.what) (known_as name (known_in es))) (same_bytes name k.name ∙ sym (is_eq-slice_cmp k.name name))
    ∙ found_first (same_name k.name name) k (find (has_name name) (known_in es))

-- a name that nothing stands under
none_first : {W : Type 0} (b : Bool) (k : Known W) (o : Option (Known W)) → option_map (λ k. k.what) (cond b (Some k) o) ≡ None → (b ≡ false) × (option_map (λ k. k.what) o ≡ None)
none_first true k o e = absurd (none-some k.what (sym e))
none_first false k o e = (refl, e)

-- may be added: no name stands twice then
pub distinct_added : {W : Type 0} (known : List (Known W)) (k : Known W) → are_distinct_by (λ k. k.name) known ≡ true → known_as k.name known ≡ None
    → are_distinct_by (λ k. k.name) (known ++ k ∷ []) ≡ true
distinct_added [] k h none = refl
distinct_added {W} (x ∷ xs) k h none =
    let apart = none_first (has_name k.name x) x (find (has_name k.name) xs) none in
    let is_x : Known W → Bool = λ y. same_name x.name y.name in
    both_true
    (ap not (list_any-append is_x xs (k ∷ []))
    ∙ not_either (list_any is_x xs) (is_x k || false) (first_so (not (list_any is_x xs)) _ h) (ap (λ b. b || false) apart.0))
    (distinct_added xs k (second_so (not (list_any is_x xs)) _ h) apart.1)

-- one more entry of the map
pub known_put : {Z W : Type 0} (es : List (String Z × W)) (key : String Z) (what : W)
    → known_in (es ++ (key, what) ∷ []) ≡ known_in es ++ (record { name = string_bytes key; what = what }) ∷ []
known_put es key what = map-append (λ e. record { name = string_bytes e.0; what = e.1 }) es ((key, what) ∷ [])
