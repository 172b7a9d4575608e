-- Lists of identities, and what is known of relations, that are the same.
use Rattle.std.proofs.Common.{◌≡◌, ◌∙◌, suc, Bool, true, false, List, [], ◌∷◌, length, get_or, arith, refl, ap, sym, Equal, Less, Greater, Ordering}
use Rattle.std.specs.Prelude.{◌&&◌, Option, Some, None, if◌then◌else◌}
use Rattle.std.specs.Ordering.{is_eq}
use Rattle.std.proofs.Math.Bool.{and-false, and-true}
use Rattle.std.proofs.lemmas.Bool.{false≢true, and_parts}
use Rattle.jpa_value.specs.declared.value.Identity.{Identity}
use Rattle.jpa_value.specs.Value.{identity_cmp, same_identity}
use Rattle.jpa_value.proofs.Orders.{identity_exact}
use Rattle.jpa_flush.specs.flush.Flush.{listed, same_identities}
use Rattle.jpa_flush.specs.flush.Plan.{same_member, same_members}

-- ---- what is the same is one

equal : (o : Ordering) → is_eq o ≡ true → o ≡ Equal
equal Less e = absurd (false≢true e)
equal Equal e = refl
equal Greater e = absurd (false≢true e)

identities_are_one : (xs ys : List Identity) → same_identities xs ys ≡ true → xs ≡ ys
identities_are_one [] [] h = refl
identities_are_one [] (y ∷ ys) h = absurd (false≢true h)
identities_are_one (x ∷ xs) [] h = absurd (false≢true h)
identities_are_one (x ∷ xs) (y ∷ ys) h =
    let p = and_parts (same_identity x y) (same_identities xs ys) h in
    λ i. identity_exact x y (equal (identity_cmp x y) p.0) i ∷ identities_are_one xs ys p.1 i

member_is_one : (x y : Option (List Identity)) → same_member x y ≡ true → x ≡ y
member_is_one None None h = refl
member_is_one None (Some y) h = absurd (false≢true h)
member_is_one (Some x) None h = absurd (false≢true h)
member_is_one (Some x) (Some y) h = ap Some (identities_are_one x y h)

pub members_are_one : (xs ys : List (Option (List Identity))) → same_members xs ys ≡ true → xs ≡ ys
members_are_one [] [] h = refl
members_are_one [] (y ∷ ys) h = absurd (false≢true h)
members_are_one (x ∷ xs) [] h = absurd (false≢true h)
members_are_one (x ∷ xs) (y ∷ ys) h =
    let p = and_parts (same_member x y) (same_members xs ys) h in
    λ i. member_is_one x y p.0 i ∷ members_are_one xs ys p.1 i

-- ---- lists of other lengths are not

pub members_of_lengths : (xs ys : List (Option (List Identity))) → (length xs ≡ length ys → ⊥) → false ≡ same_members xs ys
members_of_lengths [] [] h = absurd (h refl)
members_of_lengths [] (y ∷ ys) h = refl
members_of_lengths (x ∷ xs) [] h = refl
members_of_lengths (x ∷ xs) (y ∷ ys) h = sym (and-false (same_member x y)) ∙ ap (λ b. same_member x y && b) (members_of_lengths xs ys (λ e. h (ap suc e)))

pub identities_of_lengths : (xs ys : List Identity) → (length xs ≡ length ys → ⊥) → false ≡ same_identities xs ys
identities_of_lengths [] [] h = absurd (h refl)
identities_of_lengths [] (y ∷ ys) h = refl
identities_of_lengths (x ∷ xs) [] h = refl
identities_of_lengths (x ∷ xs) (y ∷ ys) h = sym (and-false (same_identity x y)) ∙ ap (λ b. same_identity x y && b) (identities_of_lengths xs ys (λ e. h (ap suc e)))

-- ---- a list of one

pub one_same : (xs : List Identity) (x y : Identity) → length xs ≡ 1 → x ≡ get_or xs 0 x → same_identity x y ≡ same_identities xs (y ∷ [])
one_same [] x y l e = absurd (omega (arith, l))
one_same (z ∷ []) x y l e = ap (λ v. same_identity v y) e ∙ sym (and-true (same_identity z y))
one_same (z ∷ w ∷ xs) x y l e = absurd (omega (arith, l))

pub one_listed : (b : Bool) (x : Identity) → b ≡ true → length (listed (if b then Some x else None)) ≡ 1
one_listed true x e = refl
one_listed false x e = absurd (false≢true e)
