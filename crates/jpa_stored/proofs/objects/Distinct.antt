-- Whether claims are distinct is told one by one.
use Rattle.std.specs.Prelude.{◌≡◌, suc, ◌<◌, Bool, true, false, cond, map, not, ◌&&◌, ◌||◌, T, List, [], ◌∷◌, ◌++◌, length, take, drop}
use Rattle.std.proofs.Common.{refl, sym, ap, subst, ◌∙◌, get_or, append_assoc}
use Rattle.std.specs.List.{list_any}
use Rattle.std.specs.Cmp.{eq_by_cmp_equiv, first_so, second_so}
use Rattle.std.proofs.lemmas.List.Folds.{list_any-append}
use Rattle.std.proofs.lemmas.List.{take-append-drop, map-id}
use Rattle.std.proofs.Math.Seq.{drop-cons}
use Rattle.jpa_stored.specs.declared.objects.claims.Claim.{Claim}
use Rattle.jpa_stored.specs.objects.ClaimOrder.{claim_total}
use Rattle.jpa_stored.specs.objects.Sets.{same_claim, all_distinct}
use Rattle.jpa_stored.proofs.objects.Changes.{or_false}

sorted_out : (a b c d : Bool) → not (a || b) && (c && not d) ≡ (not a && c) && not (b || d)
sorted_out true b c d = refl
sorted_out false true true d = refl
sorted_out false true false d = refl
sorted_out false false true d = refl
sorted_out false false false d = refl

same_back : (a b : Claim) → same_claim a b ≡ same_claim b a
same_back a b = (eq_by_cmp_equiv claim_total).symm a b

-- one more claim is to differ from all before it
pub distinct_more : (xs : List Claim) (x : Claim) → all_distinct same_claim (xs ++ x ∷ []) ≡ (all_distinct same_claim xs && not (list_any (same_claim x) xs))
distinct_more [] x = refl
distinct_more (y ∷ xs) x =
    (λ i. not ((list_any-append (same_claim y) xs (x ∷ []) ∙ ap (λ b. list_any (same_claim y) xs || b) (or_false (same_claim y x))) i) && distinct_more xs x i)
    ∙ sorted_out (list_any (same_claim y) xs) (same_claim y x) (all_distinct same_claim xs) (list_any (same_claim x) xs)
    ∙ ap (λ b. (not (list_any (same_claim y) xs) && all_distinct same_claim xs) && not (b || list_any (same_claim x) xs)) (same_back y x)

neither : (a b : Bool) → not (a || b) ≡ true → not a ≡ true
neither true b e = e
neither false b e = refl

both_true : (a b : Bool) → a ≡ true → b ≡ true → a && b ≡ true
both_true true b h g = g
both_true false b h g = h

distinct_front : (xs ys : List Claim) → all_distinct same_claim (xs ++ ys) ≡ true → all_distinct same_claim xs ≡ true
distinct_front [] ys e = refl
distinct_front (x ∷ xs) ys e =
    both_true (not (list_any (same_claim x) xs)) (all_distinct same_claim xs)
    (neither (list_any (same_claim x) xs) (list_any (same_claim x) ys) (ap not (sym (list_any-append (same_claim x) xs ys)) ∙ first_so (not (list_any (same_claim x) (xs ++ ys))) _ e))
    (distinct_front xs ys (second_so (not (list_any (same_claim x) (xs ++ ys))) _ e))

-- a claim that was there before leaves them not distinct, whatever follows
pub not_distinct : (xs rest : List Claim) (x : Claim) → list_any (same_claim x) xs ≡ true → false ≡ all_distinct same_claim (xs ++ x ∷ rest)
not_distinct xs rest x h = by (all_distinct same_claim (xs ++ x ∷ rest)) refl
  where
    fails : all_distinct same_claim (xs ++ x ∷ rest) ≡ true → ⊥
    fails e =
        let front : all_distinct same_claim (xs ++ x ∷ []) ≡ true = distinct_front (xs ++ x ∷ []) rest (ap (all_distinct same_claim) (append_assoc xs (x ∷ []) rest) ∙ e) in
        let apart = second_so (all_distinct same_claim xs) (not (list_any (same_claim x) xs)) (sym (distinct_more xs x) ∙ front) in
        subst T (sym (ap not (sym h) ∙ apart)) tt

    by : (b : Bool) → all_distinct same_claim (xs ++ x ∷ rest) ≡ b → false ≡ b
    by true e = absurd (fails e)
    by false e = refl

-- the claims so far, the one at hand and the rest
pub parted : (items xs : List Claim) (x : Claim) → map (λ y. y) xs ≡ take (length xs) items → length xs < length items → x ≡ get_or items (length xs) x → items ≡ xs ++ x ∷ drop (suc (length xs)) items
parted items xs x e l h =
    sym (take-append-drop (length xs) items)
    ∙ (λ i. (sym e ∙ map-id xs) i ++ (drop-cons items (length xs) x l ∙ ap (λ z. z ∷ drop (suc (length xs)) items) (sym h)) i)

pub seen_more : (xs : List Claim) (x q : Claim) → cond (same_claim x q) true (list_any (same_claim q) xs) ≡ list_any (same_claim q) (xs ++ x ∷ [])
seen_more xs x q = either (same_claim x q) (list_any (same_claim q) xs) ∙ ap (λ b. list_any (same_claim q) xs || b) (same_back x q ∙ sym (or_false (same_claim q x))) ∙ sym (list_any-append (same_claim q) xs (x ∷ []))
  where
    either : (a b : Bool) → cond a true b ≡ (b || a)
    either true true = refl
    either true false = refl
    either false true = refl
    either false false = refl

pub not_false : (b : Bool) → not b ≡ false → b ≡ true
not_false true e = refl
not_false false e = sym e

pub not_true : (a b : Bool) → a ≡ true → not b ≡ true → a && not b ≡ true
not_true a b h g = both_true a (not b) h g
