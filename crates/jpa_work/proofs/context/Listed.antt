-- Numbers among others, by comparing.
use Rattle.std.proofs.Common.{◌≡◌, ◌∙◌, refl, sym, ap, ℕ, zero, suc, Bool, true, false, List, [], ◌∷◌}
use Rattle.std.specs.Prelude.{◌==◌, ◌&&◌, ◌||◌, not, cond}
use Rattle.std.specs.List.{list_any}
use Rattle.std.specs.Ordering.{nat_cmp, is_eq}
use Rattle.std.specs.Cmp.{unsigned_tied}
use Rattle.std.specs.Bool.{one_answer}
use Rattle.std.proofs.lemmas.Bool.Decides.{Decides-eqb}
use Rattle.std.specs.BTreeSet.{BTreeSet, Updates}
use Rattle.jpa_work.specs.context.Marks.{is_listed}

is_same : (n k : ℕ) → is_eq (nat_cmp n k) ≡ (n == k)
is_same n k = unsigned_tied n k

flipped : (n k : ℕ) → (n == k) ≡ (k == n)
flipped n k =
    let back = Decides-eqb k n in
    one_answer (n == k) (k == n) (Decides-eqb n k) (λ e. sym (back.0 e), λ same. back.1 (sym same))

listed_is : (n : ℕ) (ks : List ℕ) → list_any (λ k. is_eq (nat_cmp n k)) ks ≡ is_listed ks n
listed_is n [] = refl
listed_is n (k ∷ ks) = λ i. (is_same n k ∙ flipped n k) i || listed_is n ks i

if_one : (b c : Bool) → cond b true c ≡ (b || c)
if_one true c = refl
if_one false c = refl

unless_one : (b c : Bool) → cond b false c ≡ (not b && c)
unless_one true c = refl
unless_one false c = refl

pub with_one : (n : ℕ) (old new : BTreeSet ℕ) → Updates nat_cmp old new n true → (k : ℕ) → is_listed new.keys k ≡ (n == k || is_listed old.keys k)
with_one n old new u k = sym (listed_is k new.keys) ∙ u.0 k ∙ (λ i. cond (is_same n k i) true (listed_is k old.keys i)) ∙ if_one (n == k) (is_listed old.keys k)

pub without_one : (n : ℕ) (old new : BTreeSet ℕ) → Updates nat_cmp old new n false → (k : ℕ) → is_listed new.keys k ≡ (not (n == k) && is_listed old.keys k)
without_one n old new u k = sym (listed_is k new.keys) ∙ u.0 k ∙ (λ i. cond (is_same n k i) false (listed_is k old.keys i)) ∙ unless_one (n == k) (is_listed old.keys k)
