-- What is taken off a text, time by time, is what its definition takes off.
use Rattle.std.proofs.Common.{◌≡◌, ◌≢◌, refl, sym, ap, ◌∙◌, arith, ℕ, zero, suc, ◌+◌, ◌-◌, ◌<◌, ◌≤◌, Bool, true, false, cond, nat_eq, List, [], ◌∷◌, ◌++◌, length, drop, reverse, Option, Some, None, IfSome}
use Rattle.std.specs.List.{starts_with}
use Rattle.std.specs.Str.Pattern.{CutsPrefixes, CutsSuffixes, FindsTextPrefix, FindsTextSuffix}
use Rattle.std.proofs.lemmas.Bool.Decides.{Decides-eqb}
use Rattle.std.proofs.lemmas.Slice.Eq.{starts_is}
use Rattle.std.proofs.lemmas.Str.Pattern.{starts_text}
use Rattle.std.proofs.lemmas.List.{length-append, length-reverse, drop_at, reverse-append, reverse-reverse}
use Rattle.jpql_meaning.specs.eval.Trims.{without_front, trimmed_front, trimmed_end}

-- r is left of t, off whose front another text was taken so many times
abbrev Cuts : List ℕ → List ℕ → ℕ → List ℕ → Type 0
Cuts off t zero r = r ≡ t
Cuts off t (suc n) r = (m : List ℕ) × Cuts off t n m × (m ≡ off ++ r)

prefix_cuts : (off t : List ℕ) (ns : List ℕ) (r : List ℕ) → CutsPrefixes (FindsTextPrefix off) t ns r → Cuts off t (length ns) r
prefix_cuts off t [] r h = h
prefix_cuts off t (n ∷ ns) r h = (h.0, prefix_cuts off t ns h.0 h.1, h.2.1 ∙ ap (λ l. off ++ l) (sym h.3))

suffix_cuts : (off t : List ℕ) (ns : List ℕ) (r : List ℕ) → CutsSuffixes (FindsTextSuffix off) t ns r → Cuts (reverse off) (reverse t) (length ns) (reverse r)
suffix_cuts off t [] r h = ap reverse h
suffix_cuts off t (n ∷ ns) r h =
    (reverse h.0, suffix_cuts off t ns h.0 h.1, ap reverse (h.2.1 ∙ ap (λ l. l ++ off) (sym h.3)) ∙ reverse-append r off)

one_off : (k : ℕ) (off r m : List ℕ) → m ≡ off ++ r → without_front (suc k) off m ≡ without_front k off r
one_off k off r m e =
    ap (λ (b : Bool). cond b (without_front k off (drop (length off) m)) m) ((starts_is Decides-eqb m off _ refl).1 r e)
    ∙ ap (without_front k off) (ap (drop (length off)) e ∙ drop_at off r (length off) refl)

some_off : (n k : ℕ) (off t r : List ℕ) → Cuts off t n r → without_front (n + k) off t ≡ without_front k off r
some_off zero k off t r h =
    let same : zero + k ≡ k = omega arith in
    ap (λ i. without_front i off t) same ∙ ap (without_front k off) (sym h)
some_off (suc n) k off t r h =
    let next : suc n + k ≡ n + suc k = omega arith in
    ap (λ i. without_front i off t) next ∙ some_off n (suc k) off t h.0 h.1 ∙ one_off k off r h.0 h.2

stops : (k : ℕ) (off r : List ℕ) → starts_with nat_eq r off ≡ false → without_front k off r ≡ r
stops zero off r e = refl
stops (suc k) off r e = ap (λ (b : Bool). cond b (without_front k off (drop (length off) r)) r) e

-- a text that isn't empty makes shorter what it is taken off
shorter : (n : ℕ) (off t r : List ℕ) → 0 < length off → Cuts off t n r → n + length r ≤ length t
shorter zero off t r some h = omega (arith, ap length h)
shorter (suc n) off t r some h = omega (arith, shorter n off t h.0 some h.1, ap length h.2, length-append off r)

-- what doesn't begin with a text shows that it isn't empty
there : (off r : List ℕ) → ((rest : List ℕ) → r ≢ off ++ rest) → 0 < length off
there [] r lacks = absurd (lacks r refl)
there (c ∷ off) r lacks = omega arith

all_off : (n : ℕ) (off t r : List ℕ) → Cuts off t n r → ((rest : List ℕ) → r ≢ off ++ rest) → trimmed_front off t ≡ r
all_off n off t r h lacks =
    let times : length t ≡ n + (length t - n) = omega (arith, shorter n off t r (there off r lacks) h) in
    ap (λ i. without_front i off t) times ∙ some_off n (length t - n) off t r h ∙ stops (length t - n) off r (sym (starts_text false off r lacks))

-- the empty text is taken off to no end
nothing_off : (k : ℕ) (t : List ℕ) → without_front k [] t ≡ t
nothing_off zero t = refl
nothing_off (suc k) t = nothing_off k t

uncut : (n : ℕ) (t r : List ℕ) → Cuts [] t n r → t ≡ r
uncut zero t r h = sym h
uncut (suc n) t r h = uncut n t h.0 h.1 ∙ h.2

none_off : (n : ℕ) (off t r : List ℕ) → Cuts off t n r → length off ≡ 0 → trimmed_front off t ≡ r
none_off n [] t r h e = nothing_off (length t) t ∙ uncut n t r h
none_off n (c ∷ off) t r h e = absurd (omega (arith, e))

-- for `trim_start_matches` and `trim_end_matches` of a text
pub front_off : (off t r : List ℕ) (ns : List ℕ) → CutsPrefixes (FindsTextPrefix off) t ns r → (o : Option ℕ) → FindsTextPrefix off r o → IfSome o (λ n. n ≡ 0) → r ≡ trimmed_front off t
front_off off t r ns h None lacks z = sym (all_off (length ns) off t r (prefix_cuts off t ns r h) lacks)
front_off off t r ns h (Some n) found z = sym (none_off (length ns) off t r (prefix_cuts off t ns r h) (sym found.0 ∙ z))

turned : (off r : List ℕ) → ((front : List ℕ) → r ≢ front ++ off) → (rest : List ℕ) → reverse r ≢ reverse off ++ rest
turned off r lacks rest e =
    lacks (reverse rest)
    (sym (reverse-reverse r) ∙ ap reverse e ∙ reverse-append (reverse off) rest ∙ ap (λ l. reverse rest ++ l) (reverse-reverse off))

pub end_off : (off t r : List ℕ) (ns : List ℕ) → CutsSuffixes (FindsTextSuffix off) t ns r → (o : Option ℕ) → FindsTextSuffix off r o → IfSome o (λ n. n ≡ 0) → r ≡ trimmed_end off t
end_off off t r ns h None lacks z =
    sym (ap reverse (all_off (length ns) (reverse off) (reverse t) (reverse r) (suffix_cuts off t ns r h) (turned off r lacks)) ∙ reverse-reverse r)
end_off off t r ns h (Some n) found z =
    let none : length (reverse off) ≡ 0 = length-reverse off ∙ sym found.0 ∙ z in
    sym (ap reverse (none_off (length ns) (reverse off) (reverse t) (reverse r) (suffix_cuts off t ns r h) none) ∙ reverse-reverse r)
