-- Chains, class by class.
use Rattle.std.proofs.Common.{◌≡◌, ℕ, suc, zero, ◌+◌, ◌-◌, ◌<◌, Bool, List, [], ◌∷◌, ◌++◌, map, length, get_or, Option, Some, None, refl, ap, sym, ◌∙◌, arith, zero-add, subst, true, false, append-nil}
use Rattle.std.specs.Prelude.{filter}
use Rattle.std.specs.List.{range_with_len}
use Rattle.std.proofs.lemmas.List.FromFn.{length-map-range_with_len, map-range_with_len_more, get_or-map-range_with_len}
use Rattle.std.proofs.lemmas.List.Elements.{filter-append}
use Rattle.jpa_model.proofs.Distinct.{map-self}
use Rattle.jpa_model.specs.Drafted.{chain_from, chains, chain, superclass_of}
use Rattle.jpa_model.specs.declared.draft.Draft.{Draft}

pub chain_from_up : (d : Draft) (n class above : ℕ) → 0 < n → chain_from d n class (Some above) ≡ chain_from d (n - 1) above (superclass_of d above) ++ class ∷ []
chain_from_up d zero class above h = absurd (omega arith)
chain_from_up d (suc n) class above h = let e : suc n - 1 ≡ n = omega arith in rw e refl

pub chain_from_alone : (d : Draft) (n class : ℕ) → chain_from d n class None ≡ class ∷ []
chain_from_alone d zero class = refl
chain_from_alone d (suc n) class = refl

pub chain_from_cut : (d : Draft) (n class : ℕ) (above : Option ℕ) → n ≡ 0 → chain_from d n class above ≡ class ∷ []
chain_from_cut d zero class above h = refl
chain_from_cut d (suc n) class above h = absurd (omega arith)

pub range_more : (a n j : ℕ) → a + n ≡ j → range_with_len a (n + 1) ≡ range_with_len a n ++ j ∷ []
range_more a n j e =
    sym (map-self (range_with_len a (n + 1))) ∙ map-range_with_len_more (λ x. x) a n j e ∙ ap (λ xs. xs ++ j ∷ []) (map-self (range_with_len a n))

-- one more class of a hierarchy
pub filter-range_more : (p : ℕ → Bool) (n : ℕ) → filter p (range_with_len 0 (n + 1)) ≡ filter p (range_with_len 0 n) ++ filter p (n ∷ [])
filter-range_more p n = rw (range_more 0 n n (zero-add n)) (filter-append p (range_with_len 0 n) (n ∷ []))

pub ruleset chain_from_step = (chain_from_up, chain_from_alone, chain_from_cut)

-- one more chain
pub chains_more : (d : Draft) (n : ℕ) → map (chain d) (range_with_len 0 (n + 1)) ≡ map (chain d) (range_with_len 0 n) ++ chain d n ∷ []
chains_more d n = map-range_with_len_more (chain d) 0 n n (zero-add n)

pub chain_at : (d : Draft) (n k : ℕ) (c : List ℕ) → k < n → get_or (map (chain d) (range_with_len 0 n)) k c ≡ chain d k
chain_at d n k c h = get_or-map-range_with_len (chain d) 0 n k k c h (zero-add k)

pub length-chains : (d : Draft) → length (chains d) ≡ length d.entities
length-chains d = length-map-range_with_len (chain d) 0 (length d.entities)

-- the list that stands at a place of the chains is the chain of that place
pub chain_indexed : (d : Draft) (cs : List (List ℕ)) (k : ℕ) (c : List ℕ) → cs ≡ chains d → k < length cs → c ≡ get_or cs k c → c ≡ chain d k
chain_indexed d cs k c e h is =
    let known : k < length d.entities = subst (λ n. k < n) (ap length e ∙ length-chains d) h in
    is ∙ ap (λ xs. get_or xs k c) e ∙ chain_at d (length d.entities) k c known

-- one more number passes, or does not
pub filter_takes : (p : ℕ → Bool) (n : ℕ) (found : List ℕ) → p n ≡ true → found ≡ filter p (range_with_len 0 n) → found ++ n ∷ [] ≡ filter p (range_with_len 0 (n + 1))
filter_takes p n found passes e = rw (filter-range_more p n, passes, e) refl

pub filter_leaves : (p : ℕ → Bool) (n : ℕ) (found : List ℕ) → p n ≡ false → found ≡ filter p (range_with_len 0 n) → found ≡ filter p (range_with_len 0 (n + 1))
filter_leaves p n found fails e = rw (filter-range_more p n, fails, append-nil (filter p (range_with_len 0 n))) e

-- the classes from this one on
pub range_next : (n i : ℕ) → i < n → range_with_len i (n - i) ≡ i ∷ range_with_len (i + 1) (n - (i + 1))
range_next n i h = let e : n - i ≡ suc (n - (i + 1)) = omega arith in rw e refl

pub length_chained : (d : Draft) (cs : List (List ℕ)) → cs ≡ chains d → length cs ≡ length d.entities
length_chained d cs e = ap length e ∙ length-chains d
