-- What names no variable around it gives the same behind each tuple of that length.
use Rattle.std.proofs.Common.{◌≡◌, ◌∙◌, refl, ap, sym, ℕ, zero, suc, ◌+◌, ◌≤◌, arith, Bool, true, false, not, cond, List, [], ◌∷◌, ◌++◌, map, length, Option, Some, None, slice_index_or}
use Rattle.std.specs.Prelude.{◌||◌}
use Rattle.std.specs.List.{filter}
use Rattle.std.proofs.lemmas.List.{append_assoc}
use Rattle.jpql_meaning.specs.declared.eval.datum.Truth.{Truth}
use Rattle.jpql_meaning.specs.eval.Answers.{Answer, gives, overflows, ◌>>=◌, under, both, every, each}
use Rattle.jpql_meaning.specs.eval.Truths.{is_yes}
use Rattle.jpql_meaning.specs.plan.Paths.{Entry, Tuple, object_at, with_object}
use Rattle.jpql_meaning.specs.plan.Meaning.{Extends, in_turn, kept, Case, alone, or_null}

-- a tuple behind another one
abbrev pub after : Tuple → Tuple → Tuple
after p e = p ++ e

-- what an element makes of a tuple, it makes behind any of n objects
abbrev pub IsAlone : ℕ → Extends → Extends → Type 0
IsAlone n f g = (p e : Tuple) → length p ≡ n → f (after p e) ≡ under (map (after p)) (g e)

-- an object behind the first
behind : (p e : Tuple) (i : ℕ) → object_at (after p e) (length p + i) ≡ object_at e i
behind [] e i = let z : 0 + i ≡ i = omega arith in ap (object_at e) z
behind (x ∷ p) e i = let z : suc (length p) + i ≡ suc (length p + i) = omega arith in ap (object_at (x ∷ after p e)) z ∙ behind p e i

pub object_behind : (n : ℕ) (p e : Tuple) (i : ℕ) → length p ≡ n → object_at (after p e) (n + i) ≡ object_at e i
object_behind n p e i h = ap (λ k. object_at (after p e) (k + i)) (sym h) ∙ behind p e i

-- one more object
pub wider : (p e : Tuple) (x : Option Entry) → with_object (after p e) x ≡ after p (with_object e x)
wider p e x = append_assoc p e (x ∷ [])

map_under : {A B C : Type 0} (f : B → C) (g : A → B) (a : Answer A) → under f (under g a) ≡ under (λ x. f (g x)) a
map_under f g (gives x) = refl
map_under f g overflows = refl

map_append : (p : Tuple) (xs ys : List Tuple) → map (after p) (xs ++ ys) ≡ map (after p) xs ++ map (after p) ys
map_append p [] ys = refl
map_append p (x ∷ xs) ys = ap (λ zs. after p x ∷ zs) (map_append p xs ys)

joined_under : (p : Tuple) (a b : Answer (List Tuple)) → both (λ xs ys. xs ++ ys) (under (map (after p)) a) (under (map (after p)) b) ≡ under (map (after p)) (both (λ xs ys. xs ++ ys) a b)
joined_under p (gives xs) (gives ys) = ap gives (sym (map_append p xs ys))
joined_under p (gives xs) overflows = refl
joined_under p overflows b = refl

pub each_alone : (n : ℕ) (f g : Extends) → IsAlone n f g → (p : Tuple) → length p ≡ n → (es : List Tuple) → each f (map (after p) es) ≡ under (map (after p)) (each g es)
each_alone n f g h p l [] = refl
each_alone n f g h p l (e ∷ es) =
    (λ i. both (λ xs ys. xs ++ ys) (h p e l i) (each_alone n f g h p l es i)) ∙ joined_under p (g e) (each g es)

each_then : (n : ℕ) (f g : Extends) → IsAlone n f g → (p : Tuple) → length p ≡ n → (a : Answer (List Tuple)) → (under (map (after p)) a >>= each f) ≡ under (map (after p)) (a >>= each g)
each_then n f g h p l (gives es) = each_alone n f g h p l es
each_then n f g h p l overflows = refl

-- elements that are each alone
abbrev pub AreAlone : ℕ → List Extends → List Extends → Type 0
AreAlone n [] [] = Unit {0}
AreAlone n (f ∷ fs) (g ∷ gs) = IsAlone n f g × AreAlone n fs gs
AreAlone n _ _ = ⊥

pub in_turn_alone : (n : ℕ) (fs gs : List Extends) → AreAlone n fs gs → IsAlone n (in_turn fs) (in_turn gs)
in_turn_alone n [] [] h p e l = refl
in_turn_alone n [] (g ∷ gs) h p e l = absurd h
in_turn_alone n (f ∷ fs) [] h p e l = absurd h
in_turn_alone n (f ∷ fs) (g ∷ gs) h p e l =
    ap (λ a. a >>= each (in_turn fs)) (h.0 p e l) ∙ each_then n (in_turn fs) (in_turn gs) (in_turn_alone n fs gs h.1) p l (g e)

pub filter_alone : (n : ℕ) (d k : Tuple → Bool) → ((p e : Tuple) → length p ≡ n → d (after p e) ≡ k e) → (p : Tuple) → length p ≡ n → (es : List Tuple)
    → filter d (map (after p) es) ≡ map (after p) (filter k es)
filter_alone n d k h p l [] = refl
filter_alone n d k h p l (e ∷ es) = by (k e) (h p e l) (filter_alone n d k h p l es)
  where
    by : (b : Bool) → d (after p e) ≡ b → filter d (map (after p) es) ≡ map (after p) (filter k es)
        → filter d (map (after p) (e ∷ es)) ≡ map (after p) (cond b (e ∷ filter k es) (filter k es))
    by true c r = rw c (ap (λ ts. after p e ∷ ts) r)
    by false c r = rw c r

keep_one : (p e : Tuple) (t : Truth) (a : Answer (List Tuple)) → under (λ (more : List Tuple). cond (is_yes t) (after p e ∷ more) more) (under (map (after p)) a) ≡ under (map (after p)) (under (λ (more : List Tuple). cond (is_yes t) (e ∷ more) more) a)
keep_one p e Truth.Yes (gives es) = refl
keep_one p e Truth.No (gives es) = refl
keep_one p e Truth.Unknown (gives es) = refl
keep_one p e t overflows = refl

pub kept_alone : (n : ℕ) (test k : Tuple → Answer Truth) → ((p e : Tuple) → length p ≡ n → test (after p e) ≡ k e) → (p : Tuple) → length p ≡ n → (es : List Tuple)
    → kept test (map (after p) es) ≡ under (map (after p)) (kept k es)
kept_alone n test k h p l [] = refl
kept_alone n test k h p l (e ∷ es) = by (k e) (h p e l) (kept_alone n test k h p l es)
  where
    by : (a : Answer Truth) → test (after p e) ≡ a → kept test (map (after p) es) ≡ under (map (after p)) (kept k es)
        → kept test (map (after p) (e ∷ es)) ≡ under (map (after p)) (both (λ (t : Truth) (more : List Tuple). cond (is_yes t) (e ∷ more) more) a (kept k es))
    by (gives t) c r = (λ i. both (λ (u : Truth) (more : List Tuple). cond (is_yes u) (after p e ∷ more) more) (c i) (r i)) ∙ keep_one p e t (kept k es)
    by overflows c r = (λ i. both (λ (u : Truth) (more : List Tuple). cond (is_yes u) (after p e ∷ more) more) (c i) (r i))

-- the tuples of a block behind any tuple of n objects
pub where_alone : (n : ℕ) (fs gs : List Extends) (d k : Tuple → Bool) (test held : Tuple → Answer Truth) → AreAlone n fs gs → ((p e : Tuple) → length p ≡ n → d (after p e) ≡ k e)
    → ((p e : Tuple) → length p ≡ n → test (after p e) ≡ held e) → (p e : Tuple) → length p ≡ n
    → (in_turn fs (after p e) >>= λ all. kept test (filter (λ e. d e) all)) ≡ under (map (after p)) (in_turn gs e >>= λ all. kept held (filter (λ e. k e) all))
where_alone n fs gs d k test held h hd ht p e l = ap (λ a. a >>= λ all. kept test (filter (λ e. d e) all)) (in_turn_alone n fs gs h p e l) ∙ of_all (in_turn gs e)
  where
    of_all : (a : Answer (List Tuple)) → (under (map (after p)) a >>= λ all. kept test (filter (λ e. d e) all)) ≡ under (map (after p)) (a >>= λ all. kept held (filter (λ e. k e) all))
    of_all (gives es) = ap (kept test) (filter_alone n d k hd p l es) ∙ kept_alone n test held ht p l (filter k es)
    of_all overflows = refl
