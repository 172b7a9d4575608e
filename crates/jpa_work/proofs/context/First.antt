-- The place of an object's first entry: where an entry comes, goes, or takes another's place, and where entries leave.
use Rattle.std.proofs.Common.{◌≡◌, ◌∙◌, refl, sym, ap, ℕ, zero, suc, ◌+◌, ◌<◌, List, [], ◌∷◌, ◌++◌, cond, Bool, true, false, map, length, get_or, arith, add-one, eq-eqb, Option, Some, None}
use Rattle.std.proofs.lemmas.Bool.Decides.{nat_tests}
use Rattle.std.specs.Prelude.{◌==◌, ◌&&◌, ◌||◌, is_some, option_map, find}
use Rattle.std.specs.List.{list_any, position_from}
use Rattle.std.specs.Option.{option_or}
use Rattle.jpa_value.specs.declared.value.Value.{Value}
use Rattle.jpa_work.specs.declared.context.Entry.{Entry}
use Rattle.jpa_work.specs.context.Indexed.{placed, is_place}
use Rattle.jpa_work.specs.context.Places.{entry_place, entry_at}

-- ---- of any list

module _ {X : Type 0} (t : X → Bool) where
  -- one more, at the end
  pub first_more : (i : ℕ) (xs : List X) (y : X) → position_from t i (xs ++ y ∷ []) ≡ option_or (position_from t i xs) (cond (t y) (Some (i + length xs)) None)
  first_more i [] y = ap (λ k. cond (t y) (Some k) None) (omega arith)
  first_more i (x ∷ xs) y =
      elim (t x) as (λ b. cond b (Some i) (position_from t (i + 1) (xs ++ y ∷ [])) ≡ option_or (cond b (Some i) (position_from t (i + 1) xs)) (cond (t y) (Some (i + suc (length xs))) None)) [
        | true ↦ refl
        | false ↦ first_more (i + 1) xs y ∙ ap (λ k. option_or (position_from t (i + 1) xs) (cond (t y) (Some k) None)) (omega arith)
      ]

  -- whether one passes
  pub is_first_any : (i : ℕ) (xs : List X) → is_some (position_from t i xs) ≡ list_any t xs
  is_first_any i [] = refl
  is_first_any i (x ∷ xs) =
      elim (t x) as (λ b. is_some (cond b (Some i) (position_from t (i + 1) xs)) ≡ b || list_any t xs) [
        | true ↦ refl
        | false ↦ is_first_any (i + 1) xs
      ]

  -- the first is none of those past it
  pub first_within : (i : ℕ) (xs : List X) (k : ℕ) → position_from t i xs ≡ Some k → k < i + length xs
  first_within i [] k e = cc
  first_within i (x ∷ xs) k e = by_test (t x) e (first_within (i + 1) xs k)
    where
      by_test : (b : Bool) → cond b (Some i) (position_from t (i + 1) xs) ≡ Some k → (position_from t (i + 1) xs ≡ Some k → k < i + 1 + length xs) → k < i + suc (length xs)
      by_test true h later = let same : i ≡ k = cc in omega arith
      by_test false h later = let less = later h in omega arith

pub any_at : {X : Type 0} (t : X → Bool) (xs : List X) (k : ℕ) (d : X) → k < length xs → t (get_or xs k d) ≡ true → list_any t xs ≡ true
any_at t [] k d l e = absurd (omega arith)
any_at t (x ∷ xs) zero d l e = ap (λ b. b || list_any t xs) e
any_at t (x ∷ xs) (suc k) d l e = either (t x) (list_any t xs) (any_at t xs k d (omega arith) e)
  where
    either : (a b : Bool) → b ≡ true → a || b ≡ true
    either true b h = refl
    either false b h = h

-- ---- of entries

-- it hangs on what stays of the entries alone
pub same_first : (n i : ℕ) (es fs : List Entry) → map placed es ≡ map placed fs → position_from (λ (e : Entry). e.object == n) i es ≡ position_from (λ (e : Entry). e.object == n) i fs
same_first n i es fs h = of_placed i es ∙ ap (position_from (λ (p : ℕ × List Value). p.0 == n) i) h ∙ sym (of_placed i fs)
  where
    of_placed : (i : ℕ) (es : List Entry) → position_from (λ (e : Entry). e.object == n) i es ≡ position_from (λ (p : ℕ × List Value). p.0 == n) i (map placed es)
    of_placed i [] = refl
    of_placed i (e ∷ es) = ap (cond (e.object == n) (Some i)) (of_placed (i + 1) es)

-- ---- an entry more

last_lost : (b : Bool) (o : Option ℕ) (n m : ℕ) → m ≡ n → ((k : ℕ) → o ≡ Some k → k < n) → cond (b && is_place n (option_or o (cond b (Some m) None))) None (option_or o (cond b (Some m) None)) ≡ o
last_lost true None n m e within = ap (λ t. cond t None (Some m)) (eq-eqb m n e)
last_lost true (Some k) n m e within = let below : k < n = within k refl in ap (λ t. cond t None (Some k)) (other k n below)
  where
    other : (k n : ℕ) → k < n → k == n ≡ false
    other k n l = grind (arith, nat_tests)
last_lost false None n m e within = refl
last_lost false (Some k) n m e within = refl

-- the last one goes again
pub last_goes : (n : ℕ) (es : List Entry) (e : Entry) (k : ℕ) → length es ≡ k → cond ((e.object == n) && is_place k (entry_place n (es ++ e ∷ []))) None (entry_place n (es ++ e ∷ [])) ≡ entry_place n es
last_goes n es e k l =
    let more = first_more (λ (x : Entry). x.object == n) 0 es e in
    ap (λ o. cond ((e.object == n) && is_place k o) None o) more
    ∙ last_lost (e.object == n) (entry_place n es) k (0 + length es) (omega (arith, l)) (λ j at'. let within = first_within (λ (x : Entry). x.object == n) 0 es j at' in omega (arith, l, within))

pub last_dropped : (n m k : ℕ) (es : List Entry) (e : Entry) (now after : Option ℕ) → m ≡ e.object → length es ≡ k → now ≡ entry_place n (es ++ e ∷ []) → after ≡ cond ((m == n) && is_place k now) None now
    → after ≡ entry_place n es
last_dropped n m k es e now after same l before goes =
    goes ∙ ap (λ j. cond ((j == n) && is_place k now) None now) same ∙ ap (λ o. cond ((e.object == n) && is_place k o) None o) before ∙ last_goes n es e k l

pub last_noted : (n : ℕ) (es : List Entry) (e : Entry) (k : ℕ) → length es ≡ k → option_or (entry_place n es) (cond (e.object == n) (Some k) None) ≡ entry_place n (es ++ e ∷ [])
last_noted n es e k l =
    ap (λ j. option_or (entry_place n es) (cond (e.object == n) (Some j) None)) (omega (arith, l)) ∙ sym (first_more (λ (x : Entry). x.object == n) 0 es e)

-- ---- the entry of an object is the one at its place

further : {X : Type 0} (p : X → Bool) (i : ℕ) (xs : List X) → position_from p (i + 1) xs ≡ option_map suc (position_from p i xs)
further p i [] = refl
further p i (x ∷ xs) =
    elim (p x) as (λ b. cond b (Some (i + 1)) (position_from p (i + 1 + 1) xs) ≡ option_map suc (cond b (Some i) (position_from p (i + 1) xs))) [
      | true ↦ ap Some (add-one i)
      | false ↦ further p (i + 1) xs
    ]

found_at : (p : Entry → Bool) (es : List Entry) → find p es ≡ entry_at es (position_from p 0 es)
found_at p [] = refl
found_at p (e ∷ es) =
    elim (p e) as (λ b. cond b (Some e) (find p es) ≡ entry_at (e ∷ es) (cond b (Some 0) (position_from p (0 + 1) es))) [
      | true ↦ refl
      | false ↦ found_at p es ∙ later (position_from p 0 es) ∙ ap (entry_at (e ∷ es)) (sym (further p 0 es))
    ]
  where
    later : (o : Option ℕ) → entry_at es o ≡ entry_at (e ∷ es) (option_map suc o)
    later None = refl
    later (Some k) = refl

pub first_entry : (n : ℕ) (es : List Entry) → find (λ (e : Entry). e.object == n) es ≡ entry_at es (entry_place n es)
first_entry n es = found_at (λ (e : Entry). e.object == n) es
