-- What is found by the words of a path is what a walk finds.
use Rattle.std.proofs.Common.{◌≡◌, refl, ap, sym, ◌∙◌, ℕ, Bool, true, false, ◌&&◌, ◌||◌, List, [], ◌∷◌, map, Option, Some, None}
use Rattle.std.specs.Prelude.{String, string_bytes, ◌==◌}
use Rattle.std.specs.Cmp.{eq_by_cmp_equiv}
use Rattle.std.specs.Cmp.Lexicographic.{slice_cmp}
use Rattle.std.specs.List.{list_any}
use Rattle.std.specs.Ordering.{ordering_then, is_eq, nat_cmp}
use Rattle.std.specs.Str.{bytes_eq, str_to_ascii_lowercase}
use Rattle.std.specs.String.{string_cmp}
use Rattle.std.specs.declared.cmp.Ordering.{Ordering}
use Rattle.std.specs.declared.cmp.Ordering.TheVariants as o
use Rattle.std.proofs.lemmas.Map.Text.{is_eq-slice_cmp}
use lib.Pointwise.{pointwise}
use Rattle.jpa_model.specs.Chains.{same_name}
use Rattle.jpql_trees.specs.declared.tree.Item.{Item}
use Rattle.jpql_trees.specs.declared.tree.Path.{Path}
use Rattle.jpql_trees.specs.declared.tree.Value.{Value}
use Rattle.jpql_types.specs.Indexes.{is_path, path_in, Words, words_of, words_cmp, same_words, has_words, words_total}
use Rattle.jpql_types.specs.Scope.{same_path}
use Rattle.jpql_types.specs.Statements.{is_kept_by}

-- ---- words

pub by_bytes : {Y : Type 0} (xs ys : List (String Y)) → slice_cmp string_cmp xs ys ≡ words_cmp (map string_bytes xs) (map string_bytes ys)
by_bytes [] [] = refl
by_bytes [] (y ∷ ys) = refl
by_bytes (x ∷ xs) [] = refl
by_bytes (x ∷ xs) (y ∷ ys) = ap (ordering_then (string_cmp x y)) (by_bytes xs ys)

eq_then : (a b : Ordering) → is_eq (ordering_then a b) ≡ (is_eq a && is_eq b)
eq_then o.Less b = refl
eq_then o.Equal b = refl
eq_then o.Greater b = refl

same_names : (a b : Words) → same_words a b ≡ pointwise same_name a b
same_names [] [] = refl
same_names [] (y ∷ ys) = refl
same_names (x ∷ xs) [] = refl
same_names (x ∷ xs) (y ∷ ys) = eq_then (slice_cmp nat_cmp x y) (words_cmp xs ys) ∙ ap (λ b. same_name x y && b) (same_names xs ys)

-- ---- paths

same_by_words : (p q : Path) → same_words (words_of p) (words_of q) ≡ same_path p q
same_by_words p q =
    let a = str_to_ascii_lowercase p.variable in
    let b = str_to_ascii_lowercase q.variable in
    eq_then (slice_cmp nat_cmp a b) (words_cmp p.names q.names)
    ∙ ap (λ c. c && same_words p.names q.names) (is_eq-slice_cmp a b)
    ∙ ap (λ c. bytes_eq a b && c) (same_names p.names q.names)

either_way : (p q : Path) → same_words (words_of p) (words_of q) ≡ same_path q p
either_way p q = (eq_by_cmp_equiv words_total).symm (words_of p) (words_of q) ∙ same_by_words q p

same_either_way : (p q : Path) → same_path p q ≡ same_path q p
same_either_way p q = sym (same_by_words p q) ∙ either_way p q

module _ (q : Path) where
  as_path : (p : Option Path) → has_words (words_of q) p ≡ is_path q p
  as_path None = refl
  as_path (Some p) = either_way p q

  pub any_by_words : {A : Type 0} (path : A → Option Path) (xs : List A) → list_any (λ x. has_words (words_of q) (path x)) xs ≡ list_any (λ x. is_path q (path x)) xs
  any_by_words path [] = refl
  any_by_words path (x ∷ xs) =
      ap (λ b. b || list_any (λ y. has_words (words_of q) (path y)) xs) (as_path (path x)) ∙ ap (λ b. is_path q (path x) || b) (any_by_words path xs)

-- ---- paths that DISTINCT keeps

module _ (p : Path) (n : ℕ) where
  from_value : (v : Value) → is_kept_by p n v ≡ (is_path p (path_in v) || is_path (record { variable = p.variable; names = [] }) (path_in v) && n == 1)
  from_value (Value.Path x) =
      ap (λ b. b || same_path x (record { variable = p.variable; names = [] }) && n == 1) (same_either_way x p)
      ∙ ap (λ b. same_path p x || b && n == 1) (same_either_way x (record { variable = p.variable; names = [] }))
  from_value _ = refl

shuffle : (f g a c b : Bool) → ((f || g && b) || (a || c && b)) ≡ ((f || a) || (g || c) && b)
shuffle true g a c b = refl
shuffle false true true c true = refl
shuffle false true false c true = refl
shuffle false true true c false = refl
shuffle false true false true false = refl
shuffle false true false false false = refl
shuffle false false a c b = refl

module _ (p : Path) (n : ℕ) where
  pub any_kept : (items : List Item)
      → list_any (λ i. is_kept_by p n i.value) items
      ≡ (list_any (λ i. is_path p (path_in i.value)) items || list_any (λ i. is_path (record { variable = p.variable; names = [] }) (path_in i.value)) items && n == 1)
  any_kept [] = refl
  any_kept (i ∷ items) =
      ap (λ b. b || list_any (λ j. is_kept_by p n j.value) items) (from_value p n i.value)
      ∙ ap (λ b. (is_path p (path_in i.value) || is_path (record { variable = p.variable; names = [] }) (path_in i.value) && n == 1) || b) (any_kept items)
      ∙ shuffle (is_path p (path_in i.value)) (is_path (record { variable = p.variable; names = [] }) (path_in i.value)) _ _ (n == 1)

  pub kept_item : (items : List Item) (has : Bool) → has ≡ list_any (λ i. is_path p (path_in i.value)) items → has ≡ true → true ≡ list_any (λ i. is_kept_by p n i.value) items
  kept_item items has e h =
      sym
      (any_kept items
      ∙ ap (λ b. b || list_any (λ i. is_path (record { variable = p.variable; names = [] }) (path_in i.value)) items && n == 1) (sym e ∙ h))

  kept_variable : (items : List Item) (has one : Bool) → has ≡ list_any (λ i. is_path p (path_in i.value)) items → has ≡ false
      → one ≡ list_any (λ i. is_path (record { variable = p.variable; names = [] }) (path_in i.value)) items → (one && n == 1) ≡ list_any (λ i. is_kept_by p n i.value) items
  kept_variable items has one e h f =
      ap (λ b. b && n == 1) f
      ∙ ap (λ b. b || list_any (λ i. is_path (record { variable = p.variable; names = [] }) (path_in i.value)) items && n == 1) (sym h ∙ e)
      ∙ sym (any_kept items)

  pub kept_by_step : (items : List Item) (has one : Bool) → has ≡ list_any (λ i. is_path p (path_in i.value)) items → has ≡ false
      → one ≡ list_any (λ i. is_path (record { variable = p.variable; names = [] }) (path_in i.value)) items → one ≡ true → (n == 1) ≡ list_any (λ i. is_kept_by p n i.value) items
  kept_by_step items has one e h f is = ap (λ b. b && n == 1) (sym is) ∙ kept_variable items has one e h f

  pub kept_by_none : (items : List Item) (has one : Bool) → has ≡ list_any (λ i. is_path p (path_in i.value)) items → has ≡ false
      → one ≡ list_any (λ i. is_path (record { variable = p.variable; names = [] }) (path_in i.value)) items → one ≡ false → one ≡ list_any (λ i. is_kept_by p n i.value) items
  kept_by_none items has one e h f is = is ∙ ap (λ b. b && n == 1) (sym is) ∙ kept_variable items has one e h f
