-- A part of the rows, as one table: its entries are a part of the entries; and what is sought in a part alone.
use Rattle.std.specs.Prelude.{◌≡◌, Bool, true, false, cond, T, List, [], ◌∷◌, Option, None}
use Rattle.std.proofs.Common.{refl, sym, ap, ◌∙◌}
use Rattle.std.specs.List.{filter, AllByRecursion}
use Rattle.std.specs.FinMap.{find, is_sorted}
use Rattle.std.specs.FinMap.Entries.{where_key, find-where_key, is_sorted-where_key}
use Rattle.std.specs.declared.cmp.Ordering.{Ordering}
use Rattle.jpa_rows.specs.laws.Entries.{read_by, entries_of, Spells}
use Rattle.jpa_rows.proofs.laws.Maps.{same_answers}
use Rattle.jpa_rows.proofs.laws.Entries.{decided, entries_rise, found, absent}

none_cond : {A : Type 0} (b : Bool) (o : Option A) → o ≡ None → None ≡ cond b o None
none_cond true o e = sym e
none_cond false o e = refl

read_cond : {C X : Type 0} (b : Bool) (f : C → Option X) (o : Option C) → read_by f (cond b o None) ≡ cond b (read_by f o) None
read_cond true f o = refl
read_cond false f o = refl

-- the rows of a part have the entries of that part
pub entries_where : {K R C X : Type 0} {by_key : K → K → Ordering} {by_row : R → R → Ordering} {key_at : R → Option K} {row_of : K → R}
    (spells : Spells by_key by_row key_at row_of) (value : K → C → Option X) (of_row : R → Bool) (of_key : K → Bool) → ((k : K) → of_row (row_of k) ≡ of_key k)
    → (rows : List (R × C)) → T (is_sorted by_row rows) → entries_of by_key key_at value (where_key by_row of_row rows) ≡ where_key by_key of_key (entries_of by_key key_at value rows)
entries_where {by_key = by_key} {by_row = by_row} {row_of = row_of} spells value of_row of_key same rows rise =
    same_answers spells.keys _ _ (entries_rise spells value (where_key by_row of_row rows)) (is_sorted-where_key by_key of_key _ (entries_rise spells value rows))
    (λ q. decided spells q
    (λ s. found spells value q s (where_key by_row of_row rows) (is_sorted-where_key by_row of_row rows rise)
    ∙ ap (read_by (value q)) (find-where_key by_row of_row (row_of q) (λ x t. ap of_row (sym (spells.rows.exact (row_of q) x t))) rows)
    ∙ read_cond (of_row (row_of q)) (value q) (find by_row (row_of q) rows)
    ∙ ap (λ b. cond b (read_by (value q) (find by_row (row_of q) rows)) None) (same q)
    ∙ ap (λ o. cond (of_key q) o None) (sym (found spells value q s rows rise)))
    (λ s. absent spells value q s (where_key by_row of_row rows)
    ∙ none_cond (of_key q) _ (absent spells value q s rows))
    ∙ sym (find-where_key by_key of_key q (λ x t. ap of_key (sym (spells.keys.exact q x t))) (entries_of by_key _ value rows)))

-- each entry that passes the test is of the part
abbrev pub AreWithin : {K X : Type 0} → (K × X → Bool) → (K → Bool) → List (K × X) → Type 0
AreWithin test part = AllByRecursion (λ e. test e ≡ true → part e.0 ≡ true)

module _ {K X : Type 0} (by_key : K → K → Ordering) (test : K × X → Bool) (part : K → Bool) where
  pub filter_within : (es : List (K × X)) → AreWithin test part es → filter test (where_key by_key part es) ≡ filter test es
  filter_within [] h = refl
  filter_within (e ∷ es) h =
      elim (test e) as (λ t. test e ≡ t → filter test (cond (part e.0) (e ∷ where_key by_key part es) (where_key by_key part es)) ≡ cond t (e ∷ filter test es) (filter test es)) [
        | true ↦ λ t. ap (λ b. filter test (cond b (e ∷ where_key by_key part es) (where_key by_key part es))) (h.0 t)
            ∙ ap (λ b. cond b (e ∷ filter test (where_key by_key part es)) (filter test (where_key by_key part es))) t
            ∙ ap (λ r. e ∷ r) (filter_within es h.1)
        | false ↦ λ t. either (part e.0) t ∙ filter_within es h.1
      ] refl
    where
      either : (b : Bool) → test e ≡ false → filter test (cond b (e ∷ where_key by_key part es) (where_key by_key part es)) ≡ filter test (where_key by_key part es)
      either true t = ap (λ x. cond x (e ∷ filter test (where_key by_key part es)) (filter test (where_key by_key part es))) t
      either false t = refl
