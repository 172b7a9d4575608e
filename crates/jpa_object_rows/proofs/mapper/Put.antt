-- What a binary search finds among fields whose columns rise, and what a change at that place makes of them.
use Rattle.std.specs.Prelude.{◌≡◌, ℕ, zero, suc, ◌<◌, ◌≤◌, T, List, [], ◌∷◌, ◌++◌, map, length, Result, Ok, Err}
use Rattle.std.proofs.Common.{refl, sym, ap, subst, ◌∙◌, get_or, set, take, drop}
use Rattle.std.proofs.lemmas.List.{length-map, map-set, map-append, take-map, drop-map}
use Rattle.std.specs.Cmp.{nat_cmp_total}
use Rattle.std.specs.List.{insert}
use Rattle.std.specs.List.Sorted.{IsSearchInRange, IsBinarySearchResult}
use Rattle.std.specs.FinMap.{put, is_sorted, nat_cmp-IsAntisymmetric}
use Rattle.std.specs.Ordering.{nat_cmp, ordering_index}
use Rattle.jpa_rows.specs.declared.rows.row.Content.{Content}
use Rattle.jpa_rows.specs.declared.rows.row.Field.{Field}
use Rattle.jpa_stored.proofs.objects.Entries.{put_at, put_gap}
use Rattle.jpa_stored.proofs.objects.Found.{searched}
use Rattle.jpa_object_rows.specs.meaning.Objects.{field_of}
use Rattle.jpa_object_rows.specs.meaning.Sets.{placed}

abbrev entry_of : Field → ℕ × Content
entry_of f = (f.column, f.content)

-- fields and entries say the same
pub placed_at : (fs : List Field) (i : ℕ) (d : ℕ × Content) → get_or (placed fs) i d ≡ entry_of (get_or fs i (field_of d))
placed_at [] i d = refl
placed_at (f ∷ fs) zero d = refl
placed_at (f ∷ fs) (suc i) d = placed_at fs i d

pub fields_of_placed : (fs : List Field) → fs ≡ map field_of (placed fs)
fields_of_placed [] = refl
fields_of_placed (f ∷ fs) = ap (λ r. f ∷ r) (fields_of_placed fs)

count : (fs : List Field) → length (placed fs) ≡ length fs
count fs = length-map fs entry_of

module _ (fs : List Field) (k : ℕ) where
  -- the answer among fields is one among entries
  found_among : (r : Result ℕ ℕ) → IsBinarySearchResult (λ f. nat_cmp f.column k) fs r → IsBinarySearchResult (λ e. nat_cmp e.0 k) (placed fs) r
  found_among (Ok at) h = λ d. ap (λ e. nat_cmp e.0 k) (placed_at fs at d) ∙ h (field_of d)
  found_among (Err at) h = λ rises.
      let parted = h (λ i j d l m.
      subst (λ e. ordering_index (nat_cmp e.0 k) ≤ ordering_index (nat_cmp (get_or fs j d).column k)) (placed_at fs i (entry_of d))
      (subst (λ e. ordering_index (nat_cmp (get_or (placed fs) i (entry_of d)).0 k) ≤ ordering_index (nat_cmp e.0 k)) (placed_at fs j (entry_of d))
      (rises i j (entry_of d) l (subst (λ n. j < n) (sym (count fs)) m)))) in (
        λ j d l m. ap (λ e. nat_cmp e.0 k) (placed_at fs j d) ∙ parted.0 j (field_of d) l m,
        λ j d l m. ap (λ e. nat_cmp e.0 k) (placed_at fs j d) ∙ parted.1 j (field_of d) l (subst (λ n. j < n) (count fs) m),
      )

  in_range : (r : Result ℕ ℕ) → IsSearchInRange r (length fs) → IsSearchInRange r (length (placed fs))
  in_range r h = subst (IsSearchInRange r) (sym (count fs)) h

  module _ (content : Content) (rising : T (is_sorted nat_cmp (placed fs))) where
    pub replaced : (at : ℕ) (f : Field) → f ≡ record { column = k; content = content } → IsSearchInRange (Ok at) (length fs) → IsBinarySearchResult (λ f. nat_cmp f.column k) fs (Ok at)
        → placed (set fs at f) ≡ put nat_cmp k content (placed fs)
    replaced at f is within h =
        let r : Result ℕ ℕ = Ok at in
        let there = (searched nat_cmp_total (placed fs) rising k r (in_range r within) (found_among r h)).found in
        map-set entry_of fs at f ∙ ap (λ g. set (placed fs) at (entry_of g)) is ∙ sym (put_at nat_cmp_total nat_cmp-IsAntisymmetric (placed fs) k content at rising there)

    pub inserted : (at : ℕ) (f : Field) → f ≡ record { column = k; content = content } → IsSearchInRange (Err at) (length fs) → IsBinarySearchResult (λ f. nat_cmp f.column k) fs (Err at)
        → placed (insert fs at f) ≡ put nat_cmp k content (placed fs)
    inserted at f is within h =
        let r : Result ℕ ℕ = Err at in
        let gap = (searched nat_cmp_total (placed fs) rising k r (in_range r within) (found_among r h)).absent in
        map-append entry_of (take at fs) (f ∷ drop at fs)
        ∙ ap (λ front. front ++ entry_of f ∷ placed (drop at fs)) (sym (take-map entry_of at fs))
        ∙ ap (λ back. take at (placed fs) ++ entry_of f ∷ back) (sym (drop-map entry_of at fs))
        ∙ ap (λ g. insert (placed fs) at (entry_of g)) is
        ∙ sym (put_gap nat_cmp_total (placed fs) k content at gap)
