-- Places put over entries, from the last to the first.
use Rattle.std.specs.Prelude.{◌≡◌, ℕ, T, List, [], ◌∷◌, ◌++◌, length, map, Option}
use Rattle.std.proofs.Common.{refl, sym, ap, subst, ◌∙◌, arith}
use Rattle.std.specs.Cmp.{nat_cmp_total}
use Rattle.std.specs.FinMap.{put, is_sorted}
use Rattle.std.specs.FinMap.Entries.{is_sorted-put}
use Rattle.std.specs.Ordering.{nat_cmp}
use Rattle.jpa_rows.specs.declared.rows.row.Content.{Content}
use Rattle.jpa_rows.specs.declared.rows.row.Field.{Field}
use Rattle.jpa_rows.specs.laws.Entries.{put_if}
use Rattle.jpa_rows.specs.laws.Slots.{filled}
use Rattle.jpa_object_rows.specs.meaning.Objects.{Places, field_of, row_of_places}
use Rattle.jpa_object_rows.specs.meaning.Sets.{placed}
use Rattle.jpa_object_rows.proofs.mapper.Put.{fields_of_placed}

abbrev pub onto : Places → List (ℕ × Content) → List (ℕ × Content)
onto [] entries = entries
onto (place ∷ places) entries = put_if nat_cmp place.0 place.1 (onto places entries)

pub onto_nothing : (places : Places) → onto places [] ≡ filled nat_cmp places
onto_nothing [] = refl
onto_nothing (place ∷ places) = ap (put_if nat_cmp place.0 place.1) (onto_nothing places)

pub onto_last : (places : Places) (column : ℕ) (content : Option Content) (entries : List (ℕ × Content))
    → onto (places ++ (column, content) ∷ []) entries ≡ onto places (put_if nat_cmp column content entries)
onto_last [] column content entries = refl
onto_last (place ∷ places) column content entries = ap (put_if nat_cmp place.0 place.1) (onto_last places column content entries)

-- ---- the last place goes over, and the others are left

pub put_over : (left rest : Places) (column : ℕ) (held : Option Content) (entries more wanted : List (ℕ × Content)) → left ≡ rest ++ (column, held) ∷ []
    → more ≡ put_if nat_cmp column held entries → onto left entries ≡ wanted → onto rest more ≡ wanted
put_over left rest column held entries more wanted e p h =
    ap (onto rest) p ∙ sym (onto_last rest column held entries) ∙ ap (λ places. onto places entries) (sym e) ∙ h

pub rises_with : (column : ℕ) (content : Content) (entries more : List (ℕ × Content)) → more ≡ put nat_cmp column content entries → T (is_sorted nat_cmp entries) → T (is_sorted nat_cmp more)
rises_with column content entries more p h = subst (λ es. T (is_sorted nat_cmp es)) (sym p) (is_sorted-put nat_cmp nat_cmp_total column content entries h)

-- ---- none is left

pub all_over : (left : Places) (fields : List Field) (places : Places) → length left ≡ 0 → onto left (placed fields) ≡ filled nat_cmp places → fields ≡ row_of_places places
all_over [] fields places e h = fields_of_placed fields ∙ ap (map field_of) h
all_over (place ∷ left) fields places e h = absurd (omega arith)
