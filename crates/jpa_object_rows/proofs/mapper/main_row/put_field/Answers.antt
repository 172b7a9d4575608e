use Rattle.std.proofs.Common.{◌∙◌, refl, ap, subst, ℕ, List, Result, Ok, Err, rules}
use Rattle.std.specs.List.Sorted.{IsBinarySearchResult, IsSearchInRange}
use Rattle.std.specs.Ordering.{nat_cmp}
use Rattle.std.proofs.Common.{length, Vec, Global}
use Rattle.jpa_rows.specs.declared.rows.row.Field.{Field}
use Rattle.jpa_stored.proofs.objects.Found.{computes}
use Rattle.jpa_object_rows.specs.meaning.Sets.{placed}
use Rattle.jpa_object_rows.proofs.mapper.Put.{replaced, inserted}
use Rattle.jpa_object_rows.proofs.mapper.main_row.put_field.Goals as goal
use Rattle.jpa_object_rows.proofs.mapper.main_row.put_field.Goals.{in-Ok+in-Value+in-Text-1, in-Ok+in-Value+in-Bytes-1, in-Ok+in-Value+in-Null-1, in-Ok+in-Reference-1, in-Err+in_ok-insert-in-Err}

pub returns-clause-ok : goal.returns-clause-ok
returns-clause-ok c =
    let fs = c.args.fields.now.items in
    let field = c.args.field in
    let key : Field → ℕ = λ f. f.column in
    let within : (at : Result ℕ ℕ) → IsSearchInRange at (length c.as_slice.result.now) → IsSearchInRange at (length fs) =
    λ at. subst (λ (es : List Field). IsSearchInRange at (length es)) c.as_slice.ensures.value in
    let among : (at : Result ℕ ℕ) → IsBinarySearchResult (λ (f : Field). nat_cmp f.column field.column) c.as_slice.result.now at → IsBinarySearchResult (λ (f : Field). nat_cmp f.column field.column) fs at =
    λ at. subst (λ (es : List Field). IsBinarySearchResult (λ (f : Field). nat_cmp f.column field.column) es at) c.as_slice.ensures.value in
    let old = λ (at : ℕ) (bound : IsSearchInRange (Ok at) (length c.as_slice.result.now)) (found : IsBinarySearchResult (λ (f : Field). nat_cmp f.column field.column) c.as_slice.result.now (Ok at)).
    replaced fs field.column field.content c.requires at field refl (within (Ok at) bound) (among (Ok at) found) in
    elim c.match-binary_search_by_key.branch [
      | in-Ok+in-Value+in-Text-1 w ↦ ap (λ (v : Vec Field Global). placed v.items) w.fields-is ∙ old w.in-Ok.at w.in-Ok.ensures.bound (w.in-Ok.ensures.position key (computes key (λ a r g called. (search rules, search rules))))
      | in-Ok+in-Value+in-Bytes-1 w ↦ ap (λ (v : Vec Field Global). placed v.items) w.fields-is ∙ old w.in-Ok.at w.in-Ok.ensures.bound (w.in-Ok.ensures.position key (computes key (λ a r g called. (search rules, search rules))))
      | in-Ok+in-Value+in-Null-1 w ↦ ap (λ (v : Vec Field Global). placed v.items) w.fields-is ∙ old w.in-Ok.at w.in-Ok.ensures.bound (w.in-Ok.ensures.position key (computes key (λ a r g called. (search rules, search rules))))
      | in-Ok+in-Reference-1 w ↦ ap (λ (v : Vec Field Global). placed v.items) w.fields-is ∙ old w.in-Ok.at w.in-Ok.ensures.bound (w.in-Ok.ensures.position key (computes key (λ a r g called. (search rules, search rules))))
      | in-Err+in_ok-insert-in-Err w ↦
          ap (λ (v : Vec Field Global). placed v.items) w.fields-is
          ∙ ap placed w.in_ok-insert-in-Err.ensures.items
          ∙ inserted fs field.column field.content c.requires w.in-Err.at field refl (within (Err w.in-Err.at) w.in-Err.ensures.bound) (among (Err w.in-Err.at) (w.in-Err.ensures.position key (computes key (λ a r g called. (search rules, search rules)))))
    ]
