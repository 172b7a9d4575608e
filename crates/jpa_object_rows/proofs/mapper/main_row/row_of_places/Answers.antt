use Rattle.std.proofs.Common.{◌∙◌, sym, ap, subst, T, arith}
use Rattle.std.specs.FinMap.{is_sorted}
use Rattle.std.specs.Ordering.{nat_cmp}
use Rattle.jpa_rows.specs.laws.Entries.{put_if}
use Rattle.jpa_object_rows.specs.meaning.Sets.{placed}
use Rattle.jpa_object_rows.proofs.mapper.Filled.{onto, onto_nothing, put_over, rises_with, all_over}
use Rattle.jpa_object_rows.proofs.mapper.main_row.row_of_places.Goals as goal

pub loop-column-init : goal.loop-column-init
loop-column-init c = record {
  same =
      ap (λ ps. onto ps (placed c.new-fields.result.items)) c.into_vec-left.ensures
      ∙ ap (λ fs. onto c.args.places (placed fs)) c.new-fields.ensures.items
      ∙ onto_nothing c.args.places;
  rising = subst (λ fs. T (is_sorted nat_cmp (placed fs))) (sym c.new-fields.ensures.items) tt;
}

-- it holds something
pub loop-column-preserved-in-Continue-1 : goal.loop-column-preserved-in-Continue-1
loop-column-preserved-in-Continue-1 c =
    let before = c.loop-column in
    let column = c.in-Some.column in
    record {
      same =
          put_over before.left.items c.pop.new.self.items column c.in-Some.content (placed before.fields.items) _ _ c.in-Some.ensures.items
          (c.in_ok-put_field.ensures.ok ∙ ap (λ o. put_if nat_cmp column o (placed before.fields.items)) (sym c.in-Some-content.is))
          before.invariant.same;
      rising = rises_with column c.in-Some-content.content (placed before.fields.items) _ c.in_ok-put_field.ensures.ok before.invariant.rising;
    }

-- it holds nothing
pub loop-column-preserved : goal.loop-column-preserved
loop-column-preserved c =
    let before = c.loop-column in
    let column = c.in-Some.column in
    record {
      same =
          put_over before.left.items c.pop.new.self.items column c.in-Some.content (placed before.fields.items) _ _ c.in-Some.ensures.items
          (ap (λ o. put_if nat_cmp column o (placed before.fields.items)) (sym c.in_default-content.is))
          before.invariant.same;
      rising = before.invariant.rising;
    }

pub returns-clause-ok : goal.returns-clause-ok
returns-clause-ok c = c.of.ensures ∙ all_over c.loop-column.left.items c.loop-column.fields.items c.args.places (let none = c.in_default.ensures.cases.0 in omega arith) c.loop-column.invariant.same
