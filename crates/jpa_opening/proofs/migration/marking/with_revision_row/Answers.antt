use Rattle.std.specs.Prelude.{◌<◌, [], ◌∷◌, ◌++◌, length, insert, slice_set}
use Rattle.std.proofs.Common.{sym, ap, ◌∙◌, arith, Vec, Global}
use Rattle.std.specs.List.{position_or_len}
use Rattle.jpa_cells.specs.declared.meaning.CellRow.{CellRow}
use Rattle.jpa_opening.specs.migration.Migration.{revision_key, revision_row}
use Rattle.jpa_opening.specs.migration.Places.{is_from}
use Rattle.jpa_opening.proofs.migration.Placed.{put_at_end, put_over, put_between}
use Rattle.jpa_opening.proofs.migration.marking.with_revision_row.Goals as goal
use Rattle.jpa_opening.proofs.migration.marking.with_revision_row.Goals.{then-place-len+in_ok-push, else-place-len+then-is_revision_row, else-place-len+else-is_revision_row+in_ok-insert}

pub index-requires : goal.index-requires
index-requires c = omega (arith, c.place_of-place.ensures.within, c.as_slice.ensures.len, c.len.ensures, c.if-place-len.false)

pub index_mut-requires : goal.index_mut-requires
index_mut-requires c = omega (arith, c.place_of-place.ensures.within, c.as_slice.ensures.len, c.len.ensures, c.if-place-len.false)

pub insert-requires : goal.insert-requires
insert-requires c = omega (arith, c.place_of-place.ensures.within, c.as_slice.ensures.len, c.len.ensures, c.if-place-len.false)

pub returns-clause-ok : goal.returns-clause-ok
returns-clause-ok c =
    let rows = c.args.rows.items in
    let n = c.place_of-place.result in
    let same = c.in_ok-row.ensures.ok in
    let is = c.place_of-place.ensures.place ∙ ap (position_or_len (is_from revision_key)) c.as_slice.ensures.value in
    elim c.if-place-len.branch [
      | then-place-len+in_ok-push w ↦
          ap (λ (v : Vec CellRow Global). v.items) w.rows-is ∙ w.in_ok-push.ensures.items ∙ ap (λ row. rows ++ row ∷ []) same
          ∙ put_at_end revision_row rows n is (w.if-place-len.true ∙ c.len.ensures ∙ sym c.as_slice.ensures.len ∙ ap length c.as_slice.ensures.value)
      | else-place-len+then-is_revision_row w ↦
          let within : n < length rows = omega (arith, c.place_of-place.ensures.within, c.as_slice.ensures.len, c.len.ensures, w.if-place-len.false) in
          ap (λ (v : Vec CellRow Global). v.items) w.rows-is ∙ ap (slice_set rows n) same
          ∙ put_over revision_row rows n is w.index.result.now within w.index.ensures (sym w.is_revision_row.ensures ∙ w.if-is_revision_row.true)
      | else-place-len+else-is_revision_row+in_ok-insert w ↦
          let within : n < length rows = omega (arith, c.place_of-place.ensures.within, c.as_slice.ensures.len, c.len.ensures, w.if-place-len.false) in
          ap (λ (v : Vec CellRow Global). v.items) w.rows-is ∙ w.in_ok-insert.ensures.items ∙ ap (insert rows n) same
          ∙ put_between revision_row rows n is w.index.result.now within w.index.ensures (sym w.is_revision_row.ensures ∙ w.if-is_revision_row.false)
    ]
