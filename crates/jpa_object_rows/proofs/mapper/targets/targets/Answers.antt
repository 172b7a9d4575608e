use Rattle.std.proofs.Common.{Bool, []}
use Rattle.std.proofs.Common.{◌≡◌, ◌∙◌, ◌++◌, sym, ap, rules, arith, take, drop, drop-cons, suc, length, None, ◌-◌, ◌∷◌, option_map}
use Rattle.std.specs.List.{flat_map}
use Rattle.std.proofs.lemmas.List.{take_rest, append-nil, drop_all}
use Rattle.std.specs.Ordering.{is_lt}
use Rattle.jpa_value.specs.Value.{identity_cmp}
use Rattle.jpa_value.proofs.Orders.{identity_total}
use Rattle.jpa_stored.proofs.objects.Found.{computes}
use Rattle.jpa_rows.specs.rows.Rows.{RowId, Row, table_rows}
use Rattle.jpa_object_rows.specs.meaning.Sets.{identity_of, if_any, key_after}
use Rattle.jpa_object_rows.specs.mapper.Pairs.{pair_target}
use Rattle.jpa_rows.proofs.rows.Splits.{front_passes, rest_fails, parted}
use Rattle.jpa_object_rows.proofs.mapper.Walk.{leading, leading_none, targets_walked}
use Rattle.jpa_object_rows.proofs.mapper.targets.targets.Goals as goal
use Rattle.jpa_object_rows.proofs.mapper.targets.targets.Goals.{else-loop-row-test, then-loop-row-test+in_ok-id+in-None}

pub returns-clause-ok : goal.returns-clause-ok
returns-clause-ok c =
    let m = c.args.metamodel.now in
    let rows = c.args.rows.now in
    let join = c.args.join in
    let table = c.root_of.result.now.table in
    let key = c.as_slice-key.result.now in
    let k = c.partition_point-first.result in
    let i = c.loop-row.row-index in
    let p : RowId × Row → Bool = λ e. is_lt (identity_cmp e.0 (identity_of join key)) in
    let parts = c.partition_point-first.ensures.partitioned p (computes p (λ a r g called. (search rules, search rules))) (parted identity_total rows c.requires.rising (identity_of join key)) in
    let items = take_rest rows k in
    let walk = leading join table key in
    let rest = take (length rows - k) (drop k rows) in
    let ended : walk (drop i rest) ≡ [] = elim c.loop-row-test.branch [
      | else-loop-row-test w ↦ ap walk (drop_all i rest (omega arith))
      | then-loop-row-test+in_ok-id+in-None w ↦
          let row : RowId × Row = w.row-item.result in
          let none : pair_target join table key row.0 ≡ None = sym w.in_ok-id.ensures.ok ∙ w.in-None.is in
          ap walk (drop-cons rest i row w.loop-row-test.true) ∙ ap (λ (d : RowId × Row). walk (d ∷ drop (suc i) rest)) (sym w.row-item.is) ∙ leading_none join table key row (drop (suc i) rest) none
    ] in
    sym (append-nil c.loop-row.found) ∙ ap (λ ts. c.loop-row.found ++ ts) (sym ended)
    ∙ c.loop-row.invariant ∙ ap walk items ∙ targets_walked join table key rows c.requires.rising k (front_passes p rows k parts.0) (rest_fails p rows k parts.1)
    ∙ (λ i. flat_map (λ d. if_any (option_map (identity_of (c.root_of.ensures i).table) (key_after (c.as_slice-key.ensures i) (d.0).key))) (table_rows join rows))
