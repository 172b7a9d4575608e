use Rattle.std.proofs.Common.{◌≡◌, ap, sym, ◌∙◌, suc, ◌<◌, ◌-◌, true, cond, List, ◌∷◌, length, drop, drop-cons, arith}
use Rattle.std.specs.Prelude.{string_bytes}
use Rattle.std.specs.BTreeSet.{contains, contains_text}
use Rattle.std.specs.List.{list_any}
use Rattle.std.specs.Str.{bytes_eq}
use Rattle.std.specs.String.{string_cmp}
use Rattle.std.proofs.lemmas.Map.Text.{btree_set_updates_text}
use Rattle.jpa_model.specs.Chains.{same_name}
use Rattle.jpql_trees.specs.tree.Names.{Text}
use Rattle.jpql_types.proofs.Twice.{again, first, one_more}
use Rattle.jpql_types.proofs.distinct.are_distinct_names.Goals as goal

pub returns-then-not-branch : goal.returns-then-not-branch
returns-then-not-branch c =
    let names = c.args.names.now in
    let left = c.loop-left.left in
    let name = c.index-names-left.result in
    let key = c.in_ok-from_str.field-0 in
    let rest : List Text = drop left names in
    let below : left - 1 < length names = omega arith in
    let next : suc (left - 1) ≡ left = omega arith in
    let at : drop (left - 1) names ≡ name ∷ rest =
    drop-cons names (left - 1) name below ∙ ap (λ x. x ∷ drop (suc (left - 1)) names) (sym c.index-names-left.is) ∙ ap (λ n. name ∷ drop n names) next in
    let bytes : string_bytes key ≡ name = c.in_ok-from_str.ensures.ok ∙ c.as_str.ensures in
    let met : contains string_cmp c.loop-left.later key ≡ list_any (same_name name) rest =
    c.loop-left.invariant.met (string_bytes key) ∙ ap (λ (q : Text). list_any (same_name q) rest) bytes in
    again names (left - 1) name rest _ _ at met c.in_ok-insert.ensures.added c.if-not-branch.true

pub loop-left-preserved : goal.loop-left-preserved
loop-left-preserved c =
    let names = c.args.names.now in
    let left = c.loop-left.left in
    let name = c.index-names-left.result in
    let key = c.in_ok-from_str.field-0 in
    let rest : List Text = drop left names in
    let below : left - 1 < length names = omega arith in
    let next : suc (left - 1) ≡ left = omega arith in
    let at : drop (left - 1) names ≡ name ∷ rest =
    drop-cons names (left - 1) name below ∙ ap (λ x. x ∷ drop (suc (left - 1)) names) (sym c.index-names-left.is) ∙ ap (λ n. name ∷ drop n names) next in
    let bytes : string_bytes key ≡ name = c.in_ok-from_str.ensures.ok ∙ c.as_str.ensures in
    let met : contains string_cmp c.loop-left.later key ≡ list_any (same_name name) rest =
    c.loop-left.invariant.met (string_bytes key) ∙ ap (λ (q : Text). list_any (same_name q) rest) bytes in
    record {
      within = omega arith;
      met = λ q.
          let updated : contains_text c.insert.new.self q ≡ cond (bytes_eq name q) true (contains_text c.loop-left.later q) =
          btree_set_updates_text (string_bytes key) c.loop-left.later c.insert.new.self true c.in_ok-insert.ensures.updates q
          ∙ ap (λ (k : Text). cond (bytes_eq k q) true (contains_text c.loop-left.later q)) bytes in
          one_more q name rest _ _ updated (c.loop-left.invariant.met q) ∙ ap (list_any (same_name q)) (sym at);
      distinct = first names (left - 1) name rest _ _ at met c.in_ok-insert.ensures.added c.if-not-branch.false c.loop-left.invariant.distinct;
    }
