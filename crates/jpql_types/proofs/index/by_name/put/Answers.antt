use Rattle.std.proofs.Common.{Some, ap, sym, ◌∙◌}
use Rattle.std.specs.Prelude.{string_bytes, cond}
use Rattle.std.specs.BTreeMap.{get_by_text}
use Rattle.std.proofs.lemmas.Map.Text.{btree_map_updates_text, is_eq-slice_cmp}
use Rattle.jpql_types.proofs.index.by_name.put.Goals as goal

pub returns : goal.returns
returns c = λ q.
    btree_map_updates_text (string_bytes c.args.name) c.args.places.now c.insert.new.self (Some c.args.place) c.in_ok-insert.ensures.updates q
    ∙ ap (λ b. cond b (Some c.args.place) (get_by_text c.args.places.now q)) (sym (is_eq-slice_cmp (string_bytes c.args.name) q))
