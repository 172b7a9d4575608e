use Rattle.std.proofs.Common.{Some, ap, sym, ◌∙◌}
use Rattle.std.specs.Prelude.{string_bytes, cond}
use Rattle.std.specs.BTreeMap.{get_by_text}
use Rattle.std.proofs.lemmas.Map.Text.{btree_map_updates_text, is_eq-slice_cmp}
use Rattle.jpa_model.proofs.index.put.Goals as goal

pub returns-clause-put : goal.returns-clause-put
returns-clause-put g c = λ q.
    btree_map_updates_text (string_bytes c.args.name) c.args.names.now c.insert.new.self (Some c.args.value) c.in_ok-insert.ensures.updates q
    ∙ ap (λ b. cond b (Some c.args.value) (get_by_text c.args.names.now q)) (sym (is_eq-slice_cmp (string_bytes c.args.name) q))
