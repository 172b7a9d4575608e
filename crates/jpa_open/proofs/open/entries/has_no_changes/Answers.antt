use Rattle.std.proofs.Common.{◌≡◌, ◌∙◌, sym, vec_len, arith}
use Rattle.std.proofs.lemmas.Bool.{eqb-true}
use Rattle.std.proofs.lemmas.List.{nil_from_length}
use Rattle.jpa_open.specs.Layers.{over}
use Rattle.jpa_open.specs.Opened.{layer}
use Rattle.jpa_open.proofs.Found.{nothing_over}
use Rattle.jpa_open.proofs.open.entries.has_no_changes.Goals as goal

pub returns-then-is_empty : goal.returns-then-is_empty
returns-then-is_empty c = λ empty s.
    let drops = c.args.drops.now in
    let whole = drops.ok.0 in
    let none : vec_len drops ≡ 0 = eqb-true _ _ (sym c.is_empty-then-is_empty.ensures ∙ empty) in
    let no_puts = nil_from_length c.args.puts.now (eqb-true _ _ (sym c.is_empty.ensures ∙ c.if-is_empty.true)) in
    let no_drops = nil_from_length drops.items (omega (arith, whole, none)) in
    (λ i. over (layer (no_puts i) (no_drops i)) s) ∙ nothing_over s
