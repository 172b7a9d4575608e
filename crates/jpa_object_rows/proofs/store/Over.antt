-- Rows put over changes, or dropped, from the last to the first: what is then seen, and whose rows they are.
use Rattle.std.specs.Prelude.{◌≡◌, true, List, [], ◌∷◌, ◌++◌, length, map, Some, None}
use Rattle.std.proofs.Common.{refl, sym, ap, ◌∙◌, arith}
use Rattle.std.specs.FinMap.{put}
use Rattle.jpa_value.specs.Value.{identity_cmp}
use Rattle.jpa_rows.specs.declared.rows.schema.Schema.{Schema}
use Rattle.jpa_rows.specs.rows.Rows.{RowId, Row, Rows, AreRising}
use Rattle.jpa_rows.specs.laws.Changes.{dropped}
use Rattle.jpa_rows.proofs.laws.Each.{each_put}
use Rattle.jpa_rows.proofs.laws.Overlay.{seen_put}
use Rattle.jpa_object_rows.proofs.meaning.Bytes.Orders.{identities}
use Rattle.jpa_object_rows.specs.meaning.Raw.{is_id_of, AreNamed}
use Rattle.jpa_object_rows.specs.meaning.Objects.{with_rows, without_rows}
use Rattle.jpa_rows.specs.overlay.Overlay.{Changes, with_change, rows_under}
use Rattle.jpa_object_rows.specs.store.Shown.{with_puts, with_drops, AreOf}

-- ---- the last row goes over, and the others are left

puts_last : (es : Rows) (e : RowId × Row) (changes : Changes) → with_puts (es ++ e ∷ []) changes ≡ with_puts es (with_change e.0 (Some e.1) changes)
puts_last [] e changes = refl
puts_last (d ∷ es) e changes = ap (with_change d.0 (Some d.1)) (puts_last es e changes)

drops_last : (es : Rows) (e : RowId × Row) (changes : Changes) → with_drops (es ++ e ∷ []) changes ≡ with_drops es (with_change e.0 None changes)
drops_last [] e changes = refl
drops_last (d ∷ es) e changes = ap (with_change d.0 None) (drops_last es e changes)

module _ (left rest : Rows) (e : RowId × Row) (changes new wanted : Changes) (is : left ≡ rest ++ e ∷ []) where
  pub put_last : new ≡ with_change e.0 (Some e.1) changes → with_puts left changes ≡ wanted → with_puts rest new ≡ wanted
  put_last p h = ap (with_puts rest) p ∙ sym (puts_last rest e changes) ∙ ap (λ es. with_puts es changes) (sym is) ∙ h

  pub drop_last : new ≡ with_change e.0 None changes → with_drops left changes ≡ wanted → with_drops rest new ≡ wanted
  drop_last p h = ap (with_drops rest) p ∙ sym (drops_last rest e changes) ∙ ap (λ es. with_drops es changes) (sym is) ∙ h

-- none is left

pub all_put : (left : Rows) (changes wanted : Changes) → length left ≡ 0 → with_puts left changes ≡ wanted → changes ≡ wanted
all_put [] changes wanted e h = h
all_put (d ∷ left) changes wanted e h = absurd (omega arith)

pub all_dropped : (left : Rows) (changes wanted : Changes) → length left ≡ 0 → with_drops left changes ≡ wanted → changes ≡ wanted
all_dropped [] changes wanted e h = h
all_dropped (d ∷ left) changes wanted e h = absurd (omega arith)

-- ---- what is seen

abbrev pub ids_of : Rows → List RowId
ids_of = map (λ e. e.0)

module _ (base : Rows) (rise : AreRising base) where
  pub seen_puts : (es : Rows) (changes : Changes) → rows_under (with_puts es changes) base ≡ with_rows es (rows_under changes base)
  seen_puts [] changes = refl
  seen_puts (e ∷ es) changes = seen_put identities base rise (with_puts es changes) e.0 (Some e.1) ∙ ap (put identity_cmp e.0 e.1) (seen_puts es changes)

  pub seen_drops : (es : Rows) (changes : Changes) → rows_under (with_drops es changes) base ≡ without_rows (ids_of es) (rows_under changes base)
  seen_drops [] changes = refl
  seen_drops (e ∷ es) changes = seen_put identities base rise (with_drops es changes) e.0 None ∙ ap (dropped identity_cmp e.0) (seen_drops es changes)

-- ---- whose rows they are

module _ (schema : Schema) where
  pub own_puts : (es : Rows) (changes : Changes) → AreNamed schema es → AreOf schema changes → AreOf schema (with_puts es changes)
  own_puts [] changes h g = g
  own_puts (e ∷ es) changes h g = each_put identities (λ id row. is_id_of schema id ≡ true) e.0 (Some e.1) (with_puts es changes) h.0 (own_puts es changes h.1 g)

  pub own_drops : (es : Rows) (changes : Changes) → AreNamed schema es → AreOf schema changes → AreOf schema (with_drops es changes)
  own_drops [] changes h g = g
  own_drops (e ∷ es) changes h g = each_put identities (λ id row. is_id_of schema id ≡ true) e.0 None (with_drops es changes) h.0 (own_drops es changes h.1 g)
