-- Rows noted as those that stood: over no rows they say what stands under each id that is changed.
use Rattle.std.specs.Prelude.{◌≡◌, Bool, true, false, cond, [], ◌∷◌, Option, Some, None, IsSome}
use Rattle.std.proofs.Common.{refl, sym, ap, subst, ◌∙◌}
use Rattle.std.specs.FinMap.{find}
use Rattle.std.specs.Ordering.{eq_by_cmp}
use Rattle.jpa_value.specs.Value.{identity_cmp}
use Rattle.jpa_model.specs.Chains.{or_else}
use Rattle.jpa_rows.specs.rows.Rows.{RowId, Row, Rows}
use Rattle.jpa_rows.specs.laws.Changes.{over}
use Rattle.jpa_rows.proofs.laws.Facts.{some_none}
use Rattle.jpa_rows.proofs.laws.Maps.{found_other}
use Rattle.jpa_rows.proofs.laws.Overlay.{found_seen}
use Rattle.jpa_object_rows.proofs.meaning.Bytes.Orders.{identities}
use Rattle.jpa_object_rows.proofs.meaning.Over.{found_over}
use Rattle.jpa_rows.specs.overlay.Overlay.{Changes, rows_under}
use Rattle.jpa_object_rows.specs.store.Shown.{with_puts, with_drops, Recall}
use Rattle.jpa_object_rows.proofs.store.Over.{seen_puts}

-- ---- what is found where rows were put, or dropped

-- not the first of these, nor a later one
none_first : (b : Bool) (row : Row) (o : Option Row) → cond b (Some row) o ≡ None → b ≡ false
none_first true row o e = absurd (some_none row e)
none_first false row o e = refl

none_later : (b : Bool) (row : Row) (o : Option Row) → cond b (Some row) o ≡ None → o ≡ None
none_later true row o e = absurd (some_none row e)
none_later false row o e = e

pub past_puts : (q : RowId) (es : Rows) (changes : Changes) → find identity_cmp q es ≡ None → find identity_cmp q (with_puts es changes) ≡ find identity_cmp q changes
past_puts q [] changes none = refl
past_puts q (e ∷ es) changes none =
    let tied = eq_by_cmp identity_cmp q e.0 in
    found_other identities q e.0 (Some e.1) (with_puts es changes) (none_first tied e.1 (find identity_cmp q es) none)
    ∙ past_puts q es changes (none_later tied e.1 (find identity_cmp q es) none)

pub past_drops : (q : RowId) (es : Rows) (changes : Changes) → find identity_cmp q es ≡ None → find identity_cmp q (with_drops es changes) ≡ find identity_cmp q changes
past_drops q [] changes none = refl
past_drops q (e ∷ es) changes none =
    let tied = eq_by_cmp identity_cmp q e.0 in
    found_other identities q e.0 None (with_drops es changes) (none_first tied e.1 (find identity_cmp q es) none)
    ∙ past_drops q es changes (none_later tied e.1 (find identity_cmp q es) none)

-- ---- more rows noted

-- olds: rows that stand in base, and news: rows put in their place, of which none stands there but those of olds' ids
pub record Replaces (base olds news : Rows) : Type 0 where
  pub there : (q : RowId) (row : Row) → find identity_cmp q olds ≡ Some row → find identity_cmp q base ≡ Some row
  pub new : (q : RowId) (row : Row) → find identity_cmp q olds ≡ None → find identity_cmp q news ≡ Some row → find identity_cmp q base ≡ None

module _ (base olds news : Rows) (h : Replaces base olds news) (stood changes : Changes) (r : Recall base stood changes) where
  -- what is noted under an id, with the old rows
  noted : (q : RowId) → find identity_cmp q (rows_under (with_puts olds stood) []) ≡ or_else (find identity_cmp q olds) (find identity_cmp q (rows_under stood []))
  noted q = ap (find identity_cmp q) (seen_puts [] tt olds stood) ∙ found_over q olds (rows_under stood [])

  -- what was noted before
  of_stood : (q : RowId) (o : Option (Option Row)) → find identity_cmp q stood ≡ o → find identity_cmp q base ≡ None → find identity_cmp q (rows_under stood []) ≡ find identity_cmp q base
  of_stood q None e none = found_seen identities q [] stood ∙ ap (λ o. over o None) e ∙ sym none
  of_stood q (Some row) e none = r.own q (subst IsSome (sym e) refl)

  by_old : (q : RowId) (o : Option Row) → find identity_cmp q olds ≡ o → (o ≡ None → find identity_cmp q (rows_under stood []) ≡ find identity_cmp q base)
      → find identity_cmp q (rows_under (with_puts olds stood) []) ≡ find identity_cmp q base
  by_old q None e rest = noted q ∙ ap (λ o. or_else o (find identity_cmp q (rows_under stood []))) e ∙ rest refl
  by_old q (Some row) e rest = noted q ∙ ap (λ o. or_else o (find identity_cmp q (rows_under stood []))) e ∙ sym (h.there q row e)

  by_new : (q : RowId) (o : Option Row) (new : Changes) → find identity_cmp q news ≡ o → find identity_cmp q olds ≡ None → (o ≡ None → find identity_cmp q new ≡ find identity_cmp q changes) → IsSome (find identity_cmp q new)
      → find identity_cmp q (rows_under stood []) ≡ find identity_cmp q base
  by_new q None new e none same is = r.changed q (subst IsSome (same refl) is)
  by_new q (Some row) new e none same is = of_stood q (find identity_cmp q stood) refl (h.new q row none e)

  pub recalled : (new : Changes) → ((q : RowId) → find identity_cmp q olds ≡ None → find identity_cmp q news ≡ None → find identity_cmp q new ≡ find identity_cmp q changes) → Recall base (with_puts olds stood) new
  recalled new same = record {
    own = λ q is. by_old q (find identity_cmp q olds) refl (λ none. r.own q (subst IsSome (past_puts q olds stood none) is));
    changed = λ q is. by_old q (find identity_cmp q olds) refl (λ none. by_new q (find identity_cmp q news) new refl none (λ fresh. same q none fresh) is);
  }
