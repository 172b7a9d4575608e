-- What a change of one row changes among the entries.
use Rattle.std.specs.Prelude.{◌≡◌, false, T, List, Option, Some, None}
use Rattle.std.proofs.Common.{sym, ap, ◌∙◌}
use Rattle.std.specs.FinMap.{find, put, is_sorted}
use Rattle.std.specs.Ordering.{eq_by_cmp}
use Rattle.std.specs.declared.cmp.Ordering.{Ordering}
use Rattle.jpa_rows.specs.laws.Entries.{read_by, entries_of, Spells, IsSpelledBy}
use Rattle.jpa_rows.specs.laws.Changes.{dropped}
use Rattle.jpa_rows.proofs.laws.Maps.{put_by_answers, drop_by_answers, same_answers, found_put, found_other, found_dropped, dropped_other, put_rises, dropped_rises}
use Rattle.jpa_rows.proofs.laws.Entries.{ties, ties_not, decided, entries_rise, found, absent}

module _ {K R : Type 0} {by_key : K → K → Ordering} {by_row : R → R → Ordering} {key_at : R → Option K} {row_of : K → R}
    (spells : Spells by_key by_row key_at row_of) where
  -- keys apart have rows apart
  pub row_apart : (q k : K) → IsSpelledBy key_at row_of q → IsSpelledBy key_at row_of k → eq_by_cmp by_key q k ≡ false → eq_by_cmp by_row (row_of q) (row_of k) ≡ false
  row_apart q k sq sk e = ties spells q k (row_of k) sq sk ∙ e

  -- ---- any change of rows and of what they are read as

  module _ {C X : Type 0} (value next : K → C → Option X) (rows news : List (R × C)) (rise : T (is_sorted by_row rows)) (rise_new : T (is_sorted by_row news)) where
    -- what is read under each other key stays
    abbrev pub OthersStay : K → Type 0
    OthersStay k =
        (q : K) → IsSpelledBy key_at row_of q → eq_by_cmp by_key q k ≡ false → read_by (next q) (find by_row (row_of q) news) ≡ read_by (value q) (find by_row (row_of q) rows)

    elsewhere : (k : K) → OthersStay k → (q : K) → eq_by_cmp by_key q k ≡ false → find by_key q (entries_of by_key key_at next news) ≡ find by_key q (entries_of by_key key_at value rows)
    elsewhere k others q apart =
        decided spells q
        (λ s. found spells next q s news rise_new ∙ others q s apart ∙ sym (found spells value q s rows rise))
        (λ s. absent spells next q s news ∙ sym (absent spells value q s rows))

    pub entry_put : (k : K) (x : X) → IsSpelledBy key_at row_of k → read_by (next k) (find by_row (row_of k) news) ≡ Some x → OthersStay k
        → entries_of by_key key_at next news ≡ put by_key k x (entries_of by_key key_at value rows)
    entry_put k x spelled here others =
        put_by_answers spells.keys k x _ _ (entries_rise spells value rows) (entries_rise spells next news) (found spells next k spelled news rise_new ∙ here) (elsewhere k others)

    pub entry_dropped : (k : K) → IsSpelledBy key_at row_of k → read_by (next k) (find by_row (row_of k) news) ≡ None → OthersStay k
        → entries_of by_key key_at next news ≡ dropped by_key k (entries_of by_key key_at value rows)
    entry_dropped k spelled here others =
        drop_by_answers spells.keys k _ _ (entries_rise spells value rows) (entries_rise spells next news) (found spells next k spelled news rise_new ∙ here) (elsewhere k others)

    pub entries_same : ((q : K) → IsSpelledBy key_at row_of q → read_by (next q) (find by_row (row_of q) news) ≡ read_by (value q) (find by_row (row_of q) rows))
        → entries_of by_key key_at next news ≡ entries_of by_key key_at value rows
    entries_same same =
        same_answers spells.keys _ _ (entries_rise spells next news) (entries_rise spells value rows)
        (λ q. decided spells q
        (λ s. found spells next q s news rise_new ∙ same q s ∙ sym (found spells value q s rows rise))
        (λ s. absent spells next q s news ∙ sym (absent spells value q s rows)))

  -- ---- one row is put or dropped, and each row is read by itself

  module _ {C X : Type 0} (value : K → C → Option X) (rows : List (R × C)) (rise : T (is_sorted by_row rows)) where
    pub row_put : (k : K) (c : C) (x : X) → IsSpelledBy key_at row_of k → value k c ≡ Some x
        → entries_of by_key key_at value (put by_row (row_of k) c rows) ≡ put by_key k x (entries_of by_key key_at value rows)
    row_put k c x spelled stands =
        entry_put value value rows _ rise (put_rises spells.rows (row_of k) c rows rise) k x spelled
        (ap (read_by (value k)) (found_put spells.rows (row_of k) c rows) ∙ stands)
        (λ q s apart. ap (read_by (value q)) (found_other spells.rows (row_of q) (row_of k) c rows (row_apart q k s spelled apart)))

    pub row_dropped : (k : K) → IsSpelledBy key_at row_of k → entries_of by_key key_at value (dropped by_row (row_of k) rows) ≡ dropped by_key k (entries_of by_key key_at value rows)
    row_dropped k spelled =
        entry_dropped value value rows _ rise (dropped_rises spells.rows (row_of k) rows rise) k spelled
        (ap (read_by (value k)) (found_dropped spells.rows (row_of k) rows))
        (λ q s apart. ap (read_by (value q)) (dropped_other spells.rows (row_of q) (row_of k) rows (row_apart q k s spelled apart)))

    -- a row that spells no key changes nothing
    pub row_unread : (r : R) (c : C) → key_at r ≡ None → entries_of by_key key_at value (put by_row r c rows) ≡ entries_of by_key key_at value rows
    row_unread r c none =
        entries_same value value rows _ rise (put_rises spells.rows r c rows rise)
        (λ q s. ap (read_by (value q)) (found_other spells.rows (row_of q) r c rows (ties_not spells q r s none)))

    pub row_unread_dropped : (r : R) → key_at r ≡ None → entries_of by_key key_at value (dropped by_row r rows) ≡ entries_of by_key key_at value rows
    row_unread_dropped r none =
        entries_same value value rows _ rise (dropped_rises spells.rows r rows rise)
        (λ q s. ap (read_by (value q)) (dropped_other spells.rows (row_of q) r rows (ties_not spells q r s none)))
