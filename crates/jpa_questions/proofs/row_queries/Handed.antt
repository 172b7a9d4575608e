-- What was taken of rows that were handed on.
use Rattle.std.specs.Prelude.{◌≡◌, ◌<◌, ◌+◌, ℕ, zero, suc, Bool, true, false, List, [], ◌∷◌, ◌++◌, Result, Ok, Err, MatchResult, length, take, slice_index_or}
use Rattle.std.proofs.Common.{sym, ap, subst, ◌∙◌, inl, inr, arith, append_assoc, append-nil}
use Rattle.std.specs.List.{flat_map}
use Rattle.jpa_value.specs.declared.refusal.Cause.{Cause}
use Rattle.jpa_rows.specs.rows.Faults.{IsStoreCause}
use Rattle.jpa_rows.specs.rows.Rows.{Rows}
use Rattle.jpa_rows.specs.laws.Handing.{Hands, Follows}
use Rattle.jpa_rows.proofs.laws.Facts.{true_false}
use Rattle.jpa_questions.specs.row_queries.Gathering.{TakesRow}

-- all rows, or it was refused
abbrev pub TakesAll : Rows → Rows → Result Bool Cause → Rows → Type 0
TakesAll first rows r last = MatchResult r (λ _. last ≡ first ++ rows) IsStoreCause

pub takes_all : (first rows : Rows) (r : Result Bool Cause) (last : Rows) → Hands TakesRow IsStoreCause first rows r last → TakesAll first rows r last
takes_all first [] (Ok b) last h = h.1 ∙ sym (append-nil first)
takes_all first [] (Err e) last h = elim h.0 [ inl whole ↦ cc | inr failed ↦ failed ]
takes_all first (a ∷ rows) (Ok b) last (inl h) = absurd h.0
takes_all first (a ∷ rows) (Err e) last (inl h) = h.0
takes_all first (a ∷ rows) r last (inr h) = go (λ m next. takes_all m rows r last next) h.0 h.1 h.2 h.3
  where
    go : ((m : Rows) → Hands TakesRow IsStoreCause m rows r last → TakesAll m rows r last) → (out : Result Bool Cause) (mid : Rows) → TakesRow first a out mid → Follows (λ m. Hands TakesRow IsStoreCause m rows r last) out mid r last → TakesAll first (a ∷ rows) r last
    go on (Ok true) mid takes next = subst (λ l. MatchResult r (λ _. last ≡ l) IsStoreCause) (ap (λ m. m ++ rows) takes.1 ∙ append_assoc first (a ∷ []) rows) (on mid next)
    go on (Ok false) mid takes next = absurd (true_false (sym takes.0))
    go on (Err e) mid takes next = subst (λ s. TakesAll first (a ∷ rows) s last) (sym next.0) (inl takes.0)

-- ---- one table more

gathered_more : (f : ℕ → Rows) (ns : List ℕ) (i : ℕ) → i < length ns → flat_map f (take i ns) ++ f (slice_index_or ns i 0) ≡ flat_map f (take (suc i) ns)
gathered_more f [] i less = absurd (omega arith)
gathered_more f (n ∷ ns) zero less = sym (append-nil (f n))
gathered_more f (n ∷ ns) (suc i) less = append_assoc (f n) (flat_map f (take i ns)) (f (slice_index_or ns i 0)) ∙ ap (λ l. f n ++ l) (gathered_more f ns i (omega arith))

pub takes_more : (f : ℕ → Rows) (ns : List ℕ) (i : ℕ) → i < length ns → (before after : Rows) → before ≡ flat_map f (take i ns) → after ≡ before ++ f (slice_index_or ns i 0) → after ≡ flat_map f (take (i + 1) ns)
takes_more f ns i less before after so more =
    let next : suc i ≡ i + 1 = omega arith in
    more ∙ ap (λ l. l ++ f (slice_index_or ns i 0)) so ∙ gathered_more f ns i less ∙ ap (λ k. flat_map f (take k ns)) next

pub taken : (first rows : Rows) (r : Result Bool Cause) (b : Bool) (last : Rows) → r ≡ Ok b → TakesAll first rows r last → last ≡ first ++ rows
taken first rows r b last is h = subst (λ s. TakesAll first rows s last) is h

pub failed : (first rows : Rows) (r : Result Bool Cause) (e : Cause) (last : Rows) → r ≡ Err e → TakesAll first rows r last → IsStoreCause e
failed first rows r e last is h = subst (λ s. TakesAll first rows s last) is h
