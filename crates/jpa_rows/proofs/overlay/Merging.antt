-- What a walk over rows and their changes hands on.
use Rattle.std.specs.Prelude.{◌≡◌, Bool, true, false, T, [], ◌∷◌, ◌++◌, Result, Ok, Err, IsErrAnd}
use Rattle.std.proofs.Common.{refl, sym, ap, subst, ◌∙◌, inl, inr}
use Rattle.std.specs.FinMap.{is_sorted}
use Rattle.jpa_value.specs.declared.refusal.Cause.{Cause}
use Rattle.jpa_value.specs.Value.{identity_cmp}
use Rattle.jpa_rows.specs.laws.Handing.{Hands, Follows}
use Rattle.jpa_rows.proofs.laws.Facts.{second_holds}
use Rattle.jpa_rows.proofs.laws.Handing.{hands_weaker, hands_both, hands_longer, hands_cut}
use Rattle.jpa_rows.specs.rows.Rows.{RowId, Row, Rows, AreRising}
use Rattle.jpa_rows.specs.overlay.Overlay.{Changes, rows_put, rows_under}
use Rattle.jpa_rows.proofs.overlay.Merged.{all_put}
use Rattle.jpa_rows.specs.overlay.Merging.{IsMemory, MergesRow}

rest_rising : (e : RowId × Row) (es : Rows) → AreRising (e ∷ es) → AreRising es
rest_rising e es h = second_holds _ _ h

-- a walk by such steps to this state, of which each state shows the changes that are left and the sink
module _ {S K : Type 0} (t : S) (left : S → Changes) (sink : S → K) (Takes : K → RowId × Row → Result Bool Cause → K → Type 0) (Steps : S → RowId × Row → Result Bool Cause → S → Type 0)
    (step : (s : S) (e : RowId × Row) (out : Result Bool Cause) (m : S) → Steps s e out m → MergesRow Takes (left s) e out (left m) (sink s) (sink m)) (Fails : Cause → Type 0) (memory : (c : Cause) → IsMemory c → Fails c) where
  -- these rows were handed on; those that are seen, where the rows and the changes rise
  abbrev pub HandsSeen : S → Rows → Result Bool Cause → K → Type 0
  HandsSeen s es r last = (all : Rows) × Hands Takes Fails (sink s) all r last × (T (is_sorted identity_cmp (left s)) → AreRising es → all ≡ rows_under (left s) es)

  -- where all rows were taken, what the changes that are left put is handed on
  abbrev pub Goes : Result Bool Cause → Result Bool Cause → K → Type 0
  Goes out r last = Follows (λ k. Hands Takes Fails k (rows_put (left t)) r last) out (sink t) r last

  failed : (s : S) (es : Rows) (out r : Result Bool Cause) (last : K) → IsErrAnd out Fails → t ≡ s → Goes out r last → HandsSeen s es r last
  failed s es (Ok b) r last cut same h = absurd cut
  failed s es (Err e) r last cut same h = (rows_under (left s) es, hands_cut Takes Fails (sink s) (rows_under (left s) es) r last (subst (λ x. IsErrAnd x Fails) (sym h.0) cut) (h.1 ∙ ap sink same), λ _ _. refl)

  pub walked : (es : Rows) (s : S) (out : Result Bool Cause) → Hands Steps Fails s es out t → (r : Result Bool Cause) (last : K) → Goes out r last → HandsSeen s es r last
  walked [] s out (inl whole, same) r last h =
      let more : Goes (Ok true) r last = subst (λ o. Goes o r last) whole h in
      (rows_put (left s), subst (λ x. Hands Takes Fails (sink x) (rows_put (left x)) r last) same more, λ sorted _. sym (all_put (left s) sorted))
  walked [] s out (inr cut, same) r last h = failed s [] out r last cut same h
  walked (e ∷ es) s out (inl cut) r last h = failed s (e ∷ es) out r last cut.0 cut.1 h
  walked (e ∷ es) s out (inr one) r last h = go (λ m f. walked es m out f r last h) one.0 one.1 (step s e one.0 one.1 one.2) one.3
    where
      seen : (mid : S) (o : Result Bool Cause) → (m : MergesRow Takes (left s) e o (left mid) (sink s) (sink mid)) → (all : Rows) → (T (is_sorted identity_cmp (left mid)) → AreRising es → all ≡ rows_under (left mid) es)
          → T (is_sorted identity_cmp (left s)) → AreRising (e ∷ es) → m.these ++ all ≡ rows_under (left s) (e ∷ es)
      seen mid o m all is sorted rise = ap (λ l. m.these ++ l) (is (m.sorted sorted) (rest_rising e es rise)) ∙ sym (m.merged sorted es rise)

      stops : (mid : S) (o : Result Bool Cause) → (m : MergesRow Takes (left s) e o (left mid) (sink s) (sink mid)) → (o ≡ Ok true → ⊥) → (r ≡ o) → (last ≡ sink mid) → HandsSeen s (e ∷ es) r last
      stops mid o m cut r_is last_is =
          let rest = rows_under (left mid) es in (
            m.these ++ rest,
            subst (λ x. Hands Takes Fails (sink s) (m.these ++ rest) x last) (sym r_is)
                (subst (λ k. Hands Takes Fails (sink s) (m.these ++ rest) o k) (sym last_is)
                (hands_longer Takes Fails (sink s) (sink mid) m.these rest o cut (hands_weaker Takes IsMemory Fails memory (sink s) m.these o (sink mid) m.handed))),
            seen mid o m rest (λ _ _. refl),
          )

      go : ((m : S) → Hands Steps Fails m es out t → HandsSeen m es r last) → (o : Result Bool Cause) (mid : S) → MergesRow Takes (left s) e o (left mid) (sink s) (sink mid)
          → Follows (λ m. Hands Steps Fails m es out t) o mid out t → HandsSeen s (e ∷ es) r last
      go next (Ok true) mid m f =
          let more = next mid f in
          (m.these ++ more.0, hands_both Takes Fails (sink s) (sink mid) last m.these more.0 r (hands_weaker Takes IsMemory Fails memory (sink s) m.these (Ok true) (sink mid) m.handed) more.1, seen mid (Ok true) m more.0 more.2)
      go next (Ok false) mid m f =
          let end : Goes (Ok false) r last = subst (λ o. Goes o r last) f.0 h in
          stops mid (Ok false) m (λ e. cc) end.0 (end.1 ∙ ap sink f.1)
      go next (Err c) mid m f =
          let end : Goes (Err c) r last = subst (λ o. Goes o r last) f.0 h in
          stops mid (Err c) m (λ e. cc) end.0 (end.1 ∙ ap sink f.1)

-- what a walk goes on with, where a failure may be any other
pub goes : {K : Type 0} (Takes : K → RowId × Row → Result Bool Cause → K → Type 0) (Fails : Cause → Type 0) → ((c : Cause) → IsMemory c → Fails c) → (rows : Rows) (out : Result Bool Cause) (k : K) (r : Result Bool Cause) (last : K)
    → Follows (λ k. Hands Takes IsMemory k rows r last) out k r last → Follows (λ k. Hands Takes Fails k rows r last) out k r last
goes Takes Fails memory rows (Ok true) k r last h = hands_weaker Takes IsMemory Fails memory k rows r last h
goes Takes Fails memory rows (Ok false) k r last h = h
goes Takes Fails memory rows (Err e) k r last h = h
