-- Rows of cells that are handed on are rows that are handed on.
use Rattle.std.proofs.Common.{◌≡◌, ◌∙◌, inl, inr, refl, sym, ap, subst, Bool, true, false, List, [], ◌∷◌, map}
use Rattle.std.specs.Prelude.{⊤, Result, Ok, Err, IsErrAnd}
use Rattle.std.specs.List.{AllByRecursion}
use Rattle.jpa_value.specs.declared.refusal.Cause.{Cause}
use Rattle.jpa_value.specs.declared.refusal.Cause.TheVariants as cause
use Rattle.jpa_rows.specs.laws.Handing.{Hands, Follows}
use Rattle.jpa_rows.proofs.laws.Handing.{err_weaker}
use Rattle.jpa_rows.specs.declared.rows.schema.TableRule.{TableRule}
use Rattle.jpa_rows.specs.rows.Faults.{IsStoreCause}
use Rattle.jpa_rows.specs.rows.Rows.{RowId, Row, Rows}
use Rattle.jpa_cells.specs.declared.meaning.CellRow.{CellRow}
use Rattle.jpa_cells.specs.rowspace.Stored.{stored_row}
use Rattle.jpa_cells.specs.rowspace.Reading.{ReadsRow}
use Rattle.jpa_cells.proofs.rowspace.Ids.{IsIn}
use Rattle.jpa_cells.proofs.rowspace.Readings.{spells_own}

-- steps to this state, of which each state shows its table, the sink and what no step changes
module _ {S K X : Type 0} (t : S) (name : S → X) (table : S → TableRule) (sink : S → K) (Takes : K → RowId × Row → Result Bool Cause → K → Type 0) (Steps : S → CellRow → Result Bool Cause → S → Type 0)
    (step : (s : S) (r : CellRow) (out : Result Bool Cause) (m : S) → Steps s r out m → (name m ≡ name s) × (table m ≡ table s) × ReadsRow Takes (table s) (sink s) r out (sink m)) (Fails : Cause → Type 0) where
  abbrev pub ReadAs : TableRule → S → List CellRow → Result Bool Cause → Type 0
  ReadAs rule s stored out = (name t ≡ name s) × Hands (ReadsRow Takes rule) Fails (sink s) stored out (sink t)

  pub read_as : (rule : TableRule) (stored : List CellRow) (s : S) (out : Result Bool Cause) → Hands Steps Fails s stored out t → table s ≡ rule → ReadAs rule s stored out
  read_as rule [] s out h own = (ap name h.1, (h.0, ap sink h.1))
  read_as rule (r ∷ rest) s out (inl h) own = (ap name h.1, inl (h.0, ap sink h.1))
  read_as rule (r ∷ rest) s out (inr h) own = go (λ m is f. read_as rule rest m out f is) h.0 h.1 (step s r h.0 h.1 h.2) h.3
    where
      go : ((m : S) → table m ≡ rule → Hands Steps Fails m rest out t → ReadAs rule m rest out) → (o : Result Bool Cause) (mid : S) → (name mid ≡ name s) × (table mid ≡ table s) × ReadsRow Takes (table s) (sink s) r o (sink mid)
          → Follows (λ m. Hands Steps Fails m rest out t) o mid out t → ReadAs rule s (r ∷ rest) out
      go next (Ok true) mid one f =
          let more = next mid (one.1 ∙ own) f in
          (more.0 ∙ one.0, inr (Ok true, sink mid, subst (λ u. ReadsRow Takes u (sink s) r (Ok true) (sink mid)) own one.2, more.1))
      go next (Ok false) mid one f = (ap name f.1 ∙ one.0, inr (Ok false, sink mid, subst (λ u. ReadsRow Takes u (sink s) r (Ok false) (sink mid)) own one.2, (f.0, ap sink f.1)))
      go next (Err e) mid one f = (ap name f.1 ∙ one.0, inr (Err e, sink mid, subst (λ u. ReadsRow Takes u (sink s) r (Err e) (sink mid)) own one.2, (f.0, ap sink f.1)))

module _ {K : Type 0} (Takes : K → RowId × Row → Result Bool Cause → K → Type 0) (rule : TableRule) where
  failed : (r : Result Bool Cause) (e : Cause) → r ≡ Err e → IsStoreCause e → IsErrAnd r IsStoreCause
  failed r e is h = subst (λ x. IsErrAnd x IsStoreCause) (sym is) h

  -- rows as the store keeps them are handed on as they are
  pub whole : (es : Rows) → AllByRecursion (IsIn rule) es → (a : K) (r : Result Bool Cause) (b : K) → Hands (ReadsRow Takes rule) IsStoreCause a (map stored_row es) r b → Hands Takes IsStoreCause a es r b
  whole [] all a r b h = h
  whole (e ∷ es) all a r b (inl h) = inl h
  whole (e ∷ es) all a r b (inr h) = go (λ m f. whole es all.1 m r b f) h.0 h.1 h.2 h.3
    where
      go : ((m : K) → Hands (ReadsRow Takes rule) IsStoreCause m (map stored_row es) r b → Hands Takes IsStoreCause m es r b) → (o : Result Bool Cause) (mid : K) → ReadsRow Takes rule a (stored_row e) o mid
          → Follows (λ m. Hands (ReadsRow Takes rule) IsStoreCause m (map stored_row es) r b) o mid r b → Hands Takes IsStoreCause a (e ∷ es) r b
      go next (Ok true) mid (inl one) f = inr (Ok true, mid, subst (λ (x : RowId × Row). Takes a x (Ok true) mid) ((one.1 e).1 (spells_own rule e all.0)) one.2, next mid f)
      go next (Ok false) mid (inl one) f = inr (Ok false, mid, subst (λ (x : RowId × Row). Takes a x (Ok false) mid) ((one.1 e).1 (spells_own rule e all.0)) one.2, f)
      go next (Err c) mid (inl one) f = inr (Err c, mid, subst (λ (x : RowId × Row). Takes a x (Err c) mid) ((one.1 e).1 (spells_own rule e all.0)) one.2, f)
      go next (Ok true) mid (inr (inl told, same)) f = absurd (let x = told in cc)
      go next (Ok false) mid (inr (inl told, same)) f = absurd (let x = told in cc)
      go next (Err c) mid (inr (inl told, same)) f = inl (failed r cause.OutOfMemory (f.0 ∙ told) (inl refl), f.1 ∙ same)
      go next o mid (inr (inr damaged, same)) f = absurd (damaged.0 e (spells_own rule e all.0))

  no_row : (a mid b : K) (o r : Result Bool Cause) (c : Cause) (P : K → Type 0) → o ≡ Err c → mid ≡ a → Follows P o mid r b → (found : Rows) × Hands Takes (λ _. ⊤) a found r b
  no_row a mid b (Ok x) r c P is same f = absurd (let y = is in cc)
  no_row a mid b (Err d) r c P is same f = ([], (inr (subst (λ (x : Result Bool Cause). IsErrAnd x (λ _. ⊤)) (sym f.0) tt), f.1 ∙ same))

  -- whatever the cells are, some rows are handed on
  pub some_rows : (stored : List CellRow) (a : K) (r : Result Bool Cause) (b : K) → Hands (ReadsRow Takes rule) IsStoreCause a stored r b → (found : Rows) × Hands Takes (λ _. ⊤) a found r b
  some_rows [] a r b h = ([], (elim h.0 [ inl all ↦ inl all | inr cut ↦ inr (err_weaker r (λ e _. tt) cut) ], h.1))
  some_rows (s ∷ stored) a r b (inl h) = ([], (inr (err_weaker r (λ e _. tt) h.0), h.1))
  some_rows (s ∷ stored) a r b (inr h) = go (λ m f. some_rows stored m r b f) h.0 h.1 h.2 h.3
    where
      go : ((m : K) → Hands (ReadsRow Takes rule) IsStoreCause m stored r b → (found : Rows) × Hands Takes (λ _. ⊤) m found r b) → (o : Result Bool Cause) (mid : K) → ReadsRow Takes rule a s o mid
          → Follows (λ m. Hands (ReadsRow Takes rule) IsStoreCause m stored r b) o mid r b → (found : Rows) × Hands Takes (λ _. ⊤) a found r b
      go next (Ok true) mid (inl one) f = let more = next mid f in (one.0 ∷ more.0, inr (Ok true, mid, one.2, more.1))
      go next (Ok false) mid (inl one) f = (one.0 ∷ [], inr (Ok false, mid, one.2, f))
      go next (Err c) mid (inl one) f = (one.0 ∷ [], inr (Err c, mid, one.2, f))
      go next o mid (inr (inl told, same)) f = no_row a mid b o r cause.OutOfMemory (λ m. Hands (ReadsRow Takes rule) IsStoreCause m stored r b) told same f
      go next o mid (inr (inr damaged, same)) f = no_row a mid b o r (cause.Damaged rule.table s.row) (λ m. Hands (ReadsRow Takes rule) IsStoreCause m stored r b) damaged.1 same f
