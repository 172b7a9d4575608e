-- The rows of a table are handed on while its entries are shown.
use Rattle.std.proofs.Common.{◌≡◌, ◌⊎◌, ◌∙◌, ℤ, inl, inr, refl, sym, ap, subst, arith, Bool, true, false, true≢false, IsTrue, List, [], ◌∷◌, ◌++◌, Option, Some, None, option_to_list, Result, Ok, Err, append-nil, append_assoc}
use Rattle.std.specs.Prelude.{IsErr, IsErrAnd, IfErr, OnOk, MatchResult, ℕ}
use Rattle.std.proofs.lemmas.Bool.{cases_Bool}
use Rattle.sqlite.specs.Held.{Held, state}
use Rattle.sqlite.specs.State.{State, HasCleanDisk, IsUnchanged, Survives, FailsToQuery, CommitsShowing}
use Rattle.sqlite.specs.Given.{HasBegun, IsRefused}
use Rattle.sqlite.specs.declared.types.Value.TheVariants.{Int}
use Rattle.sqlite.specs.declared.error.Error.{Error}
use Rattle.sqlite.specs.declared.error.Error.TheVariants.{SqliteFailure}
use Rattle.sqlite.specs.declared.error.ErrorCode.TheVariants as code
use Rattle.sqlite.specs.Order.{Row}
use Rattle.sqlite.proofs.StateLemmas.{survives_then, survives_weaker}
use Rattle.sqlite_trees.specs.declared.store.Store.{Ghosts}
use Rattle.sqlite_trees.specs.View.{doubt}
use Rattle.sqlite_trees.proofs.Doubt.{no_doubt, never_clean}
use Rattle.jpa_value.specs.declared.refusal.Cause.{Cause}
use Rattle.jpa_value.specs.declared.refusal.Cause.TheVariants as cause
use Rattle.jpa_rows.specs.laws.Handing.{Hands, Follows}
use Rattle.jpa_rows.proofs.laws.Handing.{hands_weaker, hands_cut, hands_both, hands_longer}
use Rattle.jpa_cells.specs.declared.meaning.CellRow.{CellRow}
use Rattle.jpa_cells.specs.meaning.Schema.{table_text}
use Rattle.jpa_cells.specs.meaning.Content.{Entry, IsCellStore, Leaves, added, grouped}
use Rattle.jpa_cells.specs.meaning.Store.{IsStoreCause, OnlyReads, HandsTable, Tells, TellsOf, faults_after, tables_in}
use Rattle.jpa_cells.specs.meaning.Tables.{AreRows}
use Rattle.jpa_cells.proofs.meaning.Rows.{are_rows}
use Rattle.jpa_cells.specs.meaning.Reads.{HasShown, ShowsOn, ShowsNext}
use Rattle.jpa_cells.proofs.meaning.Adding.{grouped_added, added_behind, rest_of}
use Rattle.jpa_cells.proofs.meaning.Shown.{shown_none, some_tail}
use Rattle.jpa_cells.proofs.meaning.Quiet.{table_never_commits}
use Rattle.jpa_cells.proofs.meaning.Causes.{table_fault}
use Rattle.jpa_cells.proofs.meaning.Selects.{read_keeps, table_survives}
use Rattle.jpa_cells.proofs.meaning.Texts.{table_plain}
use Rattle.jpa_cells.proofs.meaning.Taking.{fault_later}

is_clean : (s : State) → HasCleanDisk s ⊎ (HasCleanDisk s → ⊥)
is_clean s = elim (cases_Bool s.is_clean) [
  | inl clean ↦ inl (no_doubt s.is_clean clean)
  | inr dirty ↦ inr (λ clean. never_clean (subst (λ b. doubt b ≡ 0) dirty clean))
]

module _ {S K : Type 0} (g : Ghosts S) (Takes : K → CellRow → Result Bool Cause → K → Type 0) (table : ℤ) (first : Held S) (start : K) where
  -- Of the entries that were shown these rows are ready, and one is begun; those before were taken.
  pub record IsHanding (now : Held S) (ready : List CellRow) (begun : Option CellRow) (sink : K) : Type 0 where
    pub seen : List Entry
    pub handed : List CellRow
    pub rows : grouped seen ≡ (handed ++ ready) ++ option_to_list begun
    pub fresh : begun ≡ None → handed ++ ready ≡ []
    pub taken : Hands Takes (λ _. ⊥) start handed (Ok true) sink
    pub shown : HasCleanDisk (state g now) → HasShown g table first now seen
    pub survives : Survives (state g first) (state g now) (λ _. ⊥)
    pub idle : now.in_transaction ≡ false

  -- the SELECT has begun
  pub begins : (now : Held S) → first.in_transaction ≡ false → IsCellStore (state g first) → (IsTrue (state g first).is_open → (state g first).now ≡ (state g first).committed) → (HasCleanDisk (state g now) → HasBegun g table_text (Int table ∷ []) first now)
      → (first.in_transaction ≡ false → now.in_transaction ≡ false) → Survives (state g first) (state g now) (CommitsShowing table_text (Int table ∷ []) (state g first)) → IsHanding now [] None start
  begins now idle store settled begun mode s = record {
    seen = [];
    handed = [];
    rows = λ _. [];
    fresh = λ _. refl;
    taken = (inl refl, refl);
    shown = λ clean. (let early : HasCleanDisk (state g first) = omega (arith, s.clean) in shown_none g table first now store early settled (begun clean));
    survives = survives_weaker (state g first) (state g now) (CommitsShowing table_text (Int table ∷ []) (state g first)) (λ _. ⊥) (λ _ db. table_never_commits (Int table ∷ []) (state g first) db) s;
    idle = mode idle;
  }

  -- it can't begin
  pub not_begun : {X : Type 0} (now : Held S) (x : Result X Error) (e : Error) (told : Cause) → x ≡ Err e → first.in_transaction ≡ false → IsCellStore (state g first) → (IsTrue (state g first).is_open → (state g first).now ≡ (state g first).committed)
      → IsRefused g table_text (Int table ∷ []) first x now → (told ≡ cause.StoreFault → e ≡ SqliteFailure code.OutOfMemory → ⊥) → (let r : Result Bool Cause = Err told in OnlyReads g first now r)
  not_begun now x e told is idle store settled it own =
      let early : HasCleanDisk (state g now) → HasCleanDisk (state g first) = λ clean. (let was : HasCleanDisk (state g first) = omega (arith, it.survives.clean) in was) in
      let failed = λ (clean : HasCleanDisk (state g now)). subst (λ y. IfErr y (FailsToQuery table_text (Int table ∷ []) (state g first) (state g now))) is (it.err clean) in
      let refused : Result (List Row) Error = Err e in
      record {
        idle = it.mode idle;
        stays = λ clean. tt;
        kept = λ clean live. read_keeps table_text table_plain (Int table ∷ []) (state g first) (state g now) store (early clean) settled (λ rows. rows) refused tt (failed clean) live;
        cause = λ clean fault. elim (table_fault (state g first) (state g now) store (early clean) table e (failed clean)) [ inl memory ↦ absurd (own (let y = fault in cc) memory) | inr why ↦ why ];
        crash = table_survives (state g first) (state g now) (Int table ∷ []) it.survives;
      }

  -- the next entry was shown, and its row is begun or goes on
  pub goes_on : (old new : Held S) (begun : Option CellRow) (e : Entry) (whole : List CellRow) (row : CellRow) (sink : K) → IsHanding old [] begun sink → Survives (state g old) (state g new) (λ _. ⊥)
      → (old.in_transaction ≡ false → new.in_transaction ≡ false) → ShowsOn g old new (Ok (Some e)) → added (option_to_list begun) e ≡ whole ++ row ∷ [] → IsHanding new whole (Some row) sink
  goes_on old new begun e whole row sink h s mode shows is =
      let bare : h.handed ++ [] ≡ h.handed = append-nil h.handed in
      let early : HasCleanDisk (state g new) → HasCleanDisk (state g old) = λ clean. (let it : HasCleanDisk (state g old) = omega (arith, s.clean) in it) in
      record {
        seen = h.seen ++ e ∷ [];
        handed = h.handed;
        rows = grouped_added h.seen e ∙ ap (λ l. added l e) (h.rows ∙ ap (λ l. l ++ option_to_list begun) bare) ∙ added_behind h.handed begun e (λ none. sym bare ∙ h.fresh none)
            ∙ ap (λ l. h.handed ++ l) is ∙ sym (append_assoc h.handed whole (row ∷ []));
        fresh = λ none. absurd (let it = none in cc);
        taken = h.taken;
        shown = λ clean. shows clean table first h.seen (h.shown (early clean));
        survives = survives_then (state g first) (state g old) (state g new) _ _ (λ _. ⊥) (λ _ db none. none) (λ _ db none. none) h.survives s;
        idle = mode h.idle;
      }

  -- the rows that were ready were taken
  pub takes : (now : Held S) (ready : List CellRow) (begun : Option CellRow) (sink next : K) → IsHanding now ready begun sink → Hands Takes (λ _. ⊥) sink ready (Ok true) next → IsHanding now [] begun next
  takes now ready begun sink next h more = record {
    seen = h.seen;
    handed = h.handed ++ ready;
    rows = h.rows ∙ ap (λ l. l ++ option_to_list begun) (sym (append-nil (h.handed ++ ready)));
    fresh = λ none. append-nil (h.handed ++ ready) ∙ h.fresh none;
    taken = hands_both Takes (λ _. ⊥) start sink next h.handed ready (Ok true) h.taken more;
    shown = h.shown;
    survives = h.survives;
    idle = h.idle;
  }

  -- ---- what the call leaves

  no_crash : (now : Held S) → Survives (state g first) (state g now) (λ _. ⊥) → Survives (state g first) (state g now) (Leaves (λ _. ⊥))
  no_crash now s = survives_weaker (state g first) (state g now) (λ _. ⊥) (Leaves (λ _. ⊥)) (λ _ db none. absurd none) s

  -- what is known where the content is as it was
  pub same_reads : {T : Type 0} (now : Held S) (r : Result T Cause) → Survives (state g first) (state g now) (λ _. ⊥) → now.in_transaction ≡ false → (HasCleanDisk (state g now) → IsUnchanged (state g first) (state g now))
      → (r ≡ Err cause.StoreFault → ⊥) → OnlyReads g first now r
  same_reads now r s idle same own = record {
    idle = idle;
    stays = λ clean. on_ok r (same clean).0.was_open (same clean).0.is_open;
    kept = λ clean live. ((same clean).0.was_open, (same clean).0.now_is);
    cause = λ clean fault. absurd (own fault);
    crash = no_crash now s;
  }
    where
      on_ok : {P Q : Type 0} {T : Type 0} (r : Result T Cause) → P → Q → OnOk r (P × Q)
      on_ok (Ok x) p q = (p, q)
      on_ok (Err e) p q = tt

  -- over a clean disk the rows are those of the table, and else those that were handed on
  either : (now : Held S) (front : List CellRow) (r : Result Bool Cause) (last : K) → Hands Takes IsStoreCause start front r last
      → (HasCleanDisk (state g now) → IsTrue (state g first).is_open × ((rest : List CellRow) × (front ++ rest ≡ tables_in g first table) × Hands Takes IsStoreCause start (front ++ rest) r last))
      → HandsTable g Takes IsStoreCause table first now start r last
  either now front r last bare whole = elim (is_clean (state g now)) [
    | inl clean ↦ (let it = whole clean in (tables_in g first table, λ _. inl (it.0, refl), subst (λ rows. Hands Takes IsStoreCause start rows r last) it.1.1 it.1.2))
    | inr dirty ↦ (front, λ clean. absurd (dirty clean), bare)
  ]

  rest_now : (now : Held S) (ready : List CellRow) (begun : Option CellRow) (sink : K) (h : IsHanding now ready begun sink) → HasCleanDisk (state g now) → (rest : List CellRow) × ((h.handed ++ ready) ++ rest ≡ tables_in g first table)
  rest_now now ready begun sink h clean =
      let tail = some_tail g table first now h.seen (h.shown clean) in
      let it = rest_of h.seen tail.0 (h.handed ++ ready) begun h.rows h.fresh in
      (it.0, sym it.1 ∙ tail.1)

  weaker : (s : K) (rows : List CellRow) (r : Result Bool Cause) (t : K) → Hands Takes (λ _. ⊥) s rows r t → Hands Takes IsStoreCause s rows r t
  weaker = hands_weaker Takes (λ _. ⊥) IsStoreCause (λ e none. absurd none)

  -- a failure came before the next row
  pub cut_off : (old now : Held S) (begun : Option CellRow) (sink : K) (r : Result Bool Cause) → IsHanding old [] begun sink → (HasCleanDisk (state g now) → HasCleanDisk (state g old)) → IsErrAnd r IsStoreCause → HandsTable g Takes IsStoreCause table first now start r sink
  cut_off old now begun sink r h early fails =
      let all : (rows : List CellRow) → Hands Takes IsStoreCause start (h.handed ++ rows) r sink = λ rows. hands_both Takes IsStoreCause start sink sink h.handed rows r (weaker _ _ _ _ h.taken) (hands_cut Takes IsStoreCause sink rows r sink fails refl) in
      either now h.handed r sink (subst (λ l. Hands Takes IsStoreCause start l r sink) (append-nil h.handed) (all []))
      (λ clean.
      let it = rest_now old [] begun sink h (early clean) in
      ((h.shown (early clean)).same.0.was_open, (it.0, ap (λ l. l ++ it.0) (sym (append-nil h.handed)) ∙ it.1, all it.0)))

  -- the sink wants no more, or refuses
  pub stops : (now : Held S) (ready : List CellRow) (begun : Option CellRow) (sink last : K) (r : Result Bool Cause) → IsHanding now ready begun sink → Hands Takes (λ _. ⊥) sink ready r last → (r ≡ Ok true → ⊥)
      → HandsTable g Takes IsStoreCause table first now start r last
  stops now ready begun sink last r h more cut =
      let bare = hands_both Takes IsStoreCause start sink last h.handed ready r (weaker _ _ _ _ h.taken) (weaker _ _ _ _ more) in
      either now (h.handed ++ ready) r last bare
      (λ clean.
      let it = rest_now now ready begun sink h clean in
      ((h.shown clean).same.0.was_open, (it.0, it.1, hands_longer Takes IsStoreCause start last (h.handed ++ ready) it.0 r cut bare)))

  -- all entries were shown, and the last row is handed on
  pub ends : (old now : Held S) (begun : Option CellRow) (sink last : K) (r : Result Bool Cause) → IsHanding old [] begun sink → (HasCleanDisk (state g now) → HasCleanDisk (state g old)) → ShowsOn g old now (Ok None)
      → Hands Takes (λ _. ⊥) sink (option_to_list begun) r last → HandsTable g Takes IsStoreCause table first now start r last
  ends old now begun sink last r h early shows more =
      let bare = hands_both Takes IsStoreCause start sink last h.handed (option_to_list begun) r (weaker _ _ _ _ h.taken) (weaker _ _ _ _ more) in
      either now (h.handed ++ option_to_list begun) r last bare
      (λ clean.
      let it = shows clean table first h.seen (h.shown (early clean)) in
      let rows : (h.handed ++ option_to_list begun) ++ [] ≡ tables_in g first table = append-nil _ ∙ ap (λ l. l ++ option_to_list begun) (sym (append-nil h.handed)) ∙ sym h.rows ∙ it.1 in
      (it.0.0.was_open, ([], rows, subst (λ l. Hands Takes IsStoreCause start l r last) (sym (append-nil _)) bare)))

  pub early : (old now : Held S) → Survives (state g old) (state g now) (λ _. ⊥) → HasCleanDisk (state g now) → HasCleanDisk (state g old)
  early old now s clean = omega (arith, s.clean)

  both : (old now : Held S) → Survives (state g first) (state g old) (λ _. ⊥) → Survives (state g old) (state g now) (λ _. ⊥) → Survives (state g first) (state g now) (λ _. ⊥)
  both old now s t = survives_then (state g first) (state g old) (state g now) _ _ (λ _. ⊥) (λ _ db none. none) (λ _ db none. none) s t

  -- the next entry can't be read
  pub refused_reads : {T : Type 0} (old now : Held S) (begun : Option CellRow) (sink : K) (e : Cause) (x : Result (Option Entry) Cause) (r : Result T Cause) → IsHanding old [] begun sink → Survives (state g old) (state g now) (λ _. ⊥)
      → (old.in_transaction ≡ false → now.in_transaction ≡ false) → ShowsOn g old now x → x ≡ Err e → r ≡ Err e → OnlyReads g first now r
  refused_reads old now begun sink e x r h s mode shows is told =
      let next : HasCleanDisk (state g now) → ShowsNext g table first old now h.seen (Err e) = λ clean. subst (ShowsNext g table first old now h.seen) is (shows clean table first h.seen (h.shown (early old now s clean))) in
      record {
        idle = mode h.idle;
        stays = λ clean. subst (λ y. OnOk y (IsTrue (state g first).is_open × IsTrue (state g now).is_open)) (sym told) tt;
        kept = λ clean live. (next clean).0 clean live;
        cause = λ clean fault. fault_later (state g first) (state g old) (state g now) (λ _. ⊥) h.survives (early old now s clean) s.counts ((next clean).1 (let both = sym told ∙ fault in cc));
        crash = no_crash now (both old now h.survives s);
      }

  -- the next entry was read, or there is none
  pub shown_reads : {T : Type 0} (old now : Held S) (begun : Option CellRow) (sink : K) (x : Result (Option Entry) Cause) (o : Option Entry) (r : Result T Cause) → IsHanding old [] begun sink → Survives (state g old) (state g now) (λ _. ⊥)
      → (old.in_transaction ≡ false → now.in_transaction ≡ false) → ShowsOn g old now x → x ≡ Ok o → (r ≡ Err cause.StoreFault → ⊥) → OnlyReads g first now r
  shown_reads old now begun sink x o r h s mode shows is own = same_reads now r (both old now h.survives s) (mode h.idle) (λ clean. go o (subst (ShowsNext g table first old now h.seen) is (shows clean table first h.seen (h.shown (early old now s clean))))) own
    where
      go : (o : Option Entry) → ShowsNext g table first old now h.seen (Ok o) → IsUnchanged (state g first) (state g now)
      go (Some e) it = it.same
      go None it = it.0

  -- nothing more is read
  pub handing_reads : {T : Type 0} (now : Held S) (ready : List CellRow) (begun : Option CellRow) (sink : K) (r : Result T Cause) → IsHanding now ready begun sink → (r ≡ Err cause.StoreFault → ⊥) → OnlyReads g first now r
  handing_reads now ready begun sink r h own = same_reads now r h.survives h.idle (λ clean. (h.shown clean).same) own

  -- the rows of an answer rise
  pub rises : {T : Type 0} (now : Held S) (r : Result T Cause) → IsCellStore (state g first) → OnlyReads g first now r → HasCleanDisk (state g now) → OnOk r (AreRows (tables_in g first table))
  rises now r store reads clean = go r (reads.stays clean)
    where
      was : HasCleanDisk (state g first)
      was = omega (arith, reads.crash.clean)

      go : {T : Type 0} (r : Result T Cause) → OnOk r (IsTrue (state g first).is_open × IsTrue (state g now).is_open) → OnOk r (AreRows (tables_in g first table))
      go (Ok x) stays = are_rows (state g first).now (store was stays.0) table
      go (Err e) stays = tt

-- ---- a sink that keeps each row

module _ {K : Type 0} (items : K → List CellRow) where
  abbrev pub KeepsEach : K → CellRow → Result Bool Cause → K → Type 0
  KeepsEach s row out t = MatchResult out (λ more. (more ≡ true) × (items t ≡ items s ++ row ∷ [])) (λ e. (e ≡ cause.OutOfMemory) × (items t ≡ items s))

  abbrev HasKept : K → List CellRow → Result Bool Cause → K → Type 0
  HasKept s rows r t = OnOk r (items t ≡ items s ++ rows) × IfErr r IsStoreCause

  has_kept : (s : K) (rows : List CellRow) (r : Result Bool Cause) (t : K) → Hands KeepsEach IsStoreCause s rows r t → HasKept s rows r t
  has_kept s [] r t h = go r h.0
    where
      go : (r : Result Bool Cause) → (r ≡ Ok true) ⊎ IsErrAnd r IsStoreCause → HasKept s [] r t
      go (Ok x) how = (ap items h.1 ∙ sym (append-nil (items s)), tt)
      go (Err e) (inl whole) = absurd (let x = whole in cc)
      go (Err e) (inr failed) = (tt, failed)
  has_kept s (a ∷ rest) r t (inl h) = go r h.0
    where
      go : (r : Result Bool Cause) → IsErrAnd r IsStoreCause → HasKept s (a ∷ rest) r t
      go (Ok x) failed = absurd failed
      go (Err e) failed = (tt, failed)
  has_kept s (a ∷ rest) r t (inr h) = go (λ m. has_kept m rest r t) h.0 h.1 h.2 h.3
    where
      go : ((m : K) → Hands KeepsEach IsStoreCause m rest r t → HasKept m rest r t) → (out : Result Bool Cause) (mid : K) → KeepsEach s a out mid → Follows (λ m. Hands KeepsEach IsStoreCause m rest r t) out mid r t → HasKept s (a ∷ rest) r t
      go next (Ok true) mid one f = let more = next mid f in (further r mid one.1 more.0, more.1)
        where
          further : (r : Result Bool Cause) (mid : K) → items mid ≡ items s ++ a ∷ [] → OnOk r (items t ≡ items mid ++ rest) → OnOk r (items t ≡ items s ++ a ∷ rest)
          further (Ok x) mid one h = h ∙ ap (λ l. l ++ rest) one ∙ append_assoc (items s) (a ∷ []) rest
          further (Err e) mid one h = tt
      go next (Ok false) mid one f = absurd (let x = one.0 in cc)
      go next (Err e) mid one f = subst (λ x. HasKept s (a ∷ rest) x t) (sym f.0) (tt, inl one.0)

  module _ {S : Type 0} (g : Ghosts S) (table : ℤ) (old new : Held S) (s t : K) where
    pub kept_table : (r : Result Bool Cause) (x : Bool) → r ≡ Ok x → items s ≡ [] → HandsTable g KeepsEach IsStoreCause table old new s r t → HasCleanDisk (state g new) → items t ≡ tables_in g old table
    kept_table r x is none h clean =
        let kept : items t ≡ items s ++ h.0 = subst (λ y. OnOk y (items t ≡ items s ++ h.0)) is (has_kept s h.0 r t h.2).0 in
        elim (h.1 clean) [
          | inl whole ↦ kept ∙ ap (λ l. l ++ h.0) none ∙ whole.1
          | inr failed ↦ absurd (true≢false (sym (subst IsErr is failed.0)))
        ]

    pub kept_err : (r : Result Bool Cause) (e : Cause) → r ≡ Err e → HandsTable g KeepsEach IsStoreCause table old new s r t → IsStoreCause e
    kept_err r e is h = subst (λ y. IfErr y IsStoreCause) is (has_kept s h.0 r t h.2).1

pub tells_of : (e : Cause) (old new : ℕ) → IsStoreCause e → (let r : Result Bool Cause = Err e in new ≡ faults_after r old) → TellsOf e old new
tells_of cause.OutOfMemory old new h is = is
tells_of cause.StoreFault old new h is = is
tells_of e old new (inl memory) is = absurd (let x = memory in cc)
tells_of e old new (inr fault) is = absurd (let x = fault in cc)

pub tells_err : {T : Type 0} (x : Result Bool Cause) (r : Result T Cause) (e : Cause) (old new : ℕ) → x ≡ Err e → r ≡ Err e → IsStoreCause e → new ≡ faults_after x old → Tells r old new
tells_err x r e old new is told why count = subst (λ y. Tells y old new) (sym told) (tells_of e old new why (subst (λ y. new ≡ faults_after y old) is count))
