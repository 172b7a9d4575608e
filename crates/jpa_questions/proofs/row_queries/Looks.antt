-- Why a look fails, and what is made of its answer.
use Rattle.std.specs.Prelude.{◌≡◌, ◌⊎◌, ℕ, Result, Ok, Err, IfErr, IfOk, IsErrAnd, MatchResult}
use Rattle.std.proofs.Common.{refl, sym, ap, subst, ◌∙◌, inl, inr}
use Rattle.jpa_value.specs.declared.refusal.Cause.{Cause}
use Rattle.jpa_value.specs.declared.refusal.Cause.TheVariants as cause
use Rattle.jpa_rows.specs.declared.rows.reader.RowReader.{Ghosts}
use Rattle.jpa_rows.proofs.rows.Looks.{looks_alike}
use Rattle.jpa_rows.specs.rows.Faults.{IsStoreCause, faults_after}
use Rattle.jpa_questions.specs.row_queries.Unread.{IsDamage, IsReadingCause}
use Rattle.jpa_rows.specs.rows.Looks.{LooksOnly}

-- ---- causes that are no fault of the store

-- want of memory, damage or Overflow
abbrev pub IsOwnCause : Cause → Type 0
IsOwnCause c = (c ≡ Cause.OutOfMemory) ⊎ (IsDamage c ⊎ (c ≡ Cause.Overflow))

own_one : (A : Type 0) (e d : Cause) → e ≡ d → (n : ℕ) → faults_after {T = A} (Err d) n ≡ n → faults_after {T = A} (Err e) n ≡ n
own_one A e d is n same = subst (λ x. faults_after {T = A} (Err x) n ≡ n) (sym is) same

pub own_told : {A : Type 0} (r : Result A Cause) → IfErr r IsOwnCause → (n : ℕ) → faults_after r n ≡ n
own_told (Ok a) own n = refl
own_told {A = A} (Err e) (inl memory) n = own_one A e Cause.OutOfMemory memory n refl
own_told {A = A} (Err e) (inr (inl damage)) n = own_one A e (Cause.Damaged damage.0 damage.1) damage.2 n refl
own_told {A = A} (Err e) (inr (inr overflow)) n = own_one A e Cause.Overflow overflow n refl

pub if_err : {A : Type 0} {P Q : Cause → Type 0} (r : Result A Cause) → ((e : Cause) → P e → Q e) → IfErr r P → IfErr r Q
if_err (Ok a) go h = tt
if_err (Err e) go h = go e h

pub if_ok : {A : Type 0} {P Q : A → Type 0} (r : Result A Cause) → ((a : A) → P a → Q a) → IfOk r P → IfOk r Q
if_ok (Ok a) go h = go a h
if_ok (Err e) go h = tt

pub ok_any : {A : Type 0} {P : Type 0} (r : Result A Cause) → P → IfOk r (λ a. P)
ok_any (Ok a) h = h
ok_any (Err e) h = tt

pub ok_passed : {A : Type 0} (P : A → Type 0) (r : Result A Cause) (e : Cause) → IsErrAnd r (λ x. x ≡ e) → IfOk r P
ok_passed P (Ok a) e h = absurd h
ok_passed P (Err x) e h = tt

pub memory_own : (e : Cause) → e ≡ Cause.OutOfMemory → IsOwnCause e
memory_own e h = inl h

pub damage_own : (e : Cause) → (e ≡ Cause.OutOfMemory) ⊎ IsDamage e → IsOwnCause e
damage_own e (inl h) = inl h
damage_own e (inr h) = inr (inl h)

pub damage_reading : (e : Cause) → (e ≡ Cause.OutOfMemory) ⊎ IsDamage e → IsReadingCause e
damage_reading e (inl h) = inl (inl h)
damage_reading e (inr h) = inr h

pub memory_reading : (e : Cause) → e ≡ Cause.OutOfMemory → IsReadingCause e
memory_reading e h = inl (inl h)

pub store_reading : (e : Cause) → IsStoreCause e → IsReadingCause e
store_reading e h = inl h

pub memory_store : (e : Cause) → e ≡ Cause.OutOfMemory → IsStoreCause e
memory_store e h = inl h

-- ---- a look, and what is made of its answer

module _ {S : Type 0} (store : Ghosts S) {A B : Type 0} (old new : S) where
  -- its answer is gone on with, and what comes is no fault
  pub looks_own : (a : A) (first : Result A Cause) (r : Result B Cause) → first ≡ Ok a → LooksOnly store first old new → IfErr r IsOwnCause → LooksOnly store r old new
  looks_own a first r is h own = looks_alike store first r old new (λ n. own_told r own n ∙ sym (ap (λ s. faults_after s n) is)) h

  -- its refusal is passed on
  pub looks_passed : (e : Cause) (first : Result A Cause) (r : Result B Cause) → first ≡ Err e → r ≡ Err e → LooksOnly store first old new → LooksOnly store r old new
  looks_passed e first r is same h = looks_alike store first r old new (λ n. ap (λ s. faults_after s n) same ∙ again n ∙ sym (ap (λ s. faults_after s n) is)) h
    where
      again : (n : ℕ) → faults_after {T = B} (Err e) n ≡ faults_after {T = A} (Err e) n
      again n = alike e
        where
          alike : (e : Cause) → faults_after {T = B} (Err e) n ≡ faults_after {T = A} (Err e) n
          alike cause.StoreFault = refl
          alike _ = refl

-- ---- refusals that are passed on

pub err_is : {A : Type 0} (r : Result A Cause) (e : Cause) → IsErrAnd r (λ x. x ≡ e) → r ≡ Err e
err_is (Ok a) e h = absurd h
err_is (Err x) e h = ap Err h

module _ {A : Type 0} (Q : Cause → Type 0) where
  pub match_err : (P : A → Type 0) (r : Result A Cause) (e : Cause) → IsErrAnd r (λ x. x ≡ e) → Q e → MatchResult r P Q
  match_err P r e is q = subst (λ (s : Result A Cause). MatchResult s P Q) (sym (err_is r e is)) q

  pub if_passed : (r : Result A Cause) (e : Cause) → IsErrAnd r (λ x. x ≡ e) → Q e → IfErr r Q
  if_passed r e is q = subst (λ (s : Result A Cause). IfErr s Q) (sym (err_is r e is)) q

  pub match_weak : (P : A → Type 0) (r : Result A Cause) → MatchResult r P Q → IfErr r Q
  match_weak P (Ok a) h = tt
  match_weak P (Err e) h = h
