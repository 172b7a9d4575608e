-- An object that is as its base says has no lock that a commit asks about.
use Rattle.std.proofs.Common.{◌≡◌, ℕ, true, not, List, get_or, refl, ap}
use Rattle.std.specs.Prelude.{◌&&◌, ◌||◌}
use Rattle.std.proofs.lemmas.Bool.{false≢true}
use Rattle.jpa_model.specs.declared.unit.PersistenceUnit.{PersistenceUnit}
use Rattle.jpa_work.specs.declared.context.Entry.{Entry}
use Rattle.jpa_work.specs.declared.context.Lock.{Lock}
use Rattle.jpa_work.specs.context.Work.{Work, is_managed, state_of}
use Rattle.jpa_flush.specs.flush.Flush.{base_is_row, is_read_lock, read_holds}
use Rattle.jpa_flush.specs.flush.Marked.{AreLooked, UntouchedAreCalm, is_calm, is_unlocked}
use Rattle.jpa_flush.proofs.flush.Silent.{calm_parts}

no_lock : (l : Lock) → is_unlocked l ≡ true → l ≡ Lock.Unlocked
no_lock Lock.Unlocked h = refl
no_lock Lock.Read h = absurd (false≢true h)
no_lock Lock.Write h = absurd (false≢true h)

pub calm_unlocked : (m : PersistenceUnit) (w : Work) (e : Entry) → is_calm m w e ≡ true → e.lock ≡ Lock.Unlocked
calm_unlocked m w e h = no_lock e.lock (calm_parts m w e h).unlocked

calm_reads : (m : PersistenceUnit) (w : Work) (e : Entry) → is_calm m w e ≡ true → read_holds m w e ≡ true
calm_reads m w e h = ap (λ l. not (is_read_lock l && is_managed (state_of w e.object)) || base_is_row m w e e.base) (calm_unlocked m w e h)

-- where entries elsewhere are as their bases say, what they read under a lock holds
pub reads_looked : (m : PersistenceUnit) (w : Work) (es : List Entry) (places : List ℕ) → AreLooked (λ e. is_calm m w e ≡ true) es places → AreLooked (λ e. read_holds m w e ≡ true) es places
reads_looked m w es places looked =
    record {
      rising = looked.rising;
      others = λ k d l apart. calm_reads m w (get_or es k d) (looked.others k d l apart);
    }

pub untouched_calm : UntouchedAreCalm
untouched_calm m w linked es places looked =
    record {
      rising = looked.rising;
      others = λ k d l apart. (looked.others k d l apart).calm;
    }
