-- Which objects of a context a flush looks at: those that are marked. What is not marked is as it
-- was last loaded or written (Jakarta Persistence 3.1, chapter 3.2.4).
use Rattle.std.specs.Prelude.{◌≡◌, ℕ, Bool, true, false, not, ◌==◌, ◌&&◌, ◌||◌, List, []}
use Rattle.std.specs.List.{list_any}
use Rattle.jpa_work.specs.declared.context.Entry.{Entry}

-- each object is, or these; and whether the others lead to what is managed, or stored where no
-- cascade persists it
pub record Marks : Type 0 where
  pub all : Bool
  pub linked : Bool
  pub objects : List ℕ

-- whether an object is among these
abbrev pub is_listed : List ℕ → ℕ → Bool
is_listed objects n = list_any (λ m. m == n) objects

-- whether an object is marked: all are, or it is listed
abbrev pub is_marked : Marks → ℕ → Bool
is_marked k n = k.all || is_listed k.objects n

-- each is, and where they lead is not known
abbrev pub all_marked : Marks
all_marked = record { all = true; linked = false; objects = [] }

-- none is
abbrev pub none_marked : Marks
none_marked = record { all = false; linked = true; objects = [] }

-- one object more
pub record Marked (n : ℕ) (old new : Marks) : Type 0 where
  pub all : new.all ≡ old.all
  pub linked : new.linked ≡ old.linked
  pub objects : (k : ℕ) → is_listed new.objects k ≡ (n == k || is_listed old.objects k)

-- one object less
pub record Unmarked (n : ℕ) (old new : Marks) : Type 0 where
  pub all : new.all ≡ old.all
  pub linked : new.linked ≡ old.linked
  pub objects : (k : ℕ) → is_listed new.objects k ≡ (not (n == k) && is_listed old.objects k)

-- a context: its entries now, what undoing gives, and the marks
pub record Entries : Type 0 where
  pub now : List Entry
  pub since : List Entry
  pub marks : Marks
