-- What is read first and what is read after it.
use Rattle.std.specs.Prelude.{◌≡◌, ℕ, ◌+◌, List, ◌++◌, Option, Some, None}
use Rattle.std.proofs.Common.{refl, ap}
use Rattle.std.proofs.lemmas.Option.{none-some}
use Rattle.jpa_rows.specs.keys.Reading.{joined}

pub some_parts : {A B : Type 0} (x y : A × B) → Some x ≡ Some y → (x.0 ≡ y.0) × (x.1 ≡ y.1)
some_parts {A} {B} x y e = let same : x ≡ y = cc in (ap (λ (p : A × B). p.0) same, ap (λ (p : A × B). p.1) same)

-- what was read after the front
pub record Joined {A : Type 0} (front : List A) (count : ℕ) (later : Option (List A × ℕ)) (all : List A) (total : ℕ) : Type 0 where
  pub rest : List A
  pub more : ℕ
  pub was : later ≡ Some (rest, more)
  pub items : front ++ rest ≡ all
  pub sum : count + more ≡ total

pub joined_some : {A : Type 0} (front : List A) (count : ℕ) (later : Option (List A × ℕ)) (all : List A) (total : ℕ) → joined front count later ≡ Some (all, total) → Joined front count later all total
joined_some front count None all total e = absurd (none-some _ e)
joined_some {A} front count (Some read) all total e =
    let same = some_parts {A = List A} {B = ℕ} (front ++ read.0, count + read.1) (all, total) e in
    record { rest = read.0; more = read.1; was = refl; items = same.0; sum = same.1 }
