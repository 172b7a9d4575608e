-- What is found is the only thing with a property.
use Rattle.std.specs.Prelude.{◌≡◌, Option, Some, None, option_map}
use Rattle.std.proofs.Common.{refl, sym, ap, subst, ◌∙◌}
use Rattle.jpa_rows.proofs.laws.Facts.{value_in, some_none}
use Rattle.jpa_rows.specs.rows.Spellings.{Finds}

pub nothing_found : {A : Type 0} (P : A → Type 0) → ((a : A) → P a → ⊥) → Finds P None
nothing_found P none a = (λ e. absurd (some_none a (sym e)), λ p. absurd (none a p))

pub one_found : {A : Type 0} (P : A → Type 0) (x : A) → P x → ((a : A) → P a → x ≡ a) → Finds P (Some x)
one_found P x p one a = (λ e. subst P (value_in x a e) p, λ q. ap Some (one a q))

-- what it is, where something is found
pub found_is : {A : Type 0} (P : A → Type 0) (x : A) → Finds P (Some x) → P x
found_is P x found = (found x).0 refl

pub none_is : {A : Type 0} (P : A → Type 0) (a : A) → Finds P None → P a → ⊥
none_is P a found p = some_none a (sym ((found a).1 p))

pub only_found : {A : Type 0} (P : A → Type 0) (x a : A) → Finds P (Some x) → P a → x ≡ a
only_found P x a found p = value_in x a ((found a).1 p)

-- what f makes of what is found
pub found_map : {A B : Type 0} (P : A → Type 0) (Q : B → Type 0) (f : A → B) (found : Option A) → ((a : A) → P a → Q (f a)) → ((b : B) → Q b → (a : A) × (P a × (f a ≡ b))) → Finds P found → Finds Q (option_map f found)
found_map P Q f None to back h = nothing_found Q (λ b q. let w = back b q in none_is P w.0 h (w.1).0)
found_map P Q f (Some x) to back h =
    one_found Q (f x) (to x (found_is P x h)) (λ b q. let w = back b q in ap f (only_found P x w.0 h (w.1).0) ∙ (w.1).1)
