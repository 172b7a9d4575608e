-- Objects made one after the other.
use Rattle.std.proofs.Common.{◌≡◌, ◌∙◌, ap, sym, refl, ℕ, ◌+◌, ◌<◌, List, [], ◌∷◌, ◌++◌, map, drop, length, get_or, append_assoc, Ok, Err}
use Rattle.std.specs.Prelude.{Result}
use Rattle.std.proofs.lemmas.List.{drop_more}
use Rattle.jpa_value.specs.declared.refusal.Cause.{Cause}
use Rattle.jpa_value.specs.declared.value.Identity.{Identity}
use Rattle.jpa_model.specs.declared.unit.Member.{Member}
use Rattle.jpa_model.specs.declared.unit.PersistenceUnit.{PersistenceUnit}
use Rattle.jpa_stored.specs.declared.objects.stored.Stored.{Stored}
use Rattle.jpql_meaning.specs.declared.eval.datum.Datum.{Datum}
use Rattle.jpql_meaning.specs.plan.Bulk.{Throws, ◌and_then◌, all_assigned, each_assigned}
use Rattle.jpql_meaning.specs.plan.Paths.{Entry}
use Rattle.jpql_run.specs.Objects.{entry}
use Rattle.jpql_bulk.specs.bulk.Changes.{members_in, change_in}
use Rattle.jpql_bulk.specs.declared.bulk.update.Change.{Change}

module _ (m : PersistenceUnit) (throws : Throws) where
  -- what was made, then what is made of those that are left
  abbrev pub after : List Entry → List (Entry × List (Member × Datum)) → Result (List Entry) Cause
  after made rest = each_assigned m throws rest and_then λ more. Ok (made ++ more)

  joined : (made : List Entry) (e : Entry) (r : Result (List Entry) Cause)
      → ((r and_then λ more. Ok (e ∷ more)) and_then λ more. Ok (made ++ more)) ≡ (r and_then λ more. Ok ((made ++ e ∷ []) ++ more))
  joined made e (Ok more) = ap Ok (sym (append_assoc made (e ∷ []) more))
  joined made e (Err cause) = refl

  one_more : (made : List Entry) (p : Entry × List (Member × Datum)) (x : Stored) (rest : List (Entry × List (Member × Datum)))
      → all_assigned m throws (p.0).1 p.1 ≡ Ok x → after made (p ∷ rest) ≡ after (made ++ ((p.0).0, x) ∷ []) rest
  one_more made p x rest e =
      ap (λ (r : Result Stored Cause). (r and_then λ y. each_assigned m throws rest and_then λ more. Ok (((p.0).0, y) ∷ more)) and_then λ more. Ok (made ++ more)) e
      ∙ joined made ((p.0).0, x) (each_assigned m throws rest)

  pub made_more : (all : Result (List Entry) Cause) (made : List Entry) (xs : List Change) (i : ℕ) (c : Change) (x : Stored) (id : Identity)
      → i < length xs → c ≡ get_or xs i c → all_assigned m throws (entry c.object).1 (members_in c.members.items) ≡ Ok x → (entry c.object).0 ≡ id
      → all ≡ after made (map change_in (drop i xs)) → all ≡ after (made ++ (id, x) ∷ []) (map change_in (drop (i + 1) xs))
  made_more all made xs i c x id l is e k h =
      h ∙ ap (λ rest. after made (map change_in rest)) (drop_more xs i c l ∙ ap (λ z. z ∷ drop (i + 1) xs) (sym is))
      ∙ one_more made (change_in c) x (map change_in (drop (i + 1) xs)) e
      ∙ ap (λ (z : Identity). after (made ++ (z, x) ∷ []) (map change_in (drop (i + 1) xs))) k
