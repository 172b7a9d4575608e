-- What is to stand under identities, put into a set: worked examples.
use Rattle.std.specs.Prelude.{◌≡◌, ℕ, pos, [], ◌∷◌, Some, None}
use Rattle.std.proofs.Common.{refl}
use Rattle.jpa_value.specs.declared.value.Identity.{Identity}
use Rattle.jpa_value.specs.declared.value.Value.{Value}
use Rattle.jpa_stored.specs.declared.objects.stored.Stored.{Stored}
use Rattle.jpa_stored.specs.objects.Sets.{StoredSet}
use Rattle.jpa_object_rows.specs.store.Written.{entries_of, set_after}

numbered : ℕ → Identity
numbered n = record { table = 1; key = Value.Int (pos n) ∷ [] }

module _ (ada grace edith new : Stored) where
  three : StoredSet
  three = (numbered 1, ada) ∷ (numbered 2, grace) ∷ (numbered 3, edith) ∷ []

  -- one goes, one is replaced, one comes
  one_goes : set_after ((numbered 2, None) ∷ (numbered 3, Some new) ∷ (numbered 4, Some ada) ∷ []) three ≡ (numbered 1, ada) ∷ (numbered 3, new) ∷ (numbered 4, ada) ∷ []
  unfolding numbered three
  one_goes = refl

  -- the order of the changes is no matter, nor is one that takes out what is not there
  turned : set_after ((numbered 4, Some ada) ∷ (numbered 5, None) ∷ (numbered 3, Some new) ∷ (numbered 2, None) ∷ []) three ≡ (numbered 1, ada) ∷ (numbered 3, new) ∷ (numbered 4, ada) ∷ []
  unfolding numbered three
  turned = refl

  -- all go
  none_stays : set_after ((numbered 1, None) ∷ (numbered 2, None) ∷ (numbered 3, None) ∷ []) three ≡ []
  unfolding numbered three
  none_stays = refl

  nothing_changes : set_after [] three ≡ three
  unfolding three
  nothing_changes = refl

  -- what a transaction sees under the identities that it wrote or removed: one goes, one comes, one is written as it was
  seen : StoredSet
  seen = (numbered 1, ada) ∷ (numbered 3, edith) ∷ (numbered 4, new) ∷ []

  becomes_seen : set_after (entries_of seen (numbered 1 ∷ numbered 2 ∷ numbered 4 ∷ [])) three ≡ seen
  unfolding numbered three seen
  becomes_seen = refl
