-- A list is read item by item.
use Rattle.std.proofs.Common.{◌≡◌, ℕ, suc, ◌+◌, ◌<◌, ◌≤◌, List, [], ◌∷◌, ◌++◌, length, get_or, drop, Option, Some, None, refl, sym, ap, ◌∙◌, append_assoc, append-nil, add-one, drop-cons}
use Rattle.std.proofs.lemmas.List.{drop_all}
use Rattle.serde_json.specs.Data.{Data, Items, item}
use Rattle.serde_json.specs.View.{view, items_view}
use Rattle.serde_json.specs.declared.value.Value.{Value}
use Rattle.jpa_json.specs.readers.Members.{each}
use Rattle.jpa_json.specs.readers.Outcome.{◌>>=◌, Fails}
use Rattle.jpa_json.specs.declared.readers.unread.Unread.{Unread}

-- those read so far, and then those still to come
abbrev pub with_front : {A : Type 0} → List A → Option (List A) → Option (List A)
with_front front (Some xs) = Some (front ++ xs)
with_front front None = None

bind_front : {A : Type 0} (front : List A) (x : A) (o : Option (List A)) → with_front front (o >>= λ xs. Some (x ∷ xs)) ≡ with_front (front ++ x ∷ []) o
bind_front front x (Some xs) = ap Some (sym (append_assoc front (x ∷ []) xs))
bind_front front x None = refl

one_more : {A : Type 0} (meaning : Data → Option A) (front : List A) (d : Data) (ds : Items) (x : A) → meaning d ≡ Some x → with_front front (each meaning (item d ds)) ≡ with_front (front ++ x ∷ []) (each meaning ds)
one_more meaning front d ds x e = rw e (bind_front front x (each meaning ds))

none_more : {A : Type 0} (meaning : Data → Option A) (front : List A) (d : Data) (ds : Items) → meaning d ≡ None → with_front front (each meaning (item d ds)) ≡ None
none_more meaning front d ds e = rw e refl

-- a whole fails as its part
through : {A B : Type 0} (unread : Unread) (part : Option A) (whole : Option B) → (part ≡ None → whole ≡ None) → Fails unread part → Fails unread whole
through Unread.OutOfMemory part whole none h = tt
through Unread.Form part whole none h = none h

split_at : (vs : List Value) (i : ℕ) (v : Value) → i < length vs → v ≡ get_or vs i v → items_view (drop i vs) ≡ item (view v) (items_view (drop (i + 1) vs))
split_at vs i v h is = rw (add-one, drop-cons vs i v) (ap (λ u. item (view u) (items_view (drop (suc i) vs))) (sym is))

-- the next item is x
pub item_read : {A : Type 0} (meaning : Data → Option A) (vs : List Value) (i : ℕ) (v : Value) (front : List A) (x : A) → i < length vs → v ≡ get_or vs i v → meaning (view v) ≡ Some x
    → with_front front (each meaning (items_view (drop i vs))) ≡ with_front (front ++ x ∷ []) (each meaning (items_view (drop (i + 1) vs)))
item_read meaning vs i v front x h is e = ap (λ ds. with_front front (each meaning ds)) (split_at vs i v h is) ∙ one_more meaning front _ _ x e

-- the next item is of another form
pub item_refused : {A : Type 0} (meaning : Data → Option A) (vs : List Value) (i : ℕ) (v : Value) (front : List A) (unread : Unread) → i < length vs → v ≡ get_or vs i v → Fails unread (meaning (view v))
    → Fails unread (with_front front (each meaning (items_view (drop i vs))))
item_refused meaning vs i v front unread h is e = rw (split_at vs i v h is) (through unread (meaning (view v)) _ (none_more meaning front _ _) e)

-- no item is left
pub items_end : {A : Type 0} (meaning : Data → Option A) (vs : List Value) (i : ℕ) (front : List A) → length vs ≤ i → with_front front (each meaning (items_view (drop i vs))) ≡ Some front
items_end meaning vs i front h = rw (drop_all i vs h) (ap Some (append-nil front))
