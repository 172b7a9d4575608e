-- Examples of the definitions.
use Rattle.std.specs.Prelude.{◌≡◌, true, pos, negsuc, codes, [], ◌∷◌, Some, None, Ok, Err}
use Rattle.std.proofs.Common.{refl}
use Rattle.std.specs.Str.{is_utf8}
use Rattle.hex.specs.Hex.{encode_with, decode_pairs}
use Rattle.jpa_value.specs.declared.value.Value.{Value}
use Rattle.jpa_value.specs.declared.event.LifecycleEvent.{LifecycleEvent}
use Rattle.jpa_value.specs.declared.refusal.Argument.{Argument}
use Rattle.jpa_value.specs.declared.refusal.Cause.{Cause}
use Rattle.jpql_trees.specs.declared.tree.Language.{Language}
use Rattle.jpa_behaviour.specs.declared.Image.{Image}
use Rattle.jpa_behaviour.specs.declared.Heard.{Heard}
use Rattle.jpa_json.specs.declared.functions.make.Function.{Function}
use Rattle.jpa_json.specs.declared.functions.make.Make.{Make}
use Rattle.jpa_json.specs.declared.functions.make.Listener.{Listener}
use Rattle.jpa_json.specs.declared.functions.make.Converter.{Converter}
use Rattle.jpa_json.specs.functions.Functions.{assign, heard_by, column_by, attribute_by}
use Rattle.jpa_json.specs.functions.Sorts.{registered}

-- ---- listeners

abbrev seen : Image
seen = record {
  entity = codes "Person";
  event = LifecycleEvent.PreUpdate;
  values =
      (record { name = codes "name"; value = Value.Text (codes "Ada") })
      ∷ (record { name = codes "hits"; value = Value.Int (pos 6) })
      ∷ (record { name = codes "none"; value = Value.Null })
      ∷ (record { name = codes "most"; value = Value.Int (pos 9223372036854775807) }) ∷ [];
}

text_is_set : (is_text : is_utf8 (codes "A") ≡ true)
    → heard_by (Listener.SetText (record { attribute = codes "name"; value = codes "A"; is_text = is_text })) seen ≡ assign (codes "name") (Value.Text (codes "A"))
text_is_set is_text = refl

value_is_copied : heard_by (Listener.Copy (codes "name") (codes "nick")) seen ≡ assign (codes "nick") (Value.Text (codes "Ada"))
value_is_copied = refl

nothing_is_null : heard_by (Listener.Copy (codes "nobody") (codes "nick")) seen ≡ assign (codes "nick") Value.Null
nothing_is_null = refl

one_more : heard_by (Listener.Count (codes "hits")) seen ≡ assign (codes "hits") (Value.Int (pos 7))
one_more = refl

null_counts_as_zero : heard_by (Listener.Count (codes "none")) seen ≡ assign (codes "none") (Value.Int (pos 1))
null_counts_as_zero = refl

none_is_greater : heard_by (Listener.Count (codes "most")) seen ≡ Heard.Throw (codes "count")
none_is_greater = refl

no_integer : heard_by (Listener.Count (codes "name")) seen ≡ Heard.Throw (codes "count")
no_integer = refl

nobody_counts : heard_by (Listener.Count (codes "nobody")) seen ≡ Heard.Throw (codes "count")
nobody_counts = refl

value_is_there : heard_by (Listener.Require (codes "name")) seen ≡ Heard.Assign []
value_is_there = refl

null_is_required : heard_by (Listener.Require (codes "none")) seen ≡ Heard.Throw (codes "require none")
null_is_required = refl

nobody_is_required : heard_by (Listener.Require (codes "nobody")) seen ≡ Heard.Throw (codes "require nobody")
nobody_is_required = refl

nothing_is_noted : heard_by Listener.Note seen ≡ Heard.Assign []
nothing_is_noted = refl

-- ---- converters

one_is_flipped : column_by Converter.Flip (Value.Int (pos 1)) ≡ Some (Value.Int (negsuc 1))
one_is_flipped = refl

and_back : attribute_by Converter.Flip (Value.Int (negsuc 1)) ≡ Some (Value.Int (pos 1))
and_back = refl

no_text_is_flipped : column_by Converter.Flip (Value.Text (codes "1")) ≡ None
no_text_is_flipped = refl

-- Ada is 1, and 1 is Ada
abbrev table : Converter
table = Converter.Table (record {
  pairs =
      (record { attribute = Value.Text (codes "Ada"); column = Value.Int (pos 1) })
      ∷ (record { attribute = Value.Int (pos 1); column = Value.Text (codes "Ada") }) ∷ [];
  apart = refl;
})

ada_is_one : column_by table (Value.Text (codes "Ada")) ≡ Some (Value.Int (pos 1))
ada_is_one = refl

one_is_ada : attribute_by table (Value.Int (pos 1)) ≡ Some (Value.Text (codes "Ada"))
one_is_ada = refl

bob_is_nothing : column_by table (Value.Text (codes "Bob")) ≡ None
bob_is_nothing = refl

bytes_are_digits : column_by Converter.Hextext (Value.Bytes (10 ∷ 255 ∷ [])) ≡ Some (Value.Text (codes "0aff"))
unfolding encode_with
bytes_are_digits = refl

digits_are_bytes : attribute_by Converter.Hextext (Value.Text (codes "0aff")) ≡ Some (Value.Bytes (10 ∷ 255 ∷ []))
unfolding encode_with decode_pairs
digits_are_bytes = refl

upper_case_is_thrown : attribute_by Converter.Hextext (Value.Text (codes "0AFF")) ≡ None
unfolding encode_with decode_pairs
upper_case_is_thrown = refl

odd_length_is_thrown : attribute_by Converter.Hextext (Value.Text (codes "0af")) ≡ None
odd_length_is_thrown = refl

bytes_are_no_digits : attribute_by Converter.Hextext (Value.Bytes (10 ∷ [])) ≡ None
bytes_are_no_digits = refl

-- ---- names

abbrev note : Function
note = record { name = codes "x"; make = Make.Listener Listener.Note }

abbrev flip : Function
flip = record { name = codes "x"; make = Make.Converter Converter.Flip }

two_sorts : registered Language.Profile (note ∷ flip ∷ []) ≡ Ok (record {
  listeners = (record { name = codes "x"; what = Listener.Note }) ∷ [];
  converters = (record { name = codes "x"; what = Converter.Flip }) ∷ [];
  language = Language.Profile;
})
two_sorts = refl

a_second_name : registered Language.Profile (note ∷ flip ∷ note ∷ []) ≡ Err (Cause.IllegalArgument Argument.Second)
a_second_name = refl
