-- What is found of an option is what the words give it, and what an error tells is the one fault of the words.
use Rattle.std.proofs.Common.{◌≡◌, ◌∙◌, ◌⊎◌, inl, inr, ap, refl, sym, subst, true, List, [], ◌∷◌, Option, Some, None, option_map, unwrap_or, codes}
use Rattle.clap.specs.Words.{App, HasKind, HasMatchesOf, IsAmong, Text, all_of, fault_of, first_of, first_value, found_of, is_simple, is_simple_and_free, kind_of, matched_of, matches_of, raw_values}
use Rattle.clap.specs.declared.error.Error.{Error}
use Rattle.clap.specs.declared.error.kind.ErrorKind.{ErrorKind}
use Rattle.clap.specs.declared.error.kind.ErrorKind.TheVariants.{OutOfMemory}
use Rattle.clap.specs.declared.parser.matches.ArgMatches.{ArgMatches}
use Rattle.clap.proofs.WalkLemmas.{first_value-rows, raw_values-rows}
use Rattle.clap.proofs.OnLiterals.{clap_on_literals}
use Rattle.jpa_value.specs.declared.refusal.Cause.{Cause}
use Rattle.jpa_value.specs.declared.refusal.Refusal.{Refusal}
use Rattle.jpa_lines.specs.declared.settings.stop.Stop.{Stop}
use Rattle.jpa_lines.specs.settings.Words.{SaysWords, Tells, TellsOf, command, found, is_set, lack_of, lacking, said, value_of, values_of}
use Rattle.jpa_lines.specs.declared.settings.settings.Settings.{Settings}
use Rattle.jpa_lines.proofs.settings.OneFault.{one_fault}

simple : is_simple command ≡ true
unfolding clap_on_literals
simple = refl

free : is_simple_and_free command ≡ true
unfolding clap_on_literals
free = refl

value_read : (c : App) (words : List Text) (m : ArgMatches) (name : Text) → c ≡ command → HasMatchesOf c words m → first_value (found_of m) name ≡ value_of name words
value_read c words m name is h = first_value-rows (found_of m) name ∙ ap (first_of name) ((h (ap is_simple is ∙ simple)).0 ∙ ap (λ a. matches_of a words) is)

values_read : (c : App) (words : List Text) (m : ArgMatches) (name : Text) → c ≡ command → HasMatchesOf c words m
    → unwrap_or (option_map raw_values (matched_of (found_of m) name)) [] ≡ values_of name words
values_read c words m name is h =
    ap (λ (o : Option (List Text)). unwrap_or o [])
    (raw_values-rows (found_of m) name ∙ ap (all_of name) ((h (ap is_simple is ∙ simple)).0 ∙ ap (λ a. matches_of a words) is))

pub accepted_words : (c : App) (words : List Text) → c ≡ command → (is_simple_and_free c ≡ true → fault_of c words ≡ []) → fault_of command words ≡ []
accepted_words c words is none = sym (ap (λ a. fault_of a words) is) ∙ none (ap is_simple_and_free is ∙ free)

-- an error is for want of memory, or its kind is the one fault
told : (words : List Text) (kind : ErrorKind) (stop : Stop) → (kind ≡ OutOfMemory) ⊎ IsAmong kind (fault_of command words)
    → (kind ≡ OutOfMemory → stop ≡ Stop.Refused (Refusal.Because Cause.OutOfMemory)) → Tells (kind ∷ []) stop → Tells (fault_of command words) stop
told words kind stop (inl lacks) memory tells = subst (Tells (fault_of command words)) (sym (memory lacks)) refl
told words kind stop (inr among) memory tells = subst (λ faults. Tells faults stop) (sym (one_fault command words kind refl refl among)) tells

pub told_words : (c : App) (words : List Text) (error : Error) (stop : Stop) → c ≡ command → (is_simple_and_free c ≡ true → HasKind (fault_of c words) error)
    → (kind_of error ≡ OutOfMemory → stop ≡ Stop.Refused (Refusal.Because Cause.OutOfMemory)) → Tells (kind_of error ∷ []) stop → Tells (fault_of command words) stop
told_words c words error stop is kinds memory tells =
    let has : HasKind (fault_of command words) error = subst (λ a. HasKind (fault_of a words) error) is (kinds (ap is_simple_and_free is ∙ free)) in
    told words (kind_of error) stop has memory tells

-- ---- what is found of all options

module _ (c : App) (words : List Text) (m : ArgMatches) (s : Settings) (is : c ≡ command) (h : HasMatchesOf c words m) (e : s ≡ found m) where
  pub as_said : s ≡ said words
  as_said = e ∙ (λ i. record {
    mapping = value_read c words m (codes "mapping") is h i;
    db = value_read c words m (codes "db") is h i;
    query = value_read c words m (codes "query") is h i;
    params = values_read c words m (codes "param") is h i;
    explain = is_set (value_read c words m (codes "explain") is h i);
    indexes = values_read c words m (codes "index") is h i;
    language = value_read c words m (codes "language") is h i;
    grammar = is_set (value_read c words m (codes "grammar") is h i);
  })

  -- what the settings lack is what the words lack
  pub lack_read : lacking s ≡ lack_of words
  lack_read = ap lacking as_said

-- words that lack an option are refused in these words, or for want of memory
pub told_lack : (words : List Text) (said : Text) (stop : Stop) → fault_of command words ≡ [] → lack_of words ≡ Some said
    → (stop ≡ Stop.Refused (Refusal.Because Cause.OutOfMemory)) ⊎ SaysWords said stop → TellsOf words stop
told_lack words said stop faultless lacks (inl memory) = inl (subst (Tells (fault_of command words)) (sym memory) refl)
told_lack words said stop faultless lacks (inr says) = inr (faultless, (said, lacks, says))

pub some_is_none : {A : Type 0} (x : A) → Some x ≡ None → ⊥
some_is_none x e = cc
