use Rattle.std.proofs.Common.{◌∙◌, inl, ap, sym, map, option_map}
use Rattle.std.specs.String.{string_bytes}
use Rattle.clap.specs.Words.{takes}
use Rattle.jpa_lines.proofs.settings.settings.read_settings.Goals as goal
use Rattle.jpa_lines.proofs.settings.Found.{accepted_words, as_said, lack_read, some_is_none, told_lack, told_words}

pub returns-in-Err-try_get_matches_from-clause-taken :
    goal.returns-in-Err-try_get_matches_from-clause-taken
returns-in-Err-try_get_matches_from-clause-taken c = λ taken whole. c.stop_of.ensures.memory (c.in-Err-try_get_matches_from.ensures.passes (ap (λ a. takes a (map string_bytes c.args.words.now)) c.in-Ok.ensures ∙ taken))

pub returns-in-Err-try_get_matches_from-clause-told :
    goal.returns-in-Err-try_get_matches_from-clause-told
returns-in-Err-try_get_matches_from-clause-told c =
    inl (told_words _ (map string_bytes c.args.words.now) c.in-Err-try_get_matches_from.error c.stop_of.result c.in-Ok.ensures c.in-Err-try_get_matches_from.ensures.kinds c.stop_of.ensures.memory c.stop_of.ensures.told)

pub returns-in-None-clause-said : goal.returns-in-None-clause-said
returns-in-None-clause-said c =
    let s = c.in_ok-settings-in-Ok-try_get_matches_from in
    as_said _ _ _ s.settings c.in-Ok.ensures c.in-Ok-try_get_matches_from.ensures.matches s.ensures.found

pub returns-in-None-clause-accepted : goal.returns-in-None-clause-accepted
returns-in-None-clause-accepted c =
    let s = c.in_ok-settings-in-Ok-try_get_matches_from in
    let lack = lack_read _ _ _ s.settings c.in-Ok.ensures c.in-Ok-try_get_matches_from.ensures.matches s.ensures.found in
    record {
      faultless = accepted_words _ (map string_bytes c.args.words.now) c.in-Ok.ensures c.in-Ok-try_get_matches_from.ensures.kinds;
      whole = sym lack ∙ sym c.lacking.ensures ∙ ap (option_map (λ v. v.now)) c.in-None.is;
    }

pub returns-in-Some-clause-told : goal.returns-in-Some-clause-told
returns-in-Some-clause-told c =
    let s = c.in_ok-settings-in-Ok-try_get_matches_from in
    let lack = lack_read _ _ _ s.settings c.in-Ok.ensures c.in-Ok-try_get_matches_from.ensures.matches s.ensures.found in
    let faultless = accepted_words _ (map string_bytes c.args.words.now) c.in-Ok.ensures c.in-Ok-try_get_matches_from.ensures.kinds in
    let lacks = sym lack ∙ sym c.lacking.ensures ∙ ap (option_map (λ v. v.now)) c.in-Some.is in
    told_lack (map string_bytes c.args.words.now) c.in-Some.said.now c.refused.result faultless lacks c.refused.ensures

pub returns-in-Some-clause-taken : goal.returns-in-Some-clause-taken
returns-in-Some-clause-taken c taken whole =
    let s = c.in_ok-settings-in-Ok-try_get_matches_from in
    let lack = lack_read _ _ _ s.settings c.in-Ok.ensures c.in-Ok-try_get_matches_from.ensures.matches s.ensures.found in
    let lacks = sym lack ∙ sym c.lacking.ensures ∙ ap (option_map (λ v. v.now)) c.in-Some.is in
    absurd (some_is_none _ (sym lacks ∙ whole))
