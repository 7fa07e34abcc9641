-- What loops over words keep.
use Rattle.std.proofs.lemmas.Bool.{and_cases, and_from, and_parts, cases_Bool, or_parts, true≢false}
use Rattle.std.proofs.Common.{◌≡◌, ◌∙◌, ◌+◌, ◌&&◌, ℕ, length, arith, Bool, true, false, List, [], ◌∷◌, refl, sym, ap}
use Rattle.std.proofs.Common.{ap₂, inl, inr, Option, Some, None, option_map, is_some, if◌then◌else◌}
use Rattle.std.specs.Prelude.{option_and_then}
use Rattle.std.specs.List.{after_first, before_first, list_all, position_or_len}
use Rattle.std.proofs.lemmas.List.{drop_all}
use Rattle.sbpl_job.specs.declared.words.Command.{Command}
use Rattle.sbpl_job.specs.Words.{WordParts, are_fit, is_equals, is_known, is_plain_word, joined_word, once, parts_after}
use Rattle.sbpl_job.specs.Words.{parts_in, setting_of, stands_once, with_given, with_plain}
use Rattle.sbpl_job.specs.declared.words.Setting.{Setting}
use Rattle.sbpl_job.specs.Jobs.{job_by}

-- words that are fit are known, and no setting stands twice
pub fit_parts : (c : Command) (words : List (List ℕ)) → are_fit c words ≡ true
    → (list_all (is_known c) words ≡ true) × (once c words ≡ true)
fit_parts c [] fit = (refl, refl)
fit_parts c (word ∷ words) fit =
    let both = and_parts (is_known c word && stands_once c word words) (are_fit c words) fit in
    let here = and_parts (is_known c word) (stands_once c word words) both.0 in
    let more = fit_parts c words both.1 in (
      and_from (is_known c word) (list_all (is_known c) words) here.0 more.0,
      and_from (stands_once c word words) (once c words) here.1 more.1,
    )

pub fit_from : (c : Command) (words : List (List ℕ)) → list_all (is_known c) words ≡ true → once c words ≡ true
    → are_fit c words ≡ true
fit_from c [] known single = refl
fit_from c (word ∷ words) known single =
    let k = and_parts (is_known c word) (list_all (is_known c) words) known in
    let s = and_parts (stands_once c word words) (once c words) single in
    and_from (is_known c word && stands_once c word words) (are_fit c words)
    (and_from (is_known c word) (stands_once c word words) k.0 s.0) (fit_from c words k.1 s.1)

-- a word that is neither plain nor a setting's name has no part
none_after : (c : Command) (words : List (List ℕ)) → ((s : Setting) → parts_after c (Some s) words ≡ None)
    → (o : Option Setting) → option_and_then (λ s. parts_after c (Some s) words) o ≡ None
none_after c words none (Some s) = none s
none_after c words none None = refl

no_setting : (c : Command) (words : List (List ℕ)) (o : Option Setting) → is_some o ≡ false
    → option_and_then (λ s. parts_after c (Some s) words) o ≡ None
no_setting c words (Some s) none = absurd (true≢false none)
no_setting c words None none = refl

pub unknown_is_none : (words : List (List ℕ)) (c : Command) (a : Option Setting) → list_all (is_known c) words ≡ false
    → parts_after c a words ≡ None
unknown_is_none [] c a unknown = absurd (true≢false unknown)
unknown_is_none (word ∷ words) c (Some s) unknown =
    elim (and_cases (is_known c word) (list_all (is_known c) words) unknown) [
      | inl here ↦
          ap (λ b. if b then option_map (with_given s word) (parts_after c None words) else None)
          (or_parts (is_plain_word word) (is_some (setting_of c word)) here).0
      | inr later ↦
          ap (λ (o : Option WordParts). if is_plain_word word then option_map (with_given s word) o else None)
          (unknown_is_none words c None later) ∙ either (is_plain_word word)
    ]
  where
    either : (b : Bool) → ◌≡◌ {A = Option WordParts} (if b then None else None) None
    either true = refl
    either false = refl
unknown_is_none (word ∷ words) c None unknown =
    elim (and_cases (is_known c word) (list_all (is_known c) words) unknown) [
      | inl here ↦ let both = or_parts (is_plain_word word) (is_some (setting_of c word)) here in
          ap (λ b. if b then option_map (with_plain word) (parts_after c None words) else option_and_then (λ s.
          parts_after c (Some s) words) (setting_of c word)) both.0 ∙ no_setting c words (setting_of c word) both.1
      | inr later ↦
          ap₂ (λ (o q : Option WordParts). if is_plain_word word then option_map (with_plain word) o else q)
          (unknown_is_none words c None later) (none_after c words (λ s. unknown_is_none words c (Some s) later)
          (setting_of c word)) ∙ either (is_plain_word word)
    ]
  where
    either : (b : Bool) → ◌≡◌ {A = Option WordParts} (if b then None else None) None
    either true = refl
    either false = refl

-- a word without '=' is no joined one
pub unjoined : (c : Command) (word : List ℕ) → position_or_len is_equals word ≡ length word → joined_word c word ≡ None
unjoined c word none =
    let rest : after_first is_equals word ≡ [] =
    drop_all (position_or_len is_equals word + 1) word (omega (arith, none)) in
    ap (λ (l : List ℕ). if is_some (setting_of c (before_first is_equals word)) && is_plain_word l
    then Some (before_first is_equals word, l) else None) rest
    ∙ neither (is_some (setting_of c (before_first is_equals word))) (before_first is_equals word)
  where
    neither : (b : Bool) (name : List ℕ)
        → ◌≡◌ {A = Option (List ℕ × List ℕ)} (if b && false then Some (name, []) else None) None
    neither true name = refl
    neither false name = refl

-- words that are not fit name no job
pub unfit_is_none : (c : Command) (words : List (List ℕ)) → are_fit c words ≡ false
    → option_and_then (job_by c) (parts_in c words) ≡ None
unfit_is_none c words unfit = ap (option_and_then (job_by c)) none
  where
    by_known : once c words ≡ true → parts_after c None words ≡ None
    by_known single = elim (cases_Bool (list_all (is_known c) words)) [
      | inl known ↦ absurd (true≢false (sym (fit_from c words known single) ∙ unfit))
      | inr unknown ↦ unknown_is_none words c None unknown
    ]

    none : parts_in c words ≡ None
    none = elim (cases_Bool (once c words)) [
      | inl single ↦ ap (λ b. if b then parts_after c None words else None) single ∙ by_known single
      | inr twice ↦ ap (λ b. if b then parts_after c None words else None) twice
    ]

-- of words that are fit no setting stands twice
pub fit_parts_in : (c : Command) (words : List (List ℕ)) → are_fit c words ≡ true
    → parts_in c words ≡ parts_after c None words
fit_parts_in c words fit = ap (λ b. if b then parts_after c None words else None) (fit_parts c words fit).1
