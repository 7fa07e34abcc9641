-- The values that clap finds are those of the parts.
use Rattle.std.proofs.Common.{◌≡◌, ◌≢◌, ◌∙◌, ◌<◌, ◌≤◌, ◌+◌, ◌&&◌, ◌||◌, ◌⊎◌, ◌↔◌, ℕ, Bool, true, false, not, zero, suc}
use Rattle.std.proofs.Common.{refl, sym, ap, ap₂, subst, arith, inl, inr, List, [], ◌∷◌, length, map, Option, Some}
use Rattle.std.proofs.Common.{None, Err, option_map, is_some, codes, if◌then◌else◌}
use Rattle.std.specs.Prelude.{find, fold, option_and_then}
use Rattle.std.specs.List.{list_all, list_any}
use Rattle.std.specs.Option.{option_map_or}
use Rattle.std.specs.Str.{bytes_eq}
use Rattle.std.proofs.lemmas.Bool.{and_parts, cases_Bool, true≢false}
use Rattle.clap.specs.Walk.{Row, Rule, Text, default_rows, finished, first_of, has_row, idle, is_empty, nothing_held}
use Rattle.clap.specs.Walk.{reading_by, rows_of, settled, walked, with_default}
use Rattle.clap.specs.Takes.{is_given}
use Rattle.clap.specs.Kinds.{IsAmong, Kinds, or_else}
use Rattle.clap.specs.declared.error.kind.ErrorKind.{ErrorKind}
use Rattle.clap.specs.declared.error.kind.ErrorKind.TheVariants.{OutOfMemory}
use Rattle.sbpl_job.specs.declared.job.JobFault.{JobFault}
use Rattle.sbpl_job.specs.declared.job.JobFault.TheVariants as fault
use Rattle.sbpl_job.proofs.Spacing.{fit_parts}
use Rattle.clap.specs.Faults.{check_fault, default_fault, defaults_fault, entered_fault, fault_of, is_simple_and_free}
use Rattle.clap.specs.Faults.{given_default_fault, level_fault, settle_fault, walk_fault}
use Rattle.clap.specs.Simple.{App, HasMatchesOf, built, entered, is_simple, matches_of}
use Rattle.clap.specs.Matches.{first_value, found_of}
use Rattle.clap.specs.declared.parser.matches.ArgMatches.{ArgMatches}
use Rattle.clap.specs.declared.parser.matches.Found.{Found}
use Rattle.clap.proofs.WalkLemmas.{first_value-rows}
use Rattle.clap.proofs.SimpleLemmas.{is_nil}
use Rattle.sbpl_job.specs.declared.words.Command.{Command}
use Rattle.sbpl_job.specs.declared.words.Command.TheVariants as command
use Rattle.sbpl_job.specs.declared.words.Setting.{Setting}
use Rattle.sbpl_job.specs.Words.{WordParts, are_fit, id_of, is_known, is_plain_word, once, parts_after, setting_of}
use Rattle.sbpl_job.specs.Words.{value_of, with_given, with_plain}
use Rattle.sbpl_job.specs.Lines.{app, plain_id, rules}
use Rattle.sbpl_job.specs.Found.{FindsParts, IsFound, word_at}
use Rattle.sbpl_job.specs.Jobs.{Settings, job_by, job_with}
use Rattle.sbpl_job.proofs.Finding.{Uses, Walks, after_name, after_plain, at, bytes_apart, has_no_place, has_place}
use Rattle.sbpl_job.proofs.Finding.{places, plain_from_setting, plains_apart, row_of_use, settles_none, shape}
use Rattle.sbpl_job.proofs.Finding.{some_is, uses, walks}

-- ---- the uses and the parts

-- the value of the first use of an argument
abbrev pub lookup : Text → Uses → Option Text
lookup id [] = None
lookup id (u ∷ us) = if bytes_eq u.0 id then Some u.1 else lookup id us

-- the uses hold what the parts hold, where the plain words begin with number k
pub record Agrees (c : Command) (k : ℕ) (parts : Option WordParts) (us : Uses) : Type 0 where
  pub p : WordParts
  pub parts_are : parts ≡ Some p
  pub settings : (s : Setting) → lookup (id_of s) us ≡ value_of s p.given
  pub plains : (j : ℕ) (id : Text) → plain_id c (k + j) ≡ Some id → lookup id us ≡ word_at p.plain j
  pub ends : (j : ℕ) → plain_id c (k + j) ≡ None → word_at p.plain j ≡ None

-- a plain word stands where the command takes none
abbrev pub IsLong : Command → ℕ → WordParts → Type 0
IsLong c k p = (j : ℕ) × (plain_id c (k + j) ≡ None) × (is_some (word_at p.plain j) ≡ true)

abbrev pub Reads : Command → ℕ → Option WordParts → Option Uses → Type 0
Reads c k parts (Some us) = Agrees c k parts us
Reads c k parts None = (p : WordParts) → parts ≡ Some p → IsLong c k p

no_parts_are : (c : Command) (k : ℕ) → Reads c k None None
no_parts_are c k = λ p e. absurd (none_is p e)
  where
    none_is : (p : WordParts) → None ≡ Some p → ⊥
    none_is p e = cc

at_zero : (c : Command) (k : ℕ) (o : Option Text) → plain_id c k ≡ o → plain_id c (k + 0) ≡ o
at_zero c k o is = ap (plain_id c) (let e : k + 0 ≡ k = omega arith in e) ∙ is

from_zero : (c : Command) (k : ℕ) (o : Option Text) → plain_id c (k + 0) ≡ o → plain_id c k ≡ o
from_zero c k o is = ap (plain_id c) (let e : k ≡ k + 0 = omega arith in e) ∙ is

one_on : (c : Command) (k j : ℕ) (o : Option Text) → plain_id c (k + suc j) ≡ o → plain_id c (k + 1 + j) ≡ o
one_on c k j o is = ap (plain_id c) (let e : k + 1 + j ≡ k + suc j = omega arith in e) ∙ is

one_back : (c : Command) (k j : ℕ) (o : Option Text) → plain_id c (k + 1 + j) ≡ o → plain_id c (k + suc j) ≡ o
one_back c k j o is = ap (plain_id c) (let e : k + suc j ≡ k + 1 + j = omega arith in e) ∙ is

-- passing over a use of another argument
passes : (id : Text) (u : Text × Text) (us : Uses) → bytes_eq u.0 id ≡ false → lookup id (u ∷ us) ≡ lookup id us
passes id u us apart = ap (λ b. if b then Some u.1 else lookup id us) apart

meets : (id : Text) (u : Text × Text) (us : Uses) → bytes_eq u.0 id ≡ true → lookup id (u ∷ us) ≡ Some u.1
meets id u us same = ap (λ b. if b then Some u.1 else lookup id us) same

-- plain word number k
agrees_plain : (c : Command) (k : ℕ) (id x : Text) (parts : Option WordParts) (us : Uses) → plain_id c k ≡ Some id
    → Agrees c (k + 1) parts us → Agrees c k (option_map (with_plain x) parts) ((id, x) ∷ us)
agrees_plain c k id x parts us is so = record {
  p = with_plain x so.p;
  parts_are = ap (option_map (with_plain x)) so.parts_are;
  settings = λ s. passes (id_of s) (id, x) us (plain_from_setting c k id s is) ∙ so.settings s;
  plains = by_place;
  ends = past;
}
  where
    by_place : (j : ℕ) (other : Text) → plain_id c (k + j) ≡ Some other
        → lookup other ((id, x) ∷ us) ≡ word_at (x ∷ so.p.plain) j
    by_place zero other other_is = meets other (id, x) us
        (Rattle.sbpl_job.proofs.Finding.same_bytes id other (some_is (sym is ∙ from_zero c k (Some other) other_is)))
    by_place (suc j) other other_is =
        passes other (id, x) us (plains_apart c k (k + suc j) id other (omega arith) is other_is)
        ∙ so.plains j other (one_on c k j (Some other) other_is)

    past : (j : ℕ) → plain_id c (k + j) ≡ None → word_at (x ∷ so.p.plain) j ≡ None
    past zero none = absurd (some_is_none (sym is ∙ from_zero c k None none))
      where
        some_is_none : Some id ≡ None → ⊥
        some_is_none e = cc
    past (suc j) none = so.ends j (one_on c k j None none)

agrees_setting : (c : Command) (k : ℕ) (s : Setting) (x : Text) (parts : Option WordParts) (us : Uses) → Agrees c k parts us
    → Agrees c k (option_map (with_given s x) parts) ((id_of s, x) ∷ us)
agrees_setting c k s x parts us so = record {
  p = with_given s x so.p;
  parts_are = ap (option_map (with_given s x)) so.parts_are;
  settings = λ t. ap (λ (o : Option Text). if bytes_eq (id_of s) (id_of t) then Some x else o) (so.settings t);
  plains = λ j id is.
      passes id (id_of s, x) us (bytes_apart id (id_of s) (plain_from_setting c (k + j) id s is)) ∙ so.plains j id is;
  ends = so.ends;
}

long_plain : (c : Command) (k : ℕ) (x : Text) (parts : Option WordParts)
    → ((p : WordParts) → parts ≡ Some p → IsLong c (k + 1) p) → (p : WordParts)
    → option_map (with_plain x) parts ≡ Some p → IsLong c k p
long_plain c k x (Some q) long p is = let at = long q refl in (
  suc at.0,
  one_back c k at.0 None at.1,
  subst (λ (r : WordParts). is_some (word_at r.plain (suc at.0)) ≡ true) (some_is is) at.2,
)
long_plain c k x None long p is = absurd (none_is is)
  where
    none_is : None ≡ Some p → ⊥
    none_is e = cc

long_here : (c : Command) (k : ℕ) (x : Text) (parts : Option WordParts) → plain_id c k ≡ None → (p : WordParts)
    → option_map (with_plain x) parts ≡ Some p → IsLong c k p
long_here c k x (Some q) none p is =
    (0, at_zero c k None none, subst (λ (r : WordParts). is_some (word_at r.plain 0) ≡ true) (some_is is) refl)
long_here c k x None none p is = absurd (none_is is)
  where
    none_is : None ≡ Some p → ⊥
    none_is e = cc

long_setting : (c : Command) (k : ℕ) (s : Setting) (x : Text) (parts : Option WordParts)
    → ((p : WordParts) → parts ≡ Some p → IsLong c k p) → (p : WordParts)
    → option_map (with_given s x) parts ≡ Some p → IsLong c k p
long_setting c k s x (Some q) long p is =
    let at = long q refl in (at.0, at.1, subst (λ (r : WordParts). is_some (word_at r.plain at.0) ≡ true) (some_is is) at.2)
long_setting c k s x None long p is = absurd (none_is is)
  where
    none_is : None ≡ Some p → ⊥
    none_is e = cc

reads_plain : (c : Command) (k : ℕ) (id x : Text) (parts : Option WordParts) (us : Option Uses) → plain_id c k ≡ Some id
    → Reads c (k + 1) parts us → Reads c k (option_map (with_plain x) parts) (option_map (λ vs. (id, x) ∷ vs) us)
reads_plain c k id x parts (Some us) is so = agrees_plain c k id x parts us is so
reads_plain c k id x parts None is so = long_plain c k x parts so

reads_setting : (c : Command) (k : ℕ) (s : Setting) (x : Text) (parts : Option WordParts) (us : Option Uses)
    → Reads c k parts us → Reads c k (option_map (with_given s x) parts) (option_map (λ vs. (id_of s, x) ∷ vs) us)
reads_setting c k s x parts (Some us) so = agrees_setting c k s x parts us so
reads_setting c k s x parts None so = long_setting c k s x parts so

reads_place : (c : Command) (k : ℕ) (x : Text) (xs : List Text) (o : Option Text) → plain_id c k ≡ o
    → Reads c (k + 1) (parts_after c None xs) (uses c (k + 1) None xs)
    → Reads c k (option_map (with_plain x) (parts_after c None xs)) (after_plain c k x xs o)
reads_place c k x xs (Some id) is so = reads_plain c k id x (parts_after c None xs) (uses c (k + 1) None xs) is so
reads_place c k x xs None is so = long_here c k x (parts_after c None xs) is

-- the uses of words hold what their parts hold
pub reads : (xs : List Text) (c : Command) (k : ℕ) (a : Option Setting) → Reads c k (parts_after c a xs) (uses c k a xs)
unfolding uses
reads [] c k None = record {
  p = record { plain = []; given = [] };
  parts_are = refl;
  settings = λ s. refl;
  plains = λ j id is. refl;
  ends = λ j is. refl;
}
reads [] c k (Some s) = no_parts_are c k
reads (x ∷ xs) c k None = elim (cases_Bool (is_plain_word x)) [
  | inl plain ↦
      subst (Reads c k (parts_after c None (x ∷ xs)))
      (sym (ap (λ b. if b then after_plain c k x xs (plain_id c k) else after_name c k xs (setting_of c x)) plain))
      (subst (λ (o : Option WordParts). Reads c k o (after_plain c k x xs (plain_id c k)))
      (sym (ap (λ b. if b then option_map (with_plain x) (parts_after c None xs)
      else option_and_then (λ s. parts_after c (Some s) xs) (setting_of c x)) plain))
      (reads_place c k x xs (plain_id c k) refl (reads xs c (k + 1) None)))
  | inr other ↦
      subst (Reads c k (parts_after c None (x ∷ xs)))
      (sym (ap (λ b. if b then after_plain c k x xs (plain_id c k) else after_name c k xs (setting_of c x)) other))
      (subst (λ (o : Option WordParts). Reads c k o (after_name c k xs (setting_of c x)))
      (sym (ap (λ b. if b then option_map (with_plain x) (parts_after c None xs)
      else option_and_then (λ s. parts_after c (Some s) xs) (setting_of c x)) other))
      (by_name (setting_of c x) (λ s. reads xs c k (Some s))))
]
  where
    by_name : (o : Option Setting) → ((s : Setting) → Reads c k (parts_after c (Some s) xs) (uses c k (Some s) xs))
        → Reads c k (option_and_then (λ s. parts_after c (Some s) xs) o) (after_name c k xs o)
    by_name None further = no_parts_are c k
    by_name (Some s) further = further s
reads (x ∷ xs) c k (Some s) = elim (cases_Bool (is_plain_word x)) [
  | inl plain ↦
      subst (Reads c k (parts_after c (Some s) (x ∷ xs)))
      (sym (ap (λ b. if b then option_map (λ us. (id_of s, x) ∷ us) (uses c k None xs) else None) plain))
      (subst (λ (o : Option WordParts). Reads c k o (option_map (λ us. (id_of s, x) ∷ us) (uses c k None xs)))
      (sym (ap (λ b. if b then option_map (with_given s x) (parts_after c None xs) else None) plain))
      (reads_setting c k s x (parts_after c None xs) (uses c k None xs) (reads xs c k None)))
  | inr other ↦
      subst (Reads c k (parts_after c (Some s) (x ∷ xs)))
      (sym (ap (λ b. if b then option_map (λ us. (id_of s, x) ∷ us) (uses c k None xs) else None) other))
      (subst (λ (o : Option WordParts). Reads c k o None) (sym
      (ap (λ b. if b then option_map (with_given s x) (parts_after c None xs) else None) other)) (no_parts_are c k))
]

-- ---- the whole parse

-- what no default changes
no_default : (rows : List Row) (a : Rule) → is_empty a.defaults ≡ true → with_default rows a ≡ rows
no_default rows a none =
    ap (λ (d : List Text). if has_row a.id rows then rows else default_rows a.id (reading_by a) d rows)
    (is_nil a.defaults none) ∙ either (has_row a.id rows)
  where
    either : (b : Bool) → (if b then rows else rows) ≡ rows
    either true = refl
    either false = refl

no_default_fault : (rows : List Row) (a : Rule) → is_empty a.defaults ≡ true → default_fault rows a ≡ []
no_default_fault rows a none =
    ap (λ b. if has_row a.id rows || b then [] else given_default_fault a a.defaults) none ∙ either (has_row a.id rows)
  where
    either : (b : Bool) → (if b || true then [] else given_default_fault a a.defaults) ≡ []
    either true = refl
    either false = refl

no_defaults : (rows : List Row) (rs : List Rule) → list_all (λ (a : Rule). is_empty a.defaults) rs ≡ true
    → (fold with_default rows rs ≡ rows) × (defaults_fault rows rs ≡ [])
unfolding defaults_fault
no_defaults rows [] none = (refl, refl)
no_defaults rows (a ∷ rs) none =
    let parts = and_parts (is_empty a.defaults) (list_all (λ (r : Rule). is_empty r.defaults) rs) none in
    let more = no_defaults rows rs parts.1 in
    let same = no_default rows a parts.0 in (
      ap (λ (l : List Row). fold with_default l rs) same ∙ more.0,
      ap₂ or_else (no_default_fault rows a parts.0) (ap (λ (l : List Row). defaults_fault l rs) same) ∙ more.1,
    )

without_defaults : (c : Command) → list_all (λ (a : Rule). is_empty a.defaults) (rules c) ≡ true
without_defaults command.Plan = refl
without_defaults command.Check = refl
without_defaults command.Sweep = refl
without_defaults command.Demo = refl
without_defaults command.Nav = refl
without_defaults command.NavCheck = refl

abbrev start : Rattle.clap.specs.Walk.Walk
start = at [] None idle 0

-- the fault of the whole parse, step by step
abbrev ending : Command → List Text → Rattle.clap.specs.Walk.Held
ending c xs = (fold (walked (rules c) []) start xs).held

abbrev after_walk : Command → List Text → Kinds
after_walk c xs =
    or_else (defaults_fault (settled (rules c) (ending c xs)).rows (rules c))
    (check_fault (shape c) (finished (rules c) (ending c xs)) false)

abbrev Stop : Type 0
Stop = Option (Text × List Text)

nothing_entered : (c : Command) (stop : Stop) → entered (built (app c)) stop ≡ None
nothing_entered c None = refl
nothing_entered c (Some p) = refl

no_entered_fault : (c : Command) (stop : Stop) → entered_fault (built (app c)) stop ≡ []
no_entered_fault c None = refl
no_entered_fault c (Some p) = refl

fault_is : (c : Command) (xs : List Text)
    → fault_of (app c) xs ≡ or_else (walk_fault (shape c) [] start xs)
    (or_else (settle_fault (rules c) false (ending c xs)) (after_walk c xs))
fault_is c xs =
    let stop = (fold (walked (rules c) []) start xs).stopped in
    ap₂ (λ (b : Bool) (below : Kinds). level_fault (shape c) [] nothing_held xs b below)
    (ap is_some (nothing_entered c stop)) (no_entered_fault c stop)

-- the first use of an argument is what its row holds
first_is : (id : Text) (us : Uses) → first_of id (map row_of_use us) ≡ lookup id us
first_is id [] = refl
first_is id (u ∷ us) = elim (cases_Bool (bytes_eq u.0 id)) [
  | inl same ↦
      ap (λ b. of_row (if b then Some (row_of_use u) else find (λ (r : Row). bytes_eq r.id id) (map row_of_use us)))
      same ∙ sym (meets id u us same)
  | inr other ↦
      ap (λ b. of_row (if b then Some (row_of_use u) else find (λ (r : Row). bytes_eq r.id id) (map row_of_use us)))
      other ∙ first_is id us ∙ sym (passes id u us other)
]
  where
    of_row : Option Row → Option Text
    of_row o = option_and_then (λ (r : Row). Rattle.std.specs.Prelude.slice_get r.values 0) o

given_is : (id : Text) (us : Uses) → is_given id (map row_of_use us) ≡ is_some (lookup id us)
given_is id [] = refl
given_is id (u ∷ us) = elim (cases_Bool (bytes_eq u.0 id)) [
  | inl same ↦
      ap (λ b. of_row (if b then Some (row_of_use u) else find (λ (r : Row). bytes_eq r.id id) (map row_of_use us)))
      same ∙ ap is_some (sym (meets id u us same))
  | inr other ↦
      ap (λ b. of_row (if b then Some (row_of_use u) else find (λ (r : Row). bytes_eq r.id id) (map row_of_use us)))
      other ∙ given_is id us ∙ ap is_some (sym (passes id u us other))
]
  where
    of_row : Option Row → Bool
    of_row o = option_map_or (λ (r : Row). Rattle.clap.specs.Facts.explicit_source r.source) o false

-- what clap makes of words that are used so
record IsTaken (c : Command) (xs : List Text) (us : Uses) : Type 0 where
  matches : matches_of (app c) xs ≡ map row_of_use us
  fault : fault_of (app c) xs ≡ check_fault (shape c) (map row_of_use us) false

abbrev Takes : Command → List Text → Option Uses → Type 0
Takes c xs (Some us) = IsTaken c xs us
Takes c xs None = fault_of (app c) xs ≢ []

fails_first : (a b rest : Kinds) → or_else a b ≢ [] → or_else a (or_else b rest) ≢ []
fails_first [] [] rest some none = some refl
fails_first [] (k ∷ ks) rest some none = some none
fails_first (k ∷ ks) b rest some none = some none

takes_by : (c : Command) (xs : List Text) (us : Option Uses) → Walks c start xs [] us → Takes c xs us
takes_by c xs (Some us) finds =
    let none = no_defaults (settled (rules c) (ending c xs)).rows (rules c) (without_defaults c) in
    let rows : finished (rules c) (ending c xs) ≡ map row_of_use us = none.0 ∙ finds.rows_are in
    record {
      matches = rows;
      fault =
          fault_is c xs ∙ ap₂ or_else finds.no_fault
          (ap₂ or_else finds.settles (ap₂ or_else none.1 (ap (λ (l : List Row). check_fault (shape c) l false) rows)));
    }
takes_by c xs None refuses = λ none. fails_first (walk_fault (shape c) [] start xs)
    (settle_fault (rules c) false (ending c xs)) (after_walk c xs) refuses.fault (sym (fault_is c xs) ∙ none)

takes_words : (c : Command) (xs : List Text) → list_all (is_known c) xs ≡ true → once c xs ≡ true
    → Takes c xs (uses c 0 None xs)
takes_words c xs known single =
    takes_by c xs (uses c 0 None xs) (walks xs c 0 None None [] [] (settles_none c []) (omega arith) known single
    (record { plains = λ j id le is. refl; settings = λ s stands. refl }))

-- ---- words of a wrong count name no job

word_none : (ws : List Text) (j : ℕ) → word_at ws j ≡ None → length ws ≤ j
word_none [] j none = omega arith
word_none (w ∷ ws) zero none = cc
word_none (w ∷ ws) (suc j) none = let less = word_none ws j none in omega arith

word_some : (ws : List Text) (j : ℕ) → is_some (word_at ws j) ≡ true → j < length ws
word_some [] j some = cc
word_some (w ∷ ws) zero some = omega arith
word_some (w ∷ ws) (suc j) some = let less = word_some ws j some in omega arith

wrong_count : (c : Command) (plain : List Text) (set : Settings) → length plain ≢ places c → job_with c plain set ≡ None
wrong_count command.Plan [] set wrong = refl
wrong_count command.Plan (a ∷ []) set wrong = refl
wrong_count command.Plan (a ∷ (b ∷ [])) set wrong = absurd (wrong refl)
wrong_count command.Plan (a ∷ (b ∷ (d ∷ more))) set wrong = refl
wrong_count command.Check [] set wrong = refl
wrong_count command.Check (a ∷ []) set wrong = refl
wrong_count command.Check (a ∷ (b ∷ [])) set wrong = refl
wrong_count command.Check (a ∷ (b ∷ (d ∷ []))) set wrong = absurd (wrong refl)
wrong_count command.Check (a ∷ (b ∷ (d ∷ (e ∷ more)))) set wrong = refl
wrong_count command.Sweep [] set wrong = refl
wrong_count command.Sweep (a ∷ []) set wrong = refl
wrong_count command.Sweep (a ∷ (b ∷ [])) set wrong = absurd (wrong refl)
wrong_count command.Sweep (a ∷ (b ∷ (d ∷ more))) set wrong = refl
wrong_count command.Demo [] set wrong = refl
wrong_count command.Demo (a ∷ []) set wrong = refl
wrong_count command.Demo (a ∷ (b ∷ [])) set wrong = refl
wrong_count command.Demo (a ∷ (b ∷ (d ∷ []))) set wrong = absurd (wrong refl)
wrong_count command.Demo (a ∷ (b ∷ (d ∷ (e ∷ more)))) set wrong = refl
wrong_count command.Nav [] set wrong = refl
wrong_count command.Nav (a ∷ []) set wrong = absurd (wrong refl)
wrong_count command.Nav (a ∷ (b ∷ more)) set wrong = refl
wrong_count command.NavCheck [] set wrong = refl
wrong_count command.NavCheck (a ∷ []) set wrong = refl
wrong_count command.NavCheck (a ∷ (b ∷ [])) set wrong = absurd (wrong refl)
wrong_count command.NavCheck (a ∷ (b ∷ (d ∷ more))) set wrong = refl

pub short_is_none : (c : Command) (k : ℕ) (id : Text) (p : WordParts) → plain_id c k ≡ Some id
    → word_at p.plain k ≡ None → job_by c p ≡ None
short_is_none c k id p is none =
    wrong_count c p.plain (λ s. value_of s p.given)
    (λ same. let less = has_place c k id is in let few = word_none p.plain k none in omega arith)

long_is_none : (c : Command) (p : WordParts) → IsLong c 0 p → job_by c p ≡ None
long_is_none c p long =
    wrong_count c p.plain (λ s. value_of s p.given)
    (λ same. let most = has_no_place c (0 + long.0) long.1 in let less = word_some p.plain long.0 long.2 in omega arith)

-- an argument that must stand was not given
record Lacks (c : Command) (us : Uses) : Type 0 where
  place : ℕ
  id : Text
  is : plain_id c place ≡ Some id
  none : lookup id us ≡ None

not_given : (id : Text) (us : Uses) → not (is_given id (map row_of_use us)) ≡ true → lookup id us ≡ None
not_given id us lacks = by_value (lookup id us) (ap not (sym (given_is id us)) ∙ lacks)
  where
    by_value : (o : Option Text) → not (is_some o) ≡ true → o ≡ None
    by_value None e = refl
    by_value (Some x) e = absurd (true≢false (sym e))

abbrev is_lacking : Text → Uses → Bool
is_lacking id us = not (is_given id (map row_of_use us))

that_one : (x : Bool) → (x || false) ≡ true → x ≡ true
that_one true e = refl
that_one false e = cc

either_of : (x y : Bool) → (x || (y || false)) ≡ true → (x ≡ true) ⊎ (y ≡ true)
either_of true y e = inl refl
either_of false true e = inr refl
either_of false false e = cc

one_of_three : (x y z : Bool) → (x || (y || (z || false))) ≡ true → (x ≡ true) ⊎ ((y ≡ true) ⊎ (z ≡ true))
one_of_three true y z e = inl refl
one_of_three false true z e = inr (inl refl)
one_of_three false false true e = inr (inr refl)
one_of_three false false false e = cc

lacks : (c : Command) (us : Uses)
    → list_any (λ (a : Rule). a.required && not (is_given a.id (map row_of_use us))) (rules c) ≡ true → Lacks c us
lacks command.Plan us e = elim (either_of (is_lacking (codes "ENV") us) (is_lacking (codes "MPRIM") us) e) [
  | inl a ↦ record { place = 0; id = codes "ENV"; is = refl; none = not_given (codes "ENV") us a }
  | inr b ↦ record { place = 1; id = codes "MPRIM"; is = refl; none = not_given (codes "MPRIM") us b }
]
lacks command.Check us e =
    elim (one_of_three (is_lacking (codes "ENV") us) (is_lacking (codes "MPRIM") us)
    (is_lacking (codes "LABELS") us) e) [
      | inl a ↦ record { place = 0; id = codes "ENV"; is = refl; none = not_given (codes "ENV") us a }
      | inr (inl b) ↦ record { place = 1; id = codes "MPRIM"; is = refl; none = not_given (codes "MPRIM") us b }
      | inr (inr d) ↦ record { place = 2; id = codes "LABELS"; is = refl; none = not_given (codes "LABELS") us d }
    ]
lacks command.Sweep us e = elim (either_of (is_lacking (codes "ENV") us) (is_lacking (codes "MPRIM") us) e) [
  | inl a ↦ record { place = 0; id = codes "ENV"; is = refl; none = not_given (codes "ENV") us a }
  | inr b ↦ record { place = 1; id = codes "MPRIM"; is = refl; none = not_given (codes "MPRIM") us b }
]
lacks command.Demo us e =
    elim (one_of_three (is_lacking (codes "SEED") us) (is_lacking (codes "W") us) (is_lacking (codes "H") us) e) [
      | inl a ↦ record { place = 0; id = codes "SEED"; is = refl; none = not_given (codes "SEED") us a }
      | inr (inl b) ↦ record { place = 1; id = codes "W"; is = refl; none = not_given (codes "W") us b }
      | inr (inr d) ↦ record { place = 2; id = codes "H"; is = refl; none = not_given (codes "H") us d }
    ]
lacks command.Nav us e =
    let lacking = that_one (is_lacking (codes "ENV") us) e in
    record { place = 0; id = codes "ENV"; is = refl; none = not_given (codes "ENV") us lacking }
lacks command.NavCheck us e = elim (either_of (is_lacking (codes "ENV") us) (is_lacking (codes "LABELS") us) e) [
  | inl a ↦ record { place = 0; id = codes "ENV"; is = refl; none = not_given (codes "ENV") us a }
  | inr b ↦ record { place = 1; id = codes "LABELS"; is = refl; none = not_given (codes "LABELS") us b }
]

lacks_by : (c : Command) (us : Uses) → check_fault (shape c) (map row_of_use us) false ≢ [] → Lacks c us
lacks_by c us some =
    elim (cases_Bool (list_any (λ (a : Rule). a.required && not (is_given a.id (map row_of_use us))) (rules c))) [
      | inl missing ↦ lacks c us missing
      | inr none ↦
          absurd (some (ap (λ b. if b
          then Rattle.clap.specs.declared.error.kind.ErrorKind.TheVariants.MissingRequiredArgument ∷ [] else []) none))
    ]

-- ---- what a parse of spaced words gives

pub is_simple_line : (c : Command) → is_simple (app c) ≡ true
is_simple_line command.Plan = refl
is_simple_line command.Check = refl
is_simple_line command.Sweep = refl
is_simple_line command.Demo = refl
is_simple_line command.Nav = refl
is_simple_line command.NavCheck = refl

pub is_free_line : (c : Command) → is_simple_and_free (app c) ≡ true
is_free_line command.Plan = refl
is_free_line command.Check = refl
is_free_line command.Sweep = refl
is_free_line command.Demo = refl
is_free_line command.Nav = refl
is_free_line command.NavCheck = refl

found_by : (c : Command) (xs : List Text) (f : Found) (us : Uses) → IsTaken c xs us → rows_of f ≡ matches_of (app c) xs
    → Agrees c 0 (parts_after c None xs) us → (p : WordParts) × (parts_after c None xs ≡ Some p) × IsFound c f p
found_by c xs f us is_taken rows so = (
  so.p,
  so.parts_are,
  record { settings = λ s. value (id_of s) ∙ so.settings s; plain = λ k. by_place k (plain_id c k) refl },
)
  where
    value : (id : Text) → first_value f id ≡ lookup id us
    value id = first_value-rows f id ∙ ap (first_of id) (rows ∙ is_taken.matches) ∙ first_is id us

    from : (k : ℕ) (o : Option Text) → plain_id c k ≡ o → plain_id c (0 + k) ≡ o
    from k o is = ap (plain_id c) (let e : 0 + k ≡ k = omega arith in e) ∙ is

    by_place : (k : ℕ) (o : Option Text) → plain_id c k ≡ o → option_and_then (first_value f) o ≡ word_at so.p.plain k
    by_place k (Some id) is = value id ∙ so.plains k id (from k (Some id) is)
    by_place k None is = sym (so.ends k (from k None is))

finds_by : (c : Command) (xs : List Text) (f : Found) (us : Option Uses) → Takes c xs us → fault_of (app c) xs ≡ []
    → rows_of f ≡ matches_of (app c) xs → Reads c 0 (parts_after c None xs) us
    → (p : WordParts) × (parts_after c None xs ≡ Some p) × IsFound c f p
finds_by c xs f (Some us) is_taken none rows so = found_by c xs f us is_taken rows so
finds_by c xs f None refused none rows so = absurd (refused none)

-- clap's matches hold the parts
pub finds_parts : (c : Command) (xs : List Text) (f : Found) → list_all (is_known c) xs ≡ true → once c xs ≡ true
    → fault_of (app c) xs ≡ [] → rows_of f ≡ matches_of (app c) xs
    → (p : WordParts) × (parts_after c None xs ≡ Some p) × IsFound c f p
finds_parts c xs f known single none rows =
    finds_by c xs f (uses c 0 None xs) (takes_words c xs known single) none rows (reads xs c 0 None)

no_job : (c : Command) (parts : Option WordParts) → ((p : WordParts) → parts ≡ Some p → job_by c p ≡ None)
    → option_and_then (job_by c) parts ≡ None
no_job c (Some p) none = none p refl
no_job c None none = refl

refuses_by : (c : Command) (xs : List Text) (us : Option Uses) → Takes c xs us → fault_of (app c) xs ≢ []
    → Reads c 0 (parts_after c None xs) us → option_and_then (job_by c) (parts_after c None xs) ≡ None
refuses_by c xs None refused some so = no_job c (parts_after c None xs) (λ p is. long_is_none c p (so p is))
refuses_by c xs (Some us) is_taken some so =
    let missing = lacks_by c us (λ none. some (is_taken.fault ∙ none)) in
    let from : plain_id c (0 + missing.place) ≡ Some missing.id =
    ap (plain_id c) (let e : 0 + missing.place ≡ missing.place = omega arith in e) ∙ missing.is in
    ap (option_and_then (job_by c)) so.parts_are
    ∙ short_is_none c missing.place missing.id so.p missing.is
    (sym (so.plains missing.place missing.id from) ∙ missing.none)

-- where clap refuses the words, they name no job
pub refused_parts : (c : Command) (xs : List Text) → list_all (is_known c) xs ≡ true → once c xs ≡ true
    → fault_of (app c) xs ≢ [] → option_and_then (job_by c) (parts_after c None xs) ≡ None
refused_parts c xs known single some =
    refuses_by c xs (uses c 0 None xs) (takes_words c xs known single) some (reads xs c 0 None)

-- ---- what a parse answers

pub found_in : (c : Command) (xs : List Text) (a : App) (m : ArgMatches) → a ≡ app c → are_fit c xs ≡ true
    → (is_simple_and_free a ≡ true → fault_of a xs ≡ []) → HasMatchesOf a xs m
    → (p : WordParts) × (parts_after c None xs ≡ Some p) × IsFound c (found_of m) p
found_in c xs a m is fit none matches =
    let parts = fit_parts c xs fit in
    let no_fault : fault_of (app c) xs ≡ [] =
    subst (λ (b : App). is_simple_and_free b ≡ true → fault_of b xs ≡ []) is none (is_free_line c) in
    let rows = subst (λ (b : App). HasMatchesOf b xs m) is matches (is_simple_line c) in
    finds_parts c xs (found_of m) parts.0 parts.1 no_fault rows.0

pub refused_in : (c : Command) (xs : List Text) (a : App) (kind : ErrorKind) (f : JobFault) → a ≡ app c
    → are_fit c xs ≡ true → (is_simple_and_free a ≡ true → (kind ≡ OutOfMemory) ⊎ IsAmong kind (fault_of a xs))
    → ((f ≡ fault.NoMemory) ↔ (kind ≡ OutOfMemory)) → FindsParts c xs (Err f)
refused_in c xs a kind fault.NoMemory is fit kinds memory = tt
refused_in c xs a kind fault.Words is fit kinds memory =
    let parts = fit_parts c xs fit in
    refused_parts c xs parts.0 parts.1 (λ none. by_kind none (subst (λ (b : App).
    is_simple_and_free b ≡ true → (kind ≡ OutOfMemory) ⊎ IsAmong kind (fault_of b xs)) is kinds (is_free_line c)))
  where
    no_memory : fault.Words ≡ fault.NoMemory → ⊥
    no_memory e = cc

    by_kind : fault_of (app c) xs ≡ [] → (kind ≡ OutOfMemory) ⊎ IsAmong kind (fault_of (app c) xs) → ⊥
    by_kind none (inl out) = no_memory (memory.1 out)
    by_kind none (inr among) = subst (IsAmong kind) none among
