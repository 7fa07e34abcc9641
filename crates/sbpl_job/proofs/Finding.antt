-- What clap finds in words of which each is plain or a setting's name.
use Rattle.std.proofs.Common.{◌≡◌, ◌≢◌, ◌∙◌, ◌<◌, ◌≤◌, ◌+◌, ◌&&◌, ◌||◌, ◌⊎◌, ℕ, Bool, true, false, not, zero, suc, refl}
use Rattle.std.proofs.Common.{sym, ap, ap₂, subst, arith, inl, inr, List, [], ◌∷◌, ◌++◌, map, min, Option, Some, None}
use Rattle.std.proofs.Common.{option_map, is_some, append-nil, append_assoc, if◌then◌else◌, nat_lt}
use Rattle.std.specs.Prelude.{find, fold, nat_eq, option_and_then, slice_get}
use Rattle.std.specs.List.{list_all, list_any}
use Rattle.std.specs.Option.{option_map_or}
use Rattle.std.specs.Str.{bytes_eq}
use Rattle.std.proofs.lemmas.Bool.{and_parts, or_parts, or_from, or_right, cases_Bool, ne_eqb, not-true, true≢false}
use Rattle.std.proofs.lemmas.Slice.Eq.{bytes_eq-Decides}
use Rattle.clap.specs.Lexer.{long_of, short_of, usize_max}
use Rattle.clap.specs.Values.{reading_of}
use Rattle.clap.specs.Walk.{Held, Row, Rule, Text, Waiting, Walk, after_flag, after_step, arg_by_id, arg_by_index}
use Rattle.clap.specs.Walk.{arg_by_long, at_row, first_of, has_row, idle, is_pending, long_met, long_or_other}
use Rattle.clap.specs.Walk.{long_word, more_values, next, option, option_met, option_word, pending_count, plain_word}
use Rattle.clap.specs.Walk.{pushed, settled, settled_rows, short_or_plain, subcommand_or_other, to_positional, trailing}
use Rattle.clap.specs.Walk.{used, used_by_id, value, walked, waits, with_values, without, word_met}
use Rattle.clap.specs.Faults.{bundle_fault, flag_word_fault, long_fault, positional_fault, settle_fault, step_fault}
use Rattle.clap.specs.Faults.{stray_fault, turn_fault, use_fault, walk_fault}
use Rattle.clap.specs.Kinds.{Kinds, or_else}
use Rattle.clap.specs.Simple.{Shape, built, filled, with_index}
use Rattle.clap.specs.declared.error.kind.ErrorKind.TheVariants.{InvalidValue, UnknownArgument}
use Rattle.clap.specs.declared.builder.value_parser.ValueParser.TheVariants as parser
use Rattle.clap.specs.declared.parser.matches.ValueSource.TheVariants.{CommandLine}
use Rattle.sbpl_job.specs.declared.words.Command.{Command}
use Rattle.sbpl_job.specs.declared.words.Command.TheVariants as command
use Rattle.sbpl_job.specs.declared.words.Setting.{Setting}
use Rattle.sbpl_job.specs.declared.words.Setting.TheVariants as setting
use Rattle.sbpl_job.specs.Words.{id_of, is_known, is_plain_word, once, setting_named, setting_of, stands_once, takes}
use Rattle.sbpl_job.specs.Lines.{app, option_rule, plain_id, plain_rule, rules}

-- ---- rows

-- the row of a value that the words give
abbrev pub row : Text → Text → Row
row id x =
    record { id = id; values = x ∷ []; count = None; source = Some CommandLine; reading = reading_of parser.String }

at_end : (id : Text) (change : Row → List Row) (missing rows : List Row) → has_row id rows ≡ false
    → at_row id change missing rows ≡ rows ++ missing
at_end id change missing [] new = refl
at_end id change missing (r ∷ rs) new =
    let parts = or_parts (bytes_eq r.id id) (has_row id rs) new in
    ap (λ b. if b then change r ++ rs else r ∷ at_row id change missing rs) parts.0
    ∙ ap (λ l. r ∷ l) (at_end id change missing rs parts.1)

-- the first use of an argument with one value adds its row
added : (id x : Text) (rows : List Row) → has_row id rows ≡ false
    → with_values id (reading_of parser.String) CommandLine (x ∷ []) (without id rows) ≡ rows ++ row id x ∷ []
added id x rows new =
    ap (with_values id (reading_of parser.String) CommandLine (x ∷ []))
    (at_end id (λ _. []) [] rows new ∙ append-nil rows)
    ∙ at_end id (more_values CommandLine (x ∷ [])) (row id x ∷ []) rows new

has_row_added : (id other x : Text) (rows : List Row) → has_row id rows ≡ false → bytes_eq other id ≡ false
    → has_row id (rows ++ row other x ∷ []) ≡ false
has_row_added id other x [] new apart = ap (λ b. b || false) apart
has_row_added id other x (r ∷ rs) new apart =
    let parts = or_parts (bytes_eq r.id id) (has_row id rs) new in
    or_from (bytes_eq r.id id) _ parts.0 (has_row_added id other x rs parts.1 apart)

-- ---- the arguments of each command

-- a plain word and an option, and the line of a command, as they are built
abbrev pub plain_built : ℕ → Text → Rule
plain_built k id = with_index (k + 1) (filled (plain_rule id))

abbrev pub option_built : Setting → Rule
option_built s = filled (option_rule (id_of s))

abbrev pub shape : Command → Shape
shape c = (built (app c)).top

not_at : (n k : ℕ) → n < k + 1 → nat_eq n (k + 1) ≡ false
not_at n k lt = ne_eqb n (k + 1) (λ e. omega (arith, e))

-- which argument takes the next plain word
pub index_at : (c : Command) (k : ℕ) → arg_by_index (rules c) (k + 1) ≡ option_map (plain_built k) (plain_id c k)
index_at command.Plan zero = refl
index_at command.Plan (suc zero) = refl
index_at command.Plan (suc (suc k)) =
    rw (not_at 1 (suc (suc k)) (omega arith), not_at 2 (suc (suc k)) (omega arith)) refl
index_at command.Check zero = refl
index_at command.Check (suc zero) = refl
index_at command.Check (suc (suc zero)) = refl
index_at command.Check (suc (suc (suc k))) =
    rw (
      not_at 1 (suc (suc (suc k))) (omega arith),
      not_at 2 (suc (suc (suc k))) (omega arith),
      not_at 3 (suc (suc (suc k))) (omega arith),
    ) refl
index_at command.Sweep zero = refl
index_at command.Sweep (suc zero) = refl
index_at command.Sweep (suc (suc k)) =
    rw (not_at 1 (suc (suc k)) (omega arith), not_at 2 (suc (suc k)) (omega arith)) refl
index_at command.Demo zero = refl
index_at command.Demo (suc zero) = refl
index_at command.Demo (suc (suc zero)) = refl
index_at command.Demo (suc (suc (suc k))) =
    rw (
      not_at 1 (suc (suc (suc k))) (omega arith),
      not_at 2 (suc (suc (suc k))) (omega arith),
      not_at 3 (suc (suc (suc k))) (omega arith),
    ) refl
index_at command.Nav zero = refl
index_at command.Nav (suc k) = rw (not_at 1 (suc k) (omega arith)) refl
index_at command.NavCheck zero = refl
index_at command.NavCheck (suc zero) = refl
index_at command.NavCheck (suc (suc k)) =
    rw (not_at 1 (suc (suc k)) (omega arith), not_at 2 (suc (suc k)) (omega arith)) refl

-- which argument a setting's name calls
pub long_at : (c : Command) (s : Setting)
    → arg_by_long (rules c) (id_of s) ≡ (if takes c s then Some (option_built s) else None)
long_at command.Plan setting.Changes = refl
long_at command.Plan setting.Radius = refl
long_at command.Plan setting.Planner = refl
long_at command.Plan setting.Workers = refl
long_at command.Plan setting.First = refl
long_at command.Plan setting.Step = refl
long_at command.Plan setting.Bound = refl
long_at command.Plan setting.Budget = refl
long_at command.Plan setting.States = refl
long_at command.Plan setting.Labels = refl
long_at command.Plan setting.LabelsAs = refl
long_at command.Plan setting.Trace = refl
long_at command.Plan setting.Incumbent = refl
long_at command.Plan setting.Start = refl
long_at command.Plan setting.Goal = refl
long_at command.Check setting.Changes = refl
long_at command.Check setting.Radius = refl
long_at command.Check setting.Planner = refl
long_at command.Check setting.Workers = refl
long_at command.Check setting.First = refl
long_at command.Check setting.Step = refl
long_at command.Check setting.Bound = refl
long_at command.Check setting.Budget = refl
long_at command.Check setting.States = refl
long_at command.Check setting.Labels = refl
long_at command.Check setting.LabelsAs = refl
long_at command.Check setting.Trace = refl
long_at command.Check setting.Incumbent = refl
long_at command.Check setting.Start = refl
long_at command.Check setting.Goal = refl
long_at command.Sweep setting.Changes = refl
long_at command.Sweep setting.Radius = refl
long_at command.Sweep setting.Planner = refl
long_at command.Sweep setting.Workers = refl
long_at command.Sweep setting.First = refl
long_at command.Sweep setting.Step = refl
long_at command.Sweep setting.Bound = refl
long_at command.Sweep setting.Budget = refl
long_at command.Sweep setting.States = refl
long_at command.Sweep setting.Labels = refl
long_at command.Sweep setting.LabelsAs = refl
long_at command.Sweep setting.Trace = refl
long_at command.Sweep setting.Incumbent = refl
long_at command.Sweep setting.Start = refl
long_at command.Sweep setting.Goal = refl
long_at command.Demo setting.Changes = refl
long_at command.Demo setting.Radius = refl
long_at command.Demo setting.Planner = refl
long_at command.Demo setting.Workers = refl
long_at command.Demo setting.First = refl
long_at command.Demo setting.Step = refl
long_at command.Demo setting.Bound = refl
long_at command.Demo setting.Budget = refl
long_at command.Demo setting.States = refl
long_at command.Demo setting.Labels = refl
long_at command.Demo setting.LabelsAs = refl
long_at command.Demo setting.Trace = refl
long_at command.Demo setting.Incumbent = refl
long_at command.Demo setting.Start = refl
long_at command.Demo setting.Goal = refl
long_at command.Nav setting.Changes = refl
long_at command.Nav setting.Radius = refl
long_at command.Nav setting.Planner = refl
long_at command.Nav setting.Workers = refl
long_at command.Nav setting.First = refl
long_at command.Nav setting.Step = refl
long_at command.Nav setting.Bound = refl
long_at command.Nav setting.Budget = refl
long_at command.Nav setting.States = refl
long_at command.Nav setting.Labels = refl
long_at command.Nav setting.LabelsAs = refl
long_at command.Nav setting.Trace = refl
long_at command.Nav setting.Incumbent = refl
long_at command.Nav setting.Start = refl
long_at command.Nav setting.Goal = refl
long_at command.NavCheck setting.Changes = refl
long_at command.NavCheck setting.Radius = refl
long_at command.NavCheck setting.Planner = refl
long_at command.NavCheck setting.Workers = refl
long_at command.NavCheck setting.First = refl
long_at command.NavCheck setting.Step = refl
long_at command.NavCheck setting.Bound = refl
long_at command.NavCheck setting.Budget = refl
long_at command.NavCheck setting.States = refl
long_at command.NavCheck setting.Labels = refl
long_at command.NavCheck setting.LabelsAs = refl
long_at command.NavCheck setting.Trace = refl
long_at command.NavCheck setting.Incumbent = refl
long_at command.NavCheck setting.Start = refl
long_at command.NavCheck setting.Goal = refl

pub option_at : (c : Command) (s : Setting)
    → arg_by_id (rules c) (id_of s) ≡ (if takes c s then Some (option_built s) else None)
option_at command.Plan setting.Changes = refl
option_at command.Plan setting.Radius = refl
option_at command.Plan setting.Planner = refl
option_at command.Plan setting.Workers = refl
option_at command.Plan setting.First = refl
option_at command.Plan setting.Step = refl
option_at command.Plan setting.Bound = refl
option_at command.Plan setting.Budget = refl
option_at command.Plan setting.States = refl
option_at command.Plan setting.Labels = refl
option_at command.Plan setting.LabelsAs = refl
option_at command.Plan setting.Trace = refl
option_at command.Plan setting.Incumbent = refl
option_at command.Plan setting.Start = refl
option_at command.Plan setting.Goal = refl
option_at command.Check setting.Changes = refl
option_at command.Check setting.Radius = refl
option_at command.Check setting.Planner = refl
option_at command.Check setting.Workers = refl
option_at command.Check setting.First = refl
option_at command.Check setting.Step = refl
option_at command.Check setting.Bound = refl
option_at command.Check setting.Budget = refl
option_at command.Check setting.States = refl
option_at command.Check setting.Labels = refl
option_at command.Check setting.LabelsAs = refl
option_at command.Check setting.Trace = refl
option_at command.Check setting.Incumbent = refl
option_at command.Check setting.Start = refl
option_at command.Check setting.Goal = refl
option_at command.Sweep setting.Changes = refl
option_at command.Sweep setting.Radius = refl
option_at command.Sweep setting.Planner = refl
option_at command.Sweep setting.Workers = refl
option_at command.Sweep setting.First = refl
option_at command.Sweep setting.Step = refl
option_at command.Sweep setting.Bound = refl
option_at command.Sweep setting.Budget = refl
option_at command.Sweep setting.States = refl
option_at command.Sweep setting.Labels = refl
option_at command.Sweep setting.LabelsAs = refl
option_at command.Sweep setting.Trace = refl
option_at command.Sweep setting.Incumbent = refl
option_at command.Sweep setting.Start = refl
option_at command.Sweep setting.Goal = refl
option_at command.Demo setting.Changes = refl
option_at command.Demo setting.Radius = refl
option_at command.Demo setting.Planner = refl
option_at command.Demo setting.Workers = refl
option_at command.Demo setting.First = refl
option_at command.Demo setting.Step = refl
option_at command.Demo setting.Bound = refl
option_at command.Demo setting.Budget = refl
option_at command.Demo setting.States = refl
option_at command.Demo setting.Labels = refl
option_at command.Demo setting.LabelsAs = refl
option_at command.Demo setting.Trace = refl
option_at command.Demo setting.Incumbent = refl
option_at command.Demo setting.Start = refl
option_at command.Demo setting.Goal = refl
option_at command.Nav setting.Changes = refl
option_at command.Nav setting.Radius = refl
option_at command.Nav setting.Planner = refl
option_at command.Nav setting.Workers = refl
option_at command.Nav setting.First = refl
option_at command.Nav setting.Step = refl
option_at command.Nav setting.Bound = refl
option_at command.Nav setting.Budget = refl
option_at command.Nav setting.States = refl
option_at command.Nav setting.Labels = refl
option_at command.Nav setting.LabelsAs = refl
option_at command.Nav setting.Trace = refl
option_at command.Nav setting.Incumbent = refl
option_at command.Nav setting.Start = refl
option_at command.Nav setting.Goal = refl
option_at command.NavCheck setting.Changes = refl
option_at command.NavCheck setting.Radius = refl
option_at command.NavCheck setting.Planner = refl
option_at command.NavCheck setting.Workers = refl
option_at command.NavCheck setting.First = refl
option_at command.NavCheck setting.Step = refl
option_at command.NavCheck setting.Bound = refl
option_at command.NavCheck setting.Budget = refl
option_at command.NavCheck setting.States = refl
option_at command.NavCheck setting.Labels = refl
option_at command.NavCheck setting.LabelsAs = refl
option_at command.NavCheck setting.Trace = refl
option_at command.NavCheck setting.Incumbent = refl
option_at command.NavCheck setting.Start = refl
option_at command.NavCheck setting.Goal = refl

pub some_is : {X : Type 0} {x y : X} → Some x ≡ Some y → x ≡ y
some_is {x = x} e = ap (λ o. Rattle.std.specs.Option.unwrap_or o x) e

pub plain_at : (c : Command) (k : ℕ) (id : Text) → plain_id c k ≡ Some id
    → arg_by_id (rules c) id ≡ Some (plain_built k id)
plain_at command.Plan zero id is =
    subst (λ (i : Text). arg_by_id (rules command.Plan) i ≡ Some (plain_built 0 i)) (some_is is) refl
plain_at command.Plan (suc zero) id is =
    subst (λ (i : Text). arg_by_id (rules command.Plan) i ≡ Some (plain_built 1 i)) (some_is is) refl
plain_at command.Plan (suc (suc k)) id is = cc
plain_at command.Check zero id is =
    subst (λ (i : Text). arg_by_id (rules command.Check) i ≡ Some (plain_built 0 i)) (some_is is) refl
plain_at command.Check (suc zero) id is =
    subst (λ (i : Text). arg_by_id (rules command.Check) i ≡ Some (plain_built 1 i)) (some_is is) refl
plain_at command.Check (suc (suc zero)) id is =
    subst (λ (i : Text). arg_by_id (rules command.Check) i ≡ Some (plain_built 2 i)) (some_is is) refl
plain_at command.Check (suc (suc (suc k))) id is = cc
plain_at command.Sweep zero id is =
    subst (λ (i : Text). arg_by_id (rules command.Sweep) i ≡ Some (plain_built 0 i)) (some_is is) refl
plain_at command.Sweep (suc zero) id is =
    subst (λ (i : Text). arg_by_id (rules command.Sweep) i ≡ Some (plain_built 1 i)) (some_is is) refl
plain_at command.Sweep (suc (suc k)) id is = cc
plain_at command.Demo zero id is =
    subst (λ (i : Text). arg_by_id (rules command.Demo) i ≡ Some (plain_built 0 i)) (some_is is) refl
plain_at command.Demo (suc zero) id is =
    subst (λ (i : Text). arg_by_id (rules command.Demo) i ≡ Some (plain_built 1 i)) (some_is is) refl
plain_at command.Demo (suc (suc zero)) id is =
    subst (λ (i : Text). arg_by_id (rules command.Demo) i ≡ Some (plain_built 2 i)) (some_is is) refl
plain_at command.Demo (suc (suc (suc k))) id is = cc
plain_at command.Nav zero id is =
    subst (λ (i : Text). arg_by_id (rules command.Nav) i ≡ Some (plain_built 0 i)) (some_is is) refl
plain_at command.Nav (suc k) id is = cc
plain_at command.NavCheck zero id is =
    subst (λ (i : Text). arg_by_id (rules command.NavCheck) i ≡ Some (plain_built 0 i)) (some_is is) refl
plain_at command.NavCheck (suc zero) id is =
    subst (λ (i : Text). arg_by_id (rules command.NavCheck) i ≡ Some (plain_built 1 i)) (some_is is) refl
plain_at command.NavCheck (suc (suc k)) id is = cc

-- ---- names differ

abbrev bytes_are : (x y : Text) → bytes_eq x y ≡ true → x ≡ y
bytes_are x y = (bytes_eq-Decides x y).0

differ : (x y : Text) → x ≢ y → bytes_eq x y ≡ false
differ x y apart =
    elim (cases_Bool (bytes_eq x y)) [ inl same ↦ absurd (apart (bytes_are x y same)) | inr other ↦ other ]

pub bytes_apart : (a b : Text) → bytes_eq a b ≡ false → bytes_eq b a ≡ false
bytes_apart a b apart = differ b a (λ same. true≢false (sym ((bytes_eq-Decides a b).1 (sym same)) ∙ apart))

pub same_bytes : (x y : Text) → x ≡ y → bytes_eq x y ≡ true
same_bytes x y same = (bytes_eq-Decides x y).1 same

-- a setting's name
abbrev pub name_of : Setting → Text
name_of s = 45 ∷ (45 ∷ id_of s)

-- plain words differ in their names, and settings differ from them
pub plains_apart : (c : Command) (k j : ℕ) (a b : Text) → k < j → plain_id c k ≡ Some a
    → plain_id c j ≡ Some b → bytes_eq a b ≡ false
plains_apart c k j a b lt is_a is_b = differ a b (λ same.
    let one = plain_at c k a is_a in
    let two = subst (λ (i : Text). arg_by_id (rules c) i ≡ Some (plain_built j b)) (sym same) (plain_at c j b is_b) in
    let index : k + 1 ≡ j + 1 = some_is (ap (λ (r : Rule). r.index) (some_is (sym one ∙ two))) in
    omega (arith, index))

abbrev is_plain_index : Option Rule → Bool
is_plain_index None = false
is_plain_index (Some r) = is_some r.index

pub plain_from_setting : (c : Command) (k : ℕ) (id : Text) (s : Setting) → plain_id c k ≡ Some id
    → bytes_eq id (id_of s) ≡ false
plain_from_setting c k id s is = differ id (id_of s) (λ same.
    let one = plain_at c k id is in
    let two =
    subst (λ (i : Text). arg_by_id (rules c) i ≡ (if takes c s then Some (option_built s) else None))
    (sym same) (option_at c s) in
    no_index (takes c s) (ap is_plain_index (sym one ∙ two)))
  where
    no_index : (b : Bool) → true ≡ is_plain_index (if b then Some (option_built s) else None) → ⊥
    no_index true e = true≢false e
    no_index false e = true≢false e

bytes_same : (x : Text) → bytes_eq x x ≡ true
bytes_same x = (bytes_eq-Decides x x).1 refl

-- ---- what words look like

abbrev dashes : Text
dashes = 45 ∷ (45 ∷ [])

record IsPlainLook (x : Text) : Type 0 where
  no_dashes : bytes_eq x dashes ≡ false
  no_long : long_of x ≡ None
  no_short : short_of x ≡ None

looks_plain : (x : Text) → is_plain_word x ≡ true → IsPlainLook x
looks_plain [] plain = cc
looks_plain (b ∷ bs) plain =
    let no_dash : nat_eq b 45 ≡ false = Rattle.std.proofs.lemmas.Bool.not-true (nat_eq b 45) plain in
    record {
      no_dashes =
          differ (b ∷ bs) dashes (λ same. let e : b ≡ 45 = ap (λ l. Rattle.std.specs.Prelude.slice_index l 0) same in
          true≢false (sym (Rattle.std.proofs.lemmas.Bool.eq-eqb b 45 e) ∙ no_dash));
      no_long = rw no_dash refl;
      no_short = rw no_dash refl;
    }

pick : (b : Bool) (s t : Setting) (rest : Option Setting) → (if b then Some s else rest) ≡ Some t
    → ((b ≡ true) × (s ≡ t)) ⊎ (rest ≡ Some t)
pick true s t rest e = inl (refl, some_is e)
pick false s t rest e = inr e

told : (x : Text) (s t : Setting) → (bytes_eq x (name_of s) ≡ true) × (s ≡ t) → x ≡ name_of t
told x s t h = bytes_are x (name_of s) h.0 ∙ ap name_of h.1

-- a word that is a setting's name is that name
pub is_name : (x : Text) (t : Setting) → setting_named x ≡ Some t → x ≡ name_of t
is_name x t named =
    elim (pick (bytes_eq x (name_of setting.Changes)) setting.Changes t _ named) [
      | inl h ↦ told x setting.Changes t h
      | inr e0 ↦ elim (pick (bytes_eq x (name_of setting.Radius)) setting.Radius t _ e0) [
        | inl h ↦ told x setting.Radius t h
        | inr e1 ↦ elim (pick (bytes_eq x (name_of setting.Planner)) setting.Planner t _ e1) [
          | inl h ↦ told x setting.Planner t h
          | inr e2 ↦ elim (pick (bytes_eq x (name_of setting.Workers)) setting.Workers t _ e2) [
            | inl h ↦ told x setting.Workers t h
            | inr e3 ↦ elim (pick (bytes_eq x (name_of setting.First)) setting.First t _ e3) [
              | inl h ↦ told x setting.First t h
              | inr e4 ↦ elim (pick (bytes_eq x (name_of setting.Step)) setting.Step t _ e4) [
                | inl h ↦ told x setting.Step t h
                | inr e5 ↦ elim (pick (bytes_eq x (name_of setting.Bound)) setting.Bound t _ e5) [
                  | inl h ↦ told x setting.Bound t h
                  | inr e6 ↦ elim (pick (bytes_eq x (name_of setting.Budget)) setting.Budget t _ e6) [
                    | inl h ↦ told x setting.Budget t h
                    | inr e7 ↦ elim (pick (bytes_eq x (name_of setting.States)) setting.States t _ e7) [
                      | inl h ↦ told x setting.States t h
                      | inr e8 ↦ elim (pick (bytes_eq x (name_of setting.Labels)) setting.Labels t _ e8) [
                        | inl h ↦ told x setting.Labels t h
                        | inr e9 ↦ elim (pick (bytes_eq x (name_of setting.LabelsAs)) setting.LabelsAs t _ e9) [
                          | inl h ↦ told x setting.LabelsAs t h
                          | inr e10 ↦ elim (pick (bytes_eq x (name_of setting.Trace)) setting.Trace t _ e10) [
                            | inl h ↦ told x setting.Trace t h
                            | inr e11 ↦ elim (pick (bytes_eq x (name_of setting.Incumbent)) setting.Incumbent t _ e11) [
                              | inl h ↦ told x setting.Incumbent t h
                              | inr e12 ↦ elim (pick (bytes_eq x (name_of setting.Start)) setting.Start t _ e12) [
                                | inl h ↦ told x setting.Start t h
                                | inr e13 ↦ elim (pick (bytes_eq x (name_of setting.Goal)) setting.Goal t _ e13) [
                                  | inl h ↦ told x setting.Goal t h
                                  | inr e14 ↦ absurd (not_none e14)
                                ]
                              ]
                            ]
                          ]
                        ]
                      ]
                    ]
                  ]
                ]
              ]
            ]
          ]
        ]
      ]
    ]
  where
    not_none : None ≡ Some t → ⊥
    not_none e = cc

long_name : (s : Setting) → long_of (name_of s) ≡ Some (id_of s, None)
long_name setting.Changes = refl
long_name setting.Radius = refl
long_name setting.Planner = refl
long_name setting.Workers = refl
long_name setting.First = refl
long_name setting.Step = refl
long_name setting.Bound = refl
long_name setting.Budget = refl
long_name setting.States = refl
long_name setting.Labels = refl
long_name setting.LabelsAs = refl
long_name setting.Trace = refl
long_name setting.Incumbent = refl
long_name setting.Start = refl
long_name setting.Goal = refl

not_dashes : (s : Setting) → bytes_eq (name_of s) dashes ≡ false
not_dashes setting.Changes = refl
not_dashes setting.Radius = refl
not_dashes setting.Planner = refl
not_dashes setting.Workers = refl
not_dashes setting.First = refl
not_dashes setting.Step = refl
not_dashes setting.Bound = refl
not_dashes setting.Budget = refl
not_dashes setting.States = refl
not_dashes setting.Labels = refl
not_dashes setting.LabelsAs = refl
not_dashes setting.Trace = refl
not_dashes setting.Incumbent = refl
not_dashes setting.Start = refl
not_dashes setting.Goal = refl

pub taken : (c : Command) (s : Setting) (o : Option Setting)
    → option_and_then (λ t. if takes c t then Some t else None) o ≡ Some s → (o ≡ Some s) × (takes c s ≡ true)
taken c s None e = cc
taken c s (Some t) e = elim (cases_Bool (takes c t)) [
  | inl same ↦
      let is : t ≡ s = some_is (sym (ap (λ b. if b then Some t else None) same) ∙ e) in
      (ap Some is, subst (λ (u : Setting). takes c u ≡ true) is same)
  | inr other ↦ absurd (none_is (sym (ap (λ b. if b then Some t else None) other) ∙ e))
]
  where
    none_is : None ≡ Some s → ⊥
    none_is e = cc

-- ---- what is held between two words

abbrev pub at : List Row → Option (Text × List Text) → Waiting → ℕ → Walk
at rows pending waiting k = record {
  held = record { rows = rows; pending = pending; skip = 0 };
  waiting = waiting;
  position = k + 1;
  is_trailing = false;
  stopped = None;
}

-- what is pending makes these rows, without a fault
pub record Settles (c : Command) (pending : Option (Text × List Text)) (rows done : List Row) : Type 0 where
  pub rows_are : settled_rows (rules c) pending rows ≡ done
  pub no_fault : settle_fault (rules c) false (record { rows = rows; pending = pending; skip = 0 }) ≡ []

pub settles_none : (c : Command) (rows : List Row) → Settles c None rows rows
settles_none c rows = record { rows_are = refl; no_fault = refl }

settles_plain : (c : Command) (k : ℕ) (id x : Text) (rows : List Row) → plain_id c k ≡ Some id → has_row id rows ≡ false
    → Settles c (Some (id, x ∷ [])) rows (rows ++ row id x ∷ [])
settles_plain c k id x rows is new = record {
  rows_are = ap (λ (a : Option Rule). used_by_id a (x ∷ []) rows) (plain_at c k id is) ∙ added id x rows new;
  no_fault =
      ap (λ (a : Option Rule). option_map_or (λ (r : Rule). use_fault false r (x ∷ []) rows) a []) (plain_at c k id is)
      ∙ ap (λ b. or_else (if b && true
      then Rattle.clap.specs.declared.error.kind.ErrorKind.TheVariants.ArgumentConflict ∷ [] else []) []) new;
}

option_found : (c : Command) (s : Setting) → takes c s ≡ true → arg_by_id (rules c) (id_of s) ≡ Some (option_built s)
option_found c s takes_it = option_at c s ∙ ap (λ b. if b then Some (option_built s) else None) takes_it

settles_option : (c : Command) (s : Setting) (x : Text) (rows : List Row) → takes c s ≡ true
    → has_row (id_of s) rows ≡ false → Settles c (Some (id_of s, x ∷ [])) rows (rows ++ row (id_of s) x ∷ [])
settles_option c s x rows takes_it new = record {
  rows_are =
      ap (λ (a : Option Rule). used_by_id a (x ∷ []) rows) (option_found c s takes_it) ∙ added (id_of s) x rows new;
  no_fault =
      ap (λ (a : Option Rule). option_map_or (λ (r : Rule). use_fault false r (x ∷ []) rows) a [])
      (option_found c s takes_it)
      ∙ ap (λ b. or_else (if b && true
      then Rattle.clap.specs.declared.error.kind.ErrorKind.TheVariants.ArgumentConflict ∷ [] else []) []) new;
}

-- a setting that still waits for its value is a fault
still_waits : (c : Command) (s : Setting) (rows : List Row) → takes c s ≡ true
    → settle_fault (rules c) false (record { rows = rows; pending = Some (id_of s, []); skip = 0 }) ≡ InvalidValue ∷ []
still_waits c s rows takes_it =
    ap (λ (a : Option Rule). option_map_or (λ (r : Rule). use_fault false r [] rows) a []) (option_found c s takes_it)

-- ---- one word

-- the walk goes on here without a fault
record Goes (c : Command) (w : Walk) (x : Text) (onto : Walk) : Type 0 where
  there : walked (rules c) [] w x ≡ onto
  no_fault : turn_fault (shape c) [] w x ≡ []

-- how a plain word is met where no option waits, and where one does
plain_met : (c : Command) (waiting : Waiting) (k : ℕ) (x : Text) (h : Held) → IsPlainLook x
    → word_met (rules c) [] false waiting (k + 1) x h ≡ plain_word (rules c) waiting x h
plain_met c idle k x h look =
    ap (λ b. if b then (h, trailing (k + 1)) else long_or_other (rules c) idle x (long_of x) h) look.no_dashes
    ∙ ap (λ l. long_or_other (rules c) idle x l h) look.no_long
    ∙ ap (λ o. short_or_plain (rules c) idle x o h) look.no_short
plain_met c (option id) k x h look =
    ap (λ b. if b then (h, trailing (k + 1)) else long_or_other (rules c) (option id) x (long_of x) h) look.no_dashes
    ∙ ap (λ l. long_or_other (rules c) (option id) x l h) look.no_long
    ∙ ap (λ o. short_or_plain (rules c) (option id) x o h) look.no_short
plain_met c Rattle.clap.specs.Walk.positional k x h look =
    ap (λ b. if b then (h, trailing (k + 1))
    else long_or_other (rules c) Rattle.clap.specs.Walk.positional x (long_of x) h) look.no_dashes
    ∙ ap (λ l. long_or_other (rules c) Rattle.clap.specs.Walk.positional x l h) look.no_long
    ∙ ap (λ o. short_or_plain (rules c) Rattle.clap.specs.Walk.positional x o h) look.no_short

plain_fault : (c : Command) (x : Text) (h : Held) → IsPlainLook x
    → (if bytes_eq x dashes then [] else flag_word_fault (rules c) false (long_of x) x h) ≡ []
plain_fault c x h look =
    ap (λ b. if b then [] else flag_word_fault (rules c) false (long_of x) x h) look.no_dashes
    ∙ ap (λ l. flag_word_fault (rules c) false l x h) look.no_long
    ∙ ap (λ o. option_map_or (λ flags. bundle_fault (rules c) false flags h) o []) look.no_short

and_false : (b : Bool) → (b && false) ≡ false
and_false true = refl
and_false false = refl

-- a plain word goes to the next argument that must stand
goes_plain : (c : Command) (k : ℕ) (id x : Text) (p : Option (Text × List Text)) (rows done : List Row)
    → Settles c p rows done → is_plain_word x ≡ true → plain_id c k ≡ Some id → k ≤ 3
    → Goes c (at rows p idle k) x (at done (Some (id, x ∷ [])) idle (k + 1))
unfolding walked
goes_plain c k id x p rows done settles plain is few =
    let look = looks_plain x plain in
    let h : Held = (at rows p idle k).held in
    let met = plain_met c idle k x h look in
    let index = index_at c k ∙ ap (option_map (plain_built k)) is in
    let pend = and_false (is_pending (plain_built k id) p) in
    let small : min (k + 1 + 1) usize_max ≡ k + 1 + 1 = omega arith in
    record {
      there = ap (λ (m : Held × Rattle.clap.specs.Walk.Step). after_step (rules c) x (at rows p idle k) m.0 m.1) met
          ∙ ap (λ (a : Option Rule). to_positional (rules c) a x (at rows p idle k) h) index
          ∙ ap₂ (λ (b : Bool) (n : ℕ). the_walk b n) pend small
          ∙ ap (λ (rs : List Row). at rs (Some (id, x ∷ [])) idle (k + 1)) settles.rows_are;
      no_fault =
          ap (λ (f : Kinds). or_else f (step_fault (shape c) (k + 1) (word_met (rules c) [] false idle (k + 1) x h).0
          (word_met (rules c) [] false idle (k + 1) x h).1)) (plain_fault c x h look)
          ∙ ap (λ (m : Held × Rattle.clap.specs.Walk.Step). step_fault (shape c) (k + 1) m.0 m.1) met
          ∙ ap (λ (a : Option Rule).
          option_map_or (λ (r : Rule). positional_fault (rules c) false r h) a (stray_fault (shape c))) index
          ∙ ap (λ (b : Bool). if b then [] else settle_fault (rules c) false h) pend
          ∙ settles.no_fault;
    }
  where
    the_walk : Bool → ℕ → Walk
    the_walk b n = record {
      held = pushed id x (if b then (at rows p idle k).held else settled (rules c) (at rows p idle k).held);
      waiting = idle;
      position = n;
      is_trailing = false;
      stopped = None;
    }

-- a plain word that no argument takes is a fault
strays : (c : Command) (k : ℕ) (x : Text) (p : Option (Text × List Text)) (rows : List Row)
    → is_plain_word x ≡ true → plain_id c k ≡ None
    → turn_fault (shape c) [] (at rows p idle k) x ≡ UnknownArgument ∷ []
strays c k x p rows plain none =
    let look = looks_plain x plain in
    let h : Held = (at rows p idle k).held in
    let met = plain_met c idle k x h look in
    ap (λ (f : Kinds). or_else f (step_fault (shape c) (k + 1) (word_met (rules c) [] false idle (k + 1) x h).0
    (word_met (rules c) [] false idle (k + 1) x h).1)) (plain_fault c x h look)
    ∙ ap (λ (m : Held × Rattle.clap.specs.Walk.Step). step_fault (shape c) (k + 1) m.0 m.1) met
    ∙ ap (λ (a : Option Rule). option_map_or (λ (r : Rule). positional_fault (rules c) false r h) a
    (stray_fault (shape c))) (index_at c k ∙ ap (option_map (plain_built k)) none)
    ∙ leaf c
  where
    leaf : (c : Command) → stray_fault (shape c) ≡ UnknownArgument ∷ []
    leaf command.Plan = refl
    leaf command.Check = refl
    leaf command.Sweep = refl
    leaf command.Demo = refl
    leaf command.Nav = refl
    leaf command.NavCheck = refl

long_found : (c : Command) (s : Setting) → takes c s ≡ true → arg_by_long (rules c) (id_of s) ≡ Some (option_built s)
long_found c s takes_it = long_at c s ∙ ap (λ b. if b then Some (option_built s) else None) takes_it

-- a setting's name ends what was pending, and waits for its value
name_met : (c : Command) (k : ℕ) (s : Setting) (h : Held) → takes c s ≡ true
    → word_met (rules c) [] false idle (k + 1) (name_of s) h
    ≡ (record (settled (rules c) h) { pending = Some (id_of s, []) }, next (option (id_of s)))
name_met c k s h takes_it =
    ap (λ b. if b then (h, trailing (k + 1)) else long_or_other (rules c) idle (name_of s) (long_of (name_of s)) h)
    (not_dashes s)
    ∙ ap (λ l. long_or_other (rules c) idle (name_of s) l h) (long_name s)
    ∙ ap (λ (a : Option Rule). after_flag (rules c) idle (name_of s) (long_met (rules c) a None h).0
    (long_met (rules c) a None h).1) (long_found c s takes_it)

name_fault : (c : Command) (s : Setting) (h : Held) → takes c s ≡ true
    → (if bytes_eq (name_of s) dashes then [] else flag_word_fault (rules c) false (long_of (name_of s)) (name_of s) h)
    ≡ settle_fault (rules c) false h
name_fault c s h takes_it =
    ap (λ b. if b then [] else flag_word_fault (rules c) false (long_of (name_of s)) (name_of s) h) (not_dashes s)
    ∙ ap (λ l. flag_word_fault (rules c) false l (name_of s) h) (long_name s)
    ∙ ap (λ (a : Option Rule). long_fault (rules c) false a None h) (long_found c s takes_it)

goes_name : (c : Command) (k : ℕ) (s : Setting) (p : Option (Text × List Text)) (rows done : List Row)
    → Settles c p rows done → takes c s ≡ true
    → Goes c (at rows p idle k) (name_of s) (at done (Some (id_of s, [])) (option (id_of s)) k)
unfolding walked
goes_name c k s p rows done settles takes_it =
    let h : Held = (at rows p idle k).held in
    let met = name_met c k s h takes_it in
    record {
      there =
          ap (λ (m : Held × Rattle.clap.specs.Walk.Step).
          after_step (rules c) (name_of s) (at rows p idle k) m.0 m.1) met
          ∙ ap (λ (rs : List Row). at rs (Some (id_of s, [])) (option (id_of s)) k) settles.rows_are;
      no_fault = ap (λ (f : Kinds).
          or_else f (step_fault (shape c) (k + 1) (word_met (rules c) [] false idle (k + 1) (name_of s) h).0
          (word_met (rules c) [] false idle (k + 1) (name_of s) h).1)) (name_fault c s h takes_it ∙ settles.no_fault)
          ∙ ap (λ (m : Held × Rattle.clap.specs.Walk.Step). step_fault (shape c) (k + 1) m.0 m.1) met;
    }

-- a plain word is the value of the setting that waits
goes_value : (c : Command) (k : ℕ) (s : Setting) (x : Text) (rows : List Row) → takes c s ≡ true
    → is_plain_word x ≡ true
    → Goes c (at rows (Some (id_of s, [])) (option (id_of s)) k) x (at rows (Some (id_of s, x ∷ [])) idle k)
unfolding walked
goes_value c k s x rows takes_it plain =
    let look = looks_plain x plain in
    let w = at rows (Some (id_of s, [])) (option (id_of s)) k in
    let met = plain_met c (option (id_of s)) k x w.held look
    ∙ ap (λ (a : Option Rule). ((option_word a (id_of s) x w.held).0, next (option_word a (id_of s) x w.held).1))
    (option_found c s takes_it)
    ∙ ap (λ b. (pushed (id_of s) x w.held, next (if nat_lt (if b then 1 else 0) 1 then option (id_of s) else idle)))
    (bytes_same (id_of s)) in
    record {
      there = ap (λ (m : Held × Rattle.clap.specs.Walk.Step). after_step (rules c) x w m.0 m.1) met;
      no_fault = ap (λ (f : Kinds).
          or_else f (step_fault (shape c) (k + 1) (word_met (rules c) [] false (option (id_of s)) (k + 1) x w.held).0
          (word_met (rules c) [] false (option (id_of s)) (k + 1) x w.held).1)) (plain_fault c x w.held look)
          ∙ ap (λ (m : Held × Rattle.clap.specs.Walk.Step). step_fault (shape c) (k + 1) m.0 m.1) met;
    }

-- a setting's name where a value must stand is a fault
no_value : (c : Command) (k : ℕ) (s t : Setting) (rows : List Row) → takes c s ≡ true → takes c t ≡ true
    → turn_fault (shape c) [] (at rows (Some (id_of s, [])) (option (id_of s)) k) (name_of t) ≡ InvalidValue ∷ []
no_value c k s t rows takes_s takes_t =
    let w = at rows (Some (id_of s, [])) (option (id_of s)) k in
    ap (λ (f : Kinds). or_else f (step_fault (shape c) (k + 1) (word_met (rules c) [] false (option (id_of s)) (k + 1)
    (name_of t) w.held).0 (word_met (rules c) [] false (option (id_of s)) (k + 1) (name_of t) w.held).1))
    (name_fault c t w.held takes_t ∙ still_waits c s rows takes_s)

-- ---- all words

-- the walk ends without a fault, with these rows
pub record Finds (c : Command) (w : Walk) (xs : List Text) (rows : List Row) : Type 0 where
  pub no_fault : walk_fault (shape c) [] w xs ≡ []
  pub settles : settle_fault (rules c) false (fold (walked (rules c) []) w xs).held ≡ []
  pub rows_are : (settled (rules c) (fold (walked (rules c) []) w xs).held).rows ≡ rows

-- the walk ends with a fault
pub record Refuses (c : Command) (w : Walk) (xs : List Text) : Type 0 where
  pub fault : or_else (walk_fault (shape c) [] w xs)
      (settle_fault (rules c) false (fold (walked (rules c) []) w xs).held) ≢ []

abbrev pub Uses : Type 0
Uses = List (Text × Text)

abbrev pub row_of_use : Text × Text → Row
row_of_use u = row u.0 u.1

abbrev pub Walks : Command → Walk → List Text → List Row → Option Uses → Type 0
Walks c w xs done (Some us) = Finds c w xs (done ++ map row_of_use us)
Walks c w xs done None = Refuses c w xs

-- what the words are used for, where clap takes them: an argument and its value, one by one
unfoldable pub uses : Command → ℕ → Option Setting → List Text → Option Uses
uses c k None [] = Some []
uses c k (Some s) [] = None
uses c k None (x ∷ xs) =
    if is_plain_word x
    then option_and_then (λ id. option_map (λ us. (id, x) ∷ us) (uses c (k + 1) None xs)) (plain_id c k)
    else option_and_then (λ s. uses c k (Some s) xs) (setting_of c x)
uses c k (Some s) (x ∷ xs) = if is_plain_word x then option_map (λ us. (id_of s, x) ∷ us) (uses c k None xs) else None

finds_more : (c : Command) (w onto : Walk) (x : Text) (xs : List Text) (rows : List Row) → Goes c w x onto
    → Finds c onto xs rows → Finds c w (x ∷ xs) rows
unfolding walk_fault
finds_more c w onto x xs rows goes finds = record {
  no_fault = ap₂ or_else goes.no_fault (ap (λ (v : Walk). walk_fault (shape c) [] v xs) goes.there) ∙ finds.no_fault;
  settles =
      ap (λ (v : Walk). settle_fault (rules c) false (fold (walked (rules c) []) v xs).held) goes.there ∙ finds.settles;
  rows_are =
      ap (λ (v : Walk). (settled (rules c) (fold (walked (rules c) []) v xs).held).rows) goes.there ∙ finds.rows_are;
}

refuses_more : (c : Command) (w onto : Walk) (x : Text) (xs : List Text) → Goes c w x onto
    → Refuses c onto xs → Refuses c w (x ∷ xs)
unfolding walk_fault
refuses_more c w onto x xs goes refuses = record {
  fault = λ none. refuses.fault (sym (ap₂ or_else
      (ap₂ or_else goes.no_fault (ap (λ (v : Walk). walk_fault (shape c) [] v xs) goes.there))
      (ap (λ (v : Walk). settle_fault (rules c) false (fold (walked (rules c) []) v xs).held) goes.there)) ∙ none);
}

refuses_here : (c : Command) (w : Walk) (x : Text) (xs : List Text)
    (kind : Rattle.clap.specs.declared.error.kind.ErrorKind.ErrorKind)
    → turn_fault (shape c) [] w x ≡ kind ∷ [] → Refuses c w (x ∷ xs)
unfolding walk_fault
refuses_here c w x xs kind is = record {
  fault = λ none.
      some_kind kind (sym (ap (λ (f : Kinds). or_else (or_else f (walk_fault (shape c) [] (walked (rules c) [] w x) xs))
      (settle_fault (rules c) false (fold (walked (rules c) []) w (x ∷ xs)).held)) is) ∙ none);
}
  where
    some_kind : (k : Rattle.clap.specs.declared.error.kind.ErrorKind.ErrorKind) → k ∷ [] ≡ [] → ⊥
    some_kind k e = cc

-- one more use
walks_use : (c : Command) (w onto : Walk) (x : Text) (xs : List Text) (done : List Row) (u : Text × Text)
    (us : Option Uses) → Goes c w x onto → Walks c onto xs (done ++ row_of_use u ∷ []) us
    → Walks c w (x ∷ xs) done (option_map (λ vs. u ∷ vs) us)
walks_use c w onto x xs done u (Some vs) goes walks =
    finds_more c w onto x xs _ goes
    (subst (Finds c onto xs) (append_assoc done (row_of_use u ∷ []) (map row_of_use vs)) walks)
walks_use c w onto x xs done u None goes walks = refuses_more c w onto x xs goes walks

walks_on : (c : Command) (w onto : Walk) (x : Text) (xs : List Text) (done : List Row) (us : Option Uses)
    → Goes c w x onto → Walks c onto xs done us → Walks c w (x ∷ xs) done us
walks_on c w onto x xs done (Some vs) goes walks = finds_more c w onto x xs _ goes walks
walks_on c w onto x xs done None goes walks = refuses_more c w onto x xs goes walks

-- no argument that is still to be used has a row
pub record IsFresh (c : Command) (k : ℕ) (done : List Row) (xs : List Text) : Type 0 where
  pub plains : (j : ℕ) (id : Text) → k ≤ j → plain_id c j ≡ Some id → has_row id done ≡ false
  pub settings : (s : Setting) → list_any (bytes_eq (name_of s)) xs ≡ true → has_row (id_of s) done ≡ false

fresh_plain : (c : Command) (k : ℕ) (id x : Text) (done : List Row) (xs : List Text) → plain_id c k ≡ Some id
    → IsFresh c k done (x ∷ xs) → IsFresh c (k + 1) (done ++ row id x ∷ []) xs
fresh_plain c k id x done xs is fresh = record {
  plains = λ j other le other_is. has_row_added other id x done (fresh.plains j other (omega arith) other_is)
      (plains_apart c k j id other (omega arith) is other_is);
  settings = λ s stands. has_row_added (id_of s) id x done
      (fresh.settings s (or_right (bytes_eq (name_of s) x) _ stands)) (plain_from_setting c k id s is);
}

fresh_value : (c : Command) (k : ℕ) (s : Setting) (x : Text) (done : List Row) (xs : List Text)
    → list_any (bytes_eq (name_of s)) xs ≡ false → IsFresh c k done (x ∷ xs)
    → IsFresh c k (done ++ row (id_of s) x ∷ []) xs
fresh_value c k s x done xs once fresh = record {
  plains = λ j id le is. has_row_added id (id_of s) x done (fresh.plains j id le is)
      (bytes_apart id (id_of s) (plain_from_setting c j id s is));
  settings = λ t stands.
      has_row_added (id_of t) (id_of s) x done (fresh.settings t (or_right (bytes_eq (name_of t) x) _ stands))
      (differ (id_of s) (id_of t) (λ same.
      true≢false (sym (subst (λ (i : Text). list_any (bytes_eq (45 ∷ (45 ∷ i))) xs ≡ true) (sym same) stands) ∙ once)));
}

fresh_rest : (c : Command) (k : ℕ) (x : Text) (done : List Row) (xs : List Text)
    → IsFresh c k done (x ∷ xs) → IsFresh c k done xs
fresh_rest c k x done xs fresh = record {
  plains = fresh.plains;
  settings = λ s stands. fresh.settings s (or_right (bytes_eq (name_of s) x) _ stands);
}

-- how many plain words a command has
abbrev pub places : Command → ℕ
places command.Plan = 2
places command.Check = 3
places command.Sweep = 2
places command.Demo = 3
places command.Nav = 1
places command.NavCheck = 2

pub has_place : (c : Command) (k : ℕ) (id : Text) → plain_id c k ≡ Some id → k < places c
has_place command.Plan zero id is = omega arith
has_place command.Plan (suc zero) id is = omega arith
has_place command.Plan (suc (suc k)) id is = cc
has_place command.Check zero id is = omega arith
has_place command.Check (suc zero) id is = omega arith
has_place command.Check (suc (suc zero)) id is = omega arith
has_place command.Check (suc (suc (suc k))) id is = cc
has_place command.Sweep zero id is = omega arith
has_place command.Sweep (suc zero) id is = omega arith
has_place command.Sweep (suc (suc k)) id is = cc
has_place command.Demo zero id is = omega arith
has_place command.Demo (suc zero) id is = omega arith
has_place command.Demo (suc (suc zero)) id is = omega arith
has_place command.Demo (suc (suc (suc k))) id is = cc
has_place command.Nav zero id is = omega arith
has_place command.Nav (suc k) id is = cc
has_place command.NavCheck zero id is = omega arith
has_place command.NavCheck (suc zero) id is = omega arith
has_place command.NavCheck (suc (suc k)) id is = cc

pub has_no_place : (c : Command) (k : ℕ) → plain_id c k ≡ None → places c ≤ k
has_no_place command.Plan zero none = cc
has_no_place command.Plan (suc zero) none = cc
has_no_place command.Plan (suc (suc k)) none = omega arith
has_no_place command.Check zero none = cc
has_no_place command.Check (suc zero) none = cc
has_no_place command.Check (suc (suc zero)) none = cc
has_no_place command.Check (suc (suc (suc k))) none = omega arith
has_no_place command.Sweep zero none = cc
has_no_place command.Sweep (suc zero) none = cc
has_no_place command.Sweep (suc (suc k)) none = omega arith
has_no_place command.Demo zero none = cc
has_no_place command.Demo (suc zero) none = cc
has_no_place command.Demo (suc (suc zero)) none = cc
has_no_place command.Demo (suc (suc (suc k))) none = omega arith
has_no_place command.Nav zero none = cc
has_no_place command.Nav (suc k) none = omega arith
has_no_place command.NavCheck zero none = cc
has_no_place command.NavCheck (suc zero) none = cc
has_no_place command.NavCheck (suc (suc k)) none = omega arith

few : (c : Command) → places c ≤ 3
few command.Plan = omega arith
few command.Check = omega arith
few command.Sweep = omega arith
few command.Demo = omega arith
few command.Nav = omega arith
few command.NavCheck = omega arith

-- where the walk stands before words, where a setting may wait for its value; and what is known there
abbrev pub standing : Command → ℕ → Option Setting → Option (Text × List Text) → (rows done : List Row) → Walk
standing c k None p rows done = at rows p idle k
standing c k (Some s) p rows done = at done (Some (id_of s, [])) (option (id_of s)) k

abbrev pub IsReady : Command → Option Setting → Option (Text × List Text) → (rows done : List Row) → List Text → Type 0
IsReady c None p rows done xs = Settles c p rows done
IsReady c (Some s) p rows done xs =
    (takes c s ≡ true) × (has_row (id_of s) done ≡ false) × (list_any (bytes_eq (name_of s)) xs ≡ false)

-- what follows of a word that is known, and of a setting that stands once
abbrev IsSingle : Command → Text → List Text → Type 0
IsSingle c x xs = stands_once c x xs ≡ true

is_unknown : (c : Command) (x : Text) → is_known c x ≡ true → is_plain_word x ≡ false → setting_of c x ≡ None → ⊥
is_unknown c x known other is =
    true≢false (sym known ∙ or_from (is_plain_word x) (is_some (setting_of c x)) other (ap is_some is))

stands_no_more : (c : Command) (x : Text) (xs : List Text) (s : Setting) → IsSingle c x xs → setting_of c x ≡ Some s
    → x ≡ name_of s → list_any (bytes_eq (name_of s)) xs ≡ false
stands_no_more c x xs s single is at_name = subst (λ (y : Text). list_any (bytes_eq y) xs ≡ false) at_name
    (not-true _
    (ap (λ (o : Option Setting). not (option_map_or (λ _. list_any (bytes_eq x) xs) o false)) (sym is) ∙ single))

-- what a word that is not plain is used for, where nothing waits
abbrev pub after_name : Command → ℕ → List Text → Option Setting → Option Uses
after_name c k xs o = option_and_then (λ s. uses c k (Some s) xs) o

abbrev pub after_plain : Command → ℕ → Text → List Text → Option Text → Option Uses
after_plain c k x xs o = option_and_then (λ id. option_map (λ us. (id, x) ∷ us) (uses c (k + 1) None xs)) o

-- what the walk makes of these words, wherever it stands before them
abbrev pub WalksOn : Command → List Text → Type 0
WalksOn c xs =
    (k : ℕ) (a : Option Setting) (p : Option (Text × List Text)) (rows done : List Row) → IsReady c a p rows done xs
    → k ≤ 3 → list_all (is_known c) xs ≡ true → once c xs ≡ true → IsFresh c k done xs
    → Walks c (standing c k a p rows done) xs done (uses c k a xs)

pub walks : (xs : List Text) (c : Command) (k : ℕ) (a : Option Setting) (p : Option (Text × List Text))
    (rows done : List Row) → IsReady c a p rows done xs → k ≤ 3 → list_all (is_known c) xs ≡ true
    → once c xs ≡ true → IsFresh c k done xs
    → Walks c (standing c k a p rows done) xs done (uses c k a xs)
unfolding uses walk_fault
walks [] c k None p rows done settles le known single fresh =
    record { no_fault = refl; settles = settles.no_fault; rows_are = settles.rows_are ∙ sym (append-nil done) }
walks [] c k (Some s) p rows done ready le known single fresh =
    record { fault = λ none. some_kind (sym (still_waits c s done ready.0) ∙ none) }
  where
    some_kind : InvalidValue ∷ [] ≡ [] → ⊥
    some_kind e = cc
walks (x ∷ xs) c k None p rows done settles le known single fresh = elim (cases_Bool (is_plain_word x)) [
  | inl plain ↦
      subst (Walks c w (x ∷ xs) done)
      (sym (ap (λ b. if b then after_plain c k x xs (plain_id c k) else after_name c k xs (setting_of c x)) plain))
      (by_place (walks xs c) (plain_id c k) refl plain)
  | inr other ↦
      subst (Walks c w (x ∷ xs) done)
      (sym (ap (λ b. if b then after_plain c k x xs (plain_id c k) else after_name c k xs (setting_of c x)) other))
      (by_name (walks xs c) (setting_of c x) refl other)
]
  where
    w : Walk
    w = at rows p idle k

    parts : (is_known c x ≡ true) × (list_all (is_known c) xs ≡ true)
    parts = and_parts (is_known c x) (list_all (is_known c) xs) known

    singles : IsSingle c x xs × (once c xs ≡ true)
    singles = and_parts _ (once c xs) single

    by_place : WalksOn c xs → (o : Option Text) → plain_id c k ≡ o → is_plain_word x ≡ true
        → Walks c w (x ∷ xs) done (after_plain c k x xs o)
    by_place further None is plain = refuses_here c w x xs _ (strays c k x p rows plain is)
    by_place further (Some id) is plain =
        walks_use c w _ x xs done (id, x) _ (goes_plain c k id x p rows done settles plain is le)
        (further (k + 1) None (Some (id, x ∷ [])) done (done ++ row id x ∷ [])
        (settles_plain c k id x done is (fresh.plains k id (omega arith) is)) (let less = has_place c k id is in
        let le = few c in omega arith) parts.1 singles.1 (fresh_plain c k id x done xs is fresh))

    by_name : WalksOn c xs → (o : Option Setting) → setting_of c x ≡ o → is_plain_word x ≡ false
        → Walks c w (x ∷ xs) done (after_name c k xs o)
    by_name further None is other = absurd (is_unknown c x parts.0 other is)
    by_name further (Some s) is other =
        let named = taken c s (setting_named x) is in
        let at_name = is_name x s named.0 in
        let stands : bytes_eq (name_of s) x ≡ true = (bytes_eq-Decides (name_of s) x).1 (sym at_name) in
        let no_row = fresh.settings s (ap (λ b. b || list_any (bytes_eq (name_of s)) xs) stands) in
        walks_on c w _ x xs done _ (subst (λ (y : Text). Goes c w y (at done (Some (id_of s, [])) (option (id_of s)) k))
        (sym at_name) (goes_name c k s p rows done settles named.1))
        (further k (Some s) p rows done (named.1, no_row, stands_no_more c x xs s singles.0 is at_name) le parts.1
        singles.1 (fresh_rest c k x done xs fresh))
walks (x ∷ xs) c k (Some s) p rows done ready le known single fresh = elim (cases_Bool (is_plain_word x)) [
  | inl plain ↦
      subst (Walks c w (x ∷ xs) done)
      (sym (ap (λ b. if b then option_map (λ us. (id_of s, x) ∷ us) (uses c k None xs) else None) plain))
      (by_value (walks xs c) plain)
  | inr other ↦
      subst (Walks c w (x ∷ xs) done)
      (sym (ap (λ b. if b then option_map (λ us. (id_of s, x) ∷ us) (uses c k None xs) else None) other))
      (by_name (setting_of c x) refl other)
]
  where
    w : Walk
    w = at done (Some (id_of s, [])) (option (id_of s)) k

    parts : (is_known c x ≡ true) × (list_all (is_known c) xs ≡ true)
    parts = and_parts (is_known c x) (list_all (is_known c) xs) known

    singles : IsSingle c x xs × (once c xs ≡ true)
    singles = and_parts _ (once c xs) single

    by_value : WalksOn c xs → is_plain_word x ≡ true
        → Walks c w (x ∷ xs) done (option_map (λ us. (id_of s, x) ∷ us) (uses c k None xs))
    by_value further plain = walks_use c w _ x xs done (id_of s, x) _ (goes_value c k s x done ready.0 plain)
        (further k None (Some (id_of s, x ∷ [])) done (done ++ row (id_of s) x ∷ [])
        (settles_option c s x done ready.0 ready.1) le parts.1 singles.1
        (fresh_value c k s x done xs (or_parts (bytes_eq (name_of s) x) _ ready.2).1 fresh))

    by_name : (o : Option Setting) → setting_of c x ≡ o → is_plain_word x ≡ false → Walks c w (x ∷ xs) done None
    by_name None is other = absurd (is_unknown c x parts.0 other is)
    by_name (Some t) is other =
        let named = taken c t (setting_named x) is in
        refuses_here c w x xs _ (subst (λ (y : Text). turn_fault (shape c) [] w y ≡ InvalidValue ∷ [])
        (sym (is_name x t named.0)) (no_value c k s t done ready.0 named.1))
