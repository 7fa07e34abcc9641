-- Words divide into forms.
use Rattle.std.proofs.Common.{◌≡◌, ◌≢◌, ◌∙◌, ◌<◌, ◌+◌, ◌⊎◌, ℕ, Bool, true, false, not, zero, suc, refl, sym, ap, ap₂}
use Rattle.std.proofs.Common.{subst, arith, inl, inr, List, [], ◌∷◌, ◌++◌, take, length, get_or, Option, Some, None}
use Rattle.std.proofs.Common.{option_map, is_some, if◌then◌else◌}
use Rattle.std.specs.Prelude.{option_and_then}
use Rattle.std.specs.List.{All, AllPairs, after_first, before_first, flat_map, list_any, position_or_len}
use Rattle.std.specs.Option.{option_map_or}
use Rattle.std.specs.Str.{bytes_eq}
use Rattle.std.proofs.lemmas.Bool.{and_from, and_parts, and_right, cases_Bool, eqb-true, not-true}
use Rattle.std.proofs.lemmas.Bool.{or_from, or_parts, true≢false}
use Rattle.std.proofs.lemmas.List.{length-drop}
use Rattle.std.proofs.lemmas.List.Elements.{All-cons, All-head, All-nil, All-tail}
use Rattle.std.proofs.lemmas.List.Kept.{AllPairs-cons}
use Rattle.std.proofs.lemmas.List.Sums.{passes_at_first, split_at_first}
use Rattle.std.proofs.lemmas.Option.{none-some, same_Some}
use Rattle.std.proofs.lemmas.Slice.Eq.{bytes_eq-Decides}
use Rattle.sbpl_job.specs.declared.words.Command.{Command}
use Rattle.sbpl_job.specs.declared.words.Setting.{Setting}
use Rattle.sbpl_job.specs.declared.words.Setting.TheVariants as setting
use Rattle.sbpl_job.specs.Words.{Given, WordParts, is_equals, is_joined, is_plain_word, no_parts, once, parts_after}
use Rattle.sbpl_job.specs.Words.{parts_in, parts_of, setting_named, setting_of, spaced, spaced_word, stands_once}
use Rattle.sbpl_job.specs.Words.{takes, with_given, with_plain}
use Rattle.sbpl_job.specs.Forms.{Form, Plain, Apart, Joined, name_of, form_words, plain_of, given_of, IsFit, Differ}
use Rattle.sbpl_job.specs.Forms.{ArePartsOf, PartsAreOfForms, NoPartsWithoutForms}
use Rattle.sbpl_job.proofs.Finding.{is_name, taken}

abbrev Word : Type 0
Word = List ℕ

-- ---- options and choices

some_or_none : {X : Type 0} (o : Option X) → ((x : X) × (o ≡ Some x)) ⊎ (o ≡ None)
some_or_none (Some x) = inl (x, refl)
some_or_none None = inr refl

it_is : {X : Type 0} (o : Option X) → is_some o ≡ true → (x : X) × (o ≡ Some x)
it_is (Some x) e = (x, refl)
it_is None e = absurd (true≢false (sym e))

chosen : {X : Type 0} (b : Bool) (o : Option X) (x : X) → (if b then o else None) ≡ Some x → (b ≡ true) × (o ≡ Some x)
chosen true o x e = (refl, e)
chosen false o x e = absurd (none-some x e)

mapped : {X Y : Type 0} (f : X → Y) (o : Option X) (y : Y) → option_map f o ≡ Some y
    → (x : X) × (o ≡ Some x) × (f x ≡ y)
mapped f (Some x) y e = (x, refl, same_Some (f x) y e)
mapped f None y e = absurd (none-some y e)

-- ---- names and plain words

apart_bytes : (x y : Word) → x ≢ y → bytes_eq x y ≡ false
apart_bytes x y apart =
    elim (cases_Bool (bytes_eq x y)) [ inl same ↦ absurd (apart ((bytes_eq-Decides x y).0 same)) | inr other ↦ other ]

named : (s : Setting) → setting_named (name_of s) ≡ Some s
named setting.Changes = refl
named setting.Radius = refl
named setting.Planner = refl
named setting.Workers = refl
named setting.First = refl
named setting.Step = refl
named setting.Bound = refl
named setting.Budget = refl
named setting.States = refl
named setting.Labels = refl
named setting.LabelsAs = refl
named setting.Trace = refl
named setting.Incumbent = refl
named setting.Start = refl
named setting.Goal = refl

same_name : (s t : Setting) → name_of s ≡ name_of t → s ≡ t
same_name s t e = same_Some s t (sym (named s) ∙ ap setting_named e ∙ named t)

names_differ : (s t : Setting) → s ≢ t → bytes_eq (name_of s) (name_of t) ≡ false
names_differ s t apart = apart_bytes (name_of s) (name_of t) (λ e. apart (same_name s t e))

settings_differ : (s t : Setting) → bytes_eq (name_of s) (name_of t) ≡ false → s ≢ t
settings_differ s t apart e = true≢false (sym ((bytes_eq-Decides (name_of s) (name_of t)).1 (ap name_of e)) ∙ apart)

name_is_not : (s : Setting) (x : Word) → is_plain_word x ≡ true → name_of s ≢ x
name_is_not s x plain e = true≢false (sym plain ∙ ap is_plain_word (sym e))

name_differs : (s : Setting) (x : Word) → is_plain_word x ≡ true → bytes_eq (name_of s) x ≡ false
name_differs s x plain = apart_bytes (name_of s) x (name_is_not s x plain)

-- the setting of a name that the command takes, and of a plain word
by_name : (c : Command) (s : Setting) → takes c s ≡ true → setting_of c (name_of s) ≡ Some s
by_name c s takes_it =
    ap (option_and_then (λ t. if takes c t then Some t else None)) (named s)
    ∙ ap (λ b. if b then Some s else None) takes_it

-- a name that has a setting
record IsNameOf (c : Command) (x : Word) (s : Setting) : Type 0 where
  name : x ≡ name_of s
  takes_it : takes c s ≡ true

the_name : (c : Command) (x : Word) (s : Setting) → setting_of c x ≡ Some s → IsNameOf c x s
the_name c x s e = let both = taken c s (setting_named x) e in record { name = is_name x s both.0; takes_it = both.1 }

plain_sets_nothing : (c : Command) (x : Word) → is_plain_word x ≡ true → setting_of c x ≡ None
plain_sets_nothing c x plain = elim (some_or_none (setting_of c x)) [
  | inl found ↦ absurd (name_is_not found.0 x plain (sym (the_name c x found.0 found.1).name))
  | inr none ↦ none
]

-- ---- names and values in one word

split_before : (s : Setting) (value : Word) → before_first is_equals (name_of s ++ (61 ∷ value)) ≡ name_of s
split_before setting.Changes value = refl
split_before setting.Radius value = refl
split_before setting.Planner value = refl
split_before setting.Workers value = refl
split_before setting.First value = refl
split_before setting.Step value = refl
split_before setting.Bound value = refl
split_before setting.Budget value = refl
split_before setting.States value = refl
split_before setting.Labels value = refl
split_before setting.LabelsAs value = refl
split_before setting.Trace value = refl
split_before setting.Incumbent value = refl
split_before setting.Start value = refl
split_before setting.Goal value = refl

split_after : (s : Setting) (value : Word) → after_first is_equals (name_of s ++ (61 ∷ value)) ≡ value
split_after setting.Changes value = refl
split_after setting.Radius value = refl
split_after setting.Planner value = refl
split_after setting.Workers value = refl
split_after setting.First value = refl
split_after setting.Step value = refl
split_after setting.Bound value = refl
split_after setting.Budget value = refl
split_after setting.States value = refl
split_after setting.Labels value = refl
split_after setting.LabelsAs value = refl
split_after setting.Trace value = refl
split_after setting.Incumbent value = refl
split_after setting.Start value = refl
split_after setting.Goal value = refl

name_is_whole : (s : Setting) → after_first is_equals (name_of s) ≡ []
name_is_whole setting.Changes = refl
name_is_whole setting.Radius = refl
name_is_whole setting.Planner = refl
name_is_whole setting.Workers = refl
name_is_whole setting.First = refl
name_is_whole setting.Step = refl
name_is_whole setting.Bound = refl
name_is_whole setting.Budget = refl
name_is_whole setting.States = refl
name_is_whole setting.Labels = refl
name_is_whole setting.LabelsAs = refl
name_is_whole setting.Trace = refl
name_is_whole setting.Incumbent = refl
name_is_whole setting.Start = refl
name_is_whole setting.Goal = refl

plain_is_long : (x : Word) → is_plain_word x ≡ true → 0 < length x
plain_is_long [] plain = absurd (true≢false (sym plain))
plain_is_long (b ∷ bs) plain = omega arith

-- a word with something after its first '=' is put together again
rejoined : (x : Word) → is_plain_word (after_first is_equals x) ≡ true
    → x ≡ before_first is_equals x ++ (61 ∷ after_first is_equals x)
rejoined x plain =
    let some = plain_is_long (after_first is_equals x) plain in
    let inside : position_or_len is_equals x < length x =
    omega (arith, some, length-drop (position_or_len is_equals x + 1) x) in
    let there = eqb-true (get_or x (position_or_len is_equals x) 0) 61 (passes_at_first is_equals x 0 inside) in
    split_at_first is_equals x 0 inside ∙ ap (λ b. before_first is_equals x ++ (b ∷ after_first is_equals x)) there

first_stays : (n b : ℕ) (bs : Word) (y : ℕ) (ys : Word) → take n (b ∷ bs) ≡ y ∷ ys → b ≡ y
first_stays zero b bs y ys e = cc
first_stays (suc n) b bs y ys e = cc

front_is_plain : (x : Word) (s : Setting) → is_plain_word x ≡ true → before_first is_equals x ≢ name_of s
front_is_plain [] s plain e = true≢false (sym plain)
front_is_plain (b ∷ bs) s plain e =
    let dash = first_stays (position_or_len is_equals (b ∷ bs)) b bs 45 _ e in
    true≢false (sym plain ∙ ap (λ n. is_plain_word (n ∷ bs)) dash)

not_joined : (c : Command) (x : Word) → is_joined c x ≡ false → spaced_word c x ≡ x ∷ []
not_joined c x e =
    ap (λ b. option_map_or (λ (parts : Word × Word). parts.0 ∷ (parts.1 ∷ []))
    (if b then Some (before_first is_equals x, after_first is_equals x) else None) (x ∷ [])) e

is_split : (c : Command) (x : Word) → is_joined c x ≡ true
    → spaced_word c x ≡ before_first is_equals x ∷ (after_first is_equals x ∷ [])
is_split c x e =
    ap (λ b. option_map_or (λ (parts : Word × Word). parts.0 ∷ (parts.1 ∷ []))
    (if b then Some (before_first is_equals x, after_first is_equals x) else None) (x ∷ [])) e

-- the parts of a word that has both
record IsSplit (c : Command) (x : Word) (s : Setting) : Type 0 where
  name : before_first is_equals x ≡ name_of s
  takes_it : takes c s ≡ true
  plain : is_plain_word (after_first is_equals x) ≡ true

split_parts : (c : Command) (x : Word) → is_joined c x ≡ true → (s : Setting) × IsSplit c x s
split_parts c x e =
    let both =
    and_parts (is_some (setting_of c (before_first is_equals x))) (is_plain_word (after_first is_equals x)) e in
    let found = it_is (setting_of c (before_first is_equals x)) both.0 in
    let it = the_name c (before_first is_equals x) found.0 found.1 in
    (found.0, record { name = it.name; takes_it = it.takes_it; plain = both.1 })

spaced_plain : (c : Command) (x : Word) → is_plain_word x ≡ true → spaced_word c x ≡ x ∷ []
spaced_plain c x plain = elim (cases_Bool (is_joined c x)) [
  | inl both ↦ let it = split_parts c x both in absurd (front_is_plain x it.0 plain it.1.name)
  | inr other ↦ not_joined c x other
]

spaced_name : (c : Command) (s : Setting) → spaced_word c (name_of s) ≡ name_of s ∷ []
spaced_name c s =
    not_joined c (name_of s) (and_right (is_some (setting_of c (before_first is_equals (name_of s))))
    (is_plain_word (after_first is_equals (name_of s))) (ap is_plain_word (name_is_whole s)))

spaced_joined : (c : Command) (s : Setting) (value : Word) → takes c s ≡ true → is_plain_word value ≡ true
    → spaced_word c (name_of s ++ (61 ∷ value)) ≡ name_of s ∷ (value ∷ [])
spaced_joined c s value takes_it plain =
    let x = name_of s ++ (61 ∷ value) in
    let has : is_some (setting_of c (before_first is_equals x)) ≡ true =
    ap (λ n. is_some (setting_of c n)) (split_before s value) ∙ ap is_some (by_name c s takes_it) in
    let good : is_plain_word (after_first is_equals x) ≡ true = ap is_plain_word (split_after s value) ∙ plain in
    is_split c x (and_from _ _ has good)
    ∙ ap₂ (λ (a b : Word). a ∷ (b ∷ [])) (split_before s value) (split_after s value)

-- ---- from forms to parts

-- the words of a form, spaced
abbrev spaced_form : Form → List Word
spaced_form (Plain x) = x ∷ []
spaced_form (Apart s value) = name_of s ∷ (value ∷ [])
spaced_form (Joined s value) = name_of s ∷ (value ∷ [])

abbrev parts_by : List Form → WordParts
parts_by fs = record { plain = flat_map plain_of fs; given = flat_map given_of fs }

spaced_forms : (fs : List Form) (c : Command) → All (IsFit c) fs
    → spaced c (flat_map form_words fs) ≡ flat_map spaced_form fs
spaced_forms [] c fit = refl
spaced_forms (Plain x ∷ fs) c fit =
    ap₂ (λ (a b : List Word). a ++ b) (spaced_plain c x (All-head (IsFit c) (Plain x) fs fit))
    (spaced_forms fs c (All-tail (IsFit c) (Plain x) fs fit))
spaced_forms (Apart s value ∷ fs) c fit =
    let here : IsFit c (Apart s value) = All-head (IsFit c) (Apart s value) fs fit in
    ap₂ (λ (a b : List Word). a ++ b) (spaced_name c s)
    (ap₂ (λ (a b : List Word). a ++ b) (spaced_plain c value here.1)
    (spaced_forms fs c (All-tail (IsFit c) (Apart s value) fs fit)))
spaced_forms (Joined s value ∷ fs) c fit =
    let here : IsFit c (Joined s value) = All-head (IsFit c) (Joined s value) fs fit in
    ap₂ (λ (a b : List Word). a ++ b) (spaced_joined c s value here.0 here.1)
    (spaced_forms fs c (All-tail (IsFit c) (Joined s value) fs fit))

parts_name : (c : Command) (s : Setting) (value : Word) (xs : List Word) (p : WordParts) → takes c s ≡ true
    → is_plain_word value ≡ true → parts_after c None xs ≡ Some p
    → parts_after c None (name_of s ∷ (value ∷ xs)) ≡ Some (with_given s value p)
parts_name c s value xs p takes_it plain more =
    ap (option_and_then (λ t. parts_after c (Some t) (value ∷ xs))) (by_name c s takes_it)
    ∙ ap (λ b. if b then option_map (with_given s value) (parts_after c None xs) else None) plain
    ∙ ap (option_map (with_given s value)) more

parts_plain : (c : Command) (x : Word) (xs : List Word) (p : WordParts) → is_plain_word x ≡ true
    → parts_after c None xs ≡ Some p → parts_after c None (x ∷ xs) ≡ Some (with_plain x p)
parts_plain c x xs p plain more =
    ap (λ b. if b then option_map (with_plain x) (parts_after c None xs)
    else option_and_then (λ s. parts_after c (Some s) xs) (setting_of c x)) plain
    ∙ ap (option_map (with_plain x)) more

parts_forms : (fs : List Form) (c : Command) → All (IsFit c) fs
    → parts_after c None (flat_map spaced_form fs) ≡ Some (parts_by fs)
parts_forms [] c fit = refl
parts_forms (Plain x ∷ fs) c fit =
    parts_plain c x (flat_map spaced_form fs) (parts_by fs) (All-head (IsFit c) (Plain x) fs fit)
    (parts_forms fs c (All-tail (IsFit c) (Plain x) fs fit))
parts_forms (Apart s value ∷ fs) c fit =
    let here : IsFit c (Apart s value) = All-head (IsFit c) (Apart s value) fs fit in
    parts_name c s value (flat_map spaced_form fs) (parts_by fs) here.0 here.1
    (parts_forms fs c (All-tail (IsFit c) (Apart s value) fs fit))
parts_forms (Joined s value ∷ fs) c fit =
    let here : IsFit c (Joined s value) = All-head (IsFit c) (Joined s value) fs fit in
    parts_name c s value (flat_map spaced_form fs) (parts_by fs) here.0 here.1
    (parts_forms fs c (All-tail (IsFit c) (Joined s value) fs fit))

-- ---- no setting twice

abbrev IsOther : Setting → Given → Type 0
IsOther s h = s ≢ h.setting

-- a name stands in no form that does not give its setting
absent_at : (s t : Setting) (value : Word) (xs : List Word) → s ≢ t → is_plain_word value ≡ true
    → list_any (bytes_eq (name_of s)) xs ≡ false
    → list_any (bytes_eq (name_of s)) (name_of t ∷ (value ∷ xs)) ≡ false
absent_at s t value xs apart plain more =
    or_from (bytes_eq (name_of s) (name_of t)) _ (names_differ s t apart)
    (or_from (bytes_eq (name_of s) value) _ (name_differs s value plain) more)

absent : (fs : List Form) (c : Command) (s : Setting) → All (IsFit c) fs → All (IsOther s) (flat_map given_of fs)
    → list_any (bytes_eq (name_of s)) (flat_map spaced_form fs) ≡ false
absent [] c s fit others = refl
absent (Plain x ∷ fs) c s fit others =
    or_from (bytes_eq (name_of s) x) _ (name_differs s x (All-head (IsFit c) (Plain x) fs fit))
    (absent fs c s (All-tail (IsFit c) (Plain x) fs fit) others)
absent (Apart t value ∷ fs) c s fit others =
    let here : IsFit c (Apart t value) = All-head (IsFit c) (Apart t value) fs fit in
    let g : Given = record { setting = t; value = value } in
    absent_at s t value (flat_map spaced_form fs) (All-head (IsOther s) g (flat_map given_of fs) others) here.1
    (absent fs c s (All-tail (IsFit c) (Apart t value) fs fit) (All-tail (IsOther s) g (flat_map given_of fs) others))
absent (Joined t value ∷ fs) c s fit others =
    let here : IsFit c (Joined t value) = All-head (IsFit c) (Joined t value) fs fit in
    let g : Given = record { setting = t; value = value } in
    absent_at s t value (flat_map spaced_form fs) (All-head (IsOther s) g (flat_map given_of fs) others) here.1
    (absent fs c s (All-tail (IsFit c) (Joined t value) fs fit) (All-tail (IsOther s) g (flat_map given_of fs) others))

-- and the other way round
others_at : (s t : Setting) (value : Word) (xs : List Word) (gs : List Given)
    → list_any (bytes_eq (name_of s)) (name_of t ∷ (value ∷ xs)) ≡ false
    → (list_any (bytes_eq (name_of s)) xs ≡ false → All (IsOther s) gs)
    → All (IsOther s) (record { setting = t; value = value } ∷ gs)
others_at s t value xs gs none more =
    let first = or_parts (bytes_eq (name_of s) (name_of t)) (list_any (bytes_eq (name_of s)) (value ∷ xs)) none in
    let second = or_parts (bytes_eq (name_of s) value) (list_any (bytes_eq (name_of s)) xs) first.1 in
    All-cons (IsOther s) (record { setting = t; value = value }) gs (settings_differ s t first.0) (more second.1)

others : (fs : List Form) (s : Setting) → list_any (bytes_eq (name_of s)) (flat_map spaced_form fs) ≡ false
    → All (IsOther s) (flat_map given_of fs)
others [] s none = All-nil (IsOther s)
others (Plain x ∷ fs) s none =
    others fs s (or_parts (bytes_eq (name_of s) x) (list_any (bytes_eq (name_of s)) (flat_map spaced_form fs)) none).1
others (Apart t value ∷ fs) s none =
    others_at s t value (flat_map spaced_form fs) (flat_map given_of fs) none (others fs s)
others (Joined t value ∷ fs) s none =
    others_at s t value (flat_map spaced_form fs) (flat_map given_of fs) none (others fs s)

plain_once : (c : Command) (x : Word) (xs : List Word) → is_plain_word x ≡ true → stands_once c x xs ≡ true
plain_once c x xs plain =
    ap (λ (o : Option Setting). not (option_map_or (λ _. list_any (bytes_eq x) xs) o false))
    (plain_sets_nothing c x plain)

name_once : (c : Command) (s : Setting) (xs : List Word) → takes c s ≡ true
    → stands_once c (name_of s) xs ≡ not (list_any (bytes_eq (name_of s)) xs)
name_once c s xs takes_it =
    ap (λ (o : Option Setting). not (option_map_or (λ _. list_any (bytes_eq (name_of s)) xs) o false))
    (by_name c s takes_it)

pairs_head : (g : Given) (gs : List Given) → AllPairs Differ (g ∷ gs) → All (IsOther g.setting) gs
pairs_head g gs pairs k d lt = pairs 0 (suc k) d (omega arith) (omega arith)

pairs_tail : (g : Given) (gs : List Given) → AllPairs Differ (g ∷ gs) → AllPairs Differ gs
pairs_tail g gs pairs i j d lt within = pairs (suc i) (suc j) d (omega arith) (omega arith)

once_at : (c : Command) (s : Setting) (value : Word) (xs : List Word) → takes c s ≡ true → is_plain_word value ≡ true
    → list_any (bytes_eq (name_of s)) xs ≡ false → once c xs ≡ true
    → once c (name_of s ∷ (value ∷ xs)) ≡ true
once_at c s value xs takes_it plain none more =
    let no_more = or_from (bytes_eq (name_of s) value) _ (name_differs s value plain) none in
    and_from (stands_once c (name_of s) (value ∷ xs)) _ (name_once c s (value ∷ xs) takes_it ∙ ap not no_more)
    (and_from (stands_once c value xs) _ (plain_once c value xs plain) more)

once_forms : (fs : List Form) (c : Command) → All (IsFit c) fs → AllPairs Differ (flat_map given_of fs)
    → once c (flat_map spaced_form fs) ≡ true
once_forms [] c fit pairs = refl
once_forms (Plain x ∷ fs) c fit pairs =
    and_from (stands_once c x (flat_map spaced_form fs)) _ (plain_once c x (flat_map spaced_form fs)
    (All-head (IsFit c) (Plain x) fs fit)) (once_forms fs c (All-tail (IsFit c) (Plain x) fs fit) pairs)
once_forms (Apart s value ∷ fs) c fit pairs =
    let here : IsFit c (Apart s value) = All-head (IsFit c) (Apart s value) fs fit in
    let more = All-tail (IsFit c) (Apart s value) fs fit in
    let g : Given = record { setting = s; value = value } in
    once_at c s value (flat_map spaced_form fs) here.0 here.1 (absent fs c s more
    (pairs_head g (flat_map given_of fs) pairs)) (once_forms fs c more (pairs_tail g (flat_map given_of fs) pairs))
once_forms (Joined s value ∷ fs) c fit pairs =
    let here : IsFit c (Joined s value) = All-head (IsFit c) (Joined s value) fs fit in
    let more = All-tail (IsFit c) (Joined s value) fs fit in
    let g : Given = record { setting = s; value = value } in
    once_at c s value (flat_map spaced_form fs) here.0 here.1 (absent fs c s more
    (pairs_head g (flat_map given_of fs) pairs)) (once_forms fs c more (pairs_tail g (flat_map given_of fs) pairs))

pairs_at : (c : Command) (s : Setting) (value : Word) (fs : List Form) → takes c s ≡ true
    → once c (name_of s ∷ (value ∷ flat_map spaced_form fs)) ≡ true
    → (once c (flat_map spaced_form fs) ≡ true → AllPairs Differ (flat_map given_of fs))
    → AllPairs Differ (record { setting = s; value = value } ∷ flat_map given_of fs)
pairs_at c s value fs takes_it single more =
    let xs = flat_map spaced_form fs in
    let first = and_parts (stands_once c (name_of s) (value ∷ xs)) (once c (value ∷ xs)) single in
    let second = and_parts (stands_once c value xs) (once c xs) first.1 in
    let none =
    not-true (list_any (bytes_eq (name_of s)) (value ∷ xs)) (sym (name_once c s (value ∷ xs) takes_it) ∙ first.0) in
    let after = or_parts (bytes_eq (name_of s) value) (list_any (bytes_eq (name_of s)) xs) none in
    AllPairs-cons Differ (record { setting = s; value = value }) (flat_map given_of fs)
    (others fs s after.1) (more second.1)

pairs_forms : (fs : List Form) (c : Command) → All (IsFit c) fs → once c (flat_map spaced_form fs) ≡ true
    → AllPairs Differ (flat_map given_of fs)
pairs_forms [] c fit single = λ i j d lt within. absurd (omega arith)
pairs_forms (Plain x ∷ fs) c fit single =
    pairs_forms fs c (All-tail (IsFit c) (Plain x) fs fit)
    (and_parts (stands_once c x (flat_map spaced_form fs)) (once c (flat_map spaced_form fs)) single).1
pairs_forms (Apart s value ∷ fs) c fit single =
    let here : IsFit c (Apart s value) = All-head (IsFit c) (Apart s value) fs fit in
    pairs_at c s value fs here.0 single (pairs_forms fs c (All-tail (IsFit c) (Apart s value) fs fit))
pairs_forms (Joined s value ∷ fs) c fit single =
    let here : IsFit c (Joined s value) = All-head (IsFit c) (Joined s value) fs fit in
    pairs_at c s value fs here.0 single (pairs_forms fs c (All-tail (IsFit c) (Joined s value) fs fit))

-- ---- from parts to forms

record HasForms (c : Command) (words : List Word) (p : WordParts) : Type 0 where
  forms : List Form
  fit : All (IsFit c) forms
  spelled : words ≡ flat_map form_words forms
  parts : p ≡ parts_by forms

-- words whose first is the value that a setting awaits
record HasValue (c : Command) (s : Setting) (words : List Word) (p : WordParts) : Type 0 where
  value : Word
  rest : List Word
  left : WordParts
  words_are : words ≡ value ∷ rest
  plain : is_plain_word value ≡ true
  forms : HasForms c rest left
  parts : p ≡ with_given s value left

abbrev Continues : Command → Option Setting → List Word → WordParts → Type 0
Continues c None words p = HasForms c words p
Continues c (Some s) words p = HasValue c s words p

with_form : (c : Command) (f : Form) (words rest : List Word) (p q : WordParts) → IsFit c f → words ≡ form_words f ++ rest
    → (h : HasForms c rest q) → p ≡ parts_by (f ∷ h.forms) → HasForms c words p
with_form c f words rest p q fit spelled h parts = record {
  forms = f ∷ h.forms;
  fit = All-cons (IsFit c) f h.forms fit h.fit;
  spelled = spelled ∙ ap (λ l. form_words f ++ l) h.spelled;
  parts = parts;
}

-- the value of a setting is the next word, and is plain
value_next : (c : Command) (s : Setting) (x : Word) (xs : List Word) (p : WordParts)
    → parts_after c (Some s) (x ∷ xs) ≡ Some p
    → (is_plain_word x ≡ true) × ((q : WordParts) × (parts_after c None xs ≡ Some q) × (with_given s x q ≡ p))
value_next c s x xs p h =
    let both = chosen (is_plain_word x) (option_map (with_given s x) (parts_after c None xs)) p h in
    (both.0, mapped (with_given s x) (parts_after c None xs) p both.1)

-- a word that is no value is the name of a setting, which awaits its value
bound_by : (c : Command) (xs : List Word) (o : Option Setting) (p : WordParts)
    → option_and_then (λ s. parts_after c (Some s) xs) o ≡ Some p
    → (s : Setting) × (o ≡ Some s) × (parts_after c (Some s) xs ≡ Some p)
bound_by c xs (Some s) p h = (s, refl, h)
bound_by c xs None p h = absurd (none-some p h)

abbrev awaits : (c : Command) (x : Word) (xs : List Word) → Bool → Option WordParts
awaits c x xs b =
    if b then option_map (with_plain x) (parts_after c None xs)
    else option_and_then (λ s. parts_after c (Some s) xs) (setting_of c x)

-- a word that is no name with its value
one_word : (c : Command) (x : Word) (words : List Word) (p : WordParts) → parts_after c None (x ∷ spaced c words) ≡ Some p
    → ((a : Option Setting) (q : WordParts) → parts_after c a (spaced c words) ≡ Some q → Continues c a words q)
    → HasForms c (x ∷ words) p
one_word c x words p h more = elim (cases_Bool (is_plain_word x)) [
  | inl plain ↦
      let it =
      mapped (with_plain x) (parts_after c None (spaced c words)) p
      (sym (ap (awaits c x (spaced c words)) plain) ∙ h) in
      let q = it.0 in
      let m : HasForms c words q = more None q it.1 in
      with_form c (Plain x) (x ∷ words) words p q plain refl m (sym it.2 ∙ ap (with_plain x) m.parts)
  | inr other ↦
      let it = bound_by c (spaced c words) (setting_of c x) p (sym (ap (awaits c x (spaced c words)) other) ∙ h) in
      let s = it.0 in
      let name = the_name c x s it.1 in
      let m : HasValue c s words p = more (Some s) p it.2 in
      with_form c (Apart s m.value) (x ∷ words) m.rest p m.left (name.takes_it, m.plain)
      (ap₂ (λ (a : Word) (b : List Word). a ∷ b) name.name m.words_are) m.forms
      (m.parts ∙ ap (with_given s m.value) m.forms.parts)
]

-- a name with its value
both_in_one : (c : Command) (x : Word) (words : List Word) (p : WordParts) (s : Setting) → IsSplit c x s
    → parts_after c None (before_first is_equals x ∷ (after_first is_equals x ∷ spaced c words)) ≡ Some p
    → ((q : WordParts) → parts_after c None (spaced c words) ≡ Some q → HasForms c words q) → HasForms c (x ∷ words) p
both_in_one c x words p s cut h more =
    let value = after_first is_equals x in
    let named_so : parts_after c None (name_of s ∷ (value ∷ spaced c words)) ≡ Some p =
    ap (λ (n : Word). parts_after c None (n ∷ (value ∷ spaced c words))) (sym cut.name) ∙ h in
    let awaited : parts_after c (Some s) (value ∷ spaced c words) ≡ Some p =
    sym (ap (option_and_then (λ t. parts_after c (Some t) (value ∷ spaced c words))) (by_name c s cut.takes_it))
    ∙ named_so in
    let it = value_next c s value (spaced c words) p awaited in
    let q = it.1.0 in
    let m : HasForms c words q = more q it.1.1 in
    let spelled : x ≡ name_of s ++ (61 ∷ value) =
    rejoined x cut.plain ∙ ap (λ (n : Word). n ++ (61 ∷ value)) cut.name in
    with_form c (Joined s value) (x ∷ words) words p q (cut.takes_it, cut.plain) (ap (λ (y : Word). y ∷ words) spelled)
    m (sym it.1.2 ∙ ap (with_given s value) m.parts)

continues : (words : List Word) (c : Command) (a : Option Setting) (p : WordParts)
    → parts_after c a (spaced c words) ≡ Some p → Continues c a words p
continues [] c None p h =
    record { forms = []; fit = All-nil (IsFit c); spelled = refl; parts = sym (same_Some no_parts p h) }
continues [] c (Some s) p h = absurd (none-some p h)
continues (x ∷ words) c None p h = elim (cases_Bool (is_joined c x)) [
  | inl both ↦
      let it = split_parts c x both in
      both_in_one c x words p it.0 it.1
      (ap (λ (l : List Word). parts_after c None (l ++ spaced c words)) (sym (is_split c x both)) ∙ h)
      (continues words c None)
  | inr other ↦
      one_word c x words p (ap (λ (l : List Word). parts_after c None (l ++ spaced c words))
      (sym (not_joined c x other)) ∙ h) (continues words c)
]
continues (x ∷ words) c (Some s) p h = elim (cases_Bool (is_joined c x)) [
  | inl both ↦
      let it = split_parts c x both in
      let next =
      value_next c s (before_first is_equals x) (after_first is_equals x ∷ spaced c words) p
      (ap (λ (l : List Word). parts_after c (Some s) (l ++ spaced c words)) (sym (is_split c x both)) ∙ h) in
      absurd (name_is_not it.0 (before_first is_equals x) next.0 (sym it.1.name))
  | inr other ↦
      let next =
      value_next c s x (spaced c words) p
      (ap (λ (l : List Word). parts_after c (Some s) (l ++ spaced c words)) (sym (not_joined c x other)) ∙ h) in
      record {
        value = x;
        rest = words;
        left = next.1.0;
        words_are = refl;
        plain = next.0;
        forms = continues words c None next.1.0 next.1.1;
        parts = sym next.1.2;
      }
]

-- ---- both

parts_to : (c : Command) (words : List Word) (p : WordParts) → parts_of c words ≡ Some p → ArePartsOf c words p
parts_to c words p h =
    let both = chosen (once c (spaced c words)) (parts_after c None (spaced c words)) p h in
    let it : HasForms c words p = continues words c None p both.1 in
    let same : spaced c words ≡ flat_map spaced_form it.forms =
    ap (spaced c) it.spelled ∙ spaced_forms it.forms c it.fit in
    let pairs = pairs_forms it.forms c it.fit (ap (once c) (sym same) ∙ both.0) in
    record {
      forms = it.forms;
      fit = it.fit;
      spelled = it.spelled;
      plain = ap (λ (q : WordParts). q.plain) it.parts;
      given = ap (λ (q : WordParts). q.given) it.parts;
      single = subst (λ (gs : List Given). AllPairs Differ gs) (sym (ap (λ (q : WordParts). q.given) it.parts)) pairs;
    }

parts_from : (c : Command) (words : List Word) (p : WordParts) → ArePartsOf c words p → parts_of c words ≡ Some p
parts_from c words p it =
    let same : spaced c words ≡ flat_map spaced_form it.forms =
    ap (spaced c) it.spelled ∙ spaced_forms it.forms c it.fit in
    let pairs = subst (λ (gs : List Given). AllPairs Differ gs) it.given it.single in
    let plain_and_given : (a b : List Word) (g h : List Given) → a ≡ b → g ≡ h
    → ◌≡◌ {A = WordParts} (record { plain = a; given = g }) (record { plain = b; given = h }) =
    λ a b g h e f. ap₂ (λ (x : List Word) (y : List Given). record { plain = x; given = y }) e f in
    ap (parts_in c) same ∙ ap (λ b. if b then parts_after c None (flat_map spaced_form it.forms) else None)
    (once_forms it.forms c it.fit pairs)
    ∙ parts_forms it.forms c it.fit
    ∙ ap (λ (q : WordParts). Some q)
    (sym (plain_and_given p.plain (flat_map plain_of it.forms) p.given (flat_map given_of it.forms) it.plain it.given))

pub parts_are_of_forms : PartsAreOfForms
parts_are_of_forms c words p = (parts_to c words p, parts_from c words p)

pub no_parts_without_forms : NoPartsWithoutForms
no_parts_without_forms c words = (
  λ none p it. none-some p (sym none ∙ parts_from c words p it),
  λ without. elim (some_or_none (parts_of c words)) [
    | inl found ↦ absurd (without found.0 (parts_to c words found.0 found.1))
    | inr none ↦ none
  ],
)
