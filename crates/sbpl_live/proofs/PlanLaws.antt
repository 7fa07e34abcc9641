-- What is read of the settings of a plan is what the pairs give, or their fault.
use Rattle.std.proofs.Common.{◌≡◌, ℕ, ℤ, ◌||◌, ◌&&◌, Bool, true, false, List, [], ◌∷◌, codes, Option, Some, None, Result, Ok, Err}
use Rattle.std.proofs.Common.{refl, sym, ap, ◌∙◌, inl, inr}
use Rattle.std.specs.Prelude.{bytes_eq, option_map}
use Rattle.std.proofs.lemmas.Bool.{cases_Bool, false≢true, or_cases, or_from, or_left, or_right, and_parts, and_from}
use Rattle.std.proofs.lemmas.Bool.{false_from_ne_true}
use Rattle.std.proofs.lemmas.Slice.Eq.{bytes_eq-Decides}
use Rattle.sbpl_map.specs.Reading.{lacks_form}
use Rattle.sbpl_map.specs.declared.line_fault.LineFault.{LineFault}
use Rattle.sbpl_map.specs.declared.line_fault.LineFault.TheVariants as fault
use Rattle.sbpl_job.specs.sbpl_fixed.declared.fault.NumFault.{NumFault}
use Rattle.sbpl_job.specs.sbpl_fixed.declared.fault.NumFault.TheVariants.{Form, Size}
use Rattle.sbpl_live.specs.Settings.{ArePairs, AreWants, HasNoNumber, HasOutside, IsSettingWord, IsWanted, given, number_in}
use Rattle.sbpl_live.specs.Settings.{value_in, word_of}
use Rattle.sbpl_live.specs.Reading.{any_lacks, are_pairs, is_none, is_setting, lacks, number_given, read_by, wants_given, wants_in}
use Rattle.sbpl_live.specs.declared.setting.PlanSetting.{PlanSetting}
use Rattle.sbpl_live.specs.declared.setting.PlanSetting.TheVariants.{First, Step, Bound, Budget, Seconds}
use Rattle.sbpl_live.specs.declared.spoken.Wants.{Wants}

-- ---- pairs

setting_of_word : (w : List ℕ) → is_setting w ≡ true → IsSettingWord w
setting_of_word w e =
    let first = bytes_eq w (codes "first") in
    let step = bytes_eq w (codes "step") in
    let bound = bytes_eq w (codes "bound") in
    let budget = bytes_eq w (codes "budget") in
    let seconds = bytes_eq w (codes "seconds") in
    elim (or_cases first (step || (bound || (budget || seconds))) e) [
      | inl a ↦ (First, (bytes_eq-Decides w (codes "first")).0 a)
      | inr r ↦ elim (or_cases step (bound || (budget || seconds)) r) [
        | inl a ↦ (Step, (bytes_eq-Decides w (codes "step")).0 a)
        | inr q ↦ elim (or_cases bound (budget || seconds) q) [
          | inl a ↦ (Bound, (bytes_eq-Decides w (codes "bound")).0 a)
          | inr p ↦ elim (or_cases budget seconds p) [
            | inl a ↦ (Budget, (bytes_eq-Decides w (codes "budget")).0 a)
            | inr a ↦ (Seconds, (bytes_eq-Decides w (codes "seconds")).0 a)
          ]
        ]
      ]
    ]

word_at : (w : List ℕ) (s : PlanSetting) → w ≡ word_of s → is_setting w ≡ true
word_at w First e = rw e refl
word_at w Step e = rw e refl
word_at w Bound e = rw e refl
word_at w Budget e = rw e refl
word_at w Seconds e = rw e refl

none_is : (o : Option (List ℕ)) → is_none o ≡ true → o ≡ None
none_is None e = refl
none_is (Some x) e = absurd (false≢true e)

pub pairs_of : (l : List (List ℕ)) → are_pairs l ≡ true → ArePairs l
pairs_of [] e = tt
pairs_of (w ∷ []) e = absurd (false≢true e)
pairs_of (w ∷ v ∷ more) e =
    let a = and_parts (is_setting w) (is_none (given w more) && are_pairs more) e in
    let b = and_parts (is_none (given w more)) (are_pairs more) a.1 in
    (setting_of_word w a.0, none_is (given w more) b.0, pairs_of more b.1)

none_given : (o : Option (List ℕ)) → o ≡ None → is_none o ≡ true
none_given o e = rw e refl

pub pairs_are : (l : List (List ℕ)) → ArePairs l → are_pairs l ≡ true
pairs_are [] h = refl
pairs_are (w ∷ []) h = absurd h
pairs_are (w ∷ v ∷ more) h =
    and_from (is_setting w) (is_none (given w more) && are_pairs more) (word_at w h.0.0 h.0.1)
    (and_from (is_none (given w more)) (are_pairs more) (none_given (given w more) h.1) (pairs_are more h.2))

-- ---- numbers

abbrev pub pick : {X : Type 0} → PlanSetting → X → X → X → X → X → X
pick First f s b u t = f
pick Step f s b u t = s
pick Bound f s b u t = b
pick Budget f s b u t = u
pick Seconds f s b u t = t

abbrev lack : PlanSetting → List (List ℕ) → Bool
lack s pairs = lacks (number_given s pairs)

abbrev any_lack : List (List ℕ) → Bool
any_lack pairs =
    any_lacks (number_given First pairs) (number_given Step pairs) (number_given Bound pairs) (number_given Budget pairs)
    (number_given Seconds pairs)

no_form : (r : Result ℤ NumFault) → lacks_form r ≡ true → r ≡ Err Form
no_form (Ok n) e = absurd (false≢true e)
no_form (Err Form) e = refl
no_form (Err Size) e = absurd (false≢true e)

lacking : (s : PlanSetting) (pairs : List (List ℕ)) (o : Option (List ℕ)) → given (word_of s) pairs ≡ o
    → lacks (option_map (number_in s) o) ≡ true → HasNoNumber pairs
lacking s pairs None g e = absurd (false≢true e)
lacking s pairs (Some text) g e = (s, text, g, no_form (number_in s text) e)

no_number_of : (pairs : List (List ℕ)) → any_lack pairs ≡ true → HasNoNumber pairs
no_number_of pairs e =
    let f = lack First pairs in
    let s = lack Step pairs in
    let b = lack Bound pairs in
    let u = lack Budget pairs in
    let t = lack Seconds pairs in
    elim (or_cases f (s || (b || (u || t))) e) [
      | inl a ↦ lacking First pairs _ refl a
      | inr r ↦ elim (or_cases s (b || (u || t)) r) [
        | inl a ↦ lacking Step pairs _ refl a
        | inr q ↦ elim (or_cases b (u || t) q) [
          | inl a ↦ lacking Bound pairs _ refl a
          | inr p ↦ elim (or_cases u t p) [
            | inl a ↦ lacking Budget pairs _ refl a
            | inr a ↦ lacking Seconds pairs _ refl a
          ]
        ]
      ]
    ]

any_of : (k : PlanSetting) (f s b u t : Bool) → pick k f s b u t ≡ true → (f || (s || (b || (u || t)))) ≡ true
any_of First f s b u t e = or_left f (s || (b || (u || t))) e
any_of Step f s b u t e = or_right f (s || (b || (u || t))) (or_left s (b || (u || t)) e)
any_of Bound f s b u t e = or_right f (s || (b || (u || t))) (or_right s (b || (u || t)) (or_left b (u || t) e))
any_of Budget f s b u t e =
    or_right f (s || (b || (u || t))) (or_right s (b || (u || t)) (or_right b (u || t) (or_left u t e)))
any_of Seconds f s b u t e =
    or_right f (s || (b || (u || t))) (or_right s (b || (u || t)) (or_right b (u || t) (or_right u t e)))

picked_lack : (k : PlanSetting) (pairs : List (List ℕ)) → lack k pairs ≡ true
    → pick k (lack First pairs) (lack Step pairs) (lack Bound pairs) (lack Budget pairs) (lack Seconds pairs) ≡ true
picked_lack First pairs e = e
picked_lack Step pairs e = e
picked_lack Bound pairs e = e
picked_lack Budget pairs e = e
picked_lack Seconds pairs e = e

lacks_at : (s : PlanSetting) (pairs : List (List ℕ)) (text : List ℕ) → given (word_of s) pairs ≡ Some text
    → number_in s text ≡ Err Form → lack s pairs ≡ true
lacks_at s pairs text g e = rw (g, e) refl

lacks_by : (pairs : List (List ℕ)) → HasNoNumber pairs → any_lack pairs ≡ true
lacks_by pairs h =
    any_of h.0 (lack First pairs) (lack Step pairs) (lack Bound pairs) (lack Budget pairs) (lack Seconds pairs)
    (picked_lack h.0 pairs (lacks_at h.0 pairs h.1 h.2 h.3))

-- ---- values

abbrev value : PlanSetting → List (List ℕ) → Option (Option ℕ)
value s pairs = read_by (value_in s) (number_given s pairs)

some_value : (v want : Option ℕ) → option_map Some v ≡ Some want → (n : ℕ) × (want ≡ Some n) × (v ≡ Some n)
some_value None want e = absurd cc
some_value (Some n) want e = (n, cc, refl)

none_value : (v : Option ℕ) → option_map Some v ≡ None → v ≡ None
none_value None e = refl
none_value (Some n) e = absurd cc

is_wanted : (s : PlanSetting) (o : Option (List ℕ)) (want : Option ℕ)
    → read_by (value_in s) (option_map (number_in s) o) ≡ Some want → IsWanted s o want
is_wanted s None want e = cc
is_wanted s (Some text) want e = some_value (value_in s (number_in s text)) want e

wanted_is : (s : PlanSetting) (o : Option (List ℕ)) (want : Option ℕ) → IsWanted s o want
    → read_by (value_in s) (option_map (number_in s) o) ≡ Some want
wanted_is s None want h = ap Some (sym h)
wanted_is s (Some text) want h = rw (h.2, h.1) refl

form_of_value : (s : PlanSetting) (r : Result ℤ NumFault) (n : ℕ) → value_in s r ≡ Some n → lacks_form r ≡ false
form_of_value s (Ok k) n e = refl
form_of_value s (Err Size) n e = refl
form_of_value First (Err Form) n e = absurd cc
form_of_value Step (Err Form) n e = absurd cc
form_of_value Bound (Err Form) n e = absurd cc
form_of_value Budget (Err Form) n e = absurd cc
form_of_value Seconds (Err Form) n e = absurd cc

wanted_form : (s : PlanSetting) (o : Option (List ℕ)) (want : Option ℕ) → IsWanted s o want
    → lacks (option_map (number_in s) o) ≡ false
wanted_form s None want h = refl
wanted_form s (Some text) want h = form_of_value s (number_in s text) h.0 h.2

outside_of : (s : PlanSetting) (pairs : List (List ℕ)) (o : Option (List ℕ)) → given (word_of s) pairs ≡ o
    → (HasNoNumber pairs → ⊥) → read_by (value_in s) (option_map (number_in s) o) ≡ None → HasOutside pairs
outside_of s pairs None g fit e = absurd cc
outside_of s pairs (Some text) g fit e =
    record { numbers = fit; outside = (s, text, g, none_value (value_in s (number_in s text)) e) }

outside_is : (s : PlanSetting) (pairs : List (List ℕ)) (text : List ℕ) → given (word_of s) pairs ≡ Some text
    → value_in s (number_in s text) ≡ None → value s pairs ≡ None
outside_is s pairs text g e = rw (g, e) refl

-- ---- what is read is true of the pairs

abbrev pub PlanVerdict : List (List ℕ) → Result Wants LineFault → Type 0
PlanVerdict pairs (Ok w) = AreWants pairs w
PlanVerdict pairs (Err fault.Word) = ⊥
PlanVerdict pairs (Err fault.Number) = HasNoNumber pairs
PlanVerdict pairs (Err fault.Range) = HasOutside pairs
PlanVerdict pairs (Err fault.OffMap) = ⊥

record Values (pairs : List (List ℕ)) (f s b u t : Option (Option ℕ)) : Type 0 where
  first : value First pairs ≡ f
  step : value Step pairs ≡ s
  bound : value Bound pairs ≡ b
  budget : value Budget pairs ≡ u
  seconds : value Seconds pairs ≡ t

all_wanted : (pairs : List (List ℕ)) (f s b u t : Option ℕ) → Values pairs (Some f) (Some s) (Some b) (Some u) (Some t)
    → (k : PlanSetting) → IsWanted k (given (word_of k) pairs) (pick k f s b u t)
all_wanted pairs f s b u t v First = is_wanted First (given (word_of First) pairs) f v.first
all_wanted pairs f s b u t v Step = is_wanted Step (given (word_of Step) pairs) s v.step
all_wanted pairs f s b u t v Bound = is_wanted Bound (given (word_of Bound) pairs) b v.bound
all_wanted pairs f s b u t v Budget = is_wanted Budget (given (word_of Budget) pairs) u v.budget
all_wanted pairs f s b u t v Seconds = is_wanted Seconds (given (word_of Seconds) pairs) t v.seconds

all_wants : (pairs : List (List ℕ)) (w : Wants) → ((k : PlanSetting) → IsWanted k (given (word_of k) pairs)
    (pick k w.first w.step w.bound w.budget w.seconds)) → AreWants pairs w
all_wants pairs w h First = h First
all_wants pairs w h Step = h Step
all_wants pairs w h Bound = h Bound
all_wants pairs w h Budget = h Budget
all_wants pairs w h Seconds = h Seconds

values_verdict : (pairs : List (List ℕ)) (f s b u t : Option (Option ℕ)) → (HasNoNumber pairs → ⊥) → Values pairs f s b u t
    → PlanVerdict pairs (wants_in f s b u t)
values_verdict pairs None s b u t fit v = outside_of First pairs _ refl fit v.first
values_verdict pairs (Some f) None b u t fit v = outside_of Step pairs _ refl fit v.step
values_verdict pairs (Some f) (Some s) None u t fit v = outside_of Bound pairs _ refl fit v.bound
values_verdict pairs (Some f) (Some s) (Some b) None t fit v = outside_of Budget pairs _ refl fit v.budget
values_verdict pairs (Some f) (Some s) (Some b) (Some u) None fit v = outside_of Seconds pairs _ refl fit v.seconds
values_verdict pairs (Some f) (Some s) (Some b) (Some u) (Some t) fit v =
    all_wants pairs (record { first = f; step = s; bound = b; budget = u; seconds = t }) (all_wanted pairs f s b u t v)

pub wants_verdict : (pairs : List (List ℕ)) → PlanVerdict pairs (wants_given pairs)
wants_verdict pairs =
    elim (cases_Bool (any_lack pairs)) [
      | inl e ↦ rw e (no_number_of pairs e)
      | inr e ↦ let fit = λ (h : HasNoNumber pairs). false≢true (sym e ∙ lacks_by pairs h) in
          let f = value First pairs in
          let s = value Step pairs in
          let b = value Bound pairs in
          let u = value Budget pairs in
          let t = value Seconds pairs in
          let same : Values pairs f s b u t = record { first = refl; step = refl; bound = refl; budget = refl; seconds = refl } in
          rw e (values_verdict pairs f s b u t fit same)
    ]

-- ---- and what is true of the pairs is read

one_none : (f s b u t : Option (Option ℕ)) (k : PlanSetting) → pick k f s b u t ≡ None → wants_in f s b u t ≡ Err fault.Range
one_none None s b u t k e = refl
one_none (Some f) None b u t k e = refl
one_none (Some f) (Some s) None u t k e = refl
one_none (Some f) (Some s) (Some b) None t k e = refl
one_none (Some f) (Some s) (Some b) (Some u) None k e = refl
one_none (Some f) (Some s) (Some b) (Some u) (Some t) First e = absurd cc
one_none (Some f) (Some s) (Some b) (Some u) (Some t) Step e = absurd cc
one_none (Some f) (Some s) (Some b) (Some u) (Some t) Bound e = absurd cc
one_none (Some f) (Some s) (Some b) (Some u) (Some t) Budget e = absurd cc
one_none (Some f) (Some s) (Some b) (Some u) (Some t) Seconds e = absurd cc

picked_none : (k : PlanSetting) (pairs : List (List ℕ)) → value k pairs ≡ None
    → pick k (value First pairs) (value Step pairs) (value Bound pairs) (value Budget pairs) (value Seconds pairs) ≡ None
picked_none First pairs e = e
picked_none Step pairs e = e
picked_none Bound pairs e = e
picked_none Budget pairs e = e
picked_none Seconds pairs e = e

all_in : (f s b u t : Option (Option ℕ)) (w : Wants) → f ≡ Some w.first → s ≡ Some w.step → b ≡ Some w.bound
    → u ≡ Some w.budget → t ≡ Some w.seconds → wants_in f s b u t ≡ Ok w
all_in f s b u t w ef es eb eu et = rw (ef, es, eb, eu, et) refl

wants_forms : (pairs : List (List ℕ)) (w : Wants) → AreWants pairs w → any_lack pairs ≡ false
wants_forms pairs w h =
    let f = lack First pairs in
    let s = lack Step pairs in
    let b = lack Bound pairs in
    let u = lack Budget pairs in
    let t = lack Seconds pairs in
    or_from f (s || (b || (u || t))) (wanted_form First (given (word_of First) pairs) w.first (h First))
    (or_from s (b || (u || t)) (wanted_form Step (given (word_of Step) pairs) w.step (h Step))
    (or_from b (u || t) (wanted_form Bound (given (word_of Bound) pairs) w.bound (h Bound))
    (or_from u t (wanted_form Budget (given (word_of Budget) pairs) w.budget (h Budget))
    (wanted_form Seconds (given (word_of Seconds) pairs) w.seconds (h Seconds)))))

pub wants_is : (pairs : List (List ℕ)) (r : Result Wants LineFault) → PlanVerdict pairs r → wants_given pairs ≡ r
wants_is pairs (Ok w) h =
    let forms = wants_forms pairs w h in
    rw forms (all_in (value First pairs) (value Step pairs) (value Bound pairs) (value Budget pairs) (value Seconds pairs) w
    (wanted_is First (given (word_of First) pairs) w.first (h First))
    (wanted_is Step (given (word_of Step) pairs) w.step (h Step))
    (wanted_is Bound (given (word_of Bound) pairs) w.bound (h Bound))
    (wanted_is Budget (given (word_of Budget) pairs) w.budget (h Budget))
    (wanted_is Seconds (given (word_of Seconds) pairs) w.seconds (h Seconds)))
wants_is pairs (Err fault.Word) h = absurd h
wants_is pairs (Err fault.Number) h = let some = lacks_by pairs h in rw some refl
wants_is pairs (Err fault.Range) h =
    let none = false_from_ne_true (any_lack pairs) (λ e. h.numbers (no_number_of pairs e)) in
    let o = h.outside in
    rw none (one_none (value First pairs) (value Step pairs) (value Bound pairs) (value Budget pairs) (value Seconds pairs) o.0
    (picked_none o.0 pairs (outside_is o.0 pairs o.1 o.2 o.3)))
wants_is pairs (Err fault.OffMap) h = absurd h
