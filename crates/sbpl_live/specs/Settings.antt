-- The settings that a line gives to a plan: pairs of a word and a value.
use Rattle.std.specs.Prelude.{◌≡◌, ◌^◌, ◌&&◌, ℕ, ℤ, pos, negsuc, nat_le, bytes_eq, List, [], ◌∷◌, Option, Some, None, Result, Ok, Err, codes, if◌then◌else◌}
use Rattle.sbpl_job.specs.sbpl_fixed.Numbers.{nano_of, whole_of}
use Rattle.sbpl_job.specs.sbpl_fixed.declared.fault.NumFault.{NumFault}
use Rattle.sbpl_job.specs.sbpl_fixed.declared.fault.NumFault.TheVariants.{Form}
use Rattle.sbpl_job.specs.Jobs.{budget_in, milli_in}
use Rattle.sbpl_live.specs.declared.setting.PlanSetting.{PlanSetting}
use Rattle.sbpl_live.specs.declared.setting.PlanSetting.TheVariants.{First, Step, Bound, Budget, Seconds}
use Rattle.sbpl_live.specs.declared.spoken.Wants.{Wants}

-- its word
abbrev pub word_of : PlanSetting → List ℕ
word_of First = codes "first"
word_of Step = codes "step"
word_of Bound = codes "bound"
word_of Budget = codes "budget"
word_of Seconds = codes "seconds"

-- the word of one of them
abbrev pub IsSettingWord : List ℕ → Type 0
IsSettingWord word = (s : PlanSetting) × (word ≡ word_of s)

-- the value that pairs of a word and a value give to a word, none where it is no word of a pair
abbrev pub given : (word : List ℕ) → List (List ℕ) → Option (List ℕ)
given word [] = None
given word (w ∷ []) = None
given word (w ∷ v ∷ more) = if bytes_eq w word then Some v else given word more

-- the fields are pairs of a setting's word and a value, and no word stands twice
abbrev pub ArePairs : List (List ℕ) → Type 0
ArePairs [] = Unit {0}
ArePairs (w ∷ []) = ⊥
ArePairs (w ∷ v ∷ more) = IsSettingWord w × (given w more ≡ None) × ArePairs more

-- a value as it is read: a whole number for the budget, and for the others a decimal, in billionths
abbrev pub number_in : PlanSetting → List ℕ → Result ℤ NumFault
number_in First text = nano_of text
number_in Step text = nano_of text
number_in Bound text = nano_of text
number_in Budget text = whole_of text
number_in Seconds text = nano_of text

-- a time in nanoseconds, 0.001 s to 1,000,000 s
abbrev pub time_in : Result ℤ NumFault → Option ℕ
time_in (Ok (pos n)) = if nat_le (10 ^ 6) n && nat_le n (10 ^ 15) then Some n else None
time_in (Ok (negsuc n)) = None
time_in (Err fault) = None

-- the value by the number that was read, where it lies in its range: thousandths, expansions, and nanoseconds
abbrev pub value_in : PlanSetting → Result ℤ NumFault → Option ℕ
value_in First n = milli_in 1000 100000 n
value_in Step n = milli_in 1 99000 n
value_in Bound n = milli_in 1000 100000 n
value_in Budget n = budget_in n
value_in Seconds n = time_in n

-- what a plan wants of a setting
abbrev pub want_of : PlanSetting → Wants → Option ℕ
want_of First w = w.first
want_of Step w = w.step
want_of Bound w = w.bound
want_of Budget w = w.budget
want_of Seconds w = w.seconds

-- it is the value of the text that is given, and nothing where none is
abbrev pub IsWanted : PlanSetting → (text : Option (List ℕ)) → (want : Option ℕ) → Type 0
IsWanted s None want = want ≡ None
IsWanted s (Some text) want = (n : ℕ) × (want ≡ Some n) × (value_in s (number_in s text) ≡ Some n)

-- the plan wants of each setting what the pairs give to it
abbrev pub AreWants : (pairs : List (List ℕ)) → Wants → Type 0
AreWants pairs w = (s : PlanSetting) → IsWanted s (given (word_of s) pairs) (want_of s w)

-- one of the values that are given is no number
abbrev pub HasNoNumber : (pairs : List (List ℕ)) → Type 0
HasNoNumber pairs =
    (s : PlanSetting) × (text : List ℕ) × (given (word_of s) pairs ≡ Some text) × (number_in s text ≡ Err Form)

-- all are numbers, and one lies outside its range
pub record HasOutside (pairs : List (List ℕ)) : Type 0 where
  pub numbers : HasNoNumber pairs → ⊥
  pub outside :
      (s : PlanSetting) × (text : List ℕ) × (given (word_of s) pairs ≡ Some text) × (value_in s (number_in s text) ≡ None)
