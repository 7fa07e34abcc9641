-- The settings of a plan that a line asks for lie in their ranges.
use Rattle.std.proofs.Common.{◌≡◌, ◌≤◌, ◌^◌, ◌/◌, ◌%◌, ◌&&◌, ℕ, ℤ, pos, negsuc, List, Option, Some, None, Result, Ok, Err}
use Rattle.std.proofs.Common.{inl, inr, arith}
use Rattle.std.specs.Prelude.{IfOk, IfSome, nat_eq, nat_le}
use Rattle.std.proofs.lemmas.Bool.{and_parts, cases_Bool}
use Rattle.std.proofs.lemmas.Bool.Decides.{nat_tests}
use Rattle.sbpl_job.specs.Jobs.{budget_in, milli_in}
use Rattle.sbpl_job.specs.sbpl_fixed.declared.fault.NumFault.{NumFault}
use Rattle.sbpl_map.specs.declared.line_fault.LineFault.{LineFault}
use Rattle.sbpl_live.specs.Lines.{LineSays, Scope}
use Rattle.sbpl_live.specs.Settings.{AreWants, IsWanted, given, number_in, time_in, value_in, word_of}
use Rattle.sbpl_live.specs.Wanted.{AreInRange, AreWantsInRange}
use Rattle.sbpl_live.specs.declared.setting.PlanSetting.{PlanSetting}
use Rattle.sbpl_live.specs.declared.setting.PlanSetting.TheVariants.{First, Step, Bound, Budget, Seconds}
use Rattle.sbpl_live.specs.declared.spoken.Wants.{Wants}
use Rattle.sbpl_live.specs.declared.spoken.Spoken.{Spoken}
use Rattle.sbpl_live.specs.declared.spoken.Spoken.TheVariants.{Nothing, Cell, Start, Goal, Plan}

milli_range : (low high : ℕ) (r : Result ℤ NumFault) (n : ℕ) → milli_in low high r ≡ Some n → (low ≤ n) × (n ≤ high)
milli_range low high (Ok (pos k)) n e =
    let t = nat_eq (k % 10 ^ 6) 0 && (nat_le low (k / 10 ^ 6) && nat_le (k / 10 ^ 6) high) in
    elim (cases_Bool t) [
      | inl b ↦ let same : Some (k / 10 ^ 6) ≡ Some n = rw b at e in
          let both = and_parts (nat_eq (k % 10 ^ 6) 0) (nat_le low (k / 10 ^ 6) && nat_le (k / 10 ^ 6) high) b in
          let two = and_parts (nat_le low (k / 10 ^ 6)) (nat_le (k / 10 ^ 6) high) both.1 in
          let is : k / 10 ^ 6 ≡ n = cc in (grind (arith, nat_tests), grind (arith, nat_tests))
      | inr b ↦ absurd (let none : None ≡ Some n = rw b at e in cc)
    ]
milli_range low high (Ok (negsuc k)) n e = absurd cc
milli_range low high (Err f) n e = absurd cc

budget_range : (r : Result ℤ NumFault) (n : ℕ) → budget_in r ≡ Some n → (1 ≤ n) × (n ≤ 2 ^ 30)
budget_range (Ok (pos k)) n e =
    elim (cases_Bool (nat_le 1 k && nat_le k (2 ^ 30))) [
      | inl b ↦ let same : Some k ≡ Some n = rw b at e in
          let two = and_parts (nat_le 1 k) (nat_le k (2 ^ 30)) b in
          let is : k ≡ n = cc in (grind (arith, nat_tests), grind (arith, nat_tests))
      | inr b ↦ absurd (let none : None ≡ Some n = rw b at e in cc)
    ]
budget_range (Ok (negsuc k)) n e = absurd cc
budget_range (Err f) n e = absurd cc

time_range : (r : Result ℤ NumFault) (n : ℕ) → time_in r ≡ Some n → (10 ^ 6 ≤ n) × (n ≤ 10 ^ 15)
time_range (Ok (pos k)) n e =
    elim (cases_Bool (nat_le (10 ^ 6) k && nat_le k (10 ^ 15))) [
      | inl b ↦ let same : Some k ≡ Some n = rw b at e in
          let two = and_parts (nat_le (10 ^ 6) k) (nat_le k (10 ^ 15)) b in
          let is : k ≡ n = cc in (grind (arith, nat_tests), grind (arith, nat_tests))
      | inr b ↦ absurd (let none : None ≡ Some n = rw b at e in cc)
    ]
time_range (Ok (negsuc k)) n e = absurd cc
time_range (Err f) n e = absurd cc

-- a wanted value lies where values of its setting do
wanted_within : (s : PlanSetting) (low high : ℕ) (o : Option (List ℕ)) (want : Option ℕ)
    → ((r : Result ℤ NumFault) (n : ℕ) → value_in s r ≡ Some n → (low ≤ n) × (n ≤ high)) → IsWanted s o want
    → IfSome want (λ n. (low ≤ n) × (n ≤ high))
wanted_within s low high None want within h = rw h tt
wanted_within s low high (Some text) want within h = rw (h.1) (within (number_in s text) h.0 h.2)

wants_in_range : (pairs : List (List ℕ)) (w : Wants) → AreWants pairs w → AreWantsInRange w
wants_in_range pairs w h = record {
  first = wanted_within First 1000 100000 (given (word_of First) pairs) w.first (λ r n e. milli_range 1000 100000 r n e) (h First);
  step = wanted_within Step 1 99000 (given (word_of Step) pairs) w.step (λ r n e. milli_range 1 99000 r n e) (h Step);
  bound = wanted_within Bound 1000 100000 (given (word_of Bound) pairs) w.bound (λ r n e. milli_range 1000 100000 r n e) (h Bound);
  budget = wanted_within Budget 1 (2 ^ 30) (given (word_of Budget) pairs) w.budget budget_range (h Budget);
  seconds = wanted_within Seconds (10 ^ 6) (10 ^ 15) (given (word_of Seconds) pairs) w.seconds time_range (h Seconds);
}

-- What a line says has its settings in their ranges.
pub saying_in_range : (s : Scope) (line : List ℕ) (said : Spoken) → LineSays s line said → AreInRange said
saying_in_range s line Nothing h = tt
saying_in_range s line (Cell w) h = tt
saying_in_range s line (Start p) h = tt
saying_in_range s line (Goal p) h = tt
saying_in_range s line (Plan w) h = wants_in_range h.1.0 w h.1.3

pub ranges_of : (s : Scope) (line : List ℕ) (r : Result Spoken LineFault) → IfOk r (LineSays s line) → IfOk r AreInRange
ranges_of s line (Ok said) h = saying_in_range s line said h
ranges_of s line (Err f) h = tt
