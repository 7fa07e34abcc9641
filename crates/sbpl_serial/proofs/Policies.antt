-- What a serial search does under either policy.
use Rattle.std.proofs.Common.{◌≡◌, ℕ, ◌*◌, ◌<◌, ◌≤◌, Bool, true, false, List, length, ⊎_elim, inl, inr, refl, sym, ◌∙◌}
use Rattle.std.proofs.Common.{arith, rules, subst}
use Rattle.std.proofs.lemmas.Bool.{cases_lt}
use Rattle.sbpl_search.specs.sbpl_graph.Fit.{FitCount}
use Rattle.sbpl_search.specs.sbpl_graph.Kept.{NoneUnder}
use Rattle.sbpl_search.specs.sbpl_graph.Network.{Network}
use Rattle.sbpl_search.specs.sbpl_labels.Counts.{Counts}
use Rattle.sbpl_search.specs.sbpl_labels.Marks.{Marks, states_of, g_of, v_of}
use Rattle.sbpl_search.specs.sbpl_labels.declared.pass_end.PassEnd.{PassEnd}
use Rattle.sbpl_search.specs.sbpl_labels.declared.pass_end.PassEnd.TheVariants.{Spent}
use Rattle.sbpl_search.specs.Changed.{IsChangeable}
use Rattle.sbpl_search.specs.Passed.{IsPassed}
use Rattle.sbpl_search.specs.Query.{Query}
use Rattle.sbpl_search.specs.Ready.{AreReady, AreUsable, IsStartFresh}
use Rattle.sbpl_serial.specs.Meant.{AreRenewable, AreRenewed, AreRepairedFor, MayBeginPass, most_times, seen, serial}
use Rattle.sbpl_serial.specs.Passed.{GoesForward, IsForwardPass, IsSerialPass}
use Rattle.sbpl_serial.specs.Serial.{SerialState}
use Rattle.sbpl_serial.specs.Times.{times}
use Rattle.sbpl_serial.proofs.Forwards.{v_outside}

module _ {q : Query} {old new : SerialState} {before after : Counts} {end : PassEnd}
    (pass : IsSerialPass q old new before after end) where
  -- a pass of ARA* only lowers, since no state is underconsistent when it begins
  pub goes_forward : (repairs : Bool) → MayBeginPass repairs q.network old.labels before.run
      → (NoneUnder (states_of old.labels) (g_of old.labels) (v_of old.labels)
      → IsForwardPass q old new before after end)
      → GoesForward repairs q old new before after end
  goes_forward false ready forward =
      forward (record { at = λ s inside. ready.none_under.at s (omega (arith, ready.states)) })
  goes_forward true usable forward = forward

  -- from its labels another may begin
  pub ready_again : (repairs : Bool) → GoesForward repairs q old new before after end
      → MayBeginPass repairs q.network new.labels after.run
  ready_again false forward = record {
    states = pass.usable.states;
    exact = pass.usable.exact;
    none_under = forward.none_under;
    fits = pass.usable.fits;
  }
  ready_again true forward = pass.usable

  -- a pass that takes each state no more often than the policy says
  passed_most : (repairs : Bool) → ((s : ℕ) → times s new.trace ≤ most_times repairs)
      → length new.trace ≤ most_times repairs * states_of old.labels
      → (end ≡ Spent → length new.trace < most_times repairs * states_of old.labels)
      → MayBeginPass repairs q.network new.labels after.run
      → IsPassed (serial repairs) q (seen old) (seen new) before after end
  passed_most repairs each few unfinished ready = record {
    leads = pass.run;
    rests = pass.rest.0;
    goes_on = λ spent. (pass.spent.0 spent).1;
    seated = tt;
    is_spent = λ spent. (pass.spent.0 spent).0;
    counted = pass.counted;
    each = each;
    few = few;
    unfinished = unfinished;
    unbroken = pass.unbroken;
    none = pass.none;
    tight = pass.tight;
    ready = ready;
    supported = pass.supported;
    start = pass.start;
    states = pass.states;
    goal = pass.goal;
    workers = refl;
    raised = refl;
    fresh = pass.fresh;
  }

  -- so it is a pass of the planner
  pub passed_by : (repairs : Bool) → GoesForward repairs q old new before after end
      → MayBeginPass repairs q.network new.labels after.run
      → IsPassed (serial repairs) q (seen old) (seen new) before after end
  passed_by false forward ready =
      passed_most false forward.each (omega (arith, forward.few)) (λ spent. omega (arith, forward.unfinished spent)) ready
  passed_by true forward ready = passed_most true pass.thrice pass.few pass.unfinished ready

-- the touched states matter only where labels are repaired
pub renewable_by : (repairs : Bool) (n : Network) (touched : List ℕ) (m : Marks)
    → (repairs ≡ true → IsChangeable n touched m) → AreRenewable repairs n touched m
renewable_by false n touched m changeable = search rules
renewable_by true n touched m changeable = changeable refl

-- repaired labels are usable as before
pub repaired_usable : {n n' : Network} {touched : List ℕ} {old new : Marks} {count : ℕ} → n.states ≡ n'.states
    → AreRepairedFor n' touched old new
    → (FitCount (states_of old) (g_of old) (v_of old) count → FitCount (states_of old) (g_of new) (v_of new) count)
    → AreUsable n old count → AreUsable n' new count
repaired_usable {n} {n'} {touched} {old} {new} {count} same repaired fits usable = record {
  states = repaired.repaired.same_states ∙ usable.states ∙ same;
  exact = repaired.exact;
  fits =
      subst (λ (k : ℕ). FitCount k (g_of new) (v_of new) count) (usable.states ∙ same)
      (fits (subst (λ (k : ℕ). FitCount k (g_of old) (v_of old) count) (sym usable.states) usable.fits));
}

module _ (n : Network) (touched : List ℕ) (old new : Marks) where
  -- the start and the number of states stay
  pub renewed_start : (repairs : Bool) → AreRenewed repairs n touched old new → new.start ≡ old.start
  renewed_start false initial = initial.start
  renewed_start true repaired = repaired.repaired.same_start

  pub renewed_states : (repairs : Bool) → states_of old ≡ n.states → AreRenewed repairs n touched old new
      → states_of new ≡ states_of old
  renewed_states false same initial = initial.states ∙ sym same
  renewed_states true same repaired = repaired.repaired.same_states

  -- v of the start stays infinite or 0
  pub renewed_fresh : (repairs : Bool) → AreRenewed repairs n touched old new → IsStartFresh old → IsStartFresh new
  renewed_fresh false initial fresh =
      rw initial.start (
      ⊎_elim
      (λ (inside : old.start < n.states). inl (initial.far_v old.start inside))
      (λ (past : n.states ≤ old.start). inr (v_outside new old.start (omega (arith, initial.states))))
      (cases_lt old.start n.states)
      )
  renewed_fresh true repaired fresh =
      rw (repaired.repaired.same_start, repaired.repaired.same_v) fresh

-- what a planner says of such labels
pub ruleset renewing = (renewable_by, renewed_start, renewed_states, renewed_fresh)

-- from labels that are ready a pass may begin under either policy
pub ready_by : (repairs : Bool) (n : Network) (m : Marks) (count : ℕ) → AreReady n m count → MayBeginPass repairs n m count
ready_by false n m count ready = ready
ready_by true n m count ready = record { states = ready.states; exact = ready.exact; fits = ready.fits }

pub ruleset beginning = ready_by
