-- The least open state is next, or there is rest.
use Rattle.std.proofs.Common.{◌≡◌, ◌≢◌, ℕ, ◌↔◌, Bool, true, false, IsTrue, IfSome, Some, None, refl, arith, ⊎_elim}
use Rattle.std.proofs.Common.{sym, ap, ◌∙◌}
use Rattle.std.proofs.lemmas.Bool.{cases_eq, false≢true}
use Rattle.std.specs.Bool.{then_some}
use Rattle.sbpl_search.specs.sbpl_labels.Marks.{Marks}
use Rattle.sbpl_open.specs.KeyOrder.{IsBelow, ComesBefore}
use Rattle.sbpl_search.specs.Query.{Query}
use Rattle.sbpl_serial.specs.Run.{IsNext, IsAtRest, key_at, goal_key_at}
use Rattle.sbpl_serial.specs.Queue.{IsQueued, AreQueued, IsFirstBelow}
use Rattle.sbpl_open.specs.OpenList.{OpenList}
use Rattle.sbpl_open.specs.OpenList as open_list
use Rattle.std.proofs.lemmas.Option.{same_Some}
use Rattle.sbpl_serial.proofs.Queueing.{some_queued}

-- what comes before a key that is below a third is below the third too
pub before_below : (a b c : ℕ × ℕ) (s t : ℕ) → ComesBefore a s b t → IsBelow b c → IsBelow a c
before_below a b c s t before low = grind arith

-- by the test of the least key
pub first_below : (f : OpenList) (goal : ℕ × ℕ) (s : ℕ) (key : ℕ × ℕ) (low : Bool) → open_list.IsLeast f s key
    → (IsTrue low ↔ IsBelow key goal) → IsFirstBelow f goal (then_some low s)
first_below f goal s key true least tells = (key, least, tells.0 refl)
first_below f goal s key false least tells = λ u other is below.
    let not_low : IsBelow key goal → ⊥ = λ low. false≢true (tells.1 low) in
    ⊎_elim
    (λ (at : u ≡ s).
    let same : Some key ≡ Some other = sym least.there ∙ ap (open_list.key_at f) (sym at) ∙ is in
    not_low (rw (same_Some key other same) below))
    (λ (apart : u ≢ s). not_low (before_below key other goal s u (least.first u other is apart) below))
    (cases_eq u s)

-- the least state of the queue is next, or there is rest
pub next_from_queue : (q : Query) {closed : ℕ → Bool} {m : Marks} {f : OpenList} (s : ℕ)
    → AreQueued q.eps q.guide closed m f
    → IsFirstBelow f (goal_key_at q m) (Some s) → IsNext q closed m s
next_from_queue q {closed} {m} {f} s queued (key, least, below) =
    let own : IsQueued q.eps q.guide closed m s (Some key) = rw least.there at (queued.each s) in
    record {
      is_open = own.0;
      below_goal = rw (← own.1) below;
      first = λ u open_u apart.
          let there = some_queued q.eps q.guide closed m u (open_list.key_at f u) (queued.each u) open_u in
          rw (← own.1) (least.first u (key_at q.eps q.guide m u) there apart);
    }

pub rest_from_queue : (q : Query) {closed : ℕ → Bool} {m : Marks} {f : OpenList} → AreQueued q.eps q.guide closed m f
    → IsFirstBelow f (goal_key_at q m) None → IsAtRest q closed m
rest_from_queue q {closed} {m} {f} queued none = record {
  none_below = λ u open_u below. none u (key_at q.eps q.guide m u)
      (some_queued q.eps q.guide closed m u (open_list.key_at f u) (queued.each u) open_u) below;
}

-- what holds of the state holds where the test gives it
pub if_then_some : (P : ℕ → Type 0) (low : Bool) (s : ℕ) → P s → IfSome (then_some low s) P
if_then_some P true s holds = holds
if_then_some P false s holds = tt
