-- A serial run is determined.
use Rattle.std.proofs.Common.{◌≡◌, ◌≢◌, ℕ, ◌<◌, ◌≤◌, Bool, List, [], ◌∷◌, ◌++◌, length, arith, ⊎_elim, refl}
use Rattle.std.proofs.Common.{sym, ap, ◌∙◌}
use Rattle.std.proofs.lemmas.Bool.{cases_eq, cases_lt}
use Rattle.std.proofs.lemmas.List.{append-nil, length-append}
use Rattle.sbpl_search.specs.sbpl_labels.Marks.{Marks}
use Rattle.sbpl_open.specs.KeyOrder.{ComesBefore}
use Rattle.sbpl_serial.specs.declared.step.Step.{Step}
use Rattle.sbpl_search.specs.Query.{Query}
use Rattle.sbpl_serial.specs.Run.{IsNext, IsAtRest, IsSerialRun, key_at, closed_with, closed_after}
use Rattle.sbpl_serial.specs.Determined.{GoesOn, RunsGoOn, EqualRunsAgree, RestEndsRuns}
use Rattle.sbpl_serial.proofs.Stepping.{same_step}

-- of two states not each comes before the other
one_before : (a b : ℕ × ℕ) (s u : ℕ) → ComesBefore a s b u → ComesBefore b u a s → ⊥
one_before a b s u before later = grind arith

-- at most one state is next
pub same_next : {q : Query} {closed : ℕ → Bool} {m : Marks} {s u : ℕ} → IsNext q closed m s
    → IsNext q closed m u → s ≡ u
same_next {q} {closed} {m} {s} {u} a b =
    ⊎_elim
    (λ (same : s ≡ u). same)
    (λ (apart : s ≢ u).
    absurd
    (one_before (key_at q.eps q.guide m s) (key_at q.eps q.guide m u) s u (a.first u b.is_open (λ e. apart (sym e)))
    (b.first s a.is_open apart)))
    (cases_eq s u)

-- the longer of two runs goes on from the shorter
leads_on : (q : Query) (xs ys : List Step) (closed : ℕ → Bool) (old a b : Marks) → IsSerialRun q closed xs old a
    → IsSerialRun q closed ys old b
    → length xs ≤ length ys → GoesOn q closed xs ys a b
leads_on q [] ys closed old a b left right few =
    let run : IsSerialRun q closed ys a b = rw left right in
    record { rest = ys; prefix = refl; further = run }
leads_on q (x ∷ xs) [] closed old a b left right few = absurd (omega arith)
leads_on q (x ∷ xs) (y ∷ ys) closed old a b left right few =
    let one = same_step q.network old x y (same_next left.1 right.1) left.2 right.2 in
    let run : IsSerialRun q (closed_with x closed) ys left.0 b = rw (one.0, one.1) right.3 in
    let rest = leads_on q xs ys (closed_with x closed) left.0 a b left.3 run (omega arith) in
    record { rest = rest.rest; prefix = λ i. sym one.0 i ∷ rest.prefix i; further = rest.further }

pub runs_go_on : RunsGoOn
runs_go_on q closed old xs ys a b runs few = leads_on q xs ys closed old a b runs.first runs.second few

-- nothing is added to a run that is as long
nothing_added : (xs ys rest : List Step) → ys ≡ xs ++ rest → length xs ≡ length ys → rest ≡ []
nothing_added xs ys [] prefix same = refl
nothing_added xs ys (x ∷ rest) prefix same = absurd (omega (arith, simp length-append at (ap length prefix)))

-- a run of no steps changes nothing
run_of_none : (q : Query) (closed : ℕ → Bool) (rest : List Step) (a b : Marks) → rest ≡ []
    → IsSerialRun q closed rest a b → b ≡ a
run_of_none q closed rest a b none run = rw none at run

pub equal_runs_agree : EqualRunsAgree
equal_runs_agree q closed old xs ys a b runs same =
    let on = runs_go_on q closed old xs ys a b runs (omega arith) in
    let none = nothing_added xs ys on.rest on.prefix same in (
      sym (on.prefix ∙ ap (λ (r : List Step). xs ++ r) none ∙ append-nil xs),
      sym (run_of_none q (closed_after closed xs) on.rest a b none on.further),
    )

-- where nothing is next a run has no step
none_at_rest : (q : Query) (closed : ℕ → Bool) (rest : List Step) (a b : Marks) → IsAtRest q closed a
    → IsSerialRun q closed rest a b → rest ≡ []
none_at_rest q closed [] a b still run = refl
none_at_rest q closed (x ∷ rest) a b still run = absurd (still.none_below x.state run.1.is_open run.1.below_goal)

pub rest_ends_runs : RestEndsRuns
rest_ends_runs q closed old xs ys a b runs still =
    ⊎_elim
    (λ (longer : length xs < length ys).
    let on = runs_go_on q closed old xs ys a b runs (omega arith) in
    let none = none_at_rest q (closed_after closed xs) on.rest a b still on.further in
    let all : ys ≡ xs = on.prefix ∙ ap (λ (r : List Step). xs ++ r) none ∙ append-nil xs in
    absurd (omega (arith, ap length all)))
    (λ (most : length ys ≤ length xs). most)
    (cases_lt (length xs) (length ys))
