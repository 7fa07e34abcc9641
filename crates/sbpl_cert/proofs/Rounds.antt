-- What is left to read, after one more round of those that a format takes.
use Rattle.std.proofs.Common.{◌≡◌, ◌≢◌, ℕ, ◌+◌, ◌-◌, ◌<◌, ◌≤◌, Result, Ok, Err, sym, ap, ◌∙◌}
use Rattle.sbpl_fixed.specs.Formats.{Format, Left, reads, turns}
use Rattle.sbpl_fixed.specs.Parts.{read_on, reads_and_then, turns_next, turns_over}
use Rattle.sbpl_fixed.specs.declared.fault.TextFault.{TextFault}

pub round : {E S : Type 0} {next : S} {rest : Left} {all : Result (S × Left) E} (tell : TextFault → E) (count i : ℕ)
    (step : S → Format E S) (s : S) (left : Left) → i < count
    → reads tell (turns (count - i) step s) left ≡ all → reads tell (step s) left ≡ Ok (next, rest)
    → reads tell (turns (count - (i + 1)) step next) rest ≡ all
round {next} {rest} tell count i step s left lt whole one =
    sym (ap (λ r. read_on r (λ x rest. reads tell (turns (count - (i + 1)) step x) rest)) one)
    ∙ sym (reads_and_then tell (step s) (turns (count - (i + 1)) step) left)
    ∙ sym (ap (λ f. reads tell f left) (turns_next count i step s lt)) ∙ whole

-- a round with a fault, which is then the fault of them all
pub fault : {E S : Type 0} {all : Result (S × Left) E} {spared e : E} (tell : TextFault → E) (count i : ℕ)
    (step : S → Format E S) (s : S) (left : Left) → i < count
    → reads tell (turns (count - i) step s) left ≡ all → (e ≢ spared → reads tell (step s) left ≡ Err e)
    → e ≢ spared → all ≡ Err e
fault tell count i step s left lt whole one other =
    sym whole ∙ ap (λ f. reads tell f left) (turns_next count i step s lt)
    ∙ reads_and_then tell (step s) (turns (count - (i + 1)) step) left
    ∙ ap (λ r. read_on r (λ x rest. reads tell (turns (count - (i + 1)) step x) rest)) (one other)

-- no round is left
pub over : {E S : Type 0} {s : S} {left : Left} {all : Result (S × Left) E} (tell : TextFault → E) (count i : ℕ)
    (step : S → Format E S) → count ≤ i
    → reads tell (turns (count - i) step s) left ≡ all → all ≡ Ok (s, left)
unfolding reads
over {s} {left} tell count i step le whole = sym whole ∙ ap (λ f. reads tell f left) (turns_over count i step s le)
