-- One more line is read.
use Rattle.std.proofs.Common.{◌≡◌, ℕ, ◌+◌, ◌≤◌, List, [], ◌∷◌, length, Option, Result, Ok, Err, sym, ap, arith}
use Rattle.std.specs.Str.Lines.{lines}
use Rattle.std.proofs.lemmas.List.{length_push}
use Rattle.sbpl_map.specs.CellMap.{CellMap}
use Rattle.sbpl_map.specs.ChangeText.{Given}
use Rattle.sbpl_map.specs.Fields.{fields}
use Rattle.sbpl_map.specs.Reading.{judged, Drafted, drafted, closed, then_on, reads_on}
use Rattle.sbpl_map.specs.declared.said.Said.{Said}
use Rattle.sbpl_map.specs.declared.said.Said.TheVariants.{Nothing, Cell, Start, Replan}
use Rattle.sbpl_map.specs.declared.fault.ChangeFault.{ChangeFault}

-- what all lines give, by what the first of those that are left gives
first_read : (states : ℕ) (m : CellMap) (headings : Option ℕ) (at : ℕ) (rest line after : List ℕ) (d : Drafted)
    (all : Result (List (List Given)) ChangeFault)
    → reads_on states m headings at (lines rest) d ≡ all → lines rest ≡ line ∷ lines after
    → then_on (judged states m headings at (fields line)) (λ s. reads_on states m headings (at + 1) (lines after) (drafted d at s))
    ≡ all
unfolding reads_on
first_read states m headings at rest line after d all h e = rw e at h

pub goes_on : (states : ℕ) (m : CellMap) (headings : Option ℕ) (at : ℕ) (rest line after : List ℕ) (d new : Drafted) (s : Said)
    (all : Result (List (List Given)) ChangeFault)
    → reads_on states m headings at (lines rest) d ≡ all → lines rest ≡ line ∷ lines after
    → judged states m headings at (fields line) ≡ Ok s → new ≡ drafted d at s
    → reads_on states m headings (at + 1) (lines after) new ≡ all
goes_on states m headings at rest line after d new s all h e j n =
    let there = rw j at (first_read states m headings at rest line after d all h e) in
    rw n there

pub stops : (states : ℕ) (m : CellMap) (headings : Option ℕ) (at : ℕ) (rest line after : List ℕ) (d : Drafted) (f : ChangeFault)
    (all : Result (List (List Given)) ChangeFault)
    → reads_on states m headings at (lines rest) d ≡ all → lines rest ≡ line ∷ lines after
    → judged states m headings at (fields line) ≡ Err f → all ≡ Err f
stops states m headings at rest line after d f all h e j = sym (rw j at (first_read states m headings at rest line after d all h e))

pub ends : (states : ℕ) (m : CellMap) (headings : Option ℕ) (at : ℕ) (rest : List ℕ) (d : Drafted)
    (all : Result (List (List Given)) ChangeFault)
    → reads_on states m headings at (lines rest) d ≡ all → length rest ≡ 0 → all ≡ closed d
unfolding reads_on
ends states m headings at [] d all h none = sym h
ends states m headings at (b ∷ bs) d all h none = absurd (omega arith)

-- a line ends one batch at most
pub grows : (d new : Drafted) (at : ℕ) (s : Said) → new ≡ drafted d at s → length new.done ≤ length d.done + 1
grows d new at Nothing e = omega (arith, ap (λ (x : Drafted). length x.done) e)
grows d new at (Cell w) e = omega (arith, ap (λ (x : Drafted). length x.done) e)
grows d new at (Start p) e = omega (arith, ap (λ (x : Drafted). length x.done) e)
grows d new at Replan e = omega (arith, ap (λ (x : Drafted). length x.done) e, length_push d.done d.batch)
