-- Marks by the number of a pass, seen as a test of each state.
use Rattle.std.proofs.Common.{◌≡◌, ℕ, ◌<◌, ◌≤◌, Bool, true, false, nat_eq, List, length, map, slice_index, slice_set}
use Rattle.std.proofs.Common.{arith, ⊎_elim, ◌∙◌, ap}
use Rattle.std.proofs.lemmas.Bool.{cases_lt, ne_eqb, eq-eqb}
use Rattle.std.proofs.lemmas.List.{get_or-map, get_or_past, map-set, length-map}
use Rattle.std.proofs.Common.{refl}
use Rattle.sbpl_serial.specs.Marked.{closed_at}

-- where every mark is of an earlier pass, no state is closed
pub none_marked : (marks : List ℕ) (pass : ℕ) → ((s : ℕ) → s < length marks → slice_index marks s < pass)
    → (s : ℕ) → closed_at (map (λ mark. nat_eq mark pass) marks) s ≡ false
none_marked marks pass earlier s =
    ⊎_elim
    (λ (inside : s < length marks).
    let before = earlier s inside in
    get_or-map (λ mark. nat_eq mark pass) marks s 0 false inside
    ∙ ne_eqb (slice_index marks s) pass (λ same. omega arith))
    (λ (past : length marks ≤ s).
    get_or_past (map (λ mark. nat_eq mark pass) marks) s false
    (omega (arith, length-map marks (λ mark. nat_eq mark pass))))
    (cases_lt s (length marks))

-- a mark of this pass closes its state
pub marked : (marks : List ℕ) (s pass : ℕ)
    → map (λ mark. nat_eq mark pass) (slice_set marks s pass) ≡ slice_set (map (λ mark. nat_eq mark pass) marks) s true
marked marks s pass =
    map-set (λ mark. nat_eq mark pass) marks s pass
    ∙ ap (λ (b : Bool). slice_set (map (λ mark. nat_eq mark pass) marks) s b) (eq-eqb pass pass refl)
