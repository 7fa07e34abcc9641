-- Formats one after the other: what they say, and how they are read.
use Rattle.std.specs.Prelude.{◌≡◌, ℕ, suc, ◌+◌, ◌-◌, ◌<◌, ◌≤◌, List, [], ◌∷◌, Result, Ok, Err, refl}
use Rattle.std.proofs.Common.{subst, sym, ap, ◌∙◌, add-one}
use Rattle.std.proofs.Math.Nat.{sub-suc, suc-pred-eq_of_pos, sub-pos_iff_lt, sub-eq-zero_of_le}
use Rattle.sbpl_fixed.specs.Tokens.{Piece}
use Rattle.sbpl_fixed.specs.Formats.{Format, item, ended, wrong, done, and_then, turns, Says, Left, next, over, reads, then_read}
use Rattle.sbpl_fixed.specs.declared.fault.TextFault.{TextFault}

-- what a format says with another after it, in two parts
pub says_parts : {E A B : Type 0} (f : Format E A) (next : A → Format E B) (ts rest : List Piece) (x : B) → Says (and_then f next) ts x rest
    → (y : A) × (mid : List Piece) × Says f ts y mid × Says (next y) mid x rest
unfolding Says and_then
says_parts (item i more) next [] rest x h = absurd h
says_parts (item i more) next (t ∷ ts) rest x h = let p = says_parts (more t.place h.0) next ts rest x h.2 in (p.0, p.1, (h.0, h.1, p.2), p.3)
says_parts (ended f) next [] rest x h = says_parts f next [] rest x h
says_parts (ended f) next (t ∷ ts) rest x h = absurd h
says_parts (wrong e) next ts rest x h = absurd h
says_parts (done y) next ts rest x h = (y, ts, (refl, refl), h)

pub says_both : {E A B : Type 0} (f : Format E A) (next : A → Format E B) (ts mid rest : List Piece) (y : A) (x : B) → Says f ts y mid → Says (next y) mid x rest
    → Says (and_then f next) ts x rest
unfolding Says and_then
says_both (item i more) next [] mid rest y x g h = absurd g
says_both (item i more) next (t ∷ ts) mid rest y x g h = (g.0, g.1, says_both (more t.place g.0) next ts mid rest y x g.2 h)
says_both (ended f) next [] mid rest y x g h = says_both f next [] mid rest y x g h
says_both (ended f) next (t ∷ ts) mid rest y x g h = absurd g
says_both (wrong e) next ts mid rest y x g h = absurd g
says_both {A = A} (done z) next ts mid rest y x g h = subst (λ (l : List Piece). Says (next z) l x rest) g.1 (subst (λ (w : A). Says (next w) mid x rest) g.0 h)

-- reading goes on after what was read, and a fault stays
abbrev pub read_on : {E A B : Type 0} → Result (A × Left) E → (A → Left → Result (B × Left) E) → Result (B × Left) E
read_on (Ok x) next = next x.0 x.1
read_on (Err e) next = Err e

-- to read a format with another after it is to read the one and then the other
pub reads_and_then : {E A B : Type 0} (tell : TextFault → E) (f : Format E A) (more : A → Format E B) (left : Left)
    → reads tell (and_then f more) left ≡ read_on (reads tell f left) (λ x rest. reads tell (more x) rest)
unfolding reads and_then
reads_and_then tell (item i then) more left =
    elim (next i left) as (λ step. then_read tell step (λ m. reads tell (and_then (then m.place m.value) more) m.left)
    ≡ read_on (then_read tell step (λ m. reads tell (then m.place m.value) m.left)) (λ x rest. reads tell (more x) rest)) [
      | Ok m ↦ reads_and_then tell (then m.place m.value) more m.left
      | Err t ↦ refl
    ]
reads_and_then tell (ended f) more left =
    elim (over left) as (λ step. then_read tell step (λ rest. reads tell (and_then f more) rest)
    ≡ read_on (then_read tell step (λ rest. reads tell f rest)) (λ x rest. reads tell (more x) rest)) [
      | Ok rest ↦ reads_and_then tell f more rest
      | Err t ↦ refl
    ]
reads_and_then tell (wrong e) more left = refl
reads_and_then tell (done x) more left = refl

-- the rounds that are left are the next one and those after it
pub turns_next : {E S : Type 0} (count i : ℕ) (step : S → Format E S) (s : S) → i < count → turns (count - i) step s ≡ and_then (step s) (turns (count - (i + 1)) step)
unfolding turns
turns_next count i step s lt =
    ap (λ n. turns n step s) (sym (ap suc (ap (λ n. count - n) (add-one i) ∙ sub-suc count i) ∙ suc-pred-eq_of_pos (sub-pos_iff_lt.1 lt)))

-- no round is left
pub turns_over : {E S : Type 0} (count i : ℕ) (step : S → Format E S) (s : S) → count ≤ i → turns (count - i) step s ≡ done s
unfolding turns
turns_over count i step s le = ap (λ n. turns n step s) (sub-eq-zero_of_le le)

-- what a function that reads by parts needs
pub ruleset reading = (reads_and_then, turns_next, turns_over)
