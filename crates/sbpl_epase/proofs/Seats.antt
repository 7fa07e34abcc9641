-- Lists of seats, and what workers left.
use Rattle.std.proofs.Common.{◌≡◌, suc, Bool, true, false, Result, Ok, Err, All, IfOk, List, [], ◌∷◌, ap, length}
use Rattle.std.proofs.Common.{sum_by, arith, refl, sym, ◌∙◌}
use Rattle.std.proofs.Math.Bool.{◌||◌}
use Rattle.std.proofs.Math.Logic.{∥∥₁_map}
use Rattle.std.proofs.lemmas.List.Sums.{sum_by-cons}
use Rattle.std.specs.Result.{is_err}
use Rattle.sbpl_adstar.specs.sbpl_labels.Counts.{Counts}
use Rattle.sbpl_adstar.specs.sbpl_labels.Marks.{Marks}
use Rattle.sbpl_adstar.specs.sbpl_labels.declared.pass_end.PassEnd.{PassEnd}
use Rattle.sbpl_adstar.specs.sbpl_search.Query.{Query}
use Rattle.sbpl_frontier.specs.Tally.{Tally}
use Rattle.sbpl_epase.specs.Workers.{HasEnded, SawEnd}

-- ---- each judgement was posted

abbrev pub IsEven : Tally → Type 0
IsEven s = length s.posts ≡ s.takes

abbrev pub DidNothing : Tally → Type 0
DidNothing s = (s.takes ≡ 0) × (s.posts ≡ [])

pub even_from_nothing : (xs : List Tally) → All DidNothing xs → All IsEven xs
even_from_nothing xs none = λ k d inside. let did = none k d inside in ap length did.1 ∙ sym did.0

pub sums_even : (xs : List Tally) → All IsEven xs → sum_by (λ s. length s.posts) xs ≡ sum_by (λ s. s.takes) xs
sums_even [] even = refl
sums_even (x ∷ xs) even =
    let first : length x.posts ≡ x.takes = even 0 x (omega arith) in
    let rest = sums_even xs (λ k d inside. even (suc k) d (omega arith)) in
    omega (arith, sum_by-cons (λ s. length s.posts) x xs, sum_by-cons (λ s. s.takes) x xs, first, rest)

-- ---- why a worker ended

module _ {q : Query} {opening : Marks} {counts : Counts} {E : Type 0} where
  -- memory ran out for none of those before, nor for this one, which so saw how the pass ends
  pub ended_where : (seat : Tally) (refused : Bool) (why : Result PassEnd E)
      → IfOk why (λ end. ∥ SawEnd q opening counts end seat ∥₁) → (refused || is_err why) ≡ false
      → (refused ≡ false) × HasEnded q opening counts seat
  ended_where seat true why saw none = absurd (let no : ⊥ = cc in no)
  ended_where seat false (Ok end) saw none = (refl, ∥∥₁_map saw (λ s. (end, s)))
  ended_where seat false (Err e) saw none = absurd (let no : ⊥ = cc in no)
