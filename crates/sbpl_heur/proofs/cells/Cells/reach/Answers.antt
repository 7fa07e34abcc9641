use Rattle.std.proofs.Common.{◌≡◌, ℕ, ℤ, pos, negsuc, ◌+◌, ◌<◌, ◌≤ℤ◌, ◌+ℤ◌, max, nat_abs, inl, inr, List, Some, slice_get, get_or, arith, ap, sym, ◌∙◌, subst, length}
use Rattle.std.proofs.Common.{rules, w32, FitsSigned}
use Rattle.std.proofs.lemmas.Bool.{cases_lt}
use Rattle.std.proofs.lemmas.Int.{ints, to_z-of_z}
use Rattle.std.proofs.lemmas.Option.{same_Some, slice_get-get_or, slice_get_within}
use Rattle.sbpl_heur.specs.declared.hop.Hop.{Hop}
use Rattle.sbpl_heur.proofs.cells.Cells.reach.Goals as goal

abbrev none : Hop
none = record { dx = pos 0; dy = pos 0; cost = 0 }

abbrev IsUpTo : ℤ → ℕ → Type 0
IsUpTo d far = (d ≤ℤ pos far) × (pos 0 ≤ℤ (pos far +ℤ d))

up_to : (d : ℤ) (far new : ℕ) → new ≡ max far (nat_abs d) → IsUpTo d new
up_to (pos n) far new is = (omega (arith, ints, is), omega (arith, ints, is))
up_to (negsuc n) far new is = (omega (arith, ints, is), omega (arith, ints, is))

one_more : (hops : List Hop) (part : Hop → ℤ) (n far new : ℕ) (last : Hop)
    → ((j : ℕ) (h : Hop) → j < n → slice_get hops j ≡ Some h → IsUpTo (part h) far) → slice_get hops n ≡ Some last
    → new ≡ max far (nat_abs (part last)) → (j : ℕ) (h : Hop) → j < n + 1 → slice_get hops j ≡ Some h → IsUpTo (part h) new
one_more hops part n far new last first at is j h before there = elim (cases_lt j n) [
  | inl earlier ↦ let old = first j h earlier there in (omega (arith, ints, old.0, is), omega (arith, ints, old.1, is))
  | inr late ↦
      let same : n ≡ j = omega (arith, late, before) in
      let hop : last ≡ h = same_Some last h (sym at ∙ ap (slice_get hops) same ∙ there) in
      subst (λ x. IsUpTo (part x) new) hop (up_to (part last) far new is)
]

pub loop-hop-preserved : goal.loop-hop-preserved
loop-hop-preserved c =
    let items = c.as_slice-hop-items.result.now in
    let n = c.loop-hop.hop-index in
    let hop = get_or items n none in
    let at : slice_get c.args.self.now.hops n ≡ Some hop =
    ap (λ z. slice_get z.hops n) (sym c.self.view_is) ∙ ap (λ l. slice_get l n) (sym c.as_slice-hop-items.ensures.value)
    ∙ slice_get-get_or items n none c.loop-hop-test.true in
    let fits_dx : FitsSigned w32 hop.dx = search rules in
    let fits_dy : FitsSigned w32 hop.dy = search rules in
    let column : c.max.result ≡ max c.loop-hop.reach.x (nat_abs hop.dx) =
    c.max.ensures ∙ ap (max c.loop-hop.reach.x) (c.unsigned_abs.ensures.value ∙ ap nat_abs (to_z-of_z w32 hop.dx fits_dx)) in
    let row : c.max-in-loop-hop.result ≡ max c.loop-hop.reach.y (nat_abs hop.dy) =
    c.max-in-loop-hop.ensures
    ∙ ap (max c.loop-hop.reach.y)
    (c.unsigned_abs-in-loop-hop.ensures.value ∙ ap nat_abs (to_z-of_z w32 hop.dy fits_dy)) in
    record {
      column = one_more c.args.self.now.hops (λ (h : Hop). h.dx) n c.loop-hop.reach.x c.max.result hop
          c.loop-hop.invariant.column at column;
      row = one_more c.args.self.now.hops (λ (h : Hop). h.dy) n c.loop-hop.reach.y c.max-in-loop-hop.result hop
          c.loop-hop.invariant.row at row;
    }

pub returns : goal.returns
returns c =
    let same : length c.args.self.now.hops ≡ length c.as_slice-hop-items.result.now =
    ap (λ z. length z.hops) (sym c.self.view_is) ∙ ap length (sym c.as_slice-hop-items.ensures.value) in
    record {
      reach = record {
        column = λ j h at.
            c.loop-hop.invariant.column j h
            (omega (arith, slice_get_within c.args.self.now.hops j h at, same, c.loop-hop-test.false)) at;
        row = λ j h at.
            c.loop-hop.invariant.row j h
            (omega (arith, slice_get_within c.args.self.now.hops j h at, same, c.loop-hop-test.false)) at;
      };
    }
