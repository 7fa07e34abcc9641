-- The numbers of primitives among those with their headings at an end.
use Rattle.std.proofs.Common.{◌≡◌, ℕ, ℤ, ◌+◌, ◌<◌, ◌≤◌, ◌==◌, ◌++◌, ◌∷◌, [], inl, inr, List, length, take, count_by}
use Rattle.std.proofs.Common.{slice_get, get_or, Some, ap, sym, ◌∙◌, arith}
use Rattle.std.proofs.Math.ListN.{set}
use Rattle.std.proofs.lemmas.Bool.{eq-eqb, ne_eqb, cases_eq}
use Rattle.std.proofs.lemmas.List.{length-set, length-take-le, get_or-set_same, get_or-set_other}
use Rattle.std.proofs.lemmas.List.Sums.{count_by_more_yes, count_by_more_no, count_by-le-length}
use Rattle.std.proofs.lemmas.Option.{slice_get_within, get_or_from_slice_get, slice_get-get_or, same_Some}
use Rattle.sbpl_sweep.specs.sbpl_mprim.declared.prim.Primitive.{Primitive}
use Rattle.sbpl_sweep.specs.sbpl_mprim.Primitives.{IsPrimitive}
use Rattle.sbpl_cost.specs.Ends.{heading_at}
use Rattle.sbpl_cost.specs.Tables.{AreNumbers}
use Rattle.sbpl_terrain.specs.declared.arc_end.ArcEnd.{ArcEnd}
use Rattle.sbpl_terrain.specs.declared.arc_end.ArcEnd.TheVariants as end
use Rattle.sbpl_cost.proofs.Filling.{IsFilled, filled_more}

-- n is the number of the primitive at this index among those with its heading at this end
abbrev pub IsNumber : ArcEnd → List Primitive → ℕ → ℕ → Type 0
IsNumber end prims i n =
    (p : Primitive) → slice_get prims i ≡ Some p
    → n ≡ count_by (λ q. heading_at end q == heading_at end p) (take i prims)

-- how many of the first i primitives have each heading at this end, and the numbers of these
pub record AreCounted (end : ArcEnd) (prims : List Primitive) (headings : ℕ)
    (counted numbered : List ℕ) (i : ℕ) : Type 0 where
  pub size : length counted ≡ headings
  pub counts : (h : ℕ) → h < headings → get_or counted h 0 ≡ count_by (λ q. heading_at end q == h) (take i prims)
  pub numbers : IsFilled (IsNumber end prims) numbered i

module _ (end : ArcEnd) (prims : List Primitive) (headings : ℕ) (counts numbers : List ℕ) (i : ℕ) (p : Primitive)
    (old : AreCounted end prims headings counts numbers i) (at : slice_get prims i ≡ Some p)
    (in_range : heading_at end p < headings) where
  counted_next : (h : ℕ) → h < headings
      → get_or (set counts (heading_at end p) (get_or counts (heading_at end p) 0 + 1)) h 0
      ≡ count_by (λ q. heading_at end q == h) (take (i + 1) prims)
  counted_next h inside =
      let within = slice_get_within prims i p at in
      let here = get_or_from_slice_get prims i p p at in
      elim (cases_eq h (heading_at end p)) [
        | inl same ↦
            let yes =
            count_by_more_yes (λ q. heading_at end q == h) prims i p within
            (ap (λ (q : Primitive). heading_at end q == h) here ∙ eq-eqb (heading_at end p) h (sym same)) in
            let one =
            get_or-set_same counts (heading_at end p) (get_or counts (heading_at end p) 0 + 1) 0
            (omega (arith, old.size)) in
            ap (λ n. get_or (set counts (heading_at end p) (get_or counts (heading_at end p) 0 + 1)) n 0) same ∙ one
            ∙ ap (λ n. get_or counts n 0 + 1) (sym same) ∙ ap (λ n. n + 1) (old.counts h inside) ∙ sym yes
        | inr other ↦
            let no =
            count_by_more_no (λ q. heading_at end q == h) prims i p within
            (ap (λ (q : Primitive). heading_at end q == h) here ∙ ne_eqb (heading_at end p) h (λ e. other (sym e))) in
            get_or-set_other counts (heading_at end p) h (get_or counts (heading_at end p) 0 + 1) 0 other
            ∙ old.counts h inside ∙ sym no
      ]

  -- one more primitive
  pub counted_more : (new_counts new_numbers : List ℕ) (number : ℕ) → number ≡ get_or counts (heading_at end p) 0
      → new_numbers ≡ numbers ++ number ∷ [] → new_counts ≡ set counts (heading_at end p) (number + 1)
      → AreCounted end prims headings new_counts new_numbers (i + 1)
  counted_more new_counts new_numbers number is added changed =
      let written : new_counts ≡ set counts (heading_at end p) (get_or counts (heading_at end p) 0 + 1) =
      changed ∙ ap (λ n. set counts (heading_at end p) (n + 1)) is in
      record {
        size = ap length changed ∙ length-set counts (heading_at end p) (number + 1) ∙ old.size;
        counts = λ h inside. ap (λ l. get_or l h 0) written ∙ counted_next h inside;
        numbers = filled_more (IsNumber end prims) numbers new_numbers i number old.numbers added (λ q there.
            is ∙ old.counts (heading_at end p) in_range
            ∙ ap (λ (r : Primitive). count_by (λ q. heading_at end q == heading_at end r) (take i prims))
            (same_Some p q (sym at ∙ there)));
      }

-- inside a list the value that is read does not depend on the default
pub read_there : (xs : List ℕ) (i n : ℕ) → i < length xs → n ≡ get_or xs i n → n ≡ get_or xs i 0
read_there xs i n h is = is ∙ get_or_from_slice_get xs i (get_or xs i 0) n (slice_get-get_or xs i 0 h)

-- a number is at most the primitive's index
pub few_before : (end : ArcEnd) (prims : List Primitive) (h i : ℕ) → i ≤ length prims
    → count_by (λ q. heading_at end q == h) (take i prims) ≤ i
few_before end prims h i le =
    omega (arith, count_by-le-length (λ q. heading_at end q == h) (take i prims), length-take-le i prims le)

-- the numbers of all primitives
pub numbers_from : (end : ArcEnd) (prims : List Primitive) (headings i : ℕ) (counted numbered : List ℕ)
    → i ≡ length prims → AreCounted end prims headings counted numbered i → AreNumbers end prims numbered
numbers_from end prims headings i counted numbered all are place p at =
    let entry = are.numbers.1 place (omega (arith, slice_get_within prims place p at)) in
    entry.1 ∙ ap (λ n. Some n) (entry.2 p at)

-- the headings of a primitive are the file's
heading_inside : (end : ArcEnd) (cell : ℤ) (headings : ℕ) (p : Primitive) → IsPrimitive cell headings p
    → heading_at end p < headings
heading_inside end.Source cell headings p is = is.from
heading_inside end.Head cell headings p is = is.to

pub read_inside : (end : ArcEnd) (cell : ℤ) (headings h : ℕ) (p : Primitive) → IsPrimitive cell headings p
    → h ≡ heading_at end p → h < headings
read_inside end cell headings h p is same = omega (arith, same, heading_inside end cell headings p is)
