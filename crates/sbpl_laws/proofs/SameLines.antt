-- What is written of a demonstration and of a list of sweeps is determined.
use Rattle.std.proofs.Common.{◌≡◌, ℕ, zero, suc, ◌+◌, ◌⊎◌, Bool, true, IsSome, Option, Some, None, List, [], ◌∷◌}
use Rattle.std.proofs.Common.{length, map, slice_get, ℤ, ◌++◌, inl, inr, refl, sym, ap, subst, ◌∙◌, arith}
use Rattle.std.proofs.lemmas.Int.{ints}
use Rattle.std.proofs.lemmas.Option.{none-some, same_Some}
use Rattle.std.specs.List.{range_with_len}
use Rattle.sbpl_promises.specs.sbpl_cfg.declared.pose.Pose.{Pose}
use Rattle.sbpl_promises.specs.sbpl_mprim.declared.prim.Primitive.{Primitive}
use Rattle.sbpl_promises.specs.sbpl_mprim.Primitives.{Primitives}
use Rattle.sbpl_promises.specs.sbpl_map.declared.write.Write as change
use Rattle.sbpl_promises.specs.sbpl_sweep.declared.cell.Cell.{Cell}
use Rattle.sbpl_promises.specs.sbpl_sweep.Centres.{AreCentres, AreSwept, IsBefore}
use Rattle.sbpl_promises.specs.sbpl_sweep.Swept.{AreSweepsOf, Swept}
use Rattle.sbpl_promises.specs.sbpl_map.CellMap.{CellMap}
use Rattle.sbpl_promises.specs.sbpl_cost.Lattices.{network_of, states_are}
use Rattle.sbpl_promises.specs.sbpl_cost.States.{state_count}
use Rattle.sbpl_promises.specs.sbpl_cost.World.{World}
use Rattle.sbpl_promises.specs.sbpl_cfg.Environment.{Environment}
use Rattle.sbpl_promises.specs.sbpl_job.declared.job.DemoJob.{DemoJob}
use Rattle.sbpl_promises.specs.sbpl_job.declared.job.Sources.{Sources}
use Rattle.sbpl_promises.specs.sbpl_report.declared.record.PlanRecord.{PlanRecord}
use Rattle.sbpl_promises.specs.Causes.{AreDemonstrated, IsDrawn, ReadsWorld, demo_search, no_outputs}
use Rattle.sbpl_promises.specs.Determined.{AreAlikeWorlds, FewAreFirst, RecordsAreOne}
use Rattle.sbpl_promises.specs.sbpl_plan.declared.found.Found.{Found}
use Rattle.sbpl_promises.specs.Headline.{ArePlans}
use Rattle.sbpl_promises.specs.LatticeSite.{lattice_site}
use Rattle.sbpl_promises.specs.Published.{Entry}
use Rattle.sbpl_promises.specs.Texts.{still}
use Rattle.sbpl_promises.specs.Intents.{last_write, listing_writes}
use Rattle.sbpl_promises.specs.sbpl_report.Listing.{listing_at, listing_by}
use Rattle.sbpl_promises.specs.sbpl_report.Report.{demo_text}
use Rattle.sbpl_promises.specs.Writing.{Told, to_output}
use Rattle.sbpl_promises.specs.Clear.{TextsAreClear}
use Rattle.sbpl_laws.proofs.LatticeAlike.{made}
use Rattle.sbpl_laws.proofs.SamePlanned.{one_world}

-- ---- a demonstration

same_drawn : (d : DemoJob) (w v : World) → IsDrawn d w → IsDrawn d v → AreAlikeWorlds w v
same_drawn d w v x y = record {
  env = y.env ∙ sym x.env;
  prims = y.prims ∙ sym x.prims;
  map = y.map ∙ sym x.map;
  radius = y.sweeps.radius_is ∙ sym x.sweeps.radius_is;
}

-- the world and the batches are those that are drawn: records
-- of its plans are the first few of any records of all of them
pub few_demonstrated : FewAreFirst lattice_site AreAlikeWorlds
    → (d : DemoJob) (w v : World) (bs cs : List (List change.Write)) (log : List Entry) (rs us : List PlanRecord)
    (all : Bool) (broken also : List Found) → AreDemonstrated d w bs rs all log broken
    → AreDemonstrated d v cs us true log also
    → (rest : List PlanRecord) × (us ≡ rs ++ rest)
few_demonstrated first d w v bs cs log rs us all broken also x y =
    let updates : bs ≡ cs = x.changes ∙ sym y.changes in
    let plans : ArePlans lattice_site w (still cs) demo_search no_outputs rs all log broken =
    subst (λ (l : List (List change.Write)). ArePlans lattice_site w (still l) demo_search no_outputs rs all log broken)
    updates x.plans in
    first w v (still cs) demo_search no_outputs log rs us all broken also refl
    (same_drawn d w v x.drawn y.drawn) plans y.plans

pub one_demonstrated : RecordsAreOne lattice_site AreAlikeWorlds
    → (d : DemoJob) (w v : World) (bs cs : List (List change.Write)) (log : List Entry) (rs us : List PlanRecord)
    (broken also : List Found) → AreDemonstrated d w bs rs true log broken
    → AreDemonstrated d v cs us true log also → rs ≡ us
one_demonstrated one d w v bs cs log rs us broken also x y =
    let updates : bs ≡ cs = x.changes ∙ sym y.changes in
    let plans : ArePlans lattice_site w (still cs) demo_search no_outputs rs true log broken =
    subst (λ (l : List (List change.Write)).
    ArePlans lattice_site w (still l) demo_search no_outputs rs true log broken) updates x.plans in
    one w v (still cs) demo_search no_outputs log rs us broken also refl
    (same_drawn d w v x.drawn y.drawn) plans y.plans

-- so is its first line
pub one_first_line : (d : DemoJob) (w v : World) (count count' : ℕ) (bs cs : List (List change.Write))
    (rs us : List PlanRecord) (all all' : Bool) (log : List Entry) (broken more : List Found)
    → count ≡ length bs → count' ≡ length cs
    → AreDemonstrated d w bs rs all log broken → AreDemonstrated d v cs us all' log more
    → demo_text (network_of w).states (length w.prims.items) count
    ≡ demo_text (network_of v).states (length v.prims.items) count'
one_first_line d w v count count' bs cs rs us all all' log broken more is also x y =
    let alike = same_drawn d w v x.drawn y.drawn in
    let states : (network_of w).states ≡ (network_of v).states =
    states_are w ∙ ap (λ (e : Environment). state_count e) (sym alike.env) ∙ sym (states_are v) in
    let prims : w.prims ≡ v.prims = sym alike.prims in
    let counts : count ≡ count' =
    is ∙ ap (λ (l : List (List change.Write)). length l) (x.changes ∙ sym y.changes) ∙ sym also in
    λ i. demo_text (states i) (length (prims i).items) (counts i)

-- ---- lists of cells in order

before_through : (a b c : Cell) → IsBefore a b → IsBefore b c → IsBefore a c
before_through a b c p q = grind (arith, ints)

not_before_each : (a b : Cell) → IsBefore a b → IsBefore b a → ⊥
not_before_each a b p q = grind (arith, ints)

-- each cell comes before the next
abbrev AreSorted : List Cell → Type 0
AreSorted xs = (i : ℕ) (a b : Cell) → slice_get xs i ≡ Some a → slice_get xs (i + 1) ≡ Some b → IsBefore a b

abbrev IsIn : List Cell → Cell → Type 0
IsIn xs c = (i : ℕ) × (slice_get xs i ≡ Some c)

tail_sorted : (x : Cell) (xs : List Cell) → AreSorted (x ∷ xs) → AreSorted xs
tail_sorted x xs sorted = λ i a b p q.
    let next : suc i + 1 ≡ suc (i + 1) = omega arith in
    sorted (suc i) a b p (subst (λ (k : ℕ). slice_get (x ∷ xs) k ≡ Some b) (sym next) q)

head_first : (x : Cell) (xs : List Cell) → AreSorted (x ∷ xs) → (i : ℕ) (c : Cell)
    → slice_get xs i ≡ Some c → IsBefore x c
head_first x [] sorted i c at = absurd (none-some c at)
head_first x (y ∷ ys) sorted zero c at =
    let next : IsBefore x y = sorted 0 x y refl refl in
    subst (λ (d : Cell). IsBefore x d) (same_Some y c at) next
head_first x (y ∷ ys) sorted (suc j) c at =
    let next : IsBefore x y = sorted 0 x y refl refl in
    before_through x y c next (head_first y ys (tail_sorted x (y ∷ ys) sorted) j c at)

head_or_tail : (x : Cell) (xs : List Cell) (c : Cell) → IsIn (x ∷ xs) c → (x ≡ c) ⊎ IsIn xs c
head_or_tail x xs c (zero, at) = inl (same_Some x c at)
head_or_tail x xs c (suc i, at) = inr (i, at)

-- the first cells of two lists with the same cells
heads_same : (x y : Cell) (xs ys : List Cell) → AreSorted (x ∷ xs) → AreSorted (y ∷ ys) → (x ≡ y) ⊎ IsIn xs y
    → (y ≡ x) ⊎ IsIn ys x → x ≡ y
heads_same x y xs ys left right (inl same) other = same
heads_same x y xs ys left right (inr among) (inl same) = sym same
heads_same x y xs ys left right (inr among) (inr also) =
    absurd (not_before_each x y (head_first x xs left among.0 y among.1) (head_first y ys right also.0 x also.1))

not_again : (x : Cell) (xs : List Cell) (c : Cell) → AreSorted (x ∷ xs) → IsIn xs c → c ≡ x → ⊥
not_again x xs c sorted among same =
    let before : IsBefore x c = head_first x xs sorted among.0 c among.1 in
    let own : IsBefore x x = subst (λ (d : Cell). IsBefore x d) same before in
    not_before_each x x own own

tail_of : (x y : Cell) (ys : List Cell) (c : Cell) → x ≡ y → (c ≡ x → ⊥) → (y ≡ c) ⊎ IsIn ys c → IsIn ys c
tail_of x y ys c same apart (inl at) = absurd (apart (sym at ∙ sym same))
tail_of x y ys c same apart (inr among) = among

-- sorted lists with the same cells are equal
one_sorted : (xs ys : List Cell) → AreSorted xs → AreSorted ys → ((c : Cell) → IsIn xs c → IsIn ys c)
    → ((c : Cell) → IsIn ys c → IsIn xs c) → xs ≡ ys
one_sorted [] [] left right there back = refl
one_sorted [] (y ∷ ys) left right there back = absurd (none-some y (back y (0, refl)).1)
one_sorted (x ∷ xs) [] left right there back = absurd (none-some x (there x (0, refl)).1)
one_sorted (x ∷ xs) (y ∷ ys) left right there back =
    let same : x ≡ y =
    heads_same x y xs ys left right (head_or_tail x xs y (back y (0, refl)))
    (head_or_tail y ys x (there x (0, refl))) in
    let onward : (c : Cell) → IsIn xs c → IsIn ys c = λ c among.
    tail_of x y ys c same (not_again x xs c left among) (head_or_tail y ys c (there c (suc among.0, among.1))) in
    let backward : (c : Cell) → IsIn ys c → IsIn xs c = λ c among.
    tail_of y x xs c (sym same) (not_again y ys c right among) (head_or_tail x xs c (back c (suc among.0, among.1))) in
    let rest = one_sorted xs ys (tail_sorted x xs left) (tail_sorted y ys right) onward backward in
    λ i. same i ∷ rest i

one_centres : (cell : ℤ) (poses : List Pose) (xs ys : List Cell) → AreCentres cell poses xs
    → AreCentres cell poses ys → xs ≡ ys
one_centres cell poses xs ys x y =
    one_sorted xs ys x.ordered y.ordered (λ c (i, at). y.all c.x c.y (x.each i c at))
    (λ c (i, at). x.all c.x c.y (y.each i c at))

one_swept : (cell : ℤ) (radius : ℕ) (poses : List Pose) (xs ys : List Cell) → AreSwept cell radius poses xs
    → AreSwept cell radius poses ys → xs ≡ ys
one_swept cell radius poses xs ys x y =
    one_sorted xs ys x.ordered y.ordered (λ c (i, at). y.all c.x c.y (x.each i c at))
    (λ c (i, at). x.all c.x c.y (y.each i c at))

-- ---- a list of sweeps

module _ (e : Environment) (ps : Primitives) (m : CellMap) (radius : ℕ) (sweeps others : Swept)
    (x : AreSweepsOf ps radius sweeps) (y : AreSweepsOf ps radius others) where
  one_listing : (i : ℕ) (o : Option Primitive) → slice_get ps.items i ≡ o
      → listing_at (made e ps sweeps m) i ≡ listing_at (made e ps others m) i
  one_listing i None none = rw none refl
  one_listing i (Some p) some =
      let centres = x.centres.each i p some in
      let centres' = y.centres.each i p some in
      let swept = x.swept.each i p some in
      let swept' = y.swept.each i p some in
      let left : slice_get sweeps.centres i ≡ slice_get others.centres i = centres.1
      ∙ ap (λ (cells : List Cell). Some cells) (one_centres ps.cell p.poses centres.0 centres'.0 centres.2 centres'.2)
      ∙ sym centres'.1 in
      let right : slice_get sweeps.swept i ≡ slice_get others.swept i = swept.1
      ∙ ap (λ (cells : List Cell). Some cells) (one_swept ps.cell radius p.poses swept.0 swept'.0 swept.2 swept'.2)
      ∙ sym swept'.1 in
      λ k. listing_by (made e ps sweeps m) (slice_get ps.items i) (left k) (right k)

  one_list_of_sweeps : listing_writes (made e ps sweeps m) ≡ listing_writes (made e ps others m)
  one_list_of_sweeps = λ k. map to_output
      (map (λ i. one_listing i (slice_get ps.items i) refl k) (range_with_len 0 (length ps.items))) ++ last_write ∷ []

-- what is listed is the same for any worlds that the files stand for
pub one_listed : TextsAreClear → (held : Told) (from : Sources) (w v : World) → IsSome (held from.env)
    → IsSome (held from.prims) → ReadsWorld held from w → ReadsWorld held from v → listing_writes v ≡ listing_writes w
one_listed clear held from w v told_env told_prims says also =
    let alike = one_world clear held from w v told_env told_prims says also in
    let env = alike.env in
    let prims = alike.prims in
    let maps = alike.map in
    let made_of : v ≡ made w.env w.prims v.sweeps w.map =
    λ i. record { env = env i; prims = prims i; sweeps = v.sweeps; map = maps i } in
    let sweeps : AreSweepsOf w.prims from.radius v.sweeps =
    subst (λ (ps : Primitives). AreSweepsOf ps from.radius v.sweeps) prims also.sweeps in
    ap listing_writes made_of ∙ one_list_of_sweeps w.env w.prims w.map from.radius v.sweeps w.sweeps sweeps says.sweeps
