-- What a board shows of the paths that its observer was told of.
use Rattle.std.proofs.Common.{◌≡◌, ℕ, ◌+◌, ◌-◌, ◌^◌, ◌≤◌, ◌<◌, List, [], ◌∷◌, ◌++◌, Result, Ok, Err, IfOk, refl}
use Rattle.std.proofs.Common.{◌∙◌, ap, inl, inr, arith}
use Rattle.std.specs.Prelude.{OnErr}
use Rattle.sbpl_worlds.specs.sbpl_incumbent.Entries.{next_entry}
use Rattle.sbpl_worlds.specs.sbpl_plan.Observed.{AreTold}
use Rattle.sbpl_worlds.specs.sbpl_plan.Passing.{Inquiry}
use Rattle.sbpl_worlds.specs.sbpl_plan.declared.passes.PassRecord.{PassRecord}
use Rattle.sbpl_worlds.specs.sbpl_plan.declared.result.Planned.{Planned}
use Rattle.sbpl_worlds.specs.sbpl_promises.Published.{founds, with_paths}
use Rattle.sbpl_worlds.specs.sbpl_labels.declared.time.Time.{Time}
use Rattle.sbpl_worlds.specs.sbpl_replan.Replanning.{Standing, StandsOutOfMemory}
use Rattle.sbpl_worlds.specs.sbpl_search.Meaning.{Meaning}
use Rattle.sbpl_plans.specs.Boards.{IsSamePublisher, entries_of}
use Rattle.sbpl_plans.specs.declared.live_board.LiveBoard.{LiveBoard}
use Rattle.sbpl_plans.proofs.Founds.{all_found}

pub then_same : {R : Type 0} (a b c : LiveBoard R) → IsSamePublisher a b → IsSamePublisher b c → IsSamePublisher a c
then_same a b c first then = (then.0 ∙ first.0, then.1 ∙ first.1)

-- a board that went on to plan `plan`, and was then told of passes
module _ {R : Type 0} (old begun new : LiveBoard R) (plan : ℕ) (stays : IsSamePublisher old begun)
    (entries : entries_of begun ≡ entries_of old) (number : begun.plan ≡ plan) where
  abbrev Same : LiveBoard R → Type 0
  Same o = IsSamePublisher begun o × (o.plan ≡ begun.plan)

  abbrev Told : LiveBoard R → (pass cost bound : ℕ) → LiveBoard R → Type 0
  Told a pass cost bound b =
      IsSamePublisher a b × (b.plan ≡ a.plan)
      × (entries_of b ≡ entries_of a ++ next_entry (entries_of a) a.plan pass cost bound ∷ [])

  abbrev AreAll : {Action : Type 0} → List (PassRecord Action) → Type 0
  AreAll ps = AreTold Told 0 ps begun new

  step : (a b : LiveBoard R) (pass cost bound : ℕ) → Same a → Told a pass cost bound b
      → (entries_of b ≡ entries_of a ++ next_entry (entries_of a) begun.plan pass cost bound ∷ []) × Same b
  step a b pass cost bound same told = (
    told.2 ∙ ap (λ (k : ℕ). entries_of a ++ next_entry (entries_of a) k pass cost bound ∷ []) same.1,
    (then_same begun a b same.0 told.0, told.1 ∙ same.1),
  )

  found : {Action : Type 0} (ps : List (PassRecord Action)) → AreAll ps
      → (entries_of new ≡ with_paths (entries_of begun) begun.plan 0 (founds ps)) × Same new
  found ps told =
      all_found Told (λ (o : LiveBoard R). entries_of o) begun.plan Same step 0 ps begun new
      ((refl, refl), refl) told

  -- their paths were published
  pub shown : {Action : Type 0} (ps : List (PassRecord Action)) → AreAll ps
      → entries_of new ≡ with_paths (entries_of old) plan 0 (founds ps)
  shown ps told = (found ps told).0 ∙ (λ i. with_paths (entries i) (number i) 0 (founds ps))

  same : {Action : Type 0} (ps : List (PassRecord Action)) → AreAll ps → IsSamePublisher old new
  same ps told = then_same old begun new stays (found ps told).1.0

  pub stands_same : {Action : Type 0} {means : Meaning Action} {q : Inquiry} {time : Time} {Ready : Type 0} {was now : Standing Action}
      → StandsOutOfMemory means q time Ready AreAll was now → IsSamePublisher old new
  stands_same (inl cut) = same cut.part.passes cut.part.told
  stands_same (inr cut) = same cut.part.passes cut.part.told

  -- whether all passes were made, or memory ran out, it is the same publisher
  pub same_if : {Action E : Type 0} (Broken : Type 0) → (Broken → IsSamePublisher old new) → (r : Result (Planned Action) E)
      → IfOk r (λ x. AreAll x.passes) → OnErr r Broken → IsSamePublisher old new
  same_if Broken so (Ok x) told broken = same x.passes told
  same_if Broken so (Err e) told broken = so broken

-- a room that shrank by at most the most passes
pub grown_by : (was now most : ℕ) → was + most < 2 ^ 63 → 2 ^ 63 - was ≤ (2 ^ 63 - now) + most → now ≤ was + most
grown_by was now most few room = omega (arith, few, room)
