-- The passes of a plan are determined.
use Rattle.std.proofs.Common.{◌≡◌, ◌≢◌, ℕ, ◌-◌, ◌^◌, ◌<◌, ◌≤◌, Bool, true, false, if◌then◌else◌, None, List, [], ◌∷◌}
use Rattle.std.proofs.Common.{min, refl, sym, ap, subst, arith, inl, inr, ◌∙◌}
use Rattle.std.proofs.lemmas.Bool.{false≢true}
use Rattle.sbpl_search.specs.sbpl_labels.Marks.{Marks, states_of, back_of}
use Rattle.sbpl_search.specs.sbpl_labels.declared.time.Time.{Time}
use Rattle.sbpl_search.specs.sbpl_labels.declared.time.Time.TheVariants.{Late}
use Rattle.sbpl_search.specs.Determined.{AreAlikeGuides, AreDetermined}
use Rattle.sbpl_search.specs.Meaning.{Meaning}
use Rattle.sbpl_search.specs.Query.{Query}
use Rattle.sbpl_plan.specs.declared.found.Found.{Found}
use Rattle.sbpl_plan.specs.declared.found.Found.TheVariants as found
use Rattle.sbpl_plan.specs.declared.passes.PassRecord.{PassRecord}
use Rattle.sbpl_plan.specs.Asked.{lowered}
use Rattle.sbpl_plan.specs.Looking.{WalkFinds}
use Rattle.sbpl_plan.specs.Passing.{ArePasses, EndsPass, EndsPlan, Inquiry, IsPass, expansions, query_at}
use Rattle.sbpl_plan.specs.Determined.{AreOnePlan, AreWithin, PassesAreOne}
use Rattle.sbpl_plan.proofs.Retracing.{guided_path, one_find}

-- this many expansions fit into this room, and fill it where they were spent
record FillsRoom (room count : ℕ) (spent : Bool) : Type 0 where
  within : count ≤ room
  used_up : spent ≡ true → count ≡ room

-- two passes with the same actions, labels and end
record AreOneRun {Action : Type 0} (xs ys : List Action) (a b : Marks) (spent spent' : Bool) : Type 0 where
  actions : xs ≡ ys
  labels : a ≡ b
  both : spent ≡ spent'

module _ {Action : Type 0} (means : Meaning Action) (laws : AreDetermined means) (q : Query) (old a b : Marks)
    (xs ys : List Action) (room : ℕ) (left : means.leads q xs old a) (right : means.leads q ys old b) where
  as_many : means.expansions xs ≡ means.expansions ys → (spent : Bool) → AreOneRun xs ys a b spent spent
  as_many same spent =
      let one = laws.one q old a b xs ys left right same in
      record { actions = one.0; labels = one.1; both = refl }

  -- nothing is left to expand where there is rest
  on_not_rest : means.expansions xs ≡ means.expansions ys → means.goes_on q xs a → means.rests q ys b → ⊥
  on_not_rest same on rest =
      let one = laws.one q old a b xs ys left right same in
      let own : means.rests q xs a = rw (one.0, one.1) rest in
      laws.not_both q xs a own on

  rest_not_on : means.expansions xs ≡ means.expansions ys → means.rests q xs a → means.goes_on q ys b → ⊥
  rest_not_on same rest on =
      let one = laws.one q old a b xs ys left right same in
      let own : means.goes_on q xs a = rw (one.0, one.1) on in
      laws.not_both q xs a rest own

  one_end : (spent spent' : Bool) → EndsPass means q xs a spent → EndsPass means q ys b spent'
      → FillsRoom room (means.expansions xs) spent → FillsRoom room (means.expansions ys) spent'
      → AreOneRun xs ys a b spent spent'
  one_end true true ends ends' fills fills' = as_many (fills.used_up refl ∙ sym (fills'.used_up refl)) true
  one_end true false ends ends' fills fills' =
      let most : means.expansions xs ≤ means.expansions ys = laws.longest q old b a ys xs right left ends' in
      let full = fills.used_up refl in
      absurd (on_not_rest (omega (arith, fills'.within)) ends ends')
  one_end false true ends ends' fills fills' =
      let most : means.expansions ys ≤ means.expansions xs = laws.longest q old a b xs ys left right ends in
      let full = fills'.used_up refl in
      absurd (rest_not_on (omega (arith, fills.within)) ends ends')
  one_end false false ends ends' fills fills' =
      let most : means.expansions ys ≤ means.expansions xs = laws.longest q old a b xs ys left right ends in
      let most' : means.expansions xs ≤ means.expansions ys = laws.longest q old b a ys xs right left ends' in
      as_many (omega arith) false

-- two passes that are the same
record AreOnePass {Action : Type 0} (p p' : PassRecord Action) (a b : Marks) (spent spent' : Bool) : Type 0 where
  pass : p ≡ p'
  labels : a ≡ b
  both : spent ≡ spent'

-- a last pass expands what all expand
expansions_of_last : {Action : Type 0} (p : PassRecord Action) (ps : List (PassRecord Action)) → ps ≡ []
    → expansions (p ∷ ps) ≡ p.expanded
expansions_of_last p ps last = rw last (omega arith)

-- a pass that is not the last fills no room
not_last_fills : {Action : Type 0} (room : ℕ) (p : PassRecord Action) (ps : List (PassRecord Action)) (spent : Bool)
    → FillsRoom room (expansions (p ∷ ps)) spent → FillsRoom room p.expanded false
not_last_fills room p ps spent fills =
    record { within = omega (arith, fills.within); used_up = λ e. absurd (false≢true e) }

rest_fills : {Action : Type 0} (room : ℕ) (p : PassRecord Action) (ps : List (PassRecord Action)) (spent : Bool)
    → FillsRoom room (expansions (p ∷ ps)) spent → FillsRoom (room - p.expanded) (expansions ps) spent
rest_fills room p ps spent fills =
    record { within = omega (arith, fills.within); used_up = λ e. omega (arith, fills.used_up e) }

last_alike : {Action : Type 0} (q : Inquiry) (eps : ℕ) {a b : Marks} {spent spent' : Bool} {p p' : PassRecord Action}
    → AreOnePass p p' a b spent spent' → EndsPlan q eps a spent p.found → EndsPlan q eps b spent' p'.found
last_alike q eps one last = rw (← one.labels, ← one.both, ← one.pass) last

module _ {Action : Type 0} (means : Meaning Action) (laws : AreDetermined means) (q : Inquiry) where
  one_pass : (eps : ℕ) (old a b : Marks) (spent spent' : Bool) (p p' : PassRecord Action) (room : ℕ)
      → back_of old old.start ≡ None
      → IsPass means q eps old a spent p → IsPass means q eps old b spent' p' → FillsRoom room p.expanded spent
      → FillsRoom room p'.expanded spent'
      → AreOnePass p p' a b spent spent'
  one_pass eps old a b spent spent' p p' room none is is' fills fills' =
      let own : FillsRoom room (means.expansions is.actions) spent = rw (← is.expanded) fills in
      let own' : FillsRoom room (means.expansions is'.actions) spent' = rw (← is'.expanded) fills' in
      let one =
      one_end means laws (query_at q eps) old a b is.actions is'.actions room is.leads is'.leads spent spent'
      is.ends is'.ends own own' in
      let at_start = laws.no_arc (query_at q eps) old a is.actions is.leads none in
      let finds : WalkFinds q.network q.guide q.goal a is'.arcs p'.found = rw one.labels is'.found in
      let inflation : p.inflation ≡ p'.inflation = is.inflation ∙ sym is'.inflation in
      let expanded : p.expanded ≡ p'.expanded = is.expanded ∙ ap means.expansions one.actions ∙ sym is'.expanded in
      let told : p.trace ≡ p'.trace =
      is.told ∙ ap (λ (actions : List Action). if q.ask.traced then actions else []) one.actions ∙ sym is'.told in
      let seen : p.found ≡ p'.found =
      one_find q.network q.guide q.goal a at_start is.arcs is'.arcs p.found p'.found is.found finds in
      record {
        pass = λ i. record { inflation = inflation i; expanded = expanded i; found = seen i; trace = told i };
        labels = one.labels;
        both = one.both;
      }

  one_plan : (ps qs : List (PassRecord Action)) (eps : ℕ) (old a b : Marks) (spent spent' : Bool) (room : ℕ)
      → back_of old old.start ≡ None
      → ArePasses means q eps old ps a spent → ArePasses means q eps old qs b spent'
      → FillsRoom room (expansions ps) spent → FillsRoom room (expansions qs) spent'
      → AreOnePlan ps qs a b spent spent'
  one_plan [] qs eps old a b spent spent' room none left right fills fills' = absurd left
  one_plan (p ∷ ps) [] eps old a b spent spent' room none left right fills fills' = absurd right
  one_plan (p ∷ ps) (p' ∷ qs) eps old a b spent spent' room none (inl left) (inl right) fills fills' =
      let own : FillsRoom room p.expanded spent = rw (← expansions_of_last p ps left.0) fills in
      let own' : FillsRoom room p'.expanded spent' = rw (← expansions_of_last p' qs right.0) fills' in
      let one = one_pass eps old a b spent spent' p p' room none left.1 right.1 own own' in
      let rest : ps ≡ qs = left.0 ∙ sym right.0 in
      record { passes = λ i. one.pass i ∷ rest i; labels = one.labels; both = one.both }
  one_plan (p ∷ ps) (p' ∷ qs) eps old a b spent spent' room none (inl left) (inr right) fills fills' =
      let own : FillsRoom room p.expanded spent = rw (← expansions_of_last p ps left.0) fills in
      let one =
      one_pass eps old a right.0 spent false p p' room none left.1 right.1 own
      (not_last_fills room p' qs spent' fills') in
      absurd (right.2 (last_alike q eps one left.2))
  one_plan (p ∷ ps) (p' ∷ qs) eps old a b spent spent' room none (inr left) (inl right) fills fills' =
      let own' : FillsRoom room p'.expanded spent' = rw (← expansions_of_last p' qs right.0) fills' in
      let one =
      one_pass eps old b left.0 spent' false p' p room none right.1 left.1 own'
      (not_last_fills room p ps spent fills) in
      absurd (left.2 (last_alike q eps one right.2))
  one_plan (p ∷ ps) (p' ∷ qs) eps old a b spent spent' room none (inr left) (inr right) fills fills' =
      let one =
      one_pass eps old left.0 right.0 false false p p' room none left.1 right.1 (not_last_fills room p ps spent fills)
      (not_last_fills room p' qs spent' fills') in
      let at_start = laws.no_arc (query_at q eps) old left.0 left.1.actions left.1.leads none in
      let later : ArePasses means q (lowered q.ask.step eps) left.0 qs b spent' = rw one.labels right.3 in
      let fills_later : FillsRoom (room - p.expanded) (expansions qs) spent' =
      rw one.pass (rest_fills room p' qs spent' fills') in
      let rest =
      one_plan ps qs (lowered q.ask.step eps) left.0 a b spent spent' (room - p.expanded) at_start left.3 later
      (rest_fills room p ps spent fills) fills_later in
      record { passes = λ i. one.pass i ∷ rest.passes i; labels = rest.labels; both = rest.both }

-- what a walk gives by another guide that says the same of each state
guided_find : (q : Inquiry) (h : ℕ → ℕ) (m : Marks) (arcs : List ℕ) (f : Found) → AreAlikeGuides (states_of m) q.guide h
    → WalkFinds q.network q.guide q.goal m arcs f
    → WalkFinds q.network h q.goal m arcs f
guided_find q h m arcs (found.Path cost bound) alike finds = guided_path h alike finds
guided_find q h m arcs found.None alike finds = finds
guided_find q h m arcs found.Broken alike finds = finds

module _ {Action : Type 0} (means : Meaning Action) (laws : AreDetermined means) (q : Inquiry) (h : ℕ → ℕ) where
  guided_end : (eps : ℕ) (actions : List Action) (m : Marks) (spent : Bool) → AreAlikeGuides (states_of m) q.guide h
      → EndsPass means (query_at q eps) actions m spent
      → EndsPass means (query_at (record q { guide = h }) eps) actions m spent
  guided_end eps actions m true alike ends = laws.guided_goes_on (query_at q eps) h m actions alike ends
  guided_end eps actions m false alike ends = laws.guided_rests (query_at q eps) h m actions alike ends

  -- guides alike before a pass are alike after it
  alike_after : (eps : ℕ) (old new : Marks) (spent : Bool) (p : PassRecord Action) → AreAlikeGuides (states_of old) q.guide h
      → IsPass means q eps old new spent p → AreAlikeGuides (states_of new) q.guide h
  alike_after eps old new spent p alike is =
      λ s inside.
      alike s (subst (λ (count : ℕ). s < count) (laws.states (query_at q eps) old new is.actions is.leads) inside)

  guided_pass : (eps : ℕ) (old new : Marks) (spent : Bool) (p : PassRecord Action) → AreAlikeGuides (states_of old) q.guide h
      → IsPass means q eps old new spent p
      → IsPass means (record q { guide = h }) eps old new spent p
  guided_pass eps old new spent p alike is =
      let after = alike_after eps old new spent p alike is in
      record {
        inflation = is.inflation;
        actions = is.actions;
        leads = laws.guided (query_at q eps) h old new is.actions alike is.leads;
        ends = guided_end eps is.actions new spent after is.ends;
        seated = is.seated;
        expanded = is.expanded;
        told = is.told;
        arcs = is.arcs;
        found = guided_find q h new is.arcs p.found after is.found;
      }

  guided_passes : (ps : List (PassRecord Action)) (eps : ℕ) (old new : Marks) (spent : Bool)
      → AreAlikeGuides (states_of old) q.guide h → ArePasses means q eps old ps new spent
      → ArePasses means (record q { guide = h }) eps old ps new spent
  guided_passes [] eps old new spent alike made = made
  guided_passes (p ∷ ps) eps old new spent alike (inl made) =
      inl (made.0, guided_pass eps old new spent p alike made.1, made.2)
  guided_passes (p ∷ ps) eps old new spent alike (inr made) =
      inr (
        made.0,
        guided_pass eps old made.0 false p alike made.1,
        made.2,
        guided_passes ps (lowered q.ask.step eps) made.0 new spent
            (alike_after eps old made.0 false p alike made.1) made.3,
      )

-- the room is the lesser of the budget and of what the run has left
room_filled : {Action : Type 0} (budget before : ℕ) (time : Time) (ps : List (PassRecord Action)) (spent : Bool)
    → time ≢ Late → AreWithin budget before time ps spent
    → FillsRoom (min budget (2 ^ 30 - before)) (expansions ps) spent
room_filled budget before time ps spent in_time within = record {
  within = omega (arith, within.of_plan, within.of_run);
  used_up = λ e. elim (within.used_up e) [
    | inl all ↦ omega (arith, all, within.of_run)
    | inr (inl all) ↦ omega (arith, all, within.of_plan)
    | inr (inr late) ↦ absurd (in_time late)
  ];
}

pub passes_are_one : {Action : Type 0} (means : Meaning Action) → AreDetermined means → PassesAreOne means
passes_are_one means laws q h budget before eps time time' old a b ps qs spent spent' none alike left right in_time in_time'
    within within' =
    one_plan means laws (record q { guide = h }) ps qs eps old a b spent spent' (min budget (2 ^ 30 - before)) none
    (guided_passes means laws q h ps eps old a spent alike left) right
    (room_filled budget before time ps spent in_time within)
    (room_filled budget before time' qs spent' in_time' within')
