-- The checking of one text is determined, as far as memory lasts.
use Rattle.std.proofs.Common.{◌≡◌, ◌≢◌, ℕ, zero, suc, ◌+◌, ◌⊎◌, ◌++◌, Option, Some, None, List, [], ◌∷◌, length, IsSome}
use Rattle.std.proofs.Common.{Bool, IfSome, refl, sym, ap, subst, ◌∙◌, inl, inr}
use Rattle.sbpl_promises.specs.sbpl_graph.Network.{Network}
use Rattle.sbpl_promises.specs.sbpl_fixed.Formats.{Left, start_at}
use Rattle.sbpl_promises.specs.sbpl_fixed.Tokens.{Piece}
use Rattle.sbpl_promises.specs.sbpl_cert.declared.fault.LabelFault.{LabelFault}
use Rattle.sbpl_promises.specs.sbpl_cert.declared.flaw.Flaw.{Flaw}
use Rattle.sbpl_promises.specs.sbpl_cert.declared.outcome.Outcome.{Outcome}
use Rattle.sbpl_promises.specs.sbpl_cert.Flaws.{IsFirstFlaw}
use Rattle.sbpl_promises.specs.sbpl_cert.declared.section.Section.{Section}
use Rattle.sbpl_promises.specs.sbpl_cert.Text.{HasFault}
use Rattle.sbpl_promises.specs.sbpl_cert.Versions.{claim_by, outcome_of}
use Rattle.sbpl_promises.specs.declared.section_stop.SectionStop.{SectionStop}
use Rattle.sbpl_promises.specs.declared.section_stop.SectionStop.TheVariants as section
use Rattle.sbpl_promises.specs.Causes.{ReadsUpdates}
use Rattle.sbpl_promises.specs.Texts.{Scope}
use Rattle.sbpl_promises.specs.declared.updates.Updates.{Updates}
use Rattle.sbpl_promises.specs.Checked.{AreChecked, Case, Ground, IsFlawed, IsHolding, IsShownHolding, IsStoppedIn}
use Rattle.sbpl_promises.specs.Checked.{IsTrailingAt, case_of, from_in, to_in}
use Rattle.sbpl_promises.specs.Clear.{SectionsAreClear, TextsAreClear}
use Rattle.sbpl_promises.specs.Sites.{Site, searched_on, start_after, to_of}
use Rattle.sbpl_promises.specs.Intents.{checked_writes}
use Rattle.sbpl_promises.specs.Promises.{IsChecked, IsCheckedIn}
use Rattle.sbpl_promises.specs.sbpl_report.Verdicts.{holds_text}
use Rattle.sbpl_promises.specs.Writing.{Told}
use Rattle.sbpl_promises.specs.Writing as writing
use Rattle.sbpl_laws.proofs.OneEnding.{AreOneGround, OneMap, case_in, checked_on, holds_not_stopped, one_ground}
use Rattle.sbpl_laws.proofs.OneEnding.{readable, same_case, same_left, trailing_none}
use Rattle.sbpl_laws.proofs.AlikeSites.{AreAlike, GoesAlike, goes_alike, same_starts}
use Rattle.sbpl_promises.specs.WorldFiles.{WorldFiles}
use Rattle.sbpl_laws.proofs.SamePlanned.{StandForOne, updates_once, read_once}

-- the first checking goes as far as the second: both are the same,
-- or memory ran out in it after the first few sections that hold
abbrev pub GoesAsFar : List Outcome → List Outcome → Option SectionStop → Option SectionStop → Type 0
GoesAsFar os ps a b =
    ((os ≡ ps) × (a ≡ b)) ⊎ ((a ≡ Some section.NoMemory) × ((rest : List Outcome) × (ps ≡ os ++ rest)))

trailing_one : (ts : List Piece) (f g : LabelFault) → IsTrailingAt ts f → IsTrailingAt ts g → f ≡ g
trailing_one [] f g p q = absurd p
trailing_one (t ∷ ts) f g p q = p ∙ sym q

module _ {W : Type 0} (on : Site W) (Alike : W → W → Type 0) (alike : AreAlike on Alike) (back : Bool)
    (goes : GoesAlike on Alike back) (clear : SectionsAreClear) (one : OneMap) (c : Case (searched_on on back)) where
  one_flaw : (n m : Ground) (plan : ℕ) (left : Left) (f g : Flaw) → AreOneGround n m
      → IsFlawed n (from_in c plan) (to_in c plan) plan left f
      → IsFlawed m (from_in c plan) (to_in c plan) plan left g → f ≡ g
  one_flaw n m plan left f g same x y =
      let sections : x.section ≡ y.section =
      (clear.one left.tokens x.rest y.rest x.section y.section x.tokens y.tokens).0 in
      let there : IsFirstFlaw m.network (from_in c plan) (to_in c plan) (claim_by n.guide x.section) f =
      subst (λ (o : Network). IsFirstFlaw o (from_in c plan) (to_in c plan) (claim_by n.guide x.section) f)
      same.network x.first in
      let own : IsFirstFlaw m.network (from_in c plan) (to_in c plan) (claim_by n.guide y.section) f =
      subst (λ (s : Section). IsFirstFlaw m.network (from_in c plan) (to_in c plan) (claim_by n.guide s) f)
      sections there in
      clear.one_flaw m.network (from_in c plan) (to_in c plan) y.section n.guide m.guide f g same.guide own y.first

  -- where a section does not hold
  stops_as_far : (plan : ℕ) (left : Left) (s t : SectionStop) → t ≢ section.NoMemory → IsStoppedIn c plan left s
      → IsStoppedIn c plan left t → GoesAsFar [] [] (Some s) (Some t)
  stops_as_far plan left (section.Flaw f) (section.Flaw g) some (n, after, x) (m, later, y) =
      let same = one_flaw n m plan left f g (one_ground on Alike alike back goes one c plan n m after later) x y in
      inl (refl, ap (λ (e : Flaw). Some (section.Flaw e)) same)
  stops_as_far plan left (section.Flaw f) (section.Fault g) some (n, after, x) (m, later, faulty) =
      absurd (clear.not_both plan _ left g
      (readable on Alike alike back goes clear one c n m plan left x.section x.rest after later x.of x.tokens) faulty.1)
  stops_as_far plan left (section.Fault f) (section.Flaw g) some (m, later, faulty) (n, after, y) =
      absurd (clear.not_both plan _ left f
      (readable on Alike alike back goes clear one c n m plan left y.section y.rest after later y.of y.tokens) faulty.1)
  stops_as_far plan left (section.Fault f) (section.Fault g) some (n, after, x) (m, later, y) =
      let same = (one_ground on Alike alike back goes one c plan n m after later).network in
      inl (
        refl,
        ap (λ (e : LabelFault). Some (section.Fault e)) (clear.one_fault plan m.network.states left f g
            (subst (λ (o : Network). HasFault plan o.states left f) same x.1) y.1),
      )
  stops_as_far plan left section.NoMemory t some p q = inr (refl, ([], refl))
  stops_as_far plan left (section.Flaw f) section.NoMemory some p q = absurd (some refl)
  stops_as_far plan left (section.Fault f) section.NoMemory some p q = absurd (some refl)

  -- after the last section
  ends_as_far : (plan : ℕ) (left : Left) (a b : Option SectionStop) → b ≢ Some section.NoMemory
      → AreChecked IsHolding c plan zero left [] a → AreChecked IsHolding c plan zero left [] b → GoesAsFar [] [] a b
  ends_as_far plan left None None some p q = inl (refl, refl)
  ends_as_far plan left None (Some (section.Flaw g)) some p q = absurd q
  ends_as_far plan left None (Some (section.Fault g)) some p q =
      absurd (trailing_none on Alike alike back goes clear one c left.tokens g p q)
  ends_as_far plan left (Some (section.Flaw f)) b some p q = absurd p
  ends_as_far plan left (Some (section.Fault f)) None some p q =
      absurd (trailing_none on Alike alike back goes clear one c left.tokens f q p)
  ends_as_far plan left (Some (section.Fault f)) (Some (section.Flaw g)) some p q = absurd q
  ends_as_far plan left (Some (section.Fault f)) (Some (section.Fault g)) some p q =
      inl (refl, ap (λ (e : LabelFault). Some (section.Fault e)) (trailing_one left.tokens f g p q))
  ends_as_far plan left (Some section.NoMemory) b some p q = inr (refl, ([], refl))
  ends_as_far plan left None (Some section.NoMemory) some p q = absurd (some refl)
  ends_as_far plan left (Some (section.Fault f)) (Some section.NoMemory) some p q = absurd (some refl)

  one_more : (o o' : Outcome) (os ps : List Outcome) (a b : Option SectionStop) → o ≡ o' → GoesAsFar os ps a b
      → GoesAsFar (o ∷ os) (o' ∷ ps) a b
  one_more o o' os ps a b same (inl (outcomes, ends)) = inl (λ i. same i ∷ outcomes i, ends)
  one_more o o' os ps a b same (inr (out, (rest, parted))) = inr (out, (rest, λ i. (sym same) i ∷ parted i))

  -- the checking of this number of sections
  pub goes_as_far : (more plan : ℕ) (left : Left) (os ps : List Outcome) (a b : Option SectionStop)
      → b ≢ Some section.NoMemory → AreChecked IsHolding c plan more left os a
      → AreChecked IsHolding c plan more left ps b → GoesAsFar os ps a b
  goes_as_far zero plan left [] [] a b some p q = ends_as_far plan left a b some p q
  goes_as_far zero plan left (o ∷ os) ps a b some p q = absurd p
  goes_as_far zero plan left [] (o ∷ ps) a b some p q = absurd q
  goes_as_far (suc more) plan left [] ps None b some p q = absurd p
  goes_as_far (suc more) plan left [] [] (Some s) None some p q = absurd q
  goes_as_far (suc more) plan left [] [] (Some s) (Some t) some p q =
      stops_as_far plan left s t (λ is. some (ap (λ (x : SectionStop). Some x) is)) p q
  goes_as_far (suc more) plan left [] (o ∷ ps) (Some section.NoMemory) b some p q = inr (refl, (o ∷ ps, refl))
  goes_as_far (suc more) plan left [] (o ∷ ps) (Some (section.Flaw f)) b some p (n, after, rest, is, q) =
      absurd (holds_not_stopped on Alike alike back goes clear one c n plan left rest o
      (section.Flaw f) (λ no. cc) after is p)
  goes_as_far (suc more) plan left [] (o ∷ ps) (Some (section.Fault f)) b some p (n, after, rest, is, q) =
      absurd (holds_not_stopped on Alike alike back goes clear one c n plan left rest o
      (section.Fault f) (λ no. cc) after is p)
  goes_as_far (suc more) plan left (o ∷ os) [] a None some p q = absurd q
  goes_as_far (suc more) plan left (o ∷ os) [] a (Some t) some (n, after, rest, is, p) q =
      absurd (holds_not_stopped on Alike alike back goes clear one c n plan left rest o t
      (λ no. some (ap (λ (x : SectionStop). Some x) no)) after is q)
  goes_as_far (suc more) plan left (o ∷ os) (o' ∷ ps) a b some (n, after, rest, is, p) (m, later, carried, also, q) =
      let both = clear.one left.tokens rest.tokens carried.tokens is.section also.section is.tokens also.tokens in
      let outcome : o ≡ o' = sym is.says ∙ ap outcome_of both.0 ∙ also.says in
      let same : carried ≡ rest =
      same_left on Alike alike back goes clear one c carried rest (sym both.1) (also.same_end ∙ sym is.same_end) in
      one_more o o' os ps a b outcome (goes_as_far more (plan + 1) rest os ps a b some p
      (subst (λ (l : Left). AreChecked IsHolding c (plan + 1) more l ps b) same q))

-- ---- the writes

-- of a checking that ran out of memory they are the first few
few_checked : (goals : ℕ → ℕ) (plan : ℕ) (os rest : List Outcome) (b : Option SectionStop)
    → (later : List writing.Write)
    × (checked_writes goals plan (os ++ rest) b ≡ checked_writes goals plan os (Some section.NoMemory) ++ later)
few_checked goals plan [] rest b = (checked_writes goals plan rest b, refl)
few_checked goals plan (o ∷ os) rest b =
    let further = few_checked goals (plan + 1) os rest b in
    (further.0, ap (λ (ws : List writing.Write). writing.to_output (holds_text plan o) ∷ ws) further.1)

-- what is written of one checking, and of another that goes as far
abbrev pub WritesAsFar : (goals : ℕ → ℕ) → (plan : ℕ) → List Outcome → List Outcome → Option SectionStop
    → Option SectionStop → Type 0
WritesAsFar goals plan os ps a b =
    ((checked_writes goals plan os a ≡ checked_writes goals plan ps b) × (a ≡ b))
    ⊎ ((a ≡ Some section.NoMemory)
    × ((later : List writing.Write) × (checked_writes goals plan ps b ≡ checked_writes goals plan os a ++ later)))

writes_as_far : (goals : ℕ → ℕ) (plan : ℕ) (os ps : List Outcome) (a b : Option SectionStop) → GoesAsFar os ps a b
    → WritesAsFar goals plan os ps a b
writes_as_far goals plan os ps a b (inl (outcomes, ends)) =
    inl (λ i. checked_writes goals plan (outcomes i) (ends i), ends)
writes_as_far goals plan os ps a b (inr (out, (rest, parted))) =
    let few = few_checked goals plan os rest b in
    let own : checked_writes goals plan os (Some section.NoMemory) ≡ checked_writes goals plan os a =
    ap (λ (e : Option SectionStop). checked_writes goals plan os e) (sym out) in
    inr (
      out,
      (
        few.0,
        ap (λ (l : List Outcome). checked_writes goals plan l b) parted ∙ few.1
            ∙ ap (λ (ws : List writing.Write). ws ++ few.0) own,
      ),
    )

-- ---- the labels of a job

-- in alike worlds and over the same map updates, the checking of one text goes as far, of searches to the same goals
pub checks_as_far : {W : Type 0} (on : Site W) (Alike : W → W → Type 0) (alike : AreAlike on Alike) (back : Bool)
    (goes : GoesAlike on Alike back) → SectionsAreClear → OneMap
    → (w v : W) (updates also : Updates) (text same_text : List ℕ) (goals others : ℕ → ℕ) (os ps : List Outcome)
    (a b : Option SectionStop)
    → Alike v w → on.cells.is_made w → also ≡ updates → same_text ≡ text → b ≢ Some section.NoMemory
    → IsCheckedIn IsShownHolding (searched_on on back) w updates text goals os a
    → IsCheckedIn IsShownHolding (searched_on on back) v also same_text others ps b → (goals ≡ others) × WritesAsFar goals 0 os ps a b
checks_as_far on Alike alike back goes sections one w v updates also text same_text goals others os ps a b near made
    all_updates texts some x y =
    let from : y.start ≡ x.start = alike.starts v w y.start x.start near y.start_is x.start_is in
    let to : y.goal ≡ x.goal = alike.ends v w y.goal x.goal near y.goal_is x.goal_is in
    let mine : ℕ → ℕ = start_after on.reporting w x.start updates.moves in
    let starts : start_after on.reporting v y.start also.moves ≡ mine =
    same_starts on.reporting v w y.start x.start also.moves updates.moves (alike.state v w near) from
    (ap (λ (c : Updates). c.moves) all_updates) in
    let batches : also.batches ≡ updates.batches = ap (λ (c : Updates). c.batches) all_updates in
    let there =
    same_case (searched_on on back) v updates.batches also.batches (start_after on.reporting v y.start also.moves) mine y.goal x.goal
    same_text text ps b batches starts to texts y.checked in
    let c : Case (searched_on on back) = case_in (searched_on on back) w updates.batches mine x.goal in
    let q =
    checked_on on Alike alike back goes v w near made updates.batches mine x.goal (suc (length updates.batches)) 0
    (start_at text 0) ps b there in
    let p =
    checked_on on Alike alike back goes w w (alike.same w) made updates.batches mine x.goal (suc (length updates.batches)) 0
    (start_at text 0) os a x.checked in
    let same : to_in (case_of (searched_on on back) v also y.start y.goal)
    ≡ to_in (case_of (searched_on on back) w updates x.start x.goal) =
    λ i k. to_of back (starts i k) (to i) in (
      x.goals_are ∙ sym same ∙ sym y.goals_are,
      writes_as_far goals 0 os ps a b (goes_as_far on Alike alike back goes sections one c (suc (length updates.batches)) 0
          (start_at text 0) os ps a b some p q),
    )

pub check_as_far : (clear : TextsAreClear) (sections : SectionsAreClear) (one : OneMap) (held : Told) {W : Type 0}
    (f : WorldFiles W) (Alike : W → W → Type 0) → AreAlike f.on Alike → StandForOne held f Alike
    → (changes : Option (List ℕ)) (labels : List ℕ) (goals others : ℕ → ℕ) (os ps : List Outcome)
    (a b : Option SectionStop) → IfSome changes (λ name. IsSome (held name)) → IsSome (held labels)
    → b ≢ Some section.NoMemory → IsChecked held f changes labels goals os a
    → IsChecked held f changes labels others ps b → (goals ≡ others) × WritesAsFar goals 0 os ps a b
check_as_far clear sections one held f Alike alike stand changes labels goals others os ps a b
    told_changes told_labels some x y =
    let w = x.world in
    let v = y.world in
    let near = stand.one w v x.says y.says in
    let read : ReadsUpdates held changes (f.scope w) y.updates =
    subst (λ (s : Scope). ReadsUpdates held changes s y.updates) (stand.scope w v near) y.changes_say in
    let updates : y.updates ≡ x.updates =
    sym (updates_once clear held changes (f.scope w) x.updates y.updates told_changes x.changes_say read) in
    let text : y.text ≡ x.text = read_once (held labels) y.text x.text told_labels y.read x.read in
    checks_as_far f.on Alike alike f.moves (goes_alike f.on Alike alike f.moves) sections one w
    v x.updates y.updates x.text y.text goals others os ps a b (alike.back w v near) x.is_world updates text
    some x.in_world y.in_world
