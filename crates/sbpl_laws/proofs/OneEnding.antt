-- The checking of one text ends in one way.
use Rattle.std.proofs.Common.{◌≡◌, ◌≢◌, ℕ, zero, suc, ◌+◌, ◌<◌, List, [], ◌∷◌, Option, Some, None, length, refl, sym}
use Rattle.std.proofs.Common.{◌∙◌, ap, subst, inl, inr, Bool}
use Rattle.sbpl_promises.specs.sbpl_graph.Network.{Network}
use Rattle.sbpl_promises.specs.sbpl_fixed.Formats.{Left, start_at}
use Rattle.sbpl_promises.specs.sbpl_fixed.Tokens.{Piece}
use Rattle.sbpl_promises.specs.sbpl_cert.declared.fault.LabelFault.{LabelFault}
use Rattle.sbpl_promises.specs.sbpl_cert.declared.flaw.Flaw.{Flaw}
use Rattle.sbpl_promises.specs.sbpl_cert.declared.outcome.Outcome.{Outcome}
use Rattle.sbpl_promises.specs.sbpl_cert.Flaws.{HasNoFlaw}
use Rattle.sbpl_promises.specs.sbpl_cert.declared.section.Section.{Section}
use Rattle.sbpl_promises.specs.sbpl_cert.Text.{AreTokens, AreTokensOf}
use Rattle.sbpl_promises.specs.sbpl_cert.Versions.{IsOf, claim_by}
use Rattle.sbpl_promises.specs.Clear.{SectionsAreClear}
use Rattle.sbpl_promises.specs.sbpl_map.CellMap.{CellMap, IsCellMap}
use Rattle.sbpl_promises.specs.sbpl_map.MapAfter.{IsMapAfter}
use Rattle.sbpl_promises.specs.sbpl_map.declared.write.Write.{Write}
use Rattle.sbpl_promises.specs.declared.section_stop.SectionStop.{SectionStop}
use Rattle.sbpl_promises.specs.declared.section_stop.SectionStop.TheVariants as section
use Rattle.sbpl_promises.specs.Checked.{AreChecked, Case, Ground, IsFlawed, IsGroundAfter, IsHolding, IsShownHolding}
use Rattle.sbpl_promises.specs.Checked.{IsStoppedIn, IsTrailingAt, case_of, from_in, to_in}
use Rattle.sbpl_promises.specs.Intents.{checked_status}
use Rattle.sbpl_promises.specs.Promises.{IsCheckedIn, IsOrFailed}
use Rattle.sbpl_promises.specs.Sites.{Site, network_by, says_by, searched_on, start_after, to_of}
use Rattle.sbpl_laws.proofs.AlikeSites.{AreAlike, GoesAlike, same_starts}
use Rattle.sbpl_promises.specs.declared.updates.Updates.{Updates}

left_by : (end end' : ℕ) (ts us : List Piece) → end ≡ end' → ts ≡ us
    → ◌≡◌ {A = Left} (record { end = end; tokens = ts }) (record { end = end'; tokens = us })
left_by end end' ts us a b = cc

-- there is one map after each number of batches
abbrev pub OneMap : Type 0
OneMap =
    (first now other : CellMap) (batches : List (List Write)) (k : ℕ) → IsCellMap now → IsCellMap other
    → IsMapAfter first batches k now → IsMapAfter first batches k other → now ≡ other

-- two grounds have one graph, and guides that say the same at its states
pub record AreOneGround (n o : Ground) : Type 0 where
  pub network : n.network ≡ o.network
  pub guide : (u : ℕ) → u < o.network.states → n.guide u ≡ o.guide u

-- and one graph, with one guide
pub one_ground : {W : Type 0} (on : Site W) (Alike : W → W → Type 0) → AreAlike on Alike → (back : Bool)
    → GoesAlike on Alike back → OneMap → (c : Case (searched_on on back)) (k : ℕ) (n o : Ground) → IsGroundAfter c k n
    → IsGroundAfter c k o → AreOneGround n o
one_ground on Alike alike back goes one c k n o a b =
    let w = c.world in
    let maps : a.map ≡ b.map =
    one (on.cells.map w) a.map b.map c.batches k (alike.cell_map w a.map a.is_world)
    (alike.cell_map w b.map b.is_world) a.after b.after in
    let here = on.cells.over w b.map in
    let to : ℕ = to_in c k in
    let guide : says_by back on.reporting.told on.says here to n.guide =
    subst (λ (m : CellMap). says_by back on.reporting.told on.says (on.cells.over w m) to n.guide) maps a.guide in
    record {
      network = a.network ∙ ap (λ (m : CellMap). network_by back (on.reporting.told (on.cells.over w m))) maps ∙ sym b.network;
      guide = λ u inside. goes.guides here here to n.guide o.guide (alike.same here) refl guide b.guide
          u (subst (λ (count : ℕ). u < count) (ap (λ (x : Network). x.states) b.network ∙ goes.states here) inside);
    }

-- two ways to end have the same status, unless memory ran out in the second
abbrev pub EndAlike : Option SectionStop → Option SectionStop → Type 0
EndAlike a b = IsOrFailed (checked_status a) (checked_status b)

no_memory_left : (a : Option SectionStop) → EndAlike a (Some section.NoMemory)
no_memory_left a = inr (inr (inr refl))

module _ {W : Type 0} (on : Site W) (Alike : W → W → Type 0) (alike : AreAlike on Alike) (back : Bool)
    (goes : GoesAlike on Alike back) (clear : SectionsAreClear) (one : OneMap) (c : Case (searched_on on back)) where
  -- what is checked at a plan is read for the number of states of its graph, which is that of any other of the plan
  pub readable : (n o : Ground) (plan : ℕ) (left : Left) (s : Section) (rest : List Piece) → IsGroundAfter c plan n
      → IsGroundAfter c plan o → IsOf plan n.network.states s → AreTokensOf left.tokens s rest
      → AreTokens plan o.network.states left.tokens
  readable n o plan left s rest after later of tokens = (
    s,
    rest,
    subst (λ (m : Network). IsOf plan m.states s)
        (one_ground on Alike alike back goes one c plan n o after later).network of,
    tokens,
  )

  -- a section that holds has no first flaw
  holds_not_flawed : (n o : Ground) (plan : ℕ) (left rest : Left) (outcome : Outcome) (f : Flaw) → AreOneGround n o
      → IsHolding n (from_in c plan) (to_in c plan) plan left outcome rest
      → IsFlawed o (from_in c plan) (to_in c plan) plan left f → ⊥
  holds_not_flawed n o plan left rest outcome f one is flawed =
      let same : is.section ≡ flawed.section =
      (clear.one left.tokens rest.tokens flawed.rest is.section flawed.section is.tokens flawed.tokens).0 in
      let here : HasNoFlaw o.network (from_in c plan) (to_in c plan) (claim_by n.guide is.section) =
      subst (λ (m : Network). HasNoFlaw m (from_in c plan) (to_in c plan) (claim_by n.guide is.section))
      one.network is.no_flaw in
      let none : HasNoFlaw o.network (from_in c plan) (to_in c plan) (claim_by n.guide flawed.section) =
      subst (λ (x : Section). HasNoFlaw o.network (from_in c plan) (to_in c plan) (claim_by n.guide x)) same here in
      clear.no_flaw o.network (from_in c plan) (to_in c plan) flawed.section n.guide o.guide f
      one.guide none flawed.first.has

  stops_alike : (plan : ℕ) (left : Left) (a b : SectionStop) → a ≢ section.NoMemory → IsStoppedIn c plan left a
      → IsStoppedIn c plan left b → EndAlike (Some a) (Some b)
  stops_alike plan left (section.Flaw f) (section.Flaw g) some p q = inl refl
  stops_alike plan left (section.Flaw f) (section.Fault g) some (n, after, flawed) (m, later, faulty) =
      absurd (clear.not_both plan _ left g
      (readable n m plan left flawed.section flawed.rest after later flawed.of flawed.tokens) faulty.1)
  stops_alike plan left (section.Fault f) (section.Flaw g) some (m, later, faulty) (n, after, flawed) =
      absurd (clear.not_both plan _ left f
      (readable n m plan left flawed.section flawed.rest after later flawed.of flawed.tokens) faulty.1)
  stops_alike plan left (section.Fault f) (section.Fault g) some p q = inl refl
  stops_alike plan left section.NoMemory b some p q = absurd (some refl)
  stops_alike plan left a section.NoMemory some p q = no_memory_left (Some a)

  -- where a section holds nothing stops there
  pub holds_not_stopped : (n : Ground) (plan : ℕ) (left rest : Left) (o : Outcome) (s : SectionStop)
      → s ≢ section.NoMemory → IsGroundAfter c plan n → IsHolding n (from_in c plan) (to_in c plan) plan left o rest
      → IsStoppedIn c plan left s → ⊥
  holds_not_stopped n plan left rest o (section.Flaw f) some after is (m, later, flawed) =
      holds_not_flawed n m plan left rest o f (one_ground on Alike alike back goes one c plan n m after later) is flawed
  holds_not_stopped n plan left rest o (section.Fault f) some after is (m, later, faulty) =
      clear.not_both plan _ left f (readable n m plan left is.section rest.tokens after later is.of is.tokens) faulty.1
  holds_not_stopped n plan left rest o section.NoMemory some after is stops = some refl

  pub trailing_none : (ts : List Piece) (f : LabelFault) → ts ≡ [] → IsTrailingAt ts f → ⊥
  trailing_none [] f none p = p
  trailing_none (t ∷ ts) f none p = cc

  -- after the last section
  after_alike : (plan : ℕ) (left : Left) (a b : Option SectionStop) → a ≢ Some section.NoMemory
      → AreChecked IsHolding c plan zero left [] a → AreChecked IsHolding c plan zero left [] b → EndAlike a b
  after_alike plan left None None some p q = inl refl
  after_alike plan left None (Some (section.Flaw g)) some p q = absurd q
  after_alike plan left None (Some (section.Fault g)) some p q = absurd (trailing_none left.tokens g p q)
  after_alike plan left (Some (section.Flaw f)) b some p q = absurd p
  after_alike plan left (Some (section.Fault f)) None some p q = absurd (trailing_none left.tokens f q p)
  after_alike plan left (Some (section.Fault f)) (Some (section.Flaw g)) some p q = absurd q
  after_alike plan left (Some (section.Fault f)) (Some (section.Fault g)) some p q = inl refl
  after_alike plan left (Some section.NoMemory) b some p q = absurd (some refl)
  after_alike plan left a (Some section.NoMemory) some p q = no_memory_left a

  pub same_left : (a b : Left) → a.tokens ≡ b.tokens → a.end ≡ b.end → a ≡ b
  same_left a b tokens end = left_by a.end b.end a.tokens b.tokens end tokens

  pub one_ending : (more plan : ℕ) (left : Left) (os ps : List Outcome) (a b : Option SectionStop)
      → a ≢ Some section.NoMemory → AreChecked IsHolding c plan more left os a
      → AreChecked IsHolding c plan more left ps b → EndAlike a b
  one_ending zero plan left [] [] a b some p q = after_alike plan left a b some p q
  one_ending zero plan left (o ∷ os) ps a b some p q = absurd p
  one_ending zero plan left [] (o ∷ ps) a b some p q = absurd q
  one_ending (suc more) plan left [] ps None b some p q = absurd p
  one_ending (suc more) plan left [] [] (Some s) None some p q = absurd q
  one_ending (suc more) plan left [] [] (Some s) (Some t) some p q =
      stops_alike plan left s t (λ is. some (ap (λ (x : SectionStop). Some x) is)) p q
  one_ending (suc more) plan left [] (o ∷ ps) (Some s) b some p (n, after, rest, is, q) =
      absurd (holds_not_stopped n plan left rest o s (λ no. some (ap (λ (x : SectionStop). Some x) no)) after is p)
  one_ending (suc more) plan left (o ∷ os) [] a None some p q = absurd q
  one_ending (suc more) plan left (o ∷ os) [] a (Some section.NoMemory) some p q = no_memory_left a
  one_ending (suc more) plan left (o ∷ os) [] a (Some (section.Flaw f)) some (n, after, rest, is, p) q =
      absurd (holds_not_stopped n plan left rest o (section.Flaw f) (λ no. cc) after is q)
  one_ending (suc more) plan left (o ∷ os) [] a (Some (section.Fault f)) some (n, after, rest, is, p) q =
      absurd (holds_not_stopped n plan left rest o (section.Fault f) (λ no. cc) after is q)
  one_ending (suc more) plan left (o ∷ os) (o' ∷ ps) a b some (n, after, rest, is, p) (m, later, carried, also, q) =
      let tokens : rest.tokens ≡ carried.tokens =
      (clear.one left.tokens rest.tokens carried.tokens is.section also.section is.tokens also.tokens).1 in
      let same : carried ≡ rest = same_left carried rest (sym tokens) (also.same_end ∙ sym is.same_end) in
      one_ending more (plan + 1) rest os ps a b some p
      (subst (λ (l : Left). AreChecked IsHolding c (plan + 1) more l ps b) same q)

-- ---- alike worlds

module _ {W : Type 0} (on : Site W) (Alike : W → W → Type 0) (alike : AreAlike on Alike) (back : Bool)
    (goes : GoesAlike on Alike back) (v w : W) (a : Alike v w) (made : on.cells.is_made w) (batches : List (List Write))
    (starts : ℕ → ℕ) (goal : ℕ) where
  -- a case in another world
  abbrev in_world : W → Case (searched_on on back)
  in_world u = record { world = u; batches = batches; starts = starts; goal = goal }

  -- they have the same graphs after each number of batches
  same_graph : (k : ℕ) (n : Ground) → IsGroundAfter (in_world v) k n → IsGroundAfter (in_world w) k n
  same_graph k n g =
      let b : Alike (on.cells.over v g.map) (on.cells.over w g.map) = alike.over v w g.map a in
      let there : on.cells.is_made (on.cells.over w g.map) = alike.made w v g.map (alike.back v w a) made g.is_world in
      let graph : on.reporting.told (on.cells.over v g.map) ≡ on.reporting.told (on.cells.over w g.map) =
      alike.graph _ _ b g.is_world there in
      record {
        map = g.map;
        after = subst (λ (m : CellMap). IsMapAfter m batches k g.map) (alike.map v w a) g.after;
        is_world = there;
        network = g.network ∙ goes.network (on.cells.over v g.map) (on.cells.over w g.map) graph;
        guide = goes.moved (on.cells.over v g.map) (on.cells.over w g.map) (to_of back (starts k) goal) n.guide b graph
            g.guide;
      }

  -- what is checked in a world, and shown, is checked in an alike one
  pub checked_on : (more plan : ℕ) (left : Left) (os : List Outcome) (end : Option SectionStop)
      → AreChecked IsShownHolding (in_world v) plan more left os end
      → AreChecked IsHolding (in_world w) plan more left os end
  checked_on zero plan left [] end p = p
  checked_on zero plan left (o ∷ os) end p = absurd p
  checked_on (suc more) plan left [] None p = absurd p
  checked_on (suc more) plan left [] (Some (section.Flaw f)) (n, after, flawed) = (n, same_graph plan n after, flawed)
  checked_on (suc more) plan left [] (Some (section.Fault f)) (n, after, faulty) = (n, same_graph plan n after, faulty)
  checked_on (suc more) plan left [] (Some section.NoMemory) p = tt
  checked_on (suc more) plan left (o ∷ os) end (n, after, rest, is, p) =
      (n, same_graph plan n after, rest, is.holds, checked_on more (plan + 1) rest os end p)

-- a case in a world
abbrev pub case_in : {W : Type 0} → (on : Site W) → W → List (List Write) → (starts : ℕ → ℕ)
    → (goal : ℕ) → Case on
case_in on w batches starts goal = record { world = w; batches = batches; starts = starts; goal = goal }

-- what is checked of one case is checked of another with the same parts
pub same_case : {W : Type 0} (on : Site W) (v : W) (bs cs : List (List Write)) (s s' : ℕ → ℕ)
    (g g' : ℕ) (t t' : List ℕ) (os : List Outcome) (end : Option SectionStop) → cs ≡ bs → s ≡ s' → g ≡ g' → t ≡ t'
    → AreChecked IsShownHolding (case_in on v cs s g) 0 (suc (length cs)) (start_at t 0) os end
    → AreChecked IsShownHolding (case_in on v bs s' g') 0 (suc (length bs)) (start_at t' 0) os end
same_case on v bs cs s s' g g' t t' os end updates from to text checked =
    subst (λ (l : List (List Write)).
    AreChecked IsShownHolding (case_in on v l s' g') 0 (suc (length l)) (start_at t' 0) os end) updates
    (subst
    (λ (x : ℕ → ℕ). AreChecked IsShownHolding (case_in on v cs x g') 0 (suc (length cs)) (start_at t' 0) os end) from
    (subst (λ (x : ℕ). AreChecked IsShownHolding (case_in on v cs s x) 0 (suc (length cs)) (start_at t' 0) os end) to
    (subst (λ (x : List ℕ). AreChecked IsShownHolding (case_in on v cs s g) 0 (suc (length cs)) (start_at x 0) os end)
    text checked)))

-- in alike worlds and over the same map updates, the checking of one text ends in one way
pub checked_ends_alike : {W : Type 0} (on : Site W) (Alike : W → W → Type 0) (alike : AreAlike on Alike)
    (back : Bool) (goes : GoesAlike on Alike back) → SectionsAreClear → OneMap
    → (w v : W) (updates also : Updates) (text same_text : List ℕ) (goals others : ℕ → ℕ) (os ps : List Outcome)
    (a b : Option SectionStop)
    → Alike v w → on.cells.is_made w → also ≡ updates → same_text ≡ text → a ≢ Some section.NoMemory
    → IsCheckedIn IsHolding (searched_on on back) w updates text goals os a
    → IsCheckedIn IsShownHolding (searched_on on back) v also same_text others ps b → EndAlike a b
checked_ends_alike on Alike alike back goes sections one w v updates also text same_text goals others os ps a b near made
    all_updates texts some x y =
    let from : y.start ≡ x.start = alike.starts v w y.start x.start near y.start_is x.start_is in
    let to : y.goal ≡ x.goal = alike.ends v w y.goal x.goal near y.goal_is x.goal_is in
    let mine : ℕ → ℕ = start_after on.reporting w x.start updates.moves in
    let starts : start_after on.reporting v y.start also.moves ≡ mine =
    same_starts on.reporting v w y.start x.start also.moves updates.moves (alike.state v w near) from
    (ap (λ (c : Updates). c.moves) all_updates) in
    let batches : also.batches ≡ updates.batches = ap (λ (c : Updates). c.batches) all_updates in
    let there =
    same_case (searched_on on back) v updates.batches also.batches (start_after on.reporting v y.start also.moves) mine y.goal x.goal
    same_text text ps b batches starts to texts y.checked in
    one_ending on Alike alike back goes sections one (case_of (searched_on on back) w updates x.start x.goal) (suc (length updates.batches)) 0
    (start_at text 0) os ps a b some x.checked
    (checked_on on Alike alike back goes v w near made updates.batches mine x.goal (suc (length updates.batches)) 0
    (start_at text 0) ps b there)
