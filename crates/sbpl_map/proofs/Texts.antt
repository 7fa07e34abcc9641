-- What the texts of writes alone, and those of writes and moves, stand for; and that they are alike without starts.
use Rattle.std.proofs.Common.{◌≡◌, ◌≢◌, ℕ, ◌<◌, List, [], ◌∷◌, map, length, Option, Some, None, Result, Ok, Err, refl}
use Rattle.std.proofs.Common.{sym, ap, subst, ◌∙◌, inl, inr, arith}
use Rattle.std.specs.Prelude.{◌⊎◌, ◌↔◌, IfOk, IfErr}
use Rattle.std.specs.List.{AllByRecursion, filter_map, flat_map, last_or}
use Rattle.std.specs.Str.Lines.{lines}
use Rattle.sbpl_cfg.specs.declared.pose.Place.{Place}
use Rattle.sbpl_cfg.specs.sbpl_fixed.Formats.{Answers}
use Rattle.sbpl_map.specs.CellMap.{CellMap}
use Rattle.sbpl_map.specs.ChangeText.{ArePlacesOnMap, AreOnMap, Given, HasNoStarts, IsCellOnMap, IsMovesText}
use Rattle.sbpl_map.specs.ChangeText.{IsMovesTextOf, IsPlaceOnMap, IsText, IsTextOf, IsWriteOnMap, LinesTell}
use Rattle.sbpl_map.specs.ChangeText.{StandsFor, lines_with_fields, no_moves, place_in, place_of}
use Rattle.sbpl_map.specs.ChangeText.{spelled_batch, writes_alone, writes_of}
use Rattle.sbpl_map.specs.LineFaults.{HasFault, HasMovesFault, HasTextFault, IsFaulty, IsMovesFaulty}
use Rattle.sbpl_map.specs.Reading.{alone, parted, told_by}
use Rattle.sbpl_map.specs.declared.write.Write.{Write}
use Rattle.sbpl_map.specs.declared.fault.ChangeFault.{ChangeFault}
use Rattle.sbpl_map.specs.declared.fault.ChangeFault.TheVariants.{NoMemory}
use Rattle.sbpl_map.proofs.TextLaws.{Gave, fault_gives, gave_of, not_memory, text_gives, told_alike}

-- ---- what each line gives is on the map

abbrev IsGivenOn : CellMap → Option ℕ → Given → Type 0
IsGivenOn m headings (inl w) = IsWriteOnMap m w
IsGivenOn m headings (inr p) = (limit : ℕ) × (headings ≡ Some limit) × IsCellOnMap m p.x p.y × (p.t < limit)

abbrev AreGivenOn : CellMap → Option ℕ → List (List Given) → Type 0
AreGivenOn m headings told = AllByRecursion (λ batch. AllByRecursion (λ g. IsGivenOn m headings g) batch) told

given_on : (states : ℕ) (m : CellMap) (headings : Option ℕ) (told_lines : List (List (List ℕ))) (told : List (List Given))
    → LinesTell states m headings told_lines (flat_map spelled_batch told) → AreGivenOn m headings told
given_on states m headings told_lines [] h = tt
given_on states m headings [] ([] ∷ others) h = absurd h
given_on states m headings [] ((g ∷ gs) ∷ others) h = absurd h
given_on states m headings (l ∷ ls) ([] ∷ others) h = (tt, given_on states m headings ls others h.1)
given_on states m headings (l ∷ ls) ((inl w ∷ gs) ∷ others) h =
    let rest = given_on states m headings ls (gs ∷ others) h.1 in ((h.0.5, rest.0), rest.1)
given_on states m headings (l ∷ ls) ((inr p ∷ gs) ∷ others) h =
    let rest = given_on states m headings ls (gs ∷ others) h.1 in
    let g = h.0.4 in
    (((g.0, g.1, h.0.5, g.2.z_is.1), rest.0), rest.1)

writes_on : (m : CellMap) (headings : Option ℕ) (batch : List Given)
    → AllByRecursion (λ g. IsGivenOn m headings g) batch → AllByRecursion (λ w. IsWriteOnMap m w) (writes_of batch)
writes_on m headings [] h = tt
writes_on m headings (inl w ∷ gs) h = (h.0, writes_on m headings gs h.1)
writes_on m headings (inr p ∷ gs) h = writes_on m headings gs h.1

all_writes_on : (m : CellMap) (headings : Option ℕ) (told : List (List Given)) → AreGivenOn m headings told
    → AreOnMap m (map writes_of told)
all_writes_on m headings [] h = tt
all_writes_on m headings (b ∷ bs) h = (writes_on m headings b h.0, all_writes_on m headings bs h.1)

place_is_on : (m : CellMap) (headings : ℕ) (p : Place) → IsGivenOn m (Some headings) (inr p)
    → IsPlaceOnMap m headings (Some p)
place_is_on m headings p h =
    let same : headings ≡ h.0 = (let e = h.1 in cc) in (h.2, subst (λ n. p.t < n) (sym same) h.3)

last_on : (m : CellMap) (headings : ℕ) (batch : List Given) (o : Option Place)
    → AllByRecursion (λ g. IsGivenOn m (Some headings) g) batch → IsPlaceOnMap m headings o
    → IsPlaceOnMap m headings (last_or o (filter_map place_in batch))
last_on m headings [] o h on = on
last_on m headings (inl w ∷ gs) o h on = last_on m headings gs o h.1 on
last_on m headings (inr p ∷ gs) o h on = last_on m headings gs (Some p) h.1 (place_is_on m headings p h.0)

all_places_on : (m : CellMap) (headings : ℕ) (told : List (List Given)) → AreGivenOn m (Some headings) told
    → ArePlacesOnMap m headings (map place_of told)
all_places_on m headings [] h = tt
all_places_on m headings (b ∷ bs) h = (last_on m headings b None h.0 tt, all_places_on m headings bs h.1)

-- ---- batches of writes alone

writes_back : (batch : List Write) → writes_of (map (λ w. inl w) batch) ≡ batch
writes_back [] = refl
writes_back (w ∷ ws) = ap (λ l. w ∷ l) (writes_back ws)

pub all_writes_back : (batches : List (List Write)) → map writes_of (writes_alone batches) ≡ batches
all_writes_back [] = refl
all_writes_back (b ∷ bs) = rw (writes_back b, all_writes_back bs) refl

no_place : (batch : List Write) (o : Option Place) → last_or o (filter_map place_in (map (λ w. inl w) batch)) ≡ o
no_place [] o = refl
no_place (w ∷ ws) o = no_place ws o

no_places : (batches : List (List Write)) → map place_of (writes_alone batches) ≡ no_moves batches
no_places [] = refl
no_places (b ∷ bs) = rw (no_place b None, no_places bs) refl

write_alone : (m : CellMap) (batch : List Given) → AllByRecursion (λ g. IsGivenOn m None g) batch
    → batch ≡ map (λ w. inl w) (writes_of batch)
write_alone m [] h = refl
write_alone m (inl w ∷ gs) h = ap (λ l. inl w ∷ l) (write_alone m gs h.1)
write_alone m (inr p ∷ gs) h = absurd (let e = h.0.1 in cc)

all_alone : (m : CellMap) (told : List (List Given)) → AreGivenOn m None told → told ≡ writes_alone (map writes_of told)
all_alone m [] h = refl
all_alone m (b ∷ bs) h =
    ap (λ c. c ∷ bs) (write_alone m b h.0) ∙ ap (λ l. map (λ w. inl w) (writes_of b) ∷ l) (all_alone m bs h.1)

-- where there are no starts, only writes are given
pub alone_is : (states : ℕ) (m : CellMap) (text : List ℕ) (told : List (List Given)) → StandsFor states m None text told
    → told ≡ writes_alone (map writes_of told)
alone_is states m text told h = all_alone m told (given_on states m None (lines_with_fields (lines text)) told h)

-- ---- what a reader of the whole text answers

abbrev Tells : {V : Type 0} → (V → Type 0) → (ChangeFault → Type 0) → Result V ChangeFault → Type 0
Tells P F (Ok v) = P v
Tells P F (Err f) = F f

found_of : {V : Type 0} (P : V → Type 0) (F : ChangeFault → Type 0) (r read : Result V ChangeFault) → Tells P F read
    → Answers NoMemory (λ v. v) r read → IfOk r P
found_of P F (Ok v) read t h = rw h at t
found_of P F (Err f) read t h = tt

faulty_of : {V : Type 0} (P : V → Type 0) (F : ChangeFault → Type 0) (r read : Result V ChangeFault) → Tells P F read
    → Answers NoMemory (λ v. v) r read → IfErr r (λ f. f ≢ NoMemory → F f)
faulty_of P F (Ok v) read t h = tt
faulty_of P F (Err f) read t h = λ n. (let e = h n in rw e at t)

either_of : {V : Type 0} (P : V → Type 0) (F : ChangeFault → Type 0) (read : Result V ChangeFault) → Tells P F read
    → ((f : ChangeFault) → F f → f ≢ NoMemory) → ((v : V) × P v) ⊎ ((f : ChangeFault) × (f ≢ NoMemory) × F f)
either_of P F (Ok v) t n = inl (v, t)
either_of P F (Err f) t n = inr (f, n f t, t)

-- ---- texts of writes alone

abbrev pub changes_of : (states : ℕ) → CellMap → List ℕ → Result (List (List Write)) ChangeFault
changes_of states m text = alone (parted (told_by states m None text))

pub changes_given : (states : ℕ) (m : CellMap) (text : List ℕ) (batches : List (List Write)) → IsTextOf states m text batches
    → changes_of states m text ≡ Ok batches
changes_given states m text batches h =
    ap (λ r. alone (parted r)) (text_gives states m None text (writes_alone batches) h)
    ∙ ap (λ l. Ok l) (all_writes_back batches)

pub fault_given : (states : ℕ) (m : CellMap) (text : List ℕ) (f : ChangeFault) → HasFault states m text f
    → changes_of states m text ≡ Err f
fault_given states m text f h = ap (λ r. alone (parted r)) (fault_gives states m None text f h)

changes_told : (states : ℕ) (m : CellMap) (text : List ℕ) (r : Result (List (List Given)) ChangeFault) → Gave states m None text r
    → Tells (λ c. IsTextOf states m text c) (λ f. HasFault states m text f) (alone (parted r))
changes_told states m text (Ok told) g = subst (λ l. StandsFor states m None text l) (alone_is states m text told g) g
changes_told states m text (Err f) g = g

changes_are : (states : ℕ) (m : CellMap) (text : List ℕ)
    → Tells (λ c. IsTextOf states m text c) (λ f. HasFault states m text f) (changes_of states m text)
changes_are states m text = changes_told states m text (told_by states m None text) (gave_of states m None text)

pub changes_or_fault : (states : ℕ) (m : CellMap) (text : List ℕ) → IsText states m text ⊎ IsFaulty states m text
changes_or_fault states m text =
    let memory = not_memory states m None text in
    either_of (λ c. IsTextOf states m text c) (λ f. HasFault states m text f) (changes_of states m text)
    (changes_are states m text) memory

alone_answers : (r read : Result (List (List Write) × List (Option Place)) ChangeFault)
    → Answers NoMemory (λ x. x) r read → Answers NoMemory (λ c. c) (alone r) (alone read)
alone_answers (Ok x) read h = ap alone h
alone_answers (Err f) read h = λ n. ap alone (h n)

pub alone_given : (states : ℕ) (m : CellMap) (text : List ℕ) (r : Result (List (List Write) × List (Option Place)) ChangeFault)
    (s : Result (List (List Write)) ChangeFault)
    → s ≡ alone r → Answers NoMemory (λ x. x) r (parted (told_by states m None text))
    → Answers NoMemory (λ c. c) s (changes_of states m text)
alone_given states m text r s e h = rw e (alone_answers r (parted (told_by states m None text)) h)

pub changes_found : (states : ℕ) (m : CellMap) (text : List ℕ) (r : Result (List (List Write)) ChangeFault)
    → Answers NoMemory (λ c. c) r (changes_of states m text) → IfOk r (λ c. IsTextOf states m text c)
changes_found states m text r h =
    found_of (λ c. IsTextOf states m text c) (λ f. HasFault states m text f) r (changes_of states m text)
    (changes_are states m text) h

pub changes_faulty : (states : ℕ) (m : CellMap) (text : List ℕ) (r : Result (List (List Write)) ChangeFault)
    → Answers NoMemory (λ c. c) r (changes_of states m text) → IfErr r (λ f. f ≢ NoMemory → HasFault states m text f)
changes_faulty states m text r h =
    faulty_of (λ c. IsTextOf states m text c) (λ f. HasFault states m text f) r (changes_of states m text)
    (changes_are states m text) h

pub changes_on : (states : ℕ) (m : CellMap) (text : List ℕ) (r : Result (List (List Write)) ChangeFault)
    → IfOk r (λ c. IsTextOf states m text c) → IfOk r (λ c. AreOnMap m c)
changes_on states m text (Ok c) h =
    let given = given_on states m None (lines_with_fields (lines text)) (writes_alone c) h in
    let on = all_writes_on m None (writes_alone c) given in
    subst (λ l. AreOnMap m l) (all_writes_back c) on
changes_on states m text (Err f) h = tt

-- ---- texts of writes and moves

-- batches with their moves
abbrev pub Updates : Type 0
Updates = List (List Write) × List (Option Place)

abbrev pub moves_of : (states : ℕ) → CellMap → ℕ → List ℕ → Result Updates ChangeFault
moves_of states m headings text = parted (told_by states m (Some headings) text)

pub moves_given : (states : ℕ) (m : CellMap) (headings : ℕ) (text : List ℕ) (batches : List (List Write))
    (moves : List (Option Place)) → IsMovesTextOf states m headings text batches moves
    → moves_of states m headings text ≡ Ok (batches, moves)
moves_given states m headings text batches moves h =
    ap parted (text_gives states m (Some headings) text h.0 h.1) ∙ rw (h.2, h.3) refl

pub moves_fault_given : (states : ℕ) (m : CellMap) (headings : ℕ) (text : List ℕ) (f : ChangeFault)
    → HasMovesFault states m headings text f → moves_of states m headings text ≡ Err f
moves_fault_given states m headings text f h = ap parted (fault_gives states m (Some headings) text f h)

pub same_updates : (r : Result Updates ChangeFault) (x y : Updates) → r ≡ Ok x → r ≡ Ok y → x ≡ y
same_updates r x y e f = let both : Ok x ≡ Ok y = sym e ∙ f in cc

abbrev AreUpdates : (states : ℕ) → CellMap → ℕ → List ℕ → Updates → Type 0
AreUpdates states m headings text x = IsMovesTextOf states m headings text x.0 x.1

moves_told : (states : ℕ) (m : CellMap) (headings : ℕ) (text : List ℕ) (r : Result (List (List Given)) ChangeFault)
    → Gave states m (Some headings) text r
    → Tells (AreUpdates states m headings text) (λ f. HasMovesFault states m headings text f) (parted r)
moves_told states m headings text (Ok told) g = (told, g, refl, refl)
moves_told states m headings text (Err f) g = g

moves_are : (states : ℕ) (m : CellMap) (headings : ℕ) (text : List ℕ)
    → Tells (AreUpdates states m headings text) (λ f. HasMovesFault states m headings text f) (moves_of states m headings text)
moves_are states m headings text =
    moves_told states m headings text (told_by states m (Some headings) text) (gave_of states m (Some headings) text)

pub moves_or_fault : (states : ℕ) (m : CellMap) (headings : ℕ) (text : List ℕ)
    → IsMovesText states m headings text ⊎ IsMovesFaulty states m headings text
moves_or_fault states m headings text =
    let are = moves_are states m headings text in
    let memory = not_memory states m (Some headings) text in
    let fault = λ (f : ChangeFault). HasMovesFault states m headings text f in
    elim (either_of (AreUpdates states m headings text) fault (moves_of states m headings text) are memory) [
      | inl v ↦ inl (v.0.0, v.0.1, v.1)
      | inr f ↦ inr f
    ]

pub moves_found : (states : ℕ) (m : CellMap) (headings : ℕ) (text : List ℕ) (r : Result Updates ChangeFault)
    → Answers NoMemory (λ x. x) r (moves_of states m headings text) → IfOk r (λ x. IsMovesTextOf states m headings text x.0 x.1)
moves_found states m headings text r h =
    let are = moves_are states m headings text in
    found_of (AreUpdates states m headings text) (λ f. HasMovesFault states m headings text f) r
    (moves_of states m headings text) are h

pub moves_faulty : (states : ℕ) (m : CellMap) (headings : ℕ) (text : List ℕ) (r : Result Updates ChangeFault)
    → Answers NoMemory (λ x. x) r (moves_of states m headings text)
    → IfErr r (λ f. f ≢ NoMemory → HasMovesFault states m headings text f)
moves_faulty states m headings text r h =
    let are = moves_are states m headings text in
    faulty_of (AreUpdates states m headings text) (λ f. HasMovesFault states m headings text f) r
    (moves_of states m headings text) are h

told_on : (states : ℕ) (m : CellMap) (headings : ℕ) (text : List ℕ) (told : List (List Given))
    → StandsFor states m (Some headings) text told → AreGivenOn m (Some headings) told
told_on states m headings text told h = given_on states m (Some headings) (lines_with_fields (lines text)) told h

pub moves_on : (states : ℕ) (m : CellMap) (headings : ℕ) (text : List ℕ) (r : Result Updates ChangeFault)
    → IfOk r (λ x. IsMovesTextOf states m headings text x.0 x.1) → IfOk r (λ x. AreOnMap m x.0)
moves_on states m headings text (Ok x) h =
    subst (λ l. AreOnMap m l) (sym h.2) (all_writes_on m (Some headings) h.0 (told_on states m headings text h.0 h.1))
moves_on states m headings text (Err f) h = tt

pub places_on : (states : ℕ) (m : CellMap) (headings : ℕ) (text : List ℕ) (r : Result Updates ChangeFault)
    → IfOk r (λ x. IsMovesTextOf states m headings text x.0 x.1) → IfOk r (λ x. ArePlacesOnMap m headings x.1)
places_on states m headings text (Ok x) h =
    subst (λ l. ArePlacesOnMap m headings l) (sym h.3) (all_places_on m headings h.0 (told_on states m headings text h.0 h.1))
places_on states m headings text (Err f) h = tt

as_many : (told : List (List Given)) → length (map place_of told) ≡ length (map writes_of told)
as_many [] = refl
as_many (b ∷ bs) = omega (arith, as_many bs)

pub one_for_each : (states : ℕ) (m : CellMap) (headings : ℕ) (text : List ℕ) (r : Result Updates ChangeFault)
    → IfOk r (λ x. IsMovesTextOf states m headings text x.0 x.1) → IfOk r (λ x. length x.1 ≡ length x.0)
one_for_each states m headings text (Ok x) h = rw (h.2, h.3) (as_many h.0)
one_for_each states m headings text (Err f) h = tt

-- ---- texts without starts

stands_alike : (states : ℕ) (m : CellMap) (one other : Option ℕ) (text : List ℕ) (told : List (List Given))
    → told_by states m one text ≡ told_by states m other text → StandsFor states m one text told
    → StandsFor states m other text told
stands_alike states m one other text told e h =
    let gives : told_by states m other text ≡ Ok told = sym e ∙ text_gives states m one text told h in
    subst (λ r. Gave states m other text r) gives (gave_of states m other text)

fault_alike : (states : ℕ) (m : CellMap) (one other : Option ℕ) (text : List ℕ) (f : ChangeFault)
    → told_by states m one text ≡ told_by states m other text → HasTextFault states m one text f
    → HasTextFault states m other text f
fault_alike states m one other text f e h =
    let gives : told_by states m other text ≡ Err f = sym e ∙ fault_gives states m one text f h in
    subst (λ r. Gave states m other text r) gives (gave_of states m other text)

no_starts_told : (states : ℕ) (m : CellMap) (headings : ℕ) (text : List ℕ) (told : List (List Given)) (batches : List (List Write))
    (moves : List (Option Place))
    → StandsFor states m None text told → batches ≡ map writes_of told → moves ≡ map place_of told
    → IsTextOf states m text batches × (moves ≡ no_moves batches)
no_starts_told states m headings text told batches moves s b p =
    let here : told ≡ writes_alone batches = alone_is states m text told s ∙ ap writes_alone (sym b) in
    (subst (λ l. StandsFor states m None text l) here s, p ∙ ap (λ l. map place_of l) here ∙ no_places batches)

pub same_batches : (states : ℕ) (m : CellMap) (headings : ℕ) (text : List ℕ) (batches : List (List Write))
    (moves : List (Option Place))
    → HasNoStarts text
    → IsMovesTextOf states m headings text batches moves ↔ (IsTextOf states m text batches × (moves ≡ no_moves batches))
same_batches states m headings text batches moves none =
    let e = told_alike states m (Some headings) text none in (
      λ h. (
          let stands = stands_alike states m (Some headings) None text h.0 e h.1 in
          no_starts_told states m headings text h.0 batches moves stands h.2 h.3
          ),
      λ h. (
        writes_alone batches,
        stands_alike states m None (Some headings) text (writes_alone batches) (sym e) h.0,
        sym (all_writes_back batches),
        h.1 ∙ sym (no_places batches),
      ),
    )

pub same_fault : (states : ℕ) (m : CellMap) (headings : ℕ) (text : List ℕ) (f : ChangeFault) → HasNoStarts text
    → HasMovesFault states m headings text f ↔ HasFault states m text f
same_fault states m headings text f none =
    let e = told_alike states m (Some headings) text none in
    (λ h. fault_alike states m (Some headings) None text f e h, λ h. fault_alike states m None (Some headings) text f (sym e) h)
