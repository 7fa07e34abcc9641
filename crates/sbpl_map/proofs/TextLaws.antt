-- What the lines of a text give is what the text stands for, or its first fault.
use Rattle.std.proofs.Common.{◌≡◌, ◌≢◌, ℕ, ◌+◌, true, List, [], ◌∷◌, ◌++◌, length, Option, None, Result, Ok, Err, refl}
use Rattle.std.proofs.Common.{sym, ap, subst, ◌∙◌, inl, inr, arith, add-zero, append-nil, append_assoc}
use Rattle.std.specs.Prelude.{◌⊎◌}
use Rattle.std.specs.List.{AllByRecursion, flat_map}
use Rattle.std.specs.Str.Lines.{lines}
use Rattle.sbpl_map.specs.CellMap.{CellMap}
use Rattle.sbpl_map.specs.Fields.{fields, has_some}
use Rattle.sbpl_map.specs.ChangeText.{Given, HasNoStarts, IsNoStart, LineTells, lines_with_fields, LinesTell}
use Rattle.sbpl_map.specs.ChangeText.{said_by, spelled_batch, StandsFor}
use Rattle.sbpl_map.specs.LineFaults.{HasLineFault, AreSound, IsFirstFault, LacksReplan, HasTextFault}
use Rattle.sbpl_map.specs.Reading.{judged, Drafted, nothing_read, drafted, closed_of, closed}
use Rattle.sbpl_map.specs.Reading.{then_on, reads_on, told_by}
use Rattle.sbpl_map.specs.declared.said.Said.{Said}
use Rattle.sbpl_map.specs.declared.said.Said.TheVariants.{Nothing, Cell, Start, Replan}
use Rattle.sbpl_map.specs.declared.fault.ChangeFault.{ChangeFault}
use Rattle.sbpl_map.specs.declared.fault.ChangeFault.TheVariants.{NoReplan, NoMemory}
use Rattle.sbpl_map.proofs.LineLaws.{Verdict, judged_verdict, judged_is, judged_alike}

-- ---- lines with and without fields

told_none : (line : List ℕ) (more : List (List ℕ)) → fields line ≡ []
    → lines_with_fields (line ∷ more) ≡ lines_with_fields more
told_none line more e = rw e refl

told_some : (line : List ℕ) (more : List (List ℕ)) → has_some (fields line) ≡ true
    → lines_with_fields (line ∷ more) ≡ fields line ∷ lines_with_fields more
told_some line more e = rw e refl

given_has_some : (states : ℕ) (m : CellMap) (headings : Option ℕ) (line : List (List ℕ)) (g : Given)
    → LineTells states m headings line (said_by g) → has_some line ≡ true
given_has_some states m headings line (inl w) h = rw h.3 refl
given_has_some states m headings line (inr p) h = rw h.3 refl

replan_has_some : (states : ℕ) (m : CellMap) (headings : Option ℕ) (line : List (List ℕ)) → LineTells states m headings line Replan
    → has_some line ≡ true
replan_has_some states m headings line h = rw h refl

-- ---- batches that are left to read, of which the first goes on with the open batch

abbrev joined : List Given → List (List Given) → List (List Given)
joined batch [] = []
joined batch (gs ∷ more) = (batch ++ gs) ∷ more

abbrev Fits : List Given → List (List Given) → Type 0
Fits batch [] = batch ≡ []
Fits batch (gs ∷ more) = Unit {0}

joined_none : (left : List (List Given)) → joined [] left ≡ left
joined_none [] = refl
joined_none (gs ∷ more) = refl

fits_none : (left : List (List Given)) → Fits [] left
fits_none [] = refl
fits_none (gs ∷ more) = tt

record StandFor (states : ℕ) (m : CellMap) (headings : Option ℕ) (text_lines : List (List ℕ)) (d : Drafted)
    (told : List (List Given))
    : Type 0 where
  left : List (List Given)
  said : LinesTell states m headings (lines_with_fields text_lines) (flat_map spelled_batch left)
  fits : Fits d.batch left
  whole : told ≡ d.done ++ joined d.batch left

-- what is read after one more line that gives something
abbrev pushed : Drafted → ℕ → Given → Drafted
pushed d at g = record { done = d.done; batch = d.batch ++ g ∷ []; last = at }

-- something was given after the last end of a batch, and no later line ends it
record StaysUnended (text_lines : List (List ℕ)) (d : Drafted) (f : ChangeFault) : Type 0 where
  skipped : AllByRecursion (λ l. fields l ≡ []) text_lines
  some : d.batch ≢ []
  fault : f ≡ NoReplan d.last

abbrev IsUnended : (states : ℕ) → CellMap → Option ℕ → ℕ → List (List ℕ) → ChangeFault → Type 0
IsUnended states m headings at text_lines f = (n : ℕ) × (f ≡ NoReplan n) × LacksReplan states m headings at text_lines n

abbrev TextVerdict : (states : ℕ) → CellMap → Option ℕ → ℕ → List (List ℕ) → Drafted
    → Result (List (List Given)) ChangeFault → Type 0
TextVerdict states m headings at text_lines d (Ok batches) = StandFor states m headings text_lines d batches
TextVerdict states m headings at text_lines d (Err f) =
    IsFirstFault states m headings at text_lines f ⊎ (IsUnended states m headings at text_lines f ⊎ StaysUnended text_lines d f)

-- ---- a line before others

shifted : (at : ℕ) (line : List ℕ) (before : List (List ℕ)) → at + 1 + length before ≡ at + length (line ∷ before)
shifted at line before = omega arith

fault_later : (states : ℕ) (m : CellMap) (headings : Option ℕ) (at : ℕ) (line : List ℕ) (more : List (List ℕ)) (f : ChangeFault)
    (s : Said) → LineTells states m headings (fields line) s → IsFirstFault states m headings (at + 1) more f
    → IsFirstFault states m headings at (line ∷ more) f
fault_later states m headings at line more f s h i = record {
  before = line ∷ i.before;
  line = i.line;
  after = i.after;
  parts = ap (λ l. line ∷ l) i.parts;
  sound = ((s, h), i.sound);
  fault = subst (λ n. HasLineFault states m headings n (fields i.line) f) (shifted at line i.before) i.fault;
}

unended_later : (states : ℕ) (m : CellMap) (headings : Option ℕ) (at : ℕ) (line : List ℕ) (more : List (List ℕ)) (n : ℕ) (s : Said)
    → LineTells states m headings (fields line) s → LacksReplan states m headings (at + 1) more n
    → LacksReplan states m headings at (line ∷ more) n
unended_later states m headings at line more n s h i = record {
  before = line ∷ i.before;
  line = i.line;
  after = i.after;
  parts = ap (λ l. line ∷ l) i.parts;
  sound = ((s, h), i.sound);
  given = i.given;
  gives = i.gives;
  skipped = i.skipped;
  number = i.number ∙ shifted at line i.before;
}

after_nothing : (states : ℕ) (m : CellMap) (headings : Option ℕ) (at : ℕ) (line : List ℕ) (more : List (List ℕ)) (d : Drafted)
    (r : Result (List (List Given)) ChangeFault)
    → LineTells states m headings (fields line) Nothing → TextVerdict states m headings (at + 1) more d r
    → TextVerdict states m headings at (line ∷ more) d r
after_nothing states m headings at line more d (Ok batches) h v =
    record { left = v.left; said = rw (told_none line more h) v.said; fits = v.fits; whole = v.whole }
after_nothing states m headings at line more d (Err f) h v = elim v [
  | inl i ↦ inl (fault_later states m headings at line more f Nothing h i)
  | inr w ↦ inr (elim w [
    | inl i ↦ inl (i.0, i.1, unended_later states m headings at line more i.0 Nothing h i.2)
    | inr i ↦ inr (record { skipped = (h, i.skipped); some = i.some; fault = i.fault })
  ])
]

pushed_some : (batch : List Given) (g : Given) → batch ++ g ∷ [] ≢ []
pushed_some [] g e = cc
pushed_some (b ∷ bs) g e = cc

given_first : (states : ℕ) (m : CellMap) (headings : Option ℕ) (at : ℕ) (line : List ℕ) (more : List (List ℕ)) (d : Drafted)
    (g : Given) (batches left : List (List Given))
    → LineTells states m headings (fields line) (said_by g)
    → LinesTell states m headings (lines_with_fields more) (flat_map spelled_batch left) → Fits (d.batch ++ g ∷ []) left
    → batches ≡ d.done ++ joined (d.batch ++ g ∷ []) left → StandFor states m headings (line ∷ more) d batches
given_first states m headings at line more d g batches [] h s f e = absurd (pushed_some d.batch g f)
given_first states m headings at line more d g batches (gs ∷ others) h s f e = record {
  left = (g ∷ gs) ∷ others;
  said = rw (told_some line more (given_has_some states m headings (fields line) g h)) (h, s);
  fits = tt;
  whole = e ∙ ap (λ b. d.done ++ b ∷ others) (append_assoc d.batch (g ∷ []) gs);
}

after_given : (states : ℕ) (m : CellMap) (headings : Option ℕ) (at : ℕ) (line : List ℕ) (more : List (List ℕ)) (d : Drafted)
    (g : Given) (r : Result (List (List Given)) ChangeFault)
    → LineTells states m headings (fields line) (said_by g) → TextVerdict states m headings (at + 1) more (pushed d at g) r
    → TextVerdict states m headings at (line ∷ more) d r
after_given states m headings at line more d g (Ok batches) h v =
    given_first states m headings at line more d g batches v.left h v.said v.fits v.whole
after_given states m headings at line more d g (Err f) h v = elim v [
  | inl i ↦ inl (fault_later states m headings at line more f (said_by g) h i)
  | inr o ↦ inr (inl (elim o [
    | inl i ↦ (i.0, i.1, unended_later states m headings at line more i.0 (said_by g) h i.2)
    | inr i ↦ (
      at,
      i.fault,
      record {
        before = [];
        line = line;
        after = more;
        parts = refl;
        sound = tt;
        given = g;
        gives = h;
        skipped = i.skipped;
        number = sym (add-zero at);
      },
    )
  ]))
]

after_replan : (states : ℕ) (m : CellMap) (headings : Option ℕ) (at : ℕ) (line : List ℕ) (more : List (List ℕ)) (d : Drafted)
    (r : Result (List (List Given)) ChangeFault)
    → LineTells states m headings (fields line) Replan → TextVerdict states m headings (at + 1) more (drafted d at Replan) r
    → TextVerdict states m headings at (line ∷ more) d r
after_replan states m headings at line more d (Ok batches) h v = record {
  left = [] ∷ v.left;
  said = rw (told_some line more (replan_has_some states m headings (fields line) h)) (h, v.said);
  fits = tt;
  whole =
      v.whole ∙ append_assoc d.done (d.batch ∷ []) (joined [] v.left)
      ∙ ap (λ l. d.done ++ d.batch ∷ l) (joined_none v.left)
      ∙ ap (λ b. d.done ++ b ∷ v.left) (sym (append-nil d.batch));
}
after_replan states m headings at line more d (Err f) h v = elim v [
  | inl i ↦ inl (fault_later states m headings at line more f Replan h i)
  | inr o ↦ elim o [
    | inl i ↦ inr (inl (i.0, i.1, unended_later states m headings at line more i.0 Replan h i.2))
    | inr i ↦ absurd (i.some refl)
  ]
]

at_the_end : (states : ℕ) (m : CellMap) (headings : Option ℕ) (at : ℕ) (done : List (List Given)) (batch : List Given) (last : ℕ)
    → TextVerdict states m headings at [] (record { done = done; batch = batch; last = last }) (closed_of done batch last)
at_the_end states m headings at done [] last = record { left = []; said = tt; fits = refl; whole = sym (append-nil done) }
at_the_end states m headings at done (g ∷ gs) last = inr (inr (record { skipped = tt; some = λ e. cc; fault = refl }))

one_line : (states : ℕ) (m : CellMap) (headings : Option ℕ) (at : ℕ) (line : List ℕ) (more : List (List ℕ)) (d : Drafted)
    (r : Result Said ChangeFault) → Verdict states m headings at (fields line) r
    →
    ((s : Said)
    → TextVerdict states m headings (at + 1) more (drafted d at s) (reads_on states m headings (at + 1) more (drafted d at s)))
    → TextVerdict states m headings at (line ∷ more) d (then_on r (λ s. reads_on states m headings (at + 1) more (drafted d at s)))
one_line states m headings at line more d (Ok Nothing) h v =
    after_nothing states m headings at line more d (reads_on states m headings (at + 1) more d) h (v Nothing)
one_line states m headings at line more d (Ok (Cell w)) h v =
    let rest = reads_on states m headings (at + 1) more (pushed d at (inl w)) in
    after_given states m headings at line more d (inl w) rest h (v (Cell w))
one_line states m headings at line more d (Ok (Start p)) h v =
    let rest = reads_on states m headings (at + 1) more (pushed d at (inr p)) in
    after_given states m headings at line more d (inr p) rest h (v (Start p))
one_line states m headings at line more d (Ok Replan) h v =
    after_replan states m headings at line more d (reads_on states m headings (at + 1) more (drafted d at Replan)) h (v Replan)
one_line states m headings at line more d (Err f) h v =
    inl (record { before = []; line = line; after = more; parts = refl; sound = tt; fault = rw add-zero h })

reads_verdict : (states : ℕ) (m : CellMap) (headings : Option ℕ) (at : ℕ) (text_lines : List (List ℕ)) (d : Drafted)
    → TextVerdict states m headings at text_lines d (reads_on states m headings at text_lines d)
unfolding reads_on
reads_verdict states m headings at [] d = at_the_end states m headings at d.done d.batch d.last
reads_verdict states m headings at (line ∷ more) d =
    one_line states m headings at line more d (judged states m headings at (fields line))
    (judged_verdict states m headings at (fields line))
    (λ s. reads_verdict states m headings (at + 1) more (drafted d at s))

-- ---- and the other way round

said_reads : (states : ℕ) (m : CellMap) (headings : Option ℕ) (at : ℕ) (line : List ℕ) (more : List (List ℕ)) (d : Drafted)
    (s : Said) → LineTells states m headings (fields line) s
    → reads_on states m headings at (line ∷ more) d ≡ reads_on states m headings (at + 1) more (drafted d at s)
unfolding reads_on
said_reads states m headings at line more d s h = rw (judged_is states m headings at (fields line) (Ok s) h) refl

given_reads : (states : ℕ) (m : CellMap) (headings : Option ℕ) (at : ℕ) (line : List ℕ) (more : List (List ℕ)) (d : Drafted)
    (g : Given) → LineTells states m headings (fields line) (said_by g)
    → reads_on states m headings at (line ∷ more) d ≡ reads_on states m headings (at + 1) more (pushed d at g)
given_reads states m headings at line more d (inl w) h = said_reads states m headings at line more d (Cell w) h
given_reads states m headings at line more d (inr p) h = said_reads states m headings at line more d (Start p) h

closed_empty : (d : Drafted) → d.batch ≡ [] → closed d ≡ Ok d.done
closed_empty d e = rw e refl

-- the lines that are left complete what was read before them
abbrev ReadsLeft : (states : ℕ) → CellMap → Option ℕ → ℕ → List (List ℕ) → Type 0
ReadsLeft states m headings at text_lines =
    (d : Drafted) (left : List (List Given))
    → LinesTell states m headings (lines_with_fields text_lines) (flat_map spelled_batch left) → Fits d.batch left
    → reads_on states m headings at text_lines d ≡ Ok (d.done ++ joined d.batch left)

read_told : (states : ℕ) (m : CellMap) (headings : Option ℕ) (at : ℕ) (line : List ℕ) (more : List (List ℕ)) (d : Drafted)
    (left : List (List Given)) (own : List (List ℕ)) → fields line ≡ own → ReadsLeft states m headings (at + 1) more
    → LinesTell states m headings (lines_with_fields (line ∷ more)) (flat_map spelled_batch left) → Fits d.batch left
    → reads_on states m headings at (line ∷ more) d ≡ Ok (d.done ++ joined d.batch left)
read_told states m headings at line more d left [] e next h f =
    let rest = rw (told_none line more e) at h in
    said_reads states m headings at line more d Nothing e ∙ next d left rest f
read_told states m headings at line more d [] (o ∷ os) e next h f =
    absurd (let told_one = told_some line more (rw e refl) in rw told_one at h)
read_told states m headings at line more d ([] ∷ others) (o ∷ os) e next h f =
    let both = rw (told_some line more (rw e refl)) at h in
    said_reads states m headings at line more d Replan both.0 ∙ next (drafted d at Replan) others both.1 (fits_none others)
    ∙ ap (λ l. Ok l) (
    append_assoc d.done (d.batch ∷ []) (joined [] others) ∙ ap (λ l. d.done ++ d.batch ∷ l) (joined_none others)
    ∙ ap (λ b. d.done ++ b ∷ others) (sym (append-nil d.batch))
    )
read_told states m headings at line more d ((g ∷ gs) ∷ others) (o ∷ os) e next h f =
    let both = rw (told_some line more (rw e refl)) at h in
    given_reads states m headings at line more d g both.0 ∙ next (pushed d at g) (gs ∷ others) both.1 tt
    ∙ ap (λ b. Ok (d.done ++ b ∷ others)) (append_assoc d.batch (g ∷ []) gs)

read_left : (states : ℕ) (m : CellMap) (headings : Option ℕ) (at : ℕ) (text_lines : List (List ℕ))
    → ReadsLeft states m headings at text_lines
unfolding reads_on
read_left states m headings at [] d [] h f = closed_empty d f ∙ ap (λ l. Ok l) (sym (append-nil d.done))
read_left states m headings at [] d ([] ∷ others) h f = absurd h
read_left states m headings at [] d ((g ∷ gs) ∷ others) h f = absurd h
read_left states m headings at (line ∷ more) d left h f =
    read_told states m headings at line more d left (fields line) refl (read_left states m headings (at + 1) more) h f

fault_read : (states : ℕ) (m : CellMap) (headings : Option ℕ) (at n : ℕ) (before : List (List ℕ)) (line : List ℕ)
    (after : List (List ℕ)) (f : ChangeFault) (d : Drafted)
    → AreSound states m headings before → n ≡ at + length before → HasLineFault states m headings n (fields line) f
    → reads_on states m headings at (before ++ line ∷ after) d ≡ Err f
unfolding reads_on
fault_read states m headings at n [] line after f d sound e h =
    let here : HasLineFault states m headings at (fields line) f =
    subst (λ k. HasLineFault states m headings k (fields line) f) (e ∙ add-zero at) h in
    rw (judged_is states m headings at (fields line) (Err f) here) refl
fault_read states m headings at n (b ∷ bs) line after f d sound e h =
    said_reads states m headings at b (bs ++ line ∷ after) d sound.0.0 sound.0.1
    ∙ fault_read states m headings (at + 1) n bs line after f (drafted d at sound.0.0) sound.1 (e ∙ sym (shifted at b bs)) h

skipped_read : (states : ℕ) (m : CellMap) (headings : Option ℕ) (at : ℕ) (after : List (List ℕ)) (d : Drafted)
    → AllByRecursion (λ l. fields l ≡ []) after → reads_on states m headings at after d ≡ closed d
unfolding reads_on
skipped_read states m headings at [] d h = refl
skipped_read states m headings at (line ∷ more) d h =
    said_reads states m headings at line more d Nothing h.0 ∙ skipped_read states m headings (at + 1) more d h.1

unended_closed : (done : List (List Given)) (batch : List Given) (g : Given) (last : ℕ)
    → closed_of done (batch ++ g ∷ []) last ≡ Err (NoReplan last)
unended_closed done [] g last = refl
unended_closed done (b ∷ bs) g last = refl

unended_read : (states : ℕ) (m : CellMap) (headings : Option ℕ) (at n : ℕ) (before : List (List ℕ)) (line : List ℕ)
    (after : List (List ℕ)) (g : Given) (d : Drafted)
    → AreSound states m headings before → n ≡ at + length before → LineTells states m headings (fields line) (said_by g)
    → AllByRecursion (λ l. fields l ≡ []) after → reads_on states m headings at (before ++ line ∷ after) d ≡ Err (NoReplan n)
unended_read states m headings at n [] line after g d sound e h skipped =
    given_reads states m headings at line after d g h ∙ skipped_read states m headings (at + 1) after (pushed d at g) skipped
    ∙ unended_closed d.done d.batch g at ∙ ap (λ k. Err (NoReplan k)) (sym (e ∙ add-zero at))
unended_read states m headings at n (b ∷ bs) line after g d sound e h skipped =
    said_reads states m headings at b (bs ++ line ∷ after) d sound.0.0 sound.0.1
    ∙ unended_read states m headings (at + 1) n bs line after g (drafted d at sound.0.0) sound.1
    (e ∙ sym (shifted at b bs)) h skipped

-- ---- whole texts

-- what the whole text gives is true of it
abbrev pub Gave : (states : ℕ) → CellMap → Option ℕ → List ℕ → Result (List (List Given)) ChangeFault → Type 0
Gave states m headings text (Ok told) = StandsFor states m headings text told
Gave states m headings text (Err f) = HasTextFault states m headings text f

whole_verdict : (states : ℕ) (m : CellMap) (headings : Option ℕ) (text : List ℕ) (r : Result (List (List Given)) ChangeFault)
    → TextVerdict states m headings 1 (lines text) nothing_read r → Gave states m headings text r
whole_verdict states m headings text (Ok told) v = let same : told ≡ v.left = v.whole ∙ joined_none v.left in rw same v.said
whole_verdict states m headings text (Err f) v = elim v [
  | inl i ↦ inl i
  | inr o ↦ elim o [ inl i ↦ inr i | inr i ↦ absurd (i.some refl) ]
]

pub gave_of : (states : ℕ) (m : CellMap) (headings : Option ℕ) (text : List ℕ)
    → Gave states m headings text (told_by states m headings text)
gave_of states m headings text =
    whole_verdict states m headings text (told_by states m headings text)
    (reads_verdict states m headings 1 (lines text) nothing_read)

pub text_gives : (states : ℕ) (m : CellMap) (headings : Option ℕ) (text : List ℕ) (told : List (List Given))
    → StandsFor states m headings text told → told_by states m headings text ≡ Ok told
text_gives states m headings text told h =
    read_left states m headings 1 (lines text) nothing_read told h (fits_none told) ∙ ap (λ l. Ok l) (joined_none told)

pub fault_gives : (states : ℕ) (m : CellMap) (headings : Option ℕ) (text : List ℕ) (f : ChangeFault)
    → HasTextFault states m headings text f → told_by states m headings text ≡ Err f
fault_gives states m headings text f h = elim h [
  | inl i ↦ ap (λ l. reads_on states m headings 1 l nothing_read) i.parts
      ∙ fault_read states m headings 1 (1 + length i.before) i.before i.line i.after f nothing_read i.sound refl i.fault
  | inr o ↦ let i = o.2 in
      ap (λ l. reads_on states m headings 1 l nothing_read) i.parts
      ∙ unended_read states m headings 1 o.0 i.before i.line i.after i.given nothing_read i.sound i.number i.gives i.skipped
      ∙ ap (λ e. Err e) (sym o.1)
]

line_not_memory : (states : ℕ) (m : CellMap) (headings : Option ℕ) (at : ℕ) (line : List (List ℕ)) (f : ChangeFault)
    → HasLineFault states m headings at line f → f ≢ NoMemory
line_not_memory states m headings at line f h e = rw e at h

pub not_memory : (states : ℕ) (m : CellMap) (headings : Option ℕ) (text : List ℕ) (f : ChangeFault)
    → HasTextFault states m headings text f → f ≢ NoMemory
not_memory states m headings text f h e = elim h [
  | inl i ↦ line_not_memory states m headings _ (fields i.line) f i.fault e
  | inr o ↦ let bad : NoReplan o.0 ≡ NoMemory = sym o.1 ∙ e in cc
]

-- ---- texts without starts

then_alike : {X Y : Type 0} (r : Result X ChangeFault) (f g : X → Result Y ChangeFault) → ((x : X) → f x ≡ g x)
    → then_on r f ≡ then_on r g
then_alike (Ok x) f g h = h x
then_alike (Err e) f g h = refl

reads_alike : (states : ℕ) (m : CellMap) (headings : Option ℕ) (at : ℕ) (text_lines : List (List ℕ)) (d : Drafted)
    → AllByRecursion (λ line. IsNoStart (fields line)) text_lines
    → reads_on states m headings at text_lines d ≡ reads_on states m None at text_lines d
unfolding reads_on
reads_alike states m headings at [] d h = refl
reads_alike states m headings at (line ∷ more) d h =
    rw (judged_alike states m headings at (fields line) h.0)
    (then_alike (judged states m None at (fields line)) _ _ (λ s. reads_alike states m headings (at + 1) more (drafted d at s) h.1))

-- give the same whether or not there could be starts
pub told_alike : (states : ℕ) (m : CellMap) (headings : Option ℕ) (text : List ℕ) → HasNoStarts text
    → told_by states m headings text ≡ told_by states m None text
told_alike states m headings text h = reads_alike states m headings 1 (lines text) nothing_read h
