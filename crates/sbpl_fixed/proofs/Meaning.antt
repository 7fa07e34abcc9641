-- What is read is what a format says, and a fault is the first one.
use Rattle.std.proofs.Common.{◌≡◌, ℕ, ℤ, List, [], ◌∷◌, length, Result, Ok, Err, refl, sym, ap, subst, ◌∙◌}
use Rattle.std.proofs.Common.{inl, inr, ◌⊎◌}
use Rattle.std.specs.Prelude.{IfOk, IfErr, ◌≢◌}
use Rattle.sbpl_fixed.specs.Tokens.{Piece, tokens}
use Rattle.sbpl_fixed.specs.declared.fault.TextFault.{TextFault}
use Rattle.sbpl_fixed.specs.Formats.{Item, Miss, Format, item, ended, wrong, done, Left, met, next, over, then_read}
use Rattle.sbpl_fixed.specs.Formats.{reads, start, value_of, reads_text, Says, IsFaulty, Gives, Answers}
use Rattle.sbpl_fixed.specs.Meaning.{StandsFor, HasFirstFault, IsSaid, HasFault, ReadsWhatIsSaid, ReadsFirstFault}
use Rattle.sbpl_fixed.specs.Meaning.{IsSaidOrFaulty, IsSaidOnce, IsSaidOrFaultyAlone, IsFaultyOnce}

abbrev left_of : ℕ → List Piece → Left
left_of end ts = record { end = end; tokens = ts }

abbrev was_read : {E A : Type 0} → A → Left → Result (A × Left) E
was_read x left = Ok (x, left)

abbrev was_faulty : {E A : Type 0} → E → Result (A × Left) E
was_faulty e = Err e

same_read : {E A : Type 0} (x y : A) (left rest : Left) → was_read {E = E} y left ≡ was_read x rest
    → (x ≡ y) × (rest.tokens ≡ left.tokens) × (rest.end ≡ left.end)
same_read {E} {A} x y left rest e =
    let same : (y, left) ≡ (x, rest) = cc in (
      sym (ap (λ (p : A × Left). p.0) same),
      sym (ap (λ (p : A × Left). p.1.tokens) same),
      sym (ap (λ (p : A × Left). p.1.end) same),
    )

module _ {E A : Type 0} (tell : TextFault → E) where
  -- an item that is met, and one that is missed
  at_met : (i : Item) (more : ℕ → ℤ → Format E A) (end : ℕ) (t : Piece) (ts : List Piece) (r : Result ℤ Miss)
      → i t.bytes ≡ r
      → reads tell (item i more) (left_of end (t ∷ ts))
      ≡ then_read tell (met t.place (left_of end ts) r) (λ m. reads tell (more m.place m.value) m.left)
  unfolding reads next
  at_met i more end t ts r e =
      ap (λ (q : Result ℤ Miss).
      then_read tell (met t.place (left_of end ts) q) (λ m. reads tell (more m.place m.value) m.left)) e

  pub says_of : (f : Format E A) (end : ℕ) (ts : List Piece) (x : A) (rest : Left)
      → reads tell f (left_of end ts) ≡ Ok (x, rest)
      → Says f ts x rest.tokens × (rest.end ≡ end)
  unfolding reads next over Says
  says_of (item i more) end [] x rest e = absurd cc
  says_of (item i more) end (t ∷ ts) x rest e =
      let go : (r : Result ℤ Miss) → i t.bytes ≡ r
      → then_read tell (met t.place (left_of end ts) r) (λ m. reads tell (more m.place m.value) m.left) ≡ Ok (x, rest)
      → Says (item i more) (t ∷ ts) x rest.tokens × (rest.end ≡ end) = elim [
        | Ok v ↦ λ q h. let after = says_of (more t.place v) end ts x rest h in ((v, q, after.0), after.1)
        | Err m ↦ λ q h. absurd cc
      ] in
      go (i t.bytes) refl (sym (at_met i more end t ts (i t.bytes) refl) ∙ e)
  says_of (ended f) end [] x rest e = says_of f end [] x rest e
  says_of (ended f) end (t ∷ ts) x rest e = absurd cc
  says_of (wrong d) end ts x rest e = absurd cc
  says_of (done y) end ts x rest e =
      let same = same_read {E = E} x y (left_of end ts) rest e in ((same.0, same.1), same.2)

  pub read_of : (f : Format E A) (end : ℕ) (ts : List Piece) (x : A) (rest : List Piece) → Says f ts x rest
      → reads tell f (left_of end ts) ≡ Ok (x, left_of end rest)
  unfolding reads next over Says
  read_of (item i more) end [] x rest h = absurd h
  read_of (item i more) end (t ∷ ts) x rest h =
      at_met i more end t ts (Ok h.0) h.1 ∙ read_of (more t.place h.0) end ts x rest h.2
  read_of (ended f) end [] x rest h = read_of f end [] x rest h
  read_of (ended f) end (t ∷ ts) x rest h = absurd h
  read_of (wrong d) end ts x rest h = absurd h
  read_of (done y) end ts x rest h = rw (h.0, h.1) refl

  pub faulty_of : (f : Format E A) (end : ℕ) (ts : List Piece) (e : E) → reads tell f (left_of end ts) ≡ Err e
      → IsFaulty tell f end ts e
  unfolding reads next over IsFaulty
  faulty_of (item i more) end [] e h = cc
  faulty_of (item i more) end (t ∷ ts) e h =
      let go : (r : Result ℤ Miss) → i t.bytes ≡ r
      → then_read tell (met t.place (left_of end ts) r) (λ m. reads tell (more m.place m.value) m.left) ≡ Err e
      → IsFaulty tell (item i more) end (t ∷ ts) e = elim [
        | Ok v ↦ λ q g. inr (v, q, faulty_of (more t.place v) end ts e g)
        | Err m ↦ λ q g. inl (m, q, cc)
      ] in
      go (i t.bytes) refl (sym (at_met i more end t ts (i t.bytes) refl) ∙ h)
  faulty_of (ended f) end [] e h = faulty_of f end [] e h
  faulty_of (ended f) end (t ∷ ts) e h = cc
  faulty_of (wrong d) end ts e h = cc
  faulty_of (done y) end ts e h = absurd cc

  pub fault_of : (f : Format E A) (end : ℕ) (ts : List Piece) (e : E) → IsFaulty tell f end ts e
      → reads tell f (left_of end ts) ≡ Err e
  unfolding reads next over IsFaulty
  fault_of (item i more) end [] e h = rw h refl
  fault_of (item i more) end (t ∷ ts) e h =
      elim h [
        | inl w ↦ at_met i more end t ts (Err w.0) w.1 ∙ rw w.2 refl
        | inr w ↦ at_met i more end t ts (Ok w.0) w.1 ∙ fault_of (more t.place w.0) end ts e w.2
      ]
  fault_of (ended f) end [] e h = fault_of f end [] e h
  fault_of (ended f) end (t ∷ ts) e h = rw h refl
  fault_of (wrong d) end ts e h = rw h refl
  fault_of (done y) end ts e h = absurd h

-- every list of tokens is what a format says, or has a fault
pub said_or_faulty : {E A : Type 0} → IsSaidOrFaulty E A
said_or_faulty {E} {A} tell f left =
    let go : (r : Result (A × Left) E) → reads tell f left ≡ r → IsSaid f left.tokens ⊎ HasFault tell f left = elim [
      | Ok x ↦ λ e. inl (x.0, x.1.tokens, (says_of tell f left.end left.tokens x.0 x.1 e).0)
      | Err d ↦ λ e. inr (d, faulty_of tell f left.end left.tokens d e)
    ] in
    go (reads tell f left) refl

pub read_as_said : {E A : Type 0} → ReadsWhatIsSaid E A
read_as_said tell f left rest x = (
  λ e. says_of tell f left.end left.tokens x rest e,
  λ h. read_of tell f left.end left.tokens x rest.tokens h.0 ∙ rw h.1 refl,
)

pub read_first_fault : {E A : Type 0} → ReadsFirstFault E A
read_first_fault tell f left e =
    (λ h. faulty_of tell f left.end left.tokens e h, λ h. fault_of tell f left.end left.tokens e h)

-- never two values, nor a value and a fault, nor two faults
pub faulty_once : {E A : Type 0} → IsFaultyOnce E A
faulty_once {E} {A} tell f left e d g h =
    let one : Result (A × Left) E = Err e in
    let two : Result (A × Left) E = Err d in
    let same : one ≡ two = sym (fault_of tell f left.end left.tokens e g) ∙ fault_of tell f left.end left.tokens d h in
    cc

pub said_or_faulty_alone : {E A : Type 0} → IsSaidOrFaultyAlone E A
said_or_faulty_alone {E} {A} tell f left e g h =
    let one : Result (A × Left) E = Ok (g.0, left_of left.end g.1) in
    let two : Result (A × Left) E = Err e in
    let same : one ≡ two =
    sym (read_of tell f left.end left.tokens g.0 g.1 g.2) ∙ fault_of tell f left.end left.tokens e h in
    absurd cc

pub said_once : {E A : Type 0} → IsSaidOnce E A
unfolding Says
said_once (item i more) [] x y r s g h = absurd g
said_once {E} {A} (item i more) (t ∷ ts) x y r s g h =
    let one : Result ℤ Miss = Ok g.0 in
    let two : Result ℤ Miss = Ok h.0 in
    let met_once : one ≡ two = sym g.1 ∙ h.1 in
    let same : g.0 ≡ h.0 = cc in
    said_once (more t.place h.0) ts x y r s (subst (λ (v : ℤ). Says (more t.place v) ts x r) same g.2) h.2
said_once (ended f) [] x y r s g h = said_once f [] x y r s g h
said_once (ended f) (t ∷ ts) x y r s g h = absurd g
said_once (wrong e) ts x y r s g h = absurd g
said_once (done z) ts x y r s g h = (g.0 ∙ sym h.0, g.1 ∙ sym h.1)

-- ---- whole texts

stands_for : {E A : Type 0} (f : Format E A) (text : List ℕ) (x y : A) → x ≡ y → StandsFor f text x → StandsFor f text y
stands_for f text x y e h = rw (← e) h

pub text_found : {E A : Type 0} (tell : TextFault → E) (f : Format E A) (text : List ℕ) (x : A)
    → reads_text tell f text ≡ Ok x → StandsFor f text x
unfolding reads_text
text_found {E} {A} tell f text x e =
    let go : (r : Result (A × Left) E) → reads tell f (start text) ≡ r → value_of r ≡ Ok x → StandsFor f text x = elim [
      | Ok y ↦ λ q h. let same : y.0 ≡ x = cc in
          stands_for f text y.0 x same (y.1.tokens, (says_of tell f (length text) (tokens text) y.0 y.1 q).0)
      | Err d ↦ λ q h. absurd cc
    ] in
    go (reads tell f (start text)) refl e

pub text_only : {E A : Type 0} (tell : TextFault → E) (f : Format E A) (text : List ℕ) (x : A) → StandsFor f text x
    → reads_text tell f text ≡ Ok x
unfolding reads_text
text_only tell f text x h = ap value_of (read_of tell f (length text) (tokens text) x h.0 h.1)

pub text_faulty : {E A : Type 0} (tell : TextFault → E) (f : Format E A) (text : List ℕ) (e : E)
    → reads_text tell f text ≡ Err e → HasFirstFault tell f text e
unfolding reads_text
text_faulty {E} {A} tell f text e h =
    let go : (r : Result (A × Left) E) → reads tell f (start text) ≡ r → value_of r ≡ Err e
    → HasFirstFault tell f text e = elim [
      | Ok y ↦ λ q g. absurd cc
      | Err d ↦ λ q g. let same : d ≡ e = cc in
          faulty_of tell f (length text) (tokens text) e (q ∙ ap (λ (c : E). was_faulty {A = A} c) same)
    ] in
    go (reads tell f (start text)) refl h

pub text_only_faulty : {E A : Type 0} (tell : TextFault → E) (f : Format E A) (text : List ℕ) (e : E)
    → HasFirstFault tell f text e → reads_text tell f text ≡ Err e
unfolding reads_text
text_only_faulty tell f text e h = ap value_of (fault_of tell f (length text) (tokens text) e h)

-- ---- what a reader of a whole text may claim

module _ {X A E : Type 0} (tell : TextFault → E) (f : Format E A) (text : List ℕ) (spared : E) (view : X → A) where
  pub answers_given : (r : Result X E) (left : Left) → Gives spared view r left (reads tell f (start text))
      → Answers spared view r (reads_text tell f text)
  unfolding reads_text
  answers_given (Ok x) left h = rw h refl
  answers_given (Err e) left h = λ n. rw (h n) refl

  pub found_if_answered : (r : Result X E) → Answers spared view r (reads_text tell f text)
      → IfOk r (λ x. StandsFor f text (view x))
  found_if_answered (Ok x) h = text_found tell f text (view x) h
  found_if_answered (Err e) h = tt

  pub only_if_answered : (r : Result X E) → Answers spared view r (reads_text tell f text) → (x : A)
      → StandsFor f text x → Answers spared view r (Ok x)
  only_if_answered (Ok y) h x s = sym (text_only tell f text x s) ∙ h
  only_if_answered (Err e) h x s = λ n. sym (text_only tell f text x s) ∙ h n

  pub faulty_if_answered : (r : Result X E) → Answers spared view r (reads_text tell f text)
      → IfErr r (λ e. e ≢ spared → HasFirstFault tell f text e)
  faulty_if_answered (Ok x) h = tt
  faulty_if_answered (Err e) h = λ n. text_faulty tell f text e (h n)

  pub only_faulty_if_answered : (r : Result X E) → Answers spared view r (reads_text tell f text) → (e : E)
      → HasFirstFault tell f text e → Answers spared view r (Err e)
  only_faulty_if_answered (Ok y) h e s = sym (text_only_faulty tell f text e s) ∙ h
  only_faulty_if_answered (Err d) h e s = λ n. sym (text_only_faulty tell f text e s) ∙ h n

-- what the contract of a reader of a whole text needs
pub ruleset answering =
    (answers_given, found_if_answered, only_if_answered, faulty_if_answered, only_faulty_if_answered)
