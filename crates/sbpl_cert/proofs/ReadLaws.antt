-- What a reader of sections answers, in terms of what tokens stand for.
use Rattle.std.proofs.Common.{◌≡◌, ℕ, ◌+◌, ◌-◌, ◌^◌, ◌<◌, ◌≤◌, List, [], ◌∷◌, length, min, ℤ, Result, Ok, Err, refl}
use Rattle.std.proofs.Common.{sym, ap, subst, ◌∙◌, ⊎_elim, arith}
use Rattle.std.specs.Prelude.{◌≢◌, codes, IfOk, IfErr}
use Rattle.std.proofs.lemmas.Bool.{cases_lt}
use Rattle.std.proofs.lemmas.List.{drop_all}
use Rattle.sbpl_fixed.specs.declared.fault.TextFault.{TextFault}
use Rattle.sbpl_fixed.specs.declared.fault.TextFault.TheVariants.{Ended}
use Rattle.sbpl_fixed.specs.Formats.{Answers, Left, Met, Miss, fixed, met, next, next_of, reads, start_at}
use Rattle.sbpl_fixed.specs.Meaning.{ReadingIsWhatIsSaid}
use Rattle.sbpl_fixed.specs.Runs.{TokensGoOn}
use Rattle.sbpl_fixed.specs.Tokens.{Piece, is_fresh, tokens_from, tokens_past}
use Rattle.sbpl_fixed.specs.Unsigned.{NumbersAreTheirDigits}
use Rattle.sbpl_cert.specs.declared.fault.LabelFault.{LabelFault}
use Rattle.sbpl_cert.specs.declared.fault.LabelFault.TheVariants.{NoMemory}
use Rattle.sbpl_cert.specs.Faults.{told}
use Rattle.sbpl_cert.specs.Format.{front_format, full_format, section_format, sparse_format}
use Rattle.sbpl_cert.specs.declared.section.Section.{Section}
use Rattle.sbpl_cert.specs.Sections.{FullSection, IsFullSection}
use Rattle.sbpl_cert.specs.Sparse.{IsSparseSection, SparseSection}
use Rattle.sbpl_cert.specs.Versions.{IsOf}
use Rattle.sbpl_cert.specs.Text.{AreTokensOf, EndsWith, HasFault, IsAfterEnd, with_rest}
use Rattle.sbpl_cert.proofs.Leaves.{said_leaves}
use Rattle.sbpl_cert.proofs.ItemLaws.{word_out}
use Rattle.sbpl_cert.proofs.SectionLaws.{full_out, sparse_out, section_out, section_in}

abbrev pub Reading : Type 0
Reading = ReadingIsWhatIsSaid LabelFault Section

-- what was read between the version and the last word keeps its ranges
pub full_fits : (numbers : NumbersAreTheirDigits) (reading : ReadingIsWhatIsSaid LabelFault FullSection)
    (plan states : ℕ) (left rest : Left) (s : FullSection) → plan < 2 ^ 32 → states < 2 ^ 32
    → reads told (full_format plan states) left ≡ Ok (s, rest) → IsFullSection s
full_fits numbers reading plan states left rest s p q e =
    let said = (reading.said told (full_format plan states) left rest s).0 e in
    (full_out numbers plan states s left.tokens rest.tokens p q said.0).2

pub sparse_fits : (numbers : NumbersAreTheirDigits) (reading : ReadingIsWhatIsSaid LabelFault SparseSection)
    (plan states : ℕ) (left rest : Left) (s : SparseSection) → plan < 2 ^ 32 → states < 2 ^ 32
    → reads told (sparse_format plan states) left ≡ Ok (s, rest) → IsSparseSection s
sparse_fits numbers reading plan states left rest s p q e =
    let said = (reading.said told (sparse_format plan states) left rest s).0 e in
    (sparse_out numbers plan states s left.tokens rest.tokens p q said.0).2

abbrev met_record : ℕ → ℤ → Left → Met
met_record place value left = record { place = place; value = value; left = left }

abbrev met_at : ℕ → ℤ → Left → Result Met TextFault
met_at place value left = Ok (record { place = place; value = value; left = left })

abbrev end_missed : ℕ → Result Met TextFault
end_missed end = Err (Ended end)

next_is : (t : Piece) (ts : List Piece) (place : ℕ) (word : List ℕ) (rest : List Piece) → t.place ≡ place
    → t.bytes ≡ word → ts ≡ rest → t ∷ ts ≡ record { place = place; bytes = word } ∷ rest
next_is t ts place word rest here bytes left = rw (← here, ← bytes, left) refl

-- a word that was met is the next token
word_is_next : (word : List ℕ) (end : ℕ) (ts : List Piece) (place : ℕ) (v : ℤ) (rest : Left)
    → next_of (fixed word) end ts ≡ met_at place v rest
    → (ts ≡ record { place = place; bytes = word } ∷ rest.tokens) × (rest.end ≡ end)
word_is_next word end [] place v rest e = absurd (let missed : end_missed end ≡ met_at place v rest = e in cc)
word_is_next word end (t ∷ ts) place v rest e =
    let go : (r : Result ℤ Miss) → fixed word t.bytes ≡ r
    → met t.place (record { end = end; tokens = ts }) r ≡ met_at place v rest
    → (t ∷ ts ≡ record { place = place; bytes = word } ∷ rest.tokens) × (rest.end ≡ end) = elim [
      | Ok x ↦ λ q h.
          let found : met_at t.place x (record { end = end; tokens = ts }) ≡ met_at place v rest = h in
          let mets : met_record t.place x (record { end = end; tokens = ts }) ≡ met_record place v rest = cc in
          let here : t.place ≡ place = ap (λ (m : Met). m.place) mets in
          let left : record { end = end; tokens = ts } ≡ rest = ap (λ (m : Met). m.left) mets in
          let bytes = word_out word t.bytes x q in (
            next_is t ts place word rest.tokens here bytes (ap (λ (l : Left). l.tokens) left),
            sym (ap (λ (l : Left). l.end) left),
          )
      | Err m ↦ λ q h. absurd cc
    ] in
    go (fixed word t.bytes) refl e

pub section_ends : (reading : Reading) (plan states : ℕ) (left mid rest : Left) (s : Section) (place : ℕ) (v : ℤ)
    → reads told (front_format plan states) left ≡ Ok (s, mid)
    → next (fixed (codes "end")) mid ≡ met_at place v rest
    → EndsWith left.tokens (record { place = place; bytes = codes "end" } ∷ rest.tokens) × (rest.end ≡ left.end)
unfolding next
section_ends reading plan states left mid rest s place v e f =
    let said = (reading.said told (front_format plan states) left mid s).0 e in
    let leaves = said_leaves (front_format plan states) left.tokens s mid.tokens said.0 in
    let last = word_is_next (codes "end") mid.end mid.tokens place v rest f in
    (subst (λ (l : List Piece). EndsWith left.tokens l) last.0 leaves, last.1 ∙ said.1)

-- ---- what the answers are

abbrev Answer : Type 0
Answer = Result (Section × ℕ) LabelFault

abbrev AnswersExactly : ℕ → ℕ → List ℕ → ℕ → Answer → Type 0
AnswersExactly plan states text at r =
    Answers {A = Section × Left} NoMemory (λ (x : Section × ℕ). (x.0, start_at text x.1)) r
    (reads told (section_format plan states) (start_at text at))

pub found_at : (numbers : NumbersAreTheirDigits) (reading : Reading) (plan states : ℕ) (text : List ℕ) (at : ℕ)
    (r : Answer) → plan < 2 ^ 32 → states < 2 ^ 32 → AnswersExactly plan states text at r
    → IfOk r (λ x. IsOf plan states x.0 × AreTokensOf (tokens_from text at) x.0 (tokens_from text x.1))
found_at numbers reading plan states text at (Ok x) p q exact =
    section_out numbers plan states x.0 (tokens_from text at) (tokens_from text x.1) p q
    ((reading.said told (section_format plan states) (start_at text at) (start_at text x.1) x.0).0 exact).0
found_at numbers reading plan states text at (Err e) p q exact = tt

abbrev section_read : Section → Left → Result (Section × Left) LabelFault
section_read s left = Ok (s, left)

abbrev with_left : Section → Left → Section × Left
with_left s left = (s, left)

same_read : (s u : Section) (l m : Left) → section_read s l ≡ section_read u m → (s ≡ u) × (l ≡ m)
same_read s u l m e =
    let pairs : with_left s l ≡ with_left u m = cc in
    (ap (λ (p : Section × Left). p.0) pairs, ap (λ (p : Section × Left). p.1) pairs)

abbrev rest_read : Section → List Piece → Result (Section × List Piece) LabelFault
rest_read s rest = Ok (with_rest s rest)

answered : (s u : Section) (rest more : List Piece) → s ≡ u → rest ≡ more → rest_read s rest ≡ rest_read u more
answered s u rest more same rests = ap (λ (x : Section). rest_read x rest) same ∙ ap (rest_read u) rests

abbrev fault_read : LabelFault → Result (Section × Left) LabelFault
fault_read e = Err e

reads_said : (numbers : NumbersAreTheirDigits) (reading : Reading) (plan states : ℕ) (text : List ℕ) (at : ℕ)
    (s : Section) (rest : List Piece) → IsOf plan states s → AreTokensOf (tokens_from text at) s rest
    → reads told (section_format plan states) (start_at text at)
    ≡ section_read s (record { end = length text; tokens = rest })
reads_said numbers reading plan states text at s rest of w =
    (reading.said told (section_format plan states) (start_at text at) (record { end = length text; tokens = rest })
    s).1 (section_in numbers plan states s (tokens_from text at) rest of w, refl)

pub only_at : (numbers : NumbersAreTheirDigits) (reading : Reading) (plan states : ℕ) (text : List ℕ) (at : ℕ)
    (r : Answer) → AnswersExactly plan states text at r
    → (s : Section) (rest : List Piece) → IsOf plan states s → AreTokensOf (tokens_from text at) s rest
    → Answers {A = Section × List Piece} NoMemory (λ (x : Section × ℕ). with_rest x.0 (tokens_from text x.1))
    r (Ok (with_rest s rest))
only_at numbers reading plan states text at (Ok x) exact s rest of w =
    let both : section_read s (record { end = length text; tokens = rest }) ≡ section_read x.0 (start_at text x.1) =
    sym (reads_said numbers reading plan states text at s rest of w) ∙ exact in
    let parts = same_read s x.0 (record { end = length text; tokens = rest }) (start_at text x.1) both in
    let rests : rest ≡ tokens_from text x.1 = ap (λ (l : Left). l.tokens) parts.1 in
    answered s x.0 rest (tokens_from text x.1) parts.0 rests
only_at numbers reading plan states text at (Err e) exact s rest of w = λ n.
    let clash : section_read s (record { end = length text; tokens = rest }) ≡ fault_read e =
    sym (reads_said numbers reading plan states text at s rest of w) ∙ exact n in
    absurd cc

pub faulty_at : (reading : Reading) (plan states : ℕ) (text : List ℕ) (at : ℕ) (r : Answer)
    → AnswersExactly plan states text at r
    → IfErr r (λ e. e ≢ NoMemory → HasFault plan states (start_at text at) e)
faulty_at reading plan states text at (Ok x) exact = tt
faulty_at reading plan states text at (Err e) exact =
    λ n. (reading.faulty told (section_format plan states) (start_at text at) e).0 (exact n)

abbrev section_fault : LabelFault → Result Section LabelFault
section_fault e = Err e

pub only_faulty_at : (reading : Reading) (plan states : ℕ) (text : List ℕ) (at : ℕ) (r : Answer)
    → AnswersExactly plan states text at r
    → (e : LabelFault) → HasFault plan states (start_at text at) e
    → Answers {A = Section} NoMemory (λ (x : Section × ℕ). x.0) r (Err e)
only_faulty_at reading plan states text at (Ok x) exact e h =
    let clash : fault_read e ≡ section_read x.0 (start_at text x.1) =
    sym ((reading.faulty told (section_format plan states) (start_at text at) e).1 h) ∙ exact in
    absurd cc
only_faulty_at reading plan states text at (Err d) exact e h = λ n.
    let same : fault_read e ≡ fault_read d =
    sym ((reading.faulty told (section_format plan states) (start_at text at) e).1 h) ∙ exact n in
    let one : e ≡ d = cc in
    ap section_fault one

-- ---- after the last word

same_left : (a b : Left) → a.end ≡ b.end → a.tokens ≡ b.tokens → a ≡ b
same_left a b e t =
    ap (λ (n : ℕ). record { end = n; tokens = a.tokens }) e
    ∙ ap (λ (l : List Piece). record { end = b.end; tokens = l }) t

pub ends_after : TokensGoOn → (text : List ℕ) (at place : ℕ) (rest : Left) → at ≤ length text
    → EndsWith (tokens_from text at) (record { place = place; bytes = codes "end" } ∷ rest.tokens)
    → rest.end ≡ length text
    → (at < place + 3) × (place + 3 ≤ length text) × (rest ≡ start_at text (place + 3))
ends_after go_on text at place rest inside h end =
    let w = go_on text at h.0 (record { place = place; bytes = codes "end" }) rest.tokens inside h.1 in
    (omega (arith, w.0), w.2, same_left rest (start_at text (place + 3)) end (sym w.3))

-- the word that ends three bytes after its place ends there
pub right_after_end : (text : List ℕ) (at place : ℕ) (rest : Left)
    → EndsWith (tokens_from text at) (record { place = place; bytes = codes "end" } ∷ rest.tokens)
    → rest ≡ start_at text (place + 3) → IsAfterEnd text at (place + 3)
right_after_end text at place rest h left =
    let same : place ≡ place + 3 - 3 = omega arith in
    let tokens : rest.tokens ≡ tokens_from text (place + 3) = ap (λ (l : Left). l.tokens) left in
    let here =
    subst (λ (ts : List Piece).
    EndsWith (tokens_from text at) (record { place = place; bytes = codes "end" } ∷ ts)) tokens h in
    subst (λ (n : ℕ).
    EndsWith (tokens_from text at) (record { place = n; bytes = codes "end" } ∷ tokens_from text (place + 3))) same here

-- the same where the reading began after the end of the text
pub after_end_within : (text : List ℕ) (at from offset : ℕ) → start_at text from ≡ start_at text at
    → IsAfterEnd text from offset → IsAfterEnd text at offset
after_end_within text at from offset same h =
    subst (λ (l : Left).
    EndsWith l.tokens (record { place = offset - 3; bytes = codes "end" } ∷ tokens_from text offset)) same h

pub read_to : (s : Section) {l m : Left} → l ≡ m → section_read s l ≡ section_read s m
read_to s same = ap (section_read s) same

-- no token begins after the end of a text
none_past : (text : List ℕ) (at : ℕ) → length text ≤ at → tokens_from text at ≡ []
unfolding tokens_past
none_past text at past = ap (tokens_past (is_fresh text at) at) (drop_all at text past)

-- a reading from after the end of a text is one from its end
pub start_within : (text : List ℕ) (at from : ℕ) → from ≡ min at (length text) → start_at text from ≡ start_at text at
start_within text at from is =
    ⊎_elim
    (λ (before : at < length text). let same : from ≡ at = omega arith in ap (start_at text) same)
    (λ (past : length text ≤ at).
    let none = none_past text at past in
    let none' = none_past text from (omega arith) in
    same_left (start_at text from) (start_at text at) refl (none' ∙ sym none))
    (cases_lt at (length text))
