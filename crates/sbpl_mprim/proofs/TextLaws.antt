-- Each text stands for one list of primitives or has one fault.
use Rattle.std.proofs.Common.{◌≡◌, ℕ, ℤ, pos, List, [], ◌∷◌, Result, Ok, refl, sym, ap, subst, ◌∙◌, inl, inr, ◌⊎◌}
use Rattle.sbpl_fixed.specs.declared.fault.NumFault.{NumFault}
use Rattle.sbpl_fixed.specs.Meaning.{StandsFor}
use Rattle.sbpl_fixed.specs.Tokens.{Piece, tokens}
use Rattle.sbpl_fixed.proofs.Meaning.{faulty_once, said_once, said_or_faulty, said_or_faulty_alone}
use Rattle.sbpl_fixed.specs.Formats.{start}
use Rattle.sbpl_mprim.specs.declared.fault.PrimFault.{PrimFault}
use Rattle.sbpl_mprim.specs.declared.prim.Primitive.{Primitive}
use Rattle.sbpl_mprim.specs.Faults.{told}
use Rattle.sbpl_mprim.specs.Primitives.{Primitives}
use Rattle.sbpl_mprim.specs.Reading.{prims_format}
use Rattle.sbpl_mprim.specs.Text.{AreMeant, AreSizes, HasFault, IsFaulty, IsText, IsTextOf, spelled}
use Rattle.sbpl_mprim.proofs.FileLaws.{file_found, file_said}
use Rattle.sbpl_mprim.proofs.OwnFaults.{no_memory_is_no_fault}

pub each_is_either : (cell : ℤ) (headings : ℕ) (text : List ℕ) → AreSizes cell headings
    → IsText cell headings text ⊎ IsFaulty cell headings text
each_is_either cell headings text sizes = elim (said_or_faulty told (prims_format cell headings) (start text)) [
  | inl s ↦ inl (
    record { cell = cell; headings = headings; items = s.0 },
    refl,
    refl,
    file_found cell headings text s.0 sizes.cell_is sizes.some sizes.few (s.1, s.2),
  )
  | inr f ↦ inr (f.0, no_memory_is_no_fault cell headings text f.0 f.1, f.1)
]

-- the format says what a text stands for
said_for : (cell : ℤ) (headings : ℕ) (text : List ℕ) (ps : Primitives) → ps.cell ≡ cell → ps.headings ≡ headings
    → IsTextOf text ps → StandsFor (prims_format cell headings) text ps.items
said_for cell headings text ps c h stands =
    subst (λ (n : ℕ). StandsFor (prims_format cell n) text ps.items) h
    (subst (λ (z : ℤ). StandsFor (prims_format z ps.headings) text ps.items) c (file_said ps text stands))

pub never_both : (cell : ℤ) (headings : ℕ) (text : List ℕ) (f : PrimFault) → IsText cell headings text
    → HasFault cell headings text f → ⊥
never_both cell headings text f t h =
    let s = said_for cell headings text t.0 t.1 t.2 t.3 in
    said_or_faulty_alone told (prims_format cell headings) (start text) f (t.0.items, s.0, s.1) h

pub one_fault : (cell : ℤ) (headings : ℕ) (text : List ℕ) (f g : PrimFault) → HasFault cell headings text f
    → HasFault cell headings text g → f ≡ g
one_fault cell headings text f g h k = faulty_once told (prims_format cell headings) (start text) f g h k

abbrev number_read : ℤ → Result ℤ NumFault
number_read n = Ok n

abbrev natural_read : ℕ → Result ℤ NumFault
natural_read n = Ok (pos n)

-- a text tells the cell size and the number of headings
same_sizes : (ts : List Piece) (ps qs : Primitives) → AreMeant ps.headings (spelled ps) ts
    → AreMeant qs.headings (spelled qs) ts → (ps.cell ≡ qs.cell) × (ps.headings ≡ qs.headings)
unfolding AreMeant spelled
same_sizes [] ps qs h k = absurd h
same_sizes (a ∷ []) ps qs h k = absurd h.1
same_sizes (a ∷ b ∷ []) ps qs h k = absurd h.1.1
same_sizes (a ∷ b ∷ c ∷ []) ps qs h k = absurd h.1.1.1
same_sizes (a ∷ b ∷ c ∷ d ∷ ts) ps qs h k =
    let cells : number_read ps.cell ≡ number_read qs.cell = sym h.1.0 ∙ k.1.0 in
    let headings : natural_read ps.headings ≡ natural_read qs.headings = sym h.1.1.1.0 ∙ k.1.1.1.0 in
    (cc, cc)

pub one_value : (text : List ℕ) (ps qs : Primitives) → IsTextOf text ps → IsTextOf text qs → ps ≡ qs
one_value text ps qs h k =
    let same = same_sizes (tokens text) ps qs h.tokens k.tokens in
    let s = said_for qs.cell qs.headings text ps same.0 same.1 h in
    let t = said_for qs.cell qs.headings text qs refl refl k in
    let items : ps.items ≡ qs.items =
    (said_once (prims_format qs.cell qs.headings) (tokens text) ps.items qs.items s.0 t.0 s.1 t.1).0 in
    ap (λ (z : ℤ). record { cell = z; headings = ps.headings; items = ps.items }) same.0
    ∙ (ap (λ (n : ℕ). record { cell = qs.cell; headings = n; items = ps.items }) same.1
    ∙ ap (λ (l : List Primitive). record qs { items = l }) items)
