-- What a reader of primitives answers, in terms of what texts stand for.
use Rattle.std.proofs.Common.{◌≡◌, ◌≢◌, ℕ, ◌≤◌, ℤ, pos, List, Result, Ok, Err, sym, ap, subst, ◌∙◌}
use Rattle.std.specs.Prelude.{IfOk, IfErr, OnOk}
use Rattle.sbpl_cfg.specs.Environment.{IsWithin}
use Rattle.sbpl_fixed.specs.Formats.{Answers, reads_text}
use Rattle.sbpl_fixed.proofs.Meaning.{faulty_if_answered, only_faulty_if_answered, text_found, text_only}
use Rattle.sbpl_mprim.specs.declared.fault.PrimFault.{PrimFault}
use Rattle.sbpl_mprim.specs.declared.fault.PrimFault.TheVariants.{NoMemory}
use Rattle.sbpl_mprim.specs.declared.prim.Primitive.{Primitive}
use Rattle.sbpl_mprim.specs.Faults.{told}
use Rattle.sbpl_mprim.specs.Primitives.{ArePrimitives, Primitives}
use Rattle.sbpl_mprim.specs.Reading.{prims_format}
use Rattle.sbpl_mprim.specs.Text.{AreSizes, HasFault, IsTextOf}
use Rattle.sbpl_mprim.proofs.FileLaws.{file_found, file_said}

-- the items that were read may be a file's
pub items_fit : (cell : ℤ) (headings : ℕ) (text : List ℕ) (items : List Primitive)
    → IsWithin (pos 1) (pos 1000000000000) cell → 1 ≤ headings → headings ≤ 64
    → reads_text told (prims_format cell headings) text ≡ Ok items
    → ArePrimitives (record { cell = cell; headings = headings; items = items })
items_fit cell headings text items size some most e =
    (file_found cell headings text items size some most
    (text_found told (prims_format cell headings) text items e)).fits

abbrev items_of : Primitives → List Primitive
items_of ps = ps.items

abbrev IsGiven : ℤ → ℕ → Result Primitives PrimFault → Type 0
IsGiven cell headings r = IfOk r (λ ps. (ps.cell ≡ cell) × (ps.headings ≡ headings))

abbrev IsExact : ℤ → ℕ → List ℕ → Result Primitives PrimFault → Type 0
IsExact cell headings text r = Answers NoMemory items_of r (reads_text told (prims_format cell headings) text)

-- primitives by their parts
same_parts : (cell : ℤ) (headings : ℕ) (ps : Primitives) → ps.cell ≡ cell → ps.headings ≡ headings
    → record { cell = cell; headings = headings; items = ps.items } ≡ ps
same_parts cell headings ps c h =
    ap (λ (z : ℤ). record { cell = z; headings = headings; items = ps.items }) (sym c)
    ∙ ap (λ (n : ℕ). record ps { headings = n }) (sym h)

pub found_in_text : (cell : ℤ) (headings : ℕ) (text : List ℕ) (r : Result Primitives PrimFault)
    → OnOk r (AreSizes cell headings)
    → IsGiven cell headings r → IsExact cell headings text r → IfOk r (λ ps. IsTextOf text ps)
found_in_text cell headings text (Ok ps) sizes given exact =
    subst (λ (qs : Primitives). IsTextOf text qs) (same_parts cell headings ps given.0 given.1)
    (file_found cell headings text ps.items sizes.cell_is sizes.some sizes.few
    (text_found told (prims_format cell headings) text ps.items exact))
found_in_text cell headings text (Err e) sizes given exact = tt

abbrev one_read : Primitives → Result Primitives PrimFault
one_read ps = Ok ps

abbrev items_read : List Primitive → Result (List Primitive) PrimFault
items_read items = Ok items

pub only_in_text : (cell : ℤ) (headings : ℕ) (text : List ℕ) (r : Result Primitives PrimFault) → IsGiven cell headings r
    → IsExact cell headings text r
    → (ps : Primitives) → ps.cell ≡ cell → ps.headings ≡ headings → IsTextOf text ps
    → Answers NoMemory (λ (x : Primitives). x) r (Ok ps)
only_in_text cell headings text (Ok qs) given exact ps c h stands =
    let said : reads_text told (prims_format ps.cell ps.headings) text ≡ Ok ps.items =
    text_only told (prims_format ps.cell ps.headings) text ps.items (file_said ps text stands) in
    let here : reads_text told (prims_format cell headings) text ≡ Ok ps.items =
    subst (λ (n : ℕ). reads_text told (prims_format cell n) text ≡ Ok ps.items) h
    (subst (λ (z : ℤ). reads_text told (prims_format z ps.headings) text ≡ Ok ps.items) c said) in
    let both : items_read ps.items ≡ items_read qs.items = sym here ∙ exact in
    let items : ps.items ≡ qs.items = cc in
    let same : ps ≡ qs =
    sym (same_parts cell headings ps c h) ∙ (ap (λ (l : List Primitive). record {
      cell = cell;
      headings = headings;
      items = l;
    }) items ∙ same_parts cell headings qs given.0 given.1) in
    ap one_read same
only_in_text cell headings text (Err e) given exact ps c h stands = λ n.
    let said : reads_text told (prims_format ps.cell ps.headings) text ≡ Ok ps.items =
    text_only told (prims_format ps.cell ps.headings) text ps.items (file_said ps text stands) in
    let here : reads_text told (prims_format cell headings) text ≡ Ok ps.items =
    subst (λ (m : ℕ). reads_text told (prims_format cell m) text ≡ Ok ps.items) h
    (subst (λ (z : ℤ). reads_text told (prims_format z ps.headings) text ≡ Ok ps.items) c said) in
    let clash : items_read ps.items ≡ Err e = sym here ∙ exact n in
    absurd cc

pub faulty_in_text : (cell : ℤ) (headings : ℕ) (text : List ℕ) (r : Result Primitives PrimFault)
    → IsExact cell headings text r
    → IfErr r (λ e. e ≢ NoMemory → HasFault cell headings text e)
faulty_in_text cell headings text r exact =
    faulty_if_answered told (prims_format cell headings) text NoMemory items_of r exact

pub only_faulty_in_text : (cell : ℤ) (headings : ℕ) (text : List ℕ) (r : Result Primitives PrimFault)
    → IsExact cell headings text r
    → (e : PrimFault) → HasFault cell headings text e → Answers NoMemory (λ (x : Primitives). x) r (Err e)
only_faulty_in_text cell headings text (Ok qs) exact e h =
    absurd (let clash =
    only_faulty_if_answered told (prims_format cell headings) text NoMemory items_of (Ok qs) exact e h in cc)
only_faulty_in_text cell headings text (Err d) exact e h = λ n. let same =
    only_faulty_if_answered told (prims_format cell headings) text NoMemory items_of (Err d) exact e h n in cc
