use Rattle.std.proofs.Common.{ℕ, List, ap, inl, inr}
use Rattle.sbpl_fixed.specs.Formats.{start}
use Rattle.sbpl_fixed.specs.Tokens.{tokens}
use Rattle.sbpl_fixed.proofs.Meaning.{faulty_once, said_once, said_or_faulty, said_or_faulty_alone}
use Rattle.sbpl_cfg.specs.Environment.{Environment}
use Rattle.sbpl_cfg.specs.Faults.{told}
use Rattle.sbpl_cfg.specs.Format.{environment_format, says_headings}
use Rattle.sbpl_cfg.proofs.OwnFaults.{no_memory_is_no_fault}
use Rattle.sbpl_cfg.proofs.PrintedText.{environment_is_printed}
use Rattle.sbpl_cfg.proofs.TextLaws.{left_out_is_usual, says_text, text_said, usual_may_be_left_out}
use Rattle.sbpl_cfg.proofs.text.texts_are_environments_or_faulty.Goals as goal

pub returns-clause-format : goal.returns-clause-format
returns-clause-format c states text x small = (text_said states text x small, says_text states text x)

pub returns-clause-either : goal.returns-clause-either
returns-clause-either c states text small =
    elim (said_or_faulty told (environment_format states (says_headings text)) (start text)) [
      | inl s ↦ inl (s.0.0, s.0.1, text_said states text s.0 small (s.1, s.2))
      | inr f ↦ inr (f.0, no_memory_is_no_fault states text f.0 f.1, f.1)
    ]

pub returns-clause-not_both : goal.returns-clause-not_both
returns-clause-not_both c states text f h k =
    let x : Environment × List ℕ = (h.0, h.1) in
    said_or_faulty_alone told (environment_format states (says_headings text)) (start text) f
    (let s = says_text states text x h.2 in (x, s.0, s.1)) k

pub returns-clause-one_value : goal.returns-clause-one_value
returns-clause-one_value c states text e d cells others h k =
    let x : Environment × List ℕ = (e, cells) in
    let y : Environment × List ℕ = (d, others) in
    let s = says_text states text x h in
    let t = says_text states text y k in
    let same = said_once (environment_format states (says_headings text)) (tokens text) x y s.0 t.0 s.1 t.1 in
    (ap (λ (p : Environment × List ℕ). p.0) same.0, ap (λ (p : Environment × List ℕ). p.1) same.0)

pub returns-clause-one_fault : goal.returns-clause-one_fault
returns-clause-one_fault c states text f g h k =
    faulty_once told (environment_format states (says_headings text)) (start text) f g h k

pub returns-clause-left_out : goal.returns-clause-left_out
returns-clause-left_out c = left_out_is_usual

pub returns-clause-usual : goal.returns-clause-usual
returns-clause-usual c = usual_may_be_left_out

pub returns-clause-printed : goal.returns-clause-printed
returns-clause-printed c = environment_is_printed
