use Rattle.std.proofs.Common.{[], ◌∷◌, ◌++◌, inl}
use Rattle.sbpl_promises.specs.Intents.{incumbent_writes, labels_writes, trace_writes}
use Rattle.sbpl_promises.specs.sbpl_report.Report.{section_text}
use Rattle.sbpl_promises.specs.Writing.{to_output}
use Rattle.sbpl_telling.proofs.Writings.{ends_after, ends_first}
use Rattle.sbpl_telling.proofs.sections.write_plan.Goals as goal
use Rattle.sbpl_telling.proofs.Frames.{writes_more, writes_on}

pub returns-in-Ok-clause-ends : goal.returns-in-Ok-clause-ends
returns-in-Ok-clause-ends g c =
    ends_after _ _ _ _ (to_output (section_text c.args.plan.now) ∷ []) (labels_writes c.args.outputs.now c.args.plan.now
    ++ (trace_writes c.args.outputs.now c.args.plan.now ++ incumbent_writes c.args.outputs.now c.args.plan.now))
    _ c.in-Ok.ensures.ends c.write_section.ensures.frame.writes c.write_outputs.ensures.ends

pub returns-in-Err-clause-ends : goal.returns-in-Err-clause-ends
returns-in-Err-clause-ends g c =
    ends_first (Unit {0}) (Unit {0}) _ _ (to_output (section_text c.args.plan.now) ∷ [])
    (labels_writes c.args.outputs.now c.args.plan.now
    ++ (trace_writes c.args.outputs.now c.args.plan.now ++ incumbent_writes c.args.outputs.now c.args.plan.now))
    c.in-Err.stop c.in-Err.ensures.ends

pub returns-in-Ok-clause-frame : goal.returns-in-Ok-clause-frame
returns-in-Ok-clause-frame g c =
    writes_on _ _ _ _ (writes_more _ _ _ _ (λ name is. inl is) c.write_section.ensures.frame)
    c.write_outputs.ensures.frame

pub returns-in-Err-clause-frame : goal.returns-in-Err-clause-frame
returns-in-Err-clause-frame g c = writes_more _ _ _ _ (λ name is. inl is) c.write_section.ensures.frame
