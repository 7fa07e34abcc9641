use Rattle.sbpl_map.proofs.Texts.{alone_given, changes_faulty, changes_found, changes_given, changes_on, fault_given}
use Rattle.sbpl_map.proofs.read.read_changes.Goals as goal

pub returns-clause-found : goal.returns-clause-found
returns-clause-found c =
    let given =
    alone_given c.args.states c.args.map.now c.args.text.now c.read_lines.result c.alone.result
    c.alone.ensures.batches c.read_lines.ensures.read in
    changes_found c.args.states c.args.map.now c.args.text.now c.alone.result given

pub returns-clause-only : goal.returns-clause-only
returns-clause-only c batches h =
    let given =
    alone_given c.args.states c.args.map.now c.args.text.now c.read_lines.result c.alone.result
    c.alone.ensures.batches c.read_lines.ensures.read in
    rw (changes_given c.args.states c.args.map.now c.args.text.now batches h) at given

pub returns-clause-faulty : goal.returns-clause-faulty
returns-clause-faulty c =
    let given =
    alone_given c.args.states c.args.map.now c.args.text.now c.read_lines.result c.alone.result
    c.alone.ensures.batches c.read_lines.ensures.read in
    changes_faulty c.args.states c.args.map.now c.args.text.now c.alone.result given

pub returns-clause-only_faulty : goal.returns-clause-only_faulty
returns-clause-only_faulty c f h =
    let given =
    alone_given c.args.states c.args.map.now c.args.text.now c.read_lines.result c.alone.result
    c.alone.ensures.batches c.read_lines.ensures.read in
    rw (fault_given c.args.states c.args.map.now c.args.text.now f h) at given

pub returns-clause-on_map : goal.returns-clause-on_map
returns-clause-on_map c =
    let given =
    alone_given c.args.states c.args.map.now c.args.text.now c.read_lines.result c.alone.result
    c.alone.ensures.batches c.read_lines.ensures.read in
    let found = changes_found c.args.states c.args.map.now c.args.text.now c.alone.result given in
    changes_on c.args.states c.args.map.now c.args.text.now c.alone.result found
