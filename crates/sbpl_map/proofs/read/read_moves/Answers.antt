use Rattle.sbpl_map.proofs.Texts.{moves_faulty, moves_fault_given, moves_found, moves_given}
use Rattle.sbpl_map.proofs.Texts.{moves_on, one_for_each, places_on}
use Rattle.sbpl_map.proofs.read.read_moves.Goals as goal

pub returns-clause-found : goal.returns-clause-found
returns-clause-found c =
    moves_found c.args.states c.args.map.now c.args.headings c.args.text.now c.read_lines.result c.read_lines.ensures.read

pub returns-clause-only : goal.returns-clause-only
returns-clause-only c batches moves h =
    rw (moves_given c.args.states c.args.map.now c.args.headings c.args.text.now batches moves h) at c.read_lines.ensures.read

pub returns-clause-faulty : goal.returns-clause-faulty
returns-clause-faulty c =
    moves_faulty c.args.states c.args.map.now c.args.headings c.args.text.now c.read_lines.result c.read_lines.ensures.read

pub returns-clause-only_faulty : goal.returns-clause-only_faulty
returns-clause-only_faulty c f h =
    rw (moves_fault_given c.args.states c.args.map.now c.args.headings c.args.text.now f h) at c.read_lines.ensures.read

pub returns-clause-on_map : goal.returns-clause-on_map
returns-clause-on_map c =
    let read = c.read_lines.ensures.read in
    let found = moves_found c.args.states c.args.map.now c.args.headings c.args.text.now c.read_lines.result read in
    moves_on c.args.states c.args.map.now c.args.headings c.args.text.now c.read_lines.result found

pub returns-clause-places : goal.returns-clause-places
returns-clause-places c =
    let read = c.read_lines.ensures.read in
    let found = moves_found c.args.states c.args.map.now c.args.headings c.args.text.now c.read_lines.result read in
    places_on c.args.states c.args.map.now c.args.headings c.args.text.now c.read_lines.result found

pub returns-clause-each : goal.returns-clause-each
returns-clause-each c =
    let read = c.read_lines.ensures.read in
    let found = moves_found c.args.states c.args.map.now c.args.headings c.args.text.now c.read_lines.result read in
    one_for_each c.args.states c.args.map.now c.args.headings c.args.text.now c.read_lines.result found
