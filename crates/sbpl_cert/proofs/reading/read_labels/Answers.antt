use Rattle.std.proofs.Common.{arith}
use Rattle.std.proofs.lemmas.Result.{IfOk-weaker}
use Rattle.sbpl_cert.proofs.ReadLaws.{after_end_within, found_at, only_at, faulty_at, only_faulty_at, start_within}
use Rattle.sbpl_cert.proofs.reading.read_labels.Goals as goal

pub returns-clause-given : goal.returns-clause-given
returns-clause-given c =
    let within = start_within c.args.text.now c.args.at c.min.result (omega (arith, c.min.ensures)) in
    let exact = rw within at c.read_exactly.ensures.exact in
    IfOk-weaker c.read_exactly.result _ _ (λ x w. w.0)
    (found_at c.unsigned_numbers_are_their_digits.ensures.law c.reading_is_what_is_said.ensures.law c.args.plan
    c.args.states c.args.text.now c.args.at c.read_exactly.result c.ranges.plan.fits c.ranges.states.fits exact)

pub returns-clause-inside : goal.returns-clause-inside
returns-clause-inside c =
    IfOk-weaker c.read_exactly.result _ _ (λ x w. (omega (arith, c.min.ensures, w.0, w.1), w.1))
    c.read_exactly.ensures.inside

pub returns-clause-after : goal.returns-clause-after
returns-clause-after c =
    let within = start_within c.args.text.now c.args.at c.min.result (omega (arith, c.min.ensures)) in
    IfOk-weaker c.read_exactly.result _ _ (λ x w. after_end_within c.args.text.now c.args.at c.min.result x.1 within w)
    c.read_exactly.ensures.after

pub returns-clause-found : goal.returns-clause-found
returns-clause-found c =
    let within = start_within c.args.text.now c.args.at c.min.result (omega (arith, c.min.ensures)) in
    let exact = rw within at c.read_exactly.ensures.exact in
    IfOk-weaker c.read_exactly.result _ _ (λ x w. w.1)
    (found_at c.unsigned_numbers_are_their_digits.ensures.law c.reading_is_what_is_said.ensures.law c.args.plan
    c.args.states c.args.text.now c.args.at c.read_exactly.result c.ranges.plan.fits c.ranges.states.fits exact)

pub returns-clause-only : goal.returns-clause-only
returns-clause-only c =
    let within = start_within c.args.text.now c.args.at c.min.result (omega (arith, c.min.ensures)) in
    let exact = rw within at c.read_exactly.ensures.exact in
    only_at c.unsigned_numbers_are_their_digits.ensures.law c.reading_is_what_is_said.ensures.law c.args.plan
    c.args.states c.args.text.now c.args.at c.read_exactly.result exact

pub returns-clause-faulty : goal.returns-clause-faulty
returns-clause-faulty c =
    let within = start_within c.args.text.now c.args.at c.min.result (omega (arith, c.min.ensures)) in
    let exact = rw within at c.read_exactly.ensures.exact in
    faulty_at c.reading_is_what_is_said.ensures.law c.args.plan c.args.states c.args.text.now c.args.at
    c.read_exactly.result exact

pub returns-clause-only_faulty : goal.returns-clause-only_faulty
returns-clause-only_faulty c =
    let within = start_within c.args.text.now c.args.at c.min.result (omega (arith, c.min.ensures)) in
    let exact = rw within at c.read_exactly.ensures.exact in
    only_faulty_at c.reading_is_what_is_said.ensures.law c.args.plan c.args.states c.args.text.now c.args.at
    c.read_exactly.result exact

pub returns-clause-exact : goal.returns-clause-exact
returns-clause-exact c =
    let within = start_within c.args.text.now c.args.at c.min.result (omega (arith, c.min.ensures)) in
    let exact = rw within at c.read_exactly.ensures.exact in
    exact
