use Rattle.std.proofs.Common.{pos}
use Rattle.std.proofs.lemmas.Option.{slice_get-get_or}
use Rattle.sbpl_cost.specs.Reading.{end_of_read}
use Rattle.sbpl_cost.proofs.ArcsRead.{filtered_more}
use Rattle.sbpl_cost.proofs.reading.push_ends.Goals as goal

pub end_of_read-requires-clause-place : goal.end_of_read-requires-clause-place
end_of_read-requires-clause-place c =
    (c.requires.reads c.loop-read.read-index _
    (slice_get-get_or c.args.reads.now c.loop-read.read-index _ c.loop-read-test.true)).0

pub end_of_read-requires-clause-near : goal.end_of_read-requires-clause-near
end_of_read-requires-clause-near c =
    (c.requires.reads c.loop-read.read-index _
    (slice_get-get_or c.args.reads.now c.loop-read.read-index _ c.loop-read-test.true)).1

pub loop-read-preserved : goal.loop-read-preserved
loop-read-preserved c =
    filtered_more (end_of_read c.args.end c.args.env.now c.args.prims.now.items (pos c.args.x) (pos c.args.y))
    c.args.reads.now c.args.into.now.items c.loop-read.into.items c.push_some.new.states.items
    c.loop-read.read-index _ c.end_of_read.result
    (slice_get-get_or c.args.reads.now c.loop-read.read-index _ c.loop-read-test.true) c.loop-read.invariant
    c.in_ok-push_some.ensures.added c.end_of_read.ensures.value
