use Rattle.std.proofs.Common.{arith, ◌∙◌}
use Rattle.sbpl_adstar.proofs.Joining.{become_all, below_more, below_none}
use Rattle.sbpl_adstar.proofs.Raising.{changed_g, listed_raised, under_other}
use Rattle.sbpl_adstar.proofs.raiser.raise.Goals as goal

pub loop-k-init : goal.loop-k-init
loop-k-init g c =
    let n = g.G.Graph.network c.args.graph.now in
    let by = c.raise.ensures.raised in
    record {
      raising = c.raising_goes_arc_by_arc.ensures.begins n c.args.labels.now c.raise.new.self c.args.s by;
      listed =
          listed_raised c.args.labels.now c.raise.new.self c.args.s by c.start-before.ensures.labels c.requires.state
          c.args.list.now.items c.requires.listed;
      added = below_none c.args.labels.now c.raise.new.self c.args.s c.args.list.now.items;
      grown = λ t. omega (arith, changed_g c.args.labels.now c.raise.new.self c.args.s by t);
      others = λ t other under. under_other c.args.labels.now c.raise.new.self c.args.s by t other under;
      room = omega arith;
    }

pub recompute_listed-requires-clause-grows : goal.recompute_listed-requires-clause-grows
recompute_listed-requires-clause-grows g c = λ new head returned t.
    c.raising_goes_arc_by_arc.ensures.lowers_none (g.G.Graph.network c.args.graph.now) c.args.labels.now c.loop-k.labels
    new c.args.s c.loop-k.k head c.requires.usable.states c.start-before.ensures.labels c.requires.usable.exact
    c.loop-k.invariant.raising returned t

pub loop-k-preserved : goal.loop-k-preserved
loop-k-preserved g c =
    let n = g.G.Graph.network c.args.graph.now in
    let here = c.loop-k.invariant in
    let new = c.recompute_listed.new.labels in
    let returned = c.recompute_listed.ensures.returned in
    let on =
    c.raising_goes_arc_by_arc.ensures.goes_on n c.args.labels.now c.loop-k.labels new c.args.s c.loop-k.k returned.0
    c.requires.usable.states c.requires.usable.exact here.raising returned.1
    c.recompute_listed.ensures.fits
    in
    record {
      raising = on;
      listed = c.recompute_listed.ensures.listed;
      added =
          below_more n c.args.labels.now c.loop-k.labels new c.args.s c.loop-k.k c.args.list.now.items
          c.loop-k.list.items c.recompute_listed.new.list.items returned.0 here.raising returned.1 here.added
          c.recompute_listed.ensures.stay here.listed c.recompute_listed.ensures.listed
          c.recompute_listed.ensures.added;
      grown = λ t. omega (arith, here.grown t, c.recompute_listed.ensures.grown t);
      others = λ t other under. c.recompute_listed.ensures.stay t (here.others t other under);
      room = c.recompute_listed.ensures.room ∙ here.room;
    }

pub returns-clause-raised : goal.returns-clause-raised
returns-clause-raised g c =
    let n = g.G.Graph.network c.args.graph.now in
    let here = c.loop-k.invariant in
    (c.raising_goes_arc_by_arc.ensures.ends n c.args.labels.now c.loop-k.labels c.args.s c.loop-k.k
    c.states-states.ensures.sound c.states-states.ensures.tails c.requires.usable.states c.start-after.ensures.labels
    c.requires.usable.exact here.raising
    (omega (arith, c.loop-k-test.false, c.fan-k-end.ensures.value)) c.requires.under).0

pub returns-clause-usable : goal.returns-clause-usable
returns-clause-usable g c = λ count usable.
    let n = g.G.Graph.network c.args.graph.now in
    let here = c.loop-k.invariant in
    let ended =
    c.raising_goes_arc_by_arc.ensures.ends n c.args.labels.now c.loop-k.labels c.args.s c.loop-k.k
    c.states-states.ensures.sound c.states-states.ensures.tails c.requires.usable.states c.start-after.ensures.labels
    c.requires.usable.exact here.raising
    (omega (arith, c.loop-k-test.false, c.fan-k-end.ensures.value)) c.requires.under
    in
    record {
      states = here.raising.same_states ∙ usable.states;
      exact = ended.1;
      fits = here.raising.fits count usable.fits;
    }

pub returns-clause-added : goal.returns-clause-added
returns-clause-added g c =
    let n = g.G.Graph.network c.args.graph.now in
    let here = c.loop-k.invariant in
    let ended =
    c.raising_goes_arc_by_arc.ensures.ends n c.args.labels.now c.loop-k.labels c.args.s c.loop-k.k
    c.states-states.ensures.sound c.states-states.ensures.tails c.requires.usable.states c.start-after.ensures.labels
    c.requires.usable.exact here.raising
    (omega (arith, c.loop-k-test.false, c.fan-k-end.ensures.value)) c.requires.under
    in
    become_all n c.args.labels.now c.loop-k.labels c.args.s c.loop-k.k c.args.list.now.items c.loop-k.list.items ended.0
    c.start-after.ensures.labels c.requires.listed here.listed here.added
