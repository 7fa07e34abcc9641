use Rattle.std.proofs.Common.{sym, subst}
use Rattle.sbpl_heur.specs.sbpl_terrain.Noted.{AreOnMap}
use Rattle.sbpl_replan.specs.Replanning.{IsReady, SessionState}
use Rattle.sbpl_replan.proofs.Changing.{as_before}
use Rattle.sbpl_replan.proofs.session.Session.change.Goals as goal

pub change-requires-clause-on_map : goal.change-requires-clause-on_map
change-requires-clause-on_map g c =
    subst (λ (s : SessionState g.row.S-Action.Denot g.row.H.Denot g.row.W.Denot). AreOnMap (g.W.Terrain.cells.map s.world)
    c.args.batch.now) (sym c.self.view_is) c.requires.on_map

pub rebuild-requires : goal.rebuild-requires
rebuild-requires g c =
    let n = g.W.Graph.network in
    let cells = g.W.Terrain.cells in
    let made = g.H.Heuristic.is_made_for in
    let w = c.self.inside.world in
    let old : SessionState g.row.S-Action.Denot g.row.H.Denot g.row.W.Denot = record {
      world = w;
      search = g.S.Search.state c.self.inside.search;
      guide = c.self.inside.guide;
      counts = c.self.inside.budget;
    } in
    let ready : IsReady g.S.Search.meaning n made old =
    subst (λ (s : SessionState g.row.S-Action.Denot g.row.H.Denot g.row.W.Denot). IsReady g.S.Search.meaning n made s)
    (sym c.self.view_is) c.requires.ready in
    let back = as_before n cells c.is_terrain.ensures.law w c.change.new.world c.change.ensures.others in
    record {
      made = (cells.map w, old.search.goal, subst (λ u. made old.guide u old.search.goal) (sym back) ready.made);
    }

pub returns-clause-ready : goal.returns-clause-ready
returns-clause-ready g c =
    let n = g.W.Graph.network in
    let cells = g.W.Terrain.cells in
    let made = g.H.Heuristic.is_made_for in
    let w = c.self.inside.world in
    let old : SessionState g.row.S-Action.Denot g.row.H.Denot g.row.W.Denot = record {
      world = w;
      search = g.S.Search.state c.self.inside.search;
      guide = c.self.inside.guide;
      counts = c.self.inside.budget;
    } in
    let ready : IsReady g.S.Search.meaning n made old =
    subst (λ (s : SessionState g.row.S-Action.Denot g.row.H.Denot g.row.W.Denot). IsReady g.S.Search.meaning n made s)
    (sym c.self.view_is) c.requires.ready in
    let back = as_before n cells c.is_terrain.ensures.law w c.change.new.world c.change.ensures.others in
    record {
      made =
          subst (λ t. made c.rebuild.new.self c.change.new.world t) (sym c.in_ok-change.ensures.same_goal)
          (c.rebuild.ensures.made (cells.map w) old.search.goal
          (subst (λ u. made old.guide u old.search.goal) (sym back) ready.made));
      labels = c.in_ok-change.ensures.ready old.counts.run ready.labels;
      fresh = c.in_ok-change.ensures.fresh;
    }
