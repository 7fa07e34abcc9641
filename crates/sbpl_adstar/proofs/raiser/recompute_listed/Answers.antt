use Rattle.std.proofs.Common.{Some, ◌∷◌, [], arith, refl}
use Rattle.std.proofs.lemmas.Bool.{false≢true}
use Rattle.std.proofs.lemmas.List.{length-append}
use Rattle.sbpl_ara.specs.sbpl_serial.Run.{IsUnder}
use Rattle.sbpl_adstar.proofs.Occurrences.{few}
use Rattle.sbpl_adstar.proofs.Raising.{listed_more, listed_still, returned_states, returns_head, stays_under}
use Rattle.sbpl_adstar.proofs.raiser.recompute_listed.Goals as goal
use Rattle.sbpl_adstar.proofs.raiser.recompute_listed.Goals.{else-not-was_under-via-then-not-was_under+else-is_under}
use Rattle.sbpl_adstar.proofs.raiser.recompute_listed.Goals.{else-not-was_under-via-else-not-was_under}

pub push_reserved-requires : goal.push_reserved-requires
push_reserved-requires g c =
    let n = g.G.Graph.network c.args.graph.now in
    let old = c.args.labels.now in
    let new = c.recompute.new.self in
    let t = c.in-Some.t in
    let returned =
    returns_head n old new c.args.s c.args.k t c.start-before.ensures.labels c.in-Some.ensures.value
    ((c.if-not-hangs_on.ensures).back.0 refl) c.recompute.ensures.recomputed in
    let before : IsUnder old t → ⊥ = λ under. false≢true ((c.if-not-was_under.ensures).under.1 under) in
    let now : IsUnder new t = (c.if-is_under.ensures).under.0 refl in
    let listed =
    listed_more n old new c.args.s c.args.k (Some t) returned (c.requires.grows new (Some t) returned) t returned.head
    c.args.list.now.items c.requires.listed
    c.start-after.ensures.labels (omega (arith, c.in-Some.ensures.inside, c.requires.states)) before now
    in
    let most = few _ _ listed.inside listed.once in
    omega (
      arith,
      most,
      c.args.list.now.ok.0,
      c.requires.room,
      returned_states n old new c.args.s c.args.k (Some t) returned,
      length-append c.args.list.now.items (t ∷ []),
    )

pub returns-then-is_under-clause-listed : goal.returns-then-is_under-clause-listed
returns-then-is_under-clause-listed g c =
    let n = g.G.Graph.network c.args.graph.now in
    let old = c.args.labels.now in
    let new = c.recompute.new.self in
    let t = c.in-Some.t in
    let returned =
    returns_head n old new c.args.s c.args.k t c.start-before.ensures.labels c.in-Some.ensures.value
    ((c.if-not-hangs_on.ensures).back.0 refl) c.recompute.ensures.recomputed in
    let before : IsUnder old t → ⊥ = λ under. false≢true ((c.if-not-was_under.ensures).under.1 under) in
    let now : IsUnder new t = (c.if-is_under.ensures).under.0 refl in
    rw c.push_reserved.ensures.items
    (listed_more n old new c.args.s c.args.k (Some t) returned (c.requires.grows new (Some t) returned) t returned.head
    c.args.list.now.items c.requires.listed
    c.start-after.ensures.labels (omega (arith, c.in-Some.ensures.inside, c.requires.states)) before now)

pub returns-else-not-was_under-clause-listed : goal.returns-else-not-was_under-clause-listed
returns-else-not-was_under-clause-listed g c =
    let n = g.G.Graph.network c.args.graph.now in
    let old = c.args.labels.now in
    let new = c.recompute.new.self in
    let t = c.in-Some.t in
    let returned =
    returns_head n old new c.args.s c.args.k t c.start-before.ensures.labels c.in-Some.ensures.value
    ((c.if-not-hangs_on.ensures).back.0 refl) c.recompute.ensures.recomputed in
    let as_before : IsUnder new t → IsUnder old t =
    elim c.else-not-was_under.branch [
      | else-not-was_under-via-then-not-was_under+else-is_under w ↦
          λ under. absurd (false≢true ((w.if-is_under.ensures).under.1 under))
      | else-not-was_under-via-else-not-was_under w ↦ λ _. (w.if-not-was_under.ensures).under.0 refl
    ]
    in
    listed_still n old new c.args.s c.args.k (Some t) returned (c.requires.grows new (Some t) returned) t returned.head
    c.args.list.now.items c.requires.listed as_before

pub returns-else-not-was_under-clause-grown : goal.returns-else-not-was_under-clause-grown
returns-else-not-was_under-clause-grown g c =
    let new = c.recompute.new.self in
    let t = c.in-Some.t in
    let returned =
    returns_head (g.G.Graph.network c.args.graph.now) c.args.labels.now new c.args.s c.args.k t
    c.start-before.ensures.labels c.in-Some.ensures.value ((c.if-not-hangs_on.ensures).back.0 refl)
    c.recompute.ensures.recomputed
    in
    c.requires.grows new (Some t) returned

pub returns-else-not-was_under-clause-stay : goal.returns-else-not-was_under-clause-stay
returns-else-not-was_under-clause-stay g c =
    let n = g.G.Graph.network c.args.graph.now in
    let old = c.args.labels.now in
    let new = c.recompute.new.self in
    let t = c.in-Some.t in
    let returned =
    returns_head n old new c.args.s c.args.k t c.start-before.ensures.labels c.in-Some.ensures.value
    ((c.if-not-hangs_on.ensures).back.0 refl) c.recompute.ensures.recomputed in
    stays_under n old new c.args.s c.args.k (Some t) returned (c.requires.grows new (Some t) returned)
