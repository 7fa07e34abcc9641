use Rattle.std.proofs.Common.{ℕ, ◌⊎◌, inl, inr, arith}
use Rattle.std.proofs.lemmas.Result.{on_ok_weaker}
use Rattle.sbpl_nav2d.specs.Adding.{ReadsAs}
use Rattle.sbpl_nav2d.specs.Grids.{network_of}
use Rattle.sbpl_nav2d.proofs.Adding.{pushed, adds_both, not_both}
use Rattle.sbpl_nav2d.proofs.reading.push_pair.Goals as goal

pub returns-clause-added : goal.returns-clause-added
returns-clause-added c =
    let w = c.args.nav.now in
    let This : ℕ → ℕ → Type 0 = λ s n. ReadsAs w c.args.k c.args.this c.args.cell s n in
    let That : ℕ → ℕ → Type 0 = λ s n. ReadsAs w c.args.k c.args.that c.args.cell s n in
    let first = pushed c.args.end w c.args.k c.args.this c.args.cell c.end_reading.result c.args.into.now.items
    c.push_some.new.states.items c.end_reading.ensures.state c.end_reading.ensures.no_state
    c.in_ok-push_some.ensures.added in
    on_ok_weaker c.push_some-2.result (λ kept.
    let second =
    pushed c.args.end w c.args.k c.args.that c.args.cell c.end_reading-2.result c.push_some.new.states.items
    c.push_some-2.new.states.items c.end_reading-2.ensures.state c.end_reading-2.ensures.no_state kept in
    adds_both c.args.end (network_of w) This That
    (λ s n. This s n ⊎ That s n)
    c.args.into.now.items c.push_some.new.states.items c.push_some-2.new.states.items 1 1 2 first second
    (not_both w c.args.k c.args.this c.args.that c.args.cell c.requires.apart)
    (λ s n h. inl h) (λ s n h. inr h) (λ s n t arc h. h) (omega arith)) c.push_some-2.ensures.added
