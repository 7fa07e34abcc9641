use Rattle.std.proofs.Common.{◌≡◌, ℕ, ◌<◌, ◌≤◌, ◌^◌, List, length, slice_index, arith, sym, ◌∙◌, ap, subst}
use Rattle.std.proofs.lemmas.List.{get_or_default}
use Rattle.sbpl_ara.specs.sbpl_labels.Marks.{states_of}
use Rattle.sbpl_ara.specs.sbpl_serial.Run.{IsUnder, RaisesState}
use Rattle.sbpl_adstar.specs.Listed.{AddsBecome}
use Rattle.sbpl_adstar.specs.Raised.{Raising}
use Rattle.sbpl_adstar.proofs.Listing.{all_by}
use Rattle.sbpl_adstar.proofs.Occurrences.{few}
use Rattle.sbpl_adstar.proofs.Raising.{IsTurn, all_raised, none_under, turn_fresh, turn_more, turn_none}
use Rattle.sbpl_adstar.proofs.raiser.Raiser.raise_listed.Goals as goal

pub raises-init : goal.raises-init
raises-init g c =
    let n = g.G.Graph.network c.args.graph.now in
    let m = c.args.labels.now in
    let here : c.args.self.now.raised ≡ c.self.inside.raised.items = ap (λ (r : Raising). r.raised) (sym c.self.view_is) in
    record {
      turn =
          subst (λ (l : List ℕ). IsTurn n m m l 0) here
          (turn_none n m c.args.self.now.raised c.requires.listed c.requires.under c.requires.upwards);
      usable = λ count usable. usable;
      room = ap (λ (r : Raising). r.room) c.self.view_is;
    }

pub raise-requires-clause-room : goal.raise-requires-clause-room
raise-requires-clause-room g c = omega (arith, c.requires.room, c.raises.invariant.room, c.raises.invariant.turn.states)

pub raise-requires-clause-usable : goal.raise-requires-clause-usable
raise-requires-clause-usable g c = c.raises.invariant.usable (2 ^ 30) c.requires.usable

pub raise-requires-clause-state : goal.raise-requires-clause-state
raise-requires-clause-state g c =
    let here = c.raises.invariant.turn in
    let before : c.raises.next < length c.raises.self-inside.raised.items =
    omega (arith, c.raises-test.true, c.len.ensures, c.raises.self-inside.raised.ok.0) in
    here.listed.inside c.index-s.result.now (c.raises.next, before, sym c.index-s.ensures)

pub raise-requires-clause-under : goal.raise-requires-clause-under
raise-requires-clause-under g c =
    let here = c.raises.invariant.turn in
    let items = c.raises.self-inside.raised.items in
    let before : c.raises.next < length items =
    omega (arith, c.raises-test.true, c.len.ensures, c.raises.self-inside.raised.ok.0) in
    let own : slice_index items c.raises.next ≡ c.index-s.result.now =
    get_or_default items c.raises.next 0 c.index-s.result.now before ∙ sym c.index-s.ensures in
    subst (IsUnder c.raises.labels) own (here.waiting c.raises.next (omega arith) before)

pub raise-requires-clause-listed : goal.raise-requires-clause-listed
raise-requires-clause-listed g c = c.raises.invariant.turn.listed

pub raises-smaller : goal.raises-smaller
raises-smaller g c =
    let listed = c.raises.invariant.turn.listed in
    let most = few c.raises.self-inside.raised.items _ listed.inside listed.once in
    omega (
      arith,
      most,
      c.raises.invariant.turn.states,
      c.raises-test.true,
      c.len.ensures,
      c.raises.self-inside.raised.ok.0,
    )

pub raises-preserved : goal.raises-preserved
raises-preserved g c =
    let n = g.G.Graph.network c.args.graph.now in
    let here = c.raises.invariant.turn in
    let items = c.raises.self-inside.raised.items in
    let before : c.raises.next < length items =
    omega (arith, c.raises-test.true, c.len.ensures, c.raises.self-inside.raised.ok.0) in
    let own : c.index-s.result.now ≡ slice_index items c.raises.next =
    c.index-s.ensures ∙ sym (get_or_default items c.raises.next 0 c.index-s.result.now before) in
    let step : RaisesState n c.raises.labels c.raise.new.labels (slice_index items c.raises.next) =
    subst (λ (s : ℕ). RaisesState n c.raises.labels c.raise.new.labels s) own c.raise.ensures.raised in
    let added : AddsBecome c.raises.labels c.raise.new.labels (slice_index items c.raises.next) items
    c.raise.new.list.items =
    subst (λ (s : ℕ). AddsBecome c.raises.labels c.raise.new.labels s items c.raise.new.list.items) own
    c.raise.ensures.added in
    record {
      turn =
          turn_more c.raises.next here before step c.raise.ensures.listed
          (λ t other under. c.raise.ensures.others t (λ e. other (e ∙ own)) under) added
          c.raise.ensures.grown (c.raises.invariant.usable (2 ^ 30) c.requires.usable).exact.from_start;
      usable = λ count usable. c.raise.ensures.usable count (c.raises.invariant.usable count usable);
      room = c.raise.ensures.room ∙ c.raises.invariant.room;
    }

pub returns-clause-raised : goal.returns-clause-raised
returns-clause-raised g c =
    let here = c.raises.invariant.turn in
    let all : length c.raises.self-inside.raised.items ≤ c.raises.next =
    omega (arith, c.raises-test.false, c.len.ensures, c.raises.self-inside.raised.ok.0) in
    let usable = c.raises.invariant.usable (2 ^ 30) c.requires.usable in
    let none = none_under c.raises.next c.start-start.ensures.labels here all in
    record {
      by_raising = record {
        waiting = here.first;
        first = here.at_first;
        in_turn = all_raised c.raises.next here all;
        once = here.listed.once;
        none_under = none;
        exact = usable.exact;
      };
      ready = λ count before.
          let now = c.raises.invariant.usable count before in
          record {
            states = now.states;
            exact = now.exact;
            none_under = rw (← now.states) none;
            fits = now.fits;
          };
      over = here.over;
      inside =
          all_by (λ (s : ℕ). s < states_of c.args.labels.now) c.raises.self-inside.raised.items
          (λ s among. omega (arith, here.listed.inside s among, here.states));
      fresh = turn_fresh c.raises.next here;
      start = here.start;
      states = here.states;
    }

pub returns-clause-room : goal.returns-clause-room
returns-clause-room g c = c.raises.invariant.room
