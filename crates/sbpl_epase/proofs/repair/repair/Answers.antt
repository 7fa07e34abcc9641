use Rattle.std.proofs.Common.{ℕ, ◌<◌, List, ⊎_elim, arith, sym, ◌∙◌, subst}
use Rattle.std.specs.List.{All, Contains}
use Rattle.sbpl_adstar.specs.sbpl_labels.Marks.{states_of}
use Rattle.sbpl_adstar.specs.sbpl_serial.Run.{IsOver}
use Rattle.sbpl_epase.proofs.repair.repair.Goals as goal

pub note_over-requires-clause-same_states : goal.note_over-requires-clause-same_states
note_over-requires-clause-same_states g c =
    c.requires.over.states ∙ sym (c.raise_touched.ensures.raised.states ∙ c.change_labels.ensures.repaired.repaired.same_states)

pub note_over-requires-clause-inside : goal.note_over-requires-clause-inside
note_over-requires-clause-inside g c =
    λ k d within.
    omega (
      arith,
      c.requires.changeable.inside k d within,
      c.raise_touched.ensures.raised.states,
      c.change_labels.ensures.repaired.repaired.same_states,
    )

pub note_over-requires-2-clause-same_states : goal.note_over-requires-2-clause-same_states
note_over-requires-2-clause-same_states g c =
    c.note_over.ensures.states ∙ c.requires.over.states
    ∙ sym (c.raise_touched.ensures.raised.states ∙ c.change_labels.ensures.repaired.repaired.same_states)

pub note_over-requires-2-clause-inside : goal.note_over-requires-2-clause-inside
note_over-requires-2-clause-inside g c =
    let new = c.raise_touched.new.labels in
    let inside : All (λ (s : ℕ). s < states_of new) c.raise_touched.new.self.raised =
    λ k d within. omega (arith, c.raise_touched.ensures.raised.inside k d within, c.raise_touched.ensures.raised.states) in
    subst (λ (l : List ℕ). All (λ (s : ℕ). s < states_of new) l) (sym c.raised.ensures.value) inside

-- an overconsistent state was one before, or is noted now
pub returns-clause-over : goal.returns-clause-over
returns-clause-over g c =
    let old = c.args.labels.now in
    let mid = c.change_labels.new.labels in
    record {
      states =
          c.note_over-2.ensures.states ∙ c.note_over.ensures.states ∙ c.requires.over.states
          ∙ sym (c.raise_touched.ensures.raised.states ∙ c.change_labels.ensures.repaired.repaired.same_states);
      over = λ s inside over.
          ⊎_elim
          (λ (before : IsOver mid s).
          c.note_over-2.ensures.kept s
          (⊎_elim
          (λ (was : IsOver old s).
          c.note_over.ensures.kept s (c.requires.over.over s
          (omega (arith, inside, c.raise_touched.ensures.raised.states, c.change_labels.ensures.repaired.repaired.same_states))
          was))
          (λ (touched : Contains c.args.touched.now s). c.note_over.ensures.noted s touched over)
          (c.change_labels.ensures.over s before)))
          (λ (raised : Contains c.raise_touched.new.self.raised s).
          c.note_over-2.ensures.noted s (rw c.raised.ensures.value raised) over)
          (c.raise_touched.ensures.raised.over s over);
    }
