use Rattle.std.proofs.Common.{ap, sym, ◌∙◌, Some}
use Rattle.sbpl_lists.proofs.ListLaws.{lies_at}
use Rattle.sbpl_lists.proofs.runs.Runs.at.Goals as goal

pub part-requires : goal.part-requires
part-requires g c =
    let there =
    lies_at c.self.inside.items.items c.self.inside.starts.items c.args.self.now c.args.i c.self.invariant
    c.self.view_is c.requires.number in
    rw (c.as_slice.ensures.value, c.as_slice-2.ensures.value)
    (record { next = there.next; rising = there.rising; inside = there.inside })

pub returns : goal.returns
returns g c =
    let there =
    lies_at c.self.inside.items.items c.self.inside.starts.items c.args.self.now c.args.i c.self.invariant
    c.self.view_is c.requires.number in
    let part = rw (c.as_slice.ensures.value, c.as_slice-2.ensures.value) at c.part.ensures.part in
    record { list = there.at ∙ ap (λ l. Some l) (sym part) }
