use Rattle.std.proofs.Common.{ap, sym, ◌∙◌, subst, vec_capacity}
use Rattle.sbpl_heur.specs.Boards.{IsBoard}
use Rattle.sbpl_heur.proofs.cells.Cells.renew.Goals as goal

pub invariant_of-self : goal.invariant_of-self
invariant_of-self c =
    let e = c.args.env.now in
    let costs = c.args.costs.now in
    let room = sym (ap (λ z. z.room) c.self.view_is) in
    let one =
    subst (λ n. IsBoard (record { env = e; costs = costs; hops = c.args.hops.now; room = n }))
    (room ∙ sym c.copy_hops.ensures.room) c.requires.board in
    let two =
    subst (λ l. IsBoard (record { env = e; costs = costs; hops = l; room = vec_capacity c.copy_hops.new.into }))
    (sym c.copy_hops.ensures.items) one in
    subst (λ l. IsBoard (record {
      env = e;
      costs = l;
      hops = c.copy_hops.new.into.items;
      room = vec_capacity c.copy_hops.new.into;
    })) (sym c.copy_from_slice.ensures.items) two
