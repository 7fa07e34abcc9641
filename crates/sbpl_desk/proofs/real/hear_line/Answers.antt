use Rattle.std.proofs.Common.{◌≡◌, [], rules, refl, take, subst, arith}
use Rattle.std.specs.Io.KnownBytes.{IsAtEnd, prepend_known}
use Rattle.sbpl_desk.specs.Hearing.{HasNoFeed, IsFeedAt}
use Rattle.sbpl_desk.proofs.Hearing.{gives_last, gives_line, goes_on, still_none}
use Rattle.sbpl_desk.proofs.real.hear_line.Goals as goal

pub returns-in-Some-clause-line : goal.returns-in-Some-clause-line
returns-in-Some-clause-line g c = λ _.
    let there : IsFeedAt c.loop.coming.items c.in-Some.at =
    subst (λ l. IsFeedAt l c.in-Some.at) c.deref.ensures.value c.in-Some.ensures in
    gives_line (prepend_known c.args.coming.now.items (g.F.Read.remaining c.args.input.now))
    (g.F.Read.remaining c.loop.input) c.loop.coming.items c.take_line.new.coming.items c.take_line.new.into.items
    c.in-Some.at c.loop.invariant there c.in_ok-take_line.ensures.line c.in_ok-take_line.ensures.rest

pub returns-then-branch-eq0-clause-line : goal.returns-then-branch-eq0-clause-line
returns-then-branch-eq0-clause-line g c = λ _.
    let before = prepend_known c.args.coming.now.items (g.F.Read.remaining c.args.input.now) in
    let known = g.F.Read.remaining c.read_piece.new.file in
    let coming = c.loop.coming.items in
    let joined = c.read_piece.new.into.items in
    let piece = take c.in_ok-read_piece.field-0 c.read_piece.new.piece in
    let none : HasNoFeed coming = subst HasNoFeed c.deref.ensures.value c.in_default.ensures in
    let nothing : piece ≡ [] = rw c.if-branch-eq0.true refl in
    let still : HasNoFeed joined = still_none coming c.truncate.new.self.items joined piece none c.truncate.ensures.items
    c.in_ok-read_piece.ensures.appended nothing in
    let alike = goes_on before (g.F.Read.remaining c.loop.input) known coming c.truncate.new.self.items joined piece none
    c.truncate.ensures.items c.in_ok-read_piece.ensures.appended c.in_ok-read_piece.ensures.consumed c.loop.invariant in
    let end : IsAtEnd known = c.in_ok-read_piece.ensures.end c.if-branch-eq0.true (search rules) in
    gives_last before known joined c.take_line-then-branch-eq0.new.coming.items
    c.take_line-then-branch-eq0.new.into.items c.len-end.result alike end still (search rules) (omega arith)
    c.in_ok-take_line-2.ensures.line c.in_ok-take_line-2.ensures.rest

pub loop-preserved : goal.loop-preserved
loop-preserved g c =
    let none : HasNoFeed c.loop.coming.items = subst HasNoFeed c.deref.ensures.value c.in_default.ensures in
    goes_on (prepend_known c.args.coming.now.items (g.F.Read.remaining c.args.input.now))
    (g.F.Read.remaining c.loop.input) (g.F.Read.remaining c.read_piece.new.file) c.loop.coming.items
    c.truncate.new.self.items c.read_piece.new.into.items (take c.in_ok-read_piece.field-0 c.read_piece.new.piece) none
    c.truncate.ensures.items c.in_ok-read_piece.ensures.appended c.in_ok-read_piece.ensures.consumed c.loop.invariant
