-- What a desk keeps over two calls it keeps over both.
use Rattle.std.proofs.Common.{ℕ, List, refl, ◌∙◌, arith}
use Rattle.sbpl_promises.specs.sbpl_desk.Desk.{NoneFalls}
use Rattle.sbpl_promises.specs.Writing.{DeskState, Names, ReadsOnly, WritesOnly}

none_falls_on : (f g h : List ℕ → ℕ) → NoneFalls f g → NoneFalls g h → NoneFalls f h
none_falls_on f g h p q name = let a = p name in let b = q name in omega arith

-- nothing was read, written or heard
pub same_state : (s : DeskState) → ReadsOnly s s
same_state s = record {
  held = λ name. refl;
  written = λ name. refl;
  reads = λ name. omega arith;
  writes = λ name. omega arith;
  heard = refl;
  over = refl;
}

-- where nothing is written, nothing is written under other names
pub no_writes : (U : Names) (s t : DeskState) → ReadsOnly s t → WritesOnly U s t
no_writes U s t p = record {
  held = p.held;
  others = λ name other. p.written name;
  reads = p.reads;
  writes = p.writes;
  heard = p.heard;
  over = p.over;
}

pub writes_on : (U : Names) (s t u : DeskState) → WritesOnly U s t → WritesOnly U t u → WritesOnly U s u
writes_on U s t u p q = record {
  held = λ name. q.held name ∙ p.held name;
  others = λ name other. q.others name other ∙ p.others name other;
  reads = none_falls_on _ _ _ p.reads q.reads;
  writes = none_falls_on _ _ _ p.writes q.writes;
  heard = q.heard ∙ p.heard;
  over = q.over ∙ p.over;
}

-- files were read, and then something was written
pub writes_after : (U : Names) (s t u : DeskState) → ReadsOnly s t → WritesOnly U t u → WritesOnly U s u
writes_after U s t u p q = writes_on U s t u (no_writes U s t p) q

-- some more names
pub writes_more : (U V : Names) (s t : DeskState) → ((name : List ℕ) → U name → V name)
    → WritesOnly U s t → WritesOnly V s t
writes_more U V s t on p = record {
  held = p.held;
  others = λ name other. p.others name (λ is. other (on name is));
  reads = p.reads;
  writes = p.writes;
  heard = p.heard;
  over = p.over;
}

pub nothing_done : (U : Names) (s : DeskState) → WritesOnly U s s
nothing_done U s = no_writes U s s (same_state s)
