-- Texts that are appended one after the other.
use Rattle.std.proofs.Common.{◌≡◌, ℕ, List, [], ◌∷◌, ◌++◌, refl, append_assoc}
use Rattle.sbpl_fixed.specs.Printed.{lines_text}

pub after_two : (a x y : List ℕ) {b c : List ℕ} → b ≡ a ++ x → c ≡ b ++ y → c ≡ a ++ (x ++ y)
after_two a x y p q = rw (q, p) (append_assoc a x y)

pub lines_text-append : (ls ms : List (List (List ℕ))) → lines_text (ls ++ ms) ≡ lines_text ls ++ lines_text ms
lines_text-append [] ms = refl
lines_text-append (l ∷ ls) ms = rw (lines_text-append ls ms) (simp append_assoc)
