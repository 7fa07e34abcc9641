-- Texts that are appended one after the other.
use Rattle.std.proofs.Common.{◌≡◌, ℕ, ◌+◌, ◌/◌, ◌%◌, ◌<◌, ◌≤◌, List, [], ◌∷◌, ◌++◌, append_assoc, ap, sym}
use Rattle.std.proofs.Common.{◌∙◌, refl, arith}
use Rattle.std.specs.Prelude.{codes, decimal}
use Rattle.std.proofs.lemmas.Fmt.{decimal_digit, decimal_step}
use Rattle.sbpl_fixed.specs.Printed.{line_text, lines_text}
use Rattle.sbpl_demo.specs.Primitives.{head_lines}

-- a text grows by one more part
pub grown : {all out new : List ℕ} (old part more : List ℕ) → all ≡ part ++ more → out ≡ old ++ part
    → new ≡ out ++ more → new ≡ old ++ all
grown old part more parts is adds =
    adds ∙ ap (λ l. l ++ more) is ∙ append_assoc old part more ∙ ap (λ l. old ++ l) (sym parts)

-- numbers of one digit and of two
digit : (n : ℕ) → n < 10 → decimal n ≡ (48 + n) ∷ []
digit n h = decimal_digit n h

two_digits : (n : ℕ) → 10 ≤ n → n < 100 → decimal n ≡ (48 + n / 10) ∷ (48 + n % 10) ∷ []
two_digits n low high = rw (decimal_step n (omega arith) (omega arith), digit (n / 10) (omega arith)) refl

pub primitives_head : codes "resolution_m: 0.025000\nnumberofangles: 16\ntotalnumberofprimitives: 80\n"
    ≡ lines_text head_lines
unfolding line_text
primitives_head = rw (two_digits 16 (omega arith) (omega arith), two_digits 80 (omega arith) (omega arith)) refl
