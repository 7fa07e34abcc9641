-- The line of a path, part by part.
use Rattle.std.proofs.Common.{◌≡◌, ℕ, List, [], ◌∷◌, ◌++◌, length, map, refl, sym, ap, ◌∙◌, append_assoc, append-nil}
use Rattle.std.specs.Prelude.{decimal, codes}
use Rattle.std.specs.List.{flat_map}
use Rattle.sbpl_fixed.specs.Printed.{milli_text, line_text}
use Rattle.sbpl_cert.specs.declared.outcome.Outcome.TheVariants as outcome
use Rattle.sbpl_cert.specs.Printed.{outcome_line}

abbrev spaced : List ℕ → List ℕ
spaced ks = flat_map (λ k. 32 ∷ decimal k) ks

-- a word and numbers after it
numbers_line : (w ks : List ℕ) → line_text (w ∷ map decimal ks) ≡ w ++ (spaced ks ++ 10 ∷ [])
unfolding line_text
numbers_line w [] = refl
numbers_line w (k ∷ ks) =
    ap (λ (x : List ℕ). w ++ 32 ∷ x)
    (numbers_line (decimal k) ks ∙ sym (append_assoc (decimal k) (spaced ks) (10 ∷ [])))

path_line : (cost bound : ℕ) (arcs : List ℕ)
    → line_text (outcome_line (outcome.Path cost bound) arcs)
    ≡ codes "path "
    ++ (decimal cost ++ (32 ∷ (milli_text bound ++ (32 ∷ (decimal (length arcs) ++ (spaced arcs ++ 10 ∷ []))))))
unfolding line_text
path_line cost bound arcs =
    ap (λ (x : List ℕ). codes "path " ++ (decimal cost ++ (32 ∷ (milli_text bound ++ (32 ∷ x)))))
    (numbers_line (decimal (length arcs)) arcs)

-- what stands before the arcs, the arcs, and a line feed
pub path_grows : {a b c : List ℕ} (cost bound : ℕ) (arcs old : List ℕ)
    → a ≡ old ++ (codes "path " ++ (decimal cost ++ (codes " " ++ (milli_text bound ++ (codes " "
    ++ (decimal (length arcs) ++ []))))))
    → b ≡ a ++ spaced arcs → c ≡ b ++ 10 ∷ []
    → c ≡ old ++ line_text (outcome_line (outcome.Path cost bound) arcs)
path_grows cost bound arcs old one two three =
    rw (three, two, one, path_line cost bound arcs) (simp (append_assoc, append-nil))
