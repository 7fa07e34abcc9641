-- Taking a list in parts, the first elements first.
use Rattle.std.proofs.Common.{◌≡◌, ℕ, ◌-◌, List, ◌++◌, length, take, drop, sym, ap, ◌∙◌, append_assoc, take-append-drop}
use Rattle.std.proofs.lemmas.List.{take_rest}

-- n more of the elements that are left become done
pub more_done : (all done left : List ℕ) (n : ℕ) → all ≡ done ++ left
    → all ≡ (done ++ take n left) ++ take (length left - n) (drop n left)
more_done all done left n split =
    split
    ∙ ap (λ xs. done ++ xs) (sym (take-append-drop n left))
    ∙ sym (append_assoc done (take n left) (drop n left))
    ∙ ap (λ xs. (done ++ take n left) ++ xs) (sym (take_rest left n))
