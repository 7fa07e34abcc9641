use Rattle.std.proofs.Common.{◌≡◌, ◌++◌, ◌∷◌, flat_map, drop}
use Rattle.sbpl_lists.proofs.line.push_words.Given as goal

-- what is written, and the words that are left, are what stood before and all words
abbrev pub invariant-loop-word : goal.invariant-loop-word
invariant-loop-word g l =
    l.out.items ++ flat_map (λ word. 32 ∷ g.W.Word.text word) (drop l.word-index l.words)
    ≡ l.fn.out.items ++ flat_map (λ word. 32 ∷ g.W.Word.text word) l.words
