-- Numbers drawn from a word of 64 bits.
use Rattle.std.specs.Prelude.{ℕ, zero, suc, ◌+◌, ◌*◌, ◌/◌, ◌%◌, ◌^◌}

-- what a draw makes of the word
unfoldable pub next_word : ℕ → ℕ
next_word x = (x * 6364136223846793005 + 1442695040888963407) % 2 ^ 64

-- what a draw gives, of the word that it made: the upper 31 bits
unfoldable pub shown : ℕ → ℕ
shown x = x / 2 ^ 33

-- the word after n draws, from the word x
unfoldable pub word_after : ℕ → ℕ → ℕ
word_after zero x = x
word_after (suc n) x = next_word (word_after n x)

-- draw number n, counted from 0, from the word x
abbrev pub draw : ℕ → ℕ → ℕ
draw n x = shown (next_word (word_after n x))
