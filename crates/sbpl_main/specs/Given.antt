-- The program's words, as the system hands them over.
use Rattle.std.specs.Prelude.{◌≡◌, ℕ, Bool, false, Option, List, [], drop, map, string_bytes, Result, Ok, Err, String, Vec}
use Rattle.std.specs.Io.KnownBytes.{Keeps}
use Rattle.sbpl_cli.specs.sbpl_promises.Explained.{has_message}
use Rattle.sbpl_cli.specs.sbpl_promises.Run.{job_of}

-- the words after the program's name, which is the first; none where the system handed over none that are text
abbrev pub words_given : {Z Y E : Type 0} → Result (Vec (String Z) Y) E → List (List ℕ)
words_given (Ok words) = map string_bytes (drop 1 words.items)
words_given (Err _) = []

-- at no terminal nothing is written to standard error, where the status has no message for the job that these words name
abbrev pub IsQuiet : (is_terminal : Bool) → (words : List (List ℕ)) → (status : ℕ) → (old new : Option (List ℕ)) → Type 0
IsQuiet is_terminal words status old new = is_terminal ≡ false → has_message (job_of words) status ≡ false → Keeps old new
