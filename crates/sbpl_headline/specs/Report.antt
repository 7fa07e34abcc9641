-- The report, in plain words.
use Rattle.std.specs.Prelude.{ℕ, suc, List, [], ◌∷◌, ◌++◌, length, Option, Some, None, codes, decimal}
use Rattle.std.specs.List.{flat_map}
use Rattle.sbpl_promises.specs.sbpl_cfg.declared.pose.Place.{Place}
use Rattle.sbpl_promises.specs.sbpl_fixed.Printed.{line_text, point_text}
use Rattle.sbpl_headline.specs.Grid.{Square}
use Rattle.sbpl_headline.specs.Path.{Pass, Plan, Result, Path, NoPath, Unknown}

-- how a place is printed
abbrev pub pose_words : Place → List (List ℕ)
pose_words p = decimal p.x ∷ decimal p.y ∷ decimal p.t ∷ []

abbrev pub square_words : Square → List (List ℕ)
square_words c = decimal c.x ∷ decimal c.y ∷ []

abbrev pub result_text : {P : Type 0} → (P → List (List ℕ)) → (start : P) → Result P → List ℕ
result_text words start (Path cost bound steps) =
    line_text (codes "path" ∷ decimal (length steps) ∷ codes "cost" ∷ decimal cost ∷ codes "bound" ∷ point_text 3 bound ∷ [])
    ++ (line_text (codes "pose" ∷ words start) ++ flat_map (λ s. line_text (codes "step" ∷ decimal s.id ∷ words s.place)) steps)
result_text words start NoPath = codes "nopath\n"
result_text words start Unknown = codes "unknown\n"

abbrev pub pass_text : Pass → List ℕ
pass_text q = line_text (codes "pass" ∷ point_text 3 q.inflation ∷ codes "expanded" ∷ decimal q.expanded ∷ q.found)

abbrev pub spent_text : Option ℕ → List ℕ
spent_text None = []
spent_text (Some n) = line_text (codes "spent" ∷ decimal n ∷ [])

-- plans in turn, the first of which has this number, and the last line
abbrev pub report : {P : Type 0} → (P → List (List ℕ)) → (k : ℕ) → List (Plan P) → List ℕ
report words k [] = codes "done\n"
report words k (p ∷ ps) =
    line_text (codes "plan" ∷ decimal k ∷ []) ++ (flat_map pass_text p.passes
    ++ (spent_text p.spent ++ (result_text words p.start p.result ++ report words (suc k) ps)))
