-- The start and the goal that words give are what the words say.
use Rattle.std.proofs.Common.{◌≡◌, ◌&&◌, ◌/◌, ℕ, ℤ, pos, negsuc, nat_lt, List, [], ◌∷◌, Option, Some, None, IfSome}
use Rattle.std.proofs.Common.{option_map, unwrap_or, Result, Ok, Err, refl, sym, ap, subst, ◌∙◌}
use Rattle.std.specs.Prelude.{int_le, option_and_then}
use Rattle.std.specs.List.{AllZip, slice_split}
use Rattle.std.specs.Option.{option_map_or}
use Rattle.std.proofs.lemmas.Nat.{div-mul-add, mod-mul-add}
use Rattle.std.proofs.lemmas.Option.{cond_some, none-some, same_Some}
use Rattle.sbpl_promises.specs.sbpl_cfg.declared.pose.Pose.{Pose}
use Rattle.sbpl_promises.specs.sbpl_fixed.Numbers.{nano_of, whole_of}
use Rattle.sbpl_promises.specs.sbpl_fixed.declared.fault.NumFault.{NumFault}
use Rattle.sbpl_promises.specs.sbpl_job.Jobs.{coordinate_in, index_in, is_comma, pose_by, pose_in, square_by, square_in}
use Rattle.sbpl_promises.specs.sbpl_job.declared.job.Square as given
use Rattle.sbpl_promises.specs.sbpl_nav2d.Environment.{NavEnvironment}
use Rattle.sbpl_promises.specs.Texts.{IsSquareOn, square_state}
use Rattle.sbpl_headline.specs.Files.{IsGiven, Means, Said, nano, number, said_pose}
use Rattle.sbpl_headline.specs.Grid.{Square, said_square}
use Rattle.sbpl_headline.proofs.Numbering.{nano_says, whole_says}
use Rattle.sbpl_headline.proofs.Told.{square_of}

-- ---- poses

coordinate_read : (read : Result ℤ NumFault) (z : ℤ) → coordinate_in read ≡ Some z → read ≡ Ok z
coordinate_read (Ok y) z h =
    ap (λ (x : ℤ). Ok x)
    (cond_some (int_le (negsuc 999999999999999999) y && int_le y (pos 1000000000000000000)) y z h).1
coordinate_read (Err fault) z h = absurd (none-some z h)

-- three numbers that are read are those of the pose
three : (x y theta : Option ℤ) (p : Pose)
    → option_and_then (λ a. option_and_then (λ b. option_map (λ c. record { x = a; y = b; theta = c }) theta) y) x ≡ Some p
    → (x ≡ Some p.x) × (y ≡ Some p.y) × (theta ≡ Some p.theta)
three None y theta p h = absurd (none-some p h)
three (Some a) None theta p h = absurd (none-some p h)
three (Some a) (Some b) None p h = absurd (none-some p h)
three (Some a) (Some b) (Some c) p h =
    let same : ◌≡◌ {A = Pose} (record { x = a; y = b; theta = c }) p = same_Some _ p h in
    (ap (λ (q : Pose). Some q.x) same, ap (λ (q : Pose). Some q.y) same, ap (λ (q : Pose). Some q.theta) same)

-- so parts that say a pose say its numbers
pose_said : (parts : List (List ℕ)) (p : Pose) → pose_in parts ≡ Some p → AllZip Means (said_pose p) parts
pose_said [] p h = absurd (none-some p h)
pose_said (x ∷ []) p h = absurd (none-some p h)
pose_said (x ∷ y ∷ []) p h = absurd (none-some p h)
pose_said (x ∷ y ∷ theta ∷ []) p h =
    let each = three (coordinate_in (nano_of x)) (coordinate_in (nano_of y)) (coordinate_in (nano_of theta)) p h in (
      nano_says x p.x (coordinate_read (nano_of x) p.x each.0),
      (
        nano_says y p.y (coordinate_read (nano_of y) p.y each.1),
        (nano_says theta p.theta (coordinate_read (nano_of theta) p.theta each.2), tt),
      ),
    )
pose_said (x ∷ y ∷ theta ∷ more ∷ rest) p h = absurd (none-some p h)

-- what was read in place of a file's value is there
some_read : {P : Type 0} (read end : Option P) → option_map Some read ≡ Some end
    → (p : P) × (read ≡ Some p) × (end ≡ Some p)
some_read {P} None end h = absurd (none-some end h)
some_read {P} (Some p) end h = (p, refl, sym (same_Some {A = Option P} (Some p) end h))

-- the pose in a file's place is what its word says, and where there is no word it is the file's
pub pose_given : (word : Option (List ℕ)) (own : Pose) (end : Option Pose) → pose_by word ≡ Some end
    → IsGiven said_pose word own (unwrap_or end own)
pose_given None own end h =
    subst (λ (o : Option Pose). unwrap_or o own ≡ own) (same_Some {A = Option Pose} None end h) refl
pose_given (Some w) own end h =
    let found = some_read (pose_in (slice_split is_comma w)) end h in
    subst (λ (o : Option Pose). AllZip Means (said_pose (unwrap_or o own)) (slice_split is_comma w)) (sym found.2)
    (pose_said (slice_split is_comma w) found.0 found.1)

-- ---- squares

index_read : (states : ℕ) (read : Result ℤ NumFault) (n : ℕ) → index_in states read ≡ Some n → read ≡ Ok (pos n)
index_read states (Ok (pos k)) n h = ap (λ (m : ℕ). Ok (pos m)) (cond_some (nat_lt k states) k n h).1
index_read states (Ok (negsuc k)) n h = absurd (none-some n h)
index_read states (Err fault) n h = absurd (none-some n h)

two : (x y : Option ℕ) (c : given.Square)
    → option_and_then (λ a. option_map (λ b. record { x = a; y = b }) y) x ≡ Some c → (x ≡ Some c.x) × (y ≡ Some c.y)
two None y c h = absurd (none-some c h)
two (Some a) None c h = absurd (none-some c h)
two (Some a) (Some b) c h =
    let same : ◌≡◌ {A = given.Square} (record { x = a; y = b }) c = same_Some _ c h in
    (ap (λ (q : given.Square). Some q.x) same, ap (λ (q : given.Square). Some q.y) same)

square_said : (states : ℕ) (parts : List (List ℕ)) (c : given.Square) → square_in states parts ≡ Some c
    → AllZip Means (number (pos c.x) ∷ number (pos c.y) ∷ []) parts
square_said states [] c h = absurd (none-some c h)
square_said states (x ∷ []) c h = absurd (none-some c h)
square_said states (x ∷ y ∷ []) c h =
    let each = two (index_in states (whole_of x)) (index_in states (whole_of y)) c h in (
      whole_says x (pos c.x) (index_read states (whole_of x) c.x each.0),
      (whole_says y (pos c.y) (index_read states (whole_of y) c.y each.1), tt),
    )
square_said states (x ∷ y ∷ more ∷ rest) c h = absurd (none-some c h)

-- the square of the state of a cell on the map is that cell
square_back : (e : NavEnvironment) (c : given.Square) → IsSquareOn e c
    → square_of e.width (square_state e.width c) ≡ record { x = c.x; y = c.y }
square_back e c on =
    let by_x : ℕ → Square = λ x. record { x = x; y = square_state e.width c / e.width } in
    let by_y : ℕ → Square = λ y. record { x = c.x; y = y } in
    ap by_x (mod-mul-add c.y e.width c.x on.0) ∙ ap by_y (div-mul-add c.y e.width c.x on.0)

-- the square in a file's place is what its word says, and where there is no word it is the file's
pub square_given : (e : NavEnvironment) (states : ℕ) (word : Option (List ℕ)) (own : ℕ) (end : Option given.Square)
    → IfSome end (IsSquareOn e) → square_by states word ≡ Some end
    → IsGiven said_square word (square_of e.width own) (square_of e.width (option_map_or (square_state e.width) end own))
square_given e states None own end on h =
    subst (λ (o : Option given.Square). square_of e.width (option_map_or (square_state e.width) o own) ≡ square_of e.width own)
    (same_Some {A = Option given.Square} None end h) refl
square_given e states (Some w) own end on h =
    let found = some_read (square_in states (slice_split is_comma w)) end h in
    let there : IsSquareOn e found.0 = subst (λ (o : Option given.Square). IfSome o (IsSquareOn e)) found.2 on in
    subst (λ (o : Option given.Square). AllZip Means (said_square (square_of e.width (option_map_or (square_state e.width) o
    own))) (slice_split is_comma w)) (sym found.2)
    (subst (λ (c : Square). AllZip Means (said_square c) (slice_split is_comma w)) (sym (square_back e found.0 there))
    (square_said states (slice_split is_comma w) found.0 found.1))
