-- The faults that a format names are its own: one that it never names, such as running out of memory, is none of them.
use Rattle.std.proofs.Common.{ℕ, zero, suc, ℤ, Bool, true, false, List, [], ◌∷◌, inl, inr, subst, sym}
use Rattle.std.specs.Prelude.{◌≢◌, if◌then◌else◌}
use Rattle.sbpl_fixed.specs.Formats.{Format, Item, missed, item, ended, wrong, done, and_then, turns, IsFaulty}
use Rattle.sbpl_fixed.specs.Tokens.{Piece}
use Rattle.sbpl_fixed.specs.declared.fault.TextFault.{TextFault}
use Rattle.sbpl_fixed.specs.declared.fault.TextFault.TheVariants as common

-- no fault of the format's own is this one
unfoldable pub Spares : {F A : Type 0} → F → Format F A → Type 0
Spares none (item i more) = (place : ℕ) (v : ℤ) → Spares none (more place v)
Spares none (ended f) = Spares none f
Spares none (wrong e) = e ≢ none
Spares none (done x) = Unit {0}

module _ {F : Type 0} (none : F) where
  pub spared : {A : Type 0} (told : TextFault → F) (f : Format F A) (end : ℕ) (ts : List Piece) (e : F) → ((t : TextFault) → told t ≢ none) → Spares none f → IsFaulty told f end ts e → e ≢ none
  unfolding Spares IsFaulty
  spared told (item i more) end [] e other s h = subst (λ (d : F). d ≢ none) (sym h) (other (common.Ended end))
  spared told (item i more) end (t ∷ ts) e other s h = elim h [
    | inl w ↦ subst (λ (d : F). d ≢ none) (sym w.2) (other (missed w.0 t.place))
    | inr w ↦ spared told (more t.place w.0) end ts e other (s t.place w.0) w.2
  ]
  spared told (ended f) end [] e other s h = spared told f end [] e other s h
  spared told (ended f) end (t ∷ ts) e other s h = subst (λ (d : F). d ≢ none) (sym h) (other (common.Trailing t.place))
  spared told (wrong d) end ts e other s h = subst (λ (c : F). c ≢ none) (sym h) s
  spared told (done x) end ts e other s h = absurd h

  pub done_spares : {A : Type 0} (x : A) → Spares none (done x)
  unfolding Spares
  done_spares x = tt

  pub item_spares : {A : Type 0} (i : Item) (more : ℕ → ℤ → Format F A) → ((place : ℕ) (v : ℤ) → Spares none (more place v)) → Spares none (item i more)
  unfolding Spares
  item_spares i more k = k

  pub and_then_spares : {A B : Type 0} (f : Format F A) (more : A → Format F B) → Spares none f → ((x : A) → Spares none (more x)) → Spares none (and_then f more)
  unfolding Spares and_then
  and_then_spares (item i next) more s k = λ place v. and_then_spares (next place v) more (s place v) k
  and_then_spares (ended f) more s k = and_then_spares f more s k
  and_then_spares (wrong e) more s k = s
  and_then_spares (done x) more s k = k x

  pub turns_spare : {S : Type 0} (n : ℕ) (step : S → Format F S) (s : S) → ((x : S) → Spares none (step x)) → Spares none (turns n step s)
  unfolding Spares turns
  turns_spare zero step s k = tt
  turns_spare (suc n) step s k = and_then_spares (step s) (turns n step) (k s) (λ x. turns_spare n step x k)

  pub either_spares : {A : Type 0} (b : Bool) (f g : Format F A) → Spares none f → Spares none g → Spares none (if b then f else g)
  either_spares true f g s k = s
  either_spares false f g s k = k

  pub wrong_spares : {A : Type 0} (b : Bool) (e : F) (f : Format F A) → e ≢ none → Spares none f → Spares none (if b then wrong e else f)
  unfolding Spares
  wrong_spares true e f n s = n
  wrong_spares false e f n s = s

  pub right_spares : {A : Type 0} (b : Bool) (e : F) (f : Format F A) → e ≢ none → Spares none f → Spares none (if b then f else wrong e)
  unfolding Spares
  right_spares true e f n s = s
  right_spares false e f n s = n
