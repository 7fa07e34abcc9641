-- What a run leaves of the start.
use Rattle.std.proofs.Common.{◌≡◌, ℕ, ◌⊎◌, Bool, true, false, MatchBool, List, [], ◌∷◌, refl, sym, ◌∙◌, subst, inl, inr}
use Rattle.std.proofs.lemmas.Bool.{cases_eq}
use Rattle.sbpl_search.specs.sbpl_graph.declared.TheConstants.{FAR}
use Rattle.sbpl_search.specs.sbpl_graph.Network.{Network}
use Rattle.sbpl_search.specs.sbpl_labels.Marks.{Marks, g_of, v_of}
use Rattle.sbpl_search.specs.Query.{Query}
use Rattle.sbpl_search.specs.Ready.{IsStartFresh}
use Rattle.sbpl_serial.specs.declared.step.Step.{Step}
use Rattle.sbpl_serial.specs.Run.{IsSerialRun, LowersHeads, RaisesState, closed_with}

-- g of the start is 0, and its v is infinite or 0
pub record StartsFresh (m : Marks) : Type 0 where
  pub zero : g_of m m.start ≡ 0
  pub fresh : IsStartFresh m

-- v of a state after a step: as before, or g of it, or infinite
lowered_start : (n : Network) (old new : Marks) (s : ℕ) → LowersHeads n old new s → StartsFresh old → StartsFresh new
lowered_start n old new s step so =
    let zero : g_of new new.start ≡ 0 =
    subst (λ (x : ℕ). g_of new x ≡ 0) (sym step.same_start) (step.start_g ∙ so.zero) in
    record {
      zero = zero;
      fresh = elim (cases_eq old.start s) [
        | inl is ↦
            inr (subst (λ (x : ℕ). v_of new x ≡ 0) (sym is ∙ sym step.same_start)
            (step.settled ∙ subst (λ (x : ℕ). g_of old x ≡ 0) is so.zero))
        | inr other ↦
            subst (λ (x : ℕ). (v_of new x ≡ FAR) ⊎ (v_of new x ≡ 0)) (sym step.same_start)
            (subst (λ (x : ℕ). (x ≡ FAR) ⊎ (x ≡ 0)) (sym (step.other_v old.start other)) so.fresh)
      ];
    }

raised_start : (n : Network) (old new : Marks) (s : ℕ) → RaisesState n old new s → StartsFresh old → StartsFresh new
raised_start n old new s step so =
    let zero : g_of new new.start ≡ 0 =
    subst (λ (x : ℕ). g_of new x ≡ 0) (sym step.same_start)
    (step.other_g old.start (λ other. absurd (other refl)) ∙ so.zero) in
    record {
      zero = zero;
      fresh = elim (cases_eq old.start s) [
        | inl is ↦ inl (subst (λ (x : ℕ). v_of new x ≡ FAR) (sym is ∙ sym step.same_start) step.raised)
        | inr other ↦
            subst (λ (x : ℕ). (v_of new x ≡ FAR) ⊎ (v_of new x ≡ 0)) (sym step.same_start)
            (subst (λ (x : ℕ). (x ≡ FAR) ⊎ (x ≡ 0)) (sym (step.other_v old.start other)) so.fresh)
      ];
    }

step_start : (n : Network) (old new : Marks) (s : ℕ) (raised : Bool)
    → MatchBool raised (RaisesState n old new s) (LowersHeads n old new s) → StartsFresh old → StartsFresh new
step_start n old new s true step so = raised_start n old new s step so
step_start n old new s false step so = lowered_start n old new s step so

-- a run keeps the start fresh
pub run_start : (q : Query) (closed : ℕ → Bool) (steps : List Step) (old new : Marks)
    → IsSerialRun q closed steps old new → StartsFresh old → StartsFresh new
run_start q closed [] old new same so = subst (λ (m : Marks). StartsFresh m) (sym same) so
run_start q closed (step ∷ rest) old new (w, next, one, run) so =
    run_start q (closed_with step closed) rest w new run (step_start q.network old w step.state step.raised one so)
