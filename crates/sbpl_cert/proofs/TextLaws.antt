-- Each text stands for one section or has one fault.
use Rattle.std.proofs.Common.{◌≡◌, ℕ, ◌^◌, ◌<◌, List, [], ◌∷◌, length, refl, sym, ◌∙◌, inl, inr, ◌⊎◌, arith}
use Rattle.std.specs.Prelude.{◌↔◌, codes}
use Rattle.sbpl_fixed.specs.Formats.{Left, Says}
use Rattle.sbpl_fixed.specs.Tokens.{Piece}
use Rattle.sbpl_fixed.specs.Unsigned.{NumbersAreTheirDigits}
use Rattle.sbpl_cert.specs.declared.fault.LabelFault.{LabelFault}
use Rattle.sbpl_cert.specs.Faults.{told}
use Rattle.sbpl_cert.specs.Format.{section_format}
use Rattle.sbpl_cert.specs.declared.section.Section.{Section}
use Rattle.sbpl_cert.specs.declared.section.Section.TheVariants.{Full, Sparse}
use Rattle.sbpl_cert.specs.Sections.{FullSection}
use Rattle.sbpl_cert.specs.Sparse.{SparseSection}
use Rattle.sbpl_cert.specs.Versions.{IsOf}
use Rattle.sbpl_cert.specs.Text.{AreMeant, AreTokens, AreTokensOf, HasFault, HasSomeFault}
use Rattle.sbpl_cert.specs.Text.{spelled, spelled_full, spelled_sparse}
use Rattle.sbpl_cert.proofs.OwnFaults.{no_memory_is_no_fault}
use Rattle.sbpl_cert.proofs.ReadLaws.{Reading}
use Rattle.sbpl_cert.proofs.SectionLaws.{section_out, section_in}

-- tokens tell the plan and the number of states
abbrev AreOfOne : Section → Section → Type 0
AreOfOne s u = (plan : ℕ) × (states : ℕ) × IsOf plan states s × IsOf plan states u

full_sizes : (ts r q : List Piece) (s u : FullSection) → AreMeant (spelled_full s) ts r → AreMeant (spelled_full u) ts q
    → AreOfOne (Full s) (Full u)
unfolding AreMeant spelled_full
full_sizes [] r q s u h k = absurd h
full_sizes (a ∷ []) r q s u h k = absurd h.1
full_sizes (a ∷ b ∷ []) r q s u h k = absurd h.1.1
full_sizes (a ∷ b ∷ c ∷ []) r q s u h k = absurd h.1.1.1
full_sizes (a ∷ b ∷ c ∷ d ∷ []) r q s u h k = absurd h.1.1.1.1
full_sizes (a ∷ b ∷ c ∷ d ∷ e ∷ []) r q s u h k = absurd h.1.1.1.1.1
full_sizes (a ∷ b ∷ c ∷ d ∷ e ∷ f ∷ ts) r q s u h k =
    (u.plan, length u.labels, (sym h.1.1.1.0.1 ∙ k.1.1.1.0.1, sym h.1.1.1.1.1.0.1 ∙ k.1.1.1.1.1.0.1), (refl, refl))

sparse_sizes : (ts r q : List Piece) (s u : SparseSection) → AreMeant (spelled_sparse s) ts r
    → AreMeant (spelled_sparse u) ts q → AreOfOne (Sparse s) (Sparse u)
unfolding AreMeant spelled_sparse
sparse_sizes [] r q s u h k = absurd h
sparse_sizes (a ∷ []) r q s u h k = absurd h.1
sparse_sizes (a ∷ b ∷ []) r q s u h k = absurd h.1.1
sparse_sizes (a ∷ b ∷ c ∷ []) r q s u h k = absurd h.1.1.1
sparse_sizes (a ∷ b ∷ c ∷ d ∷ []) r q s u h k = absurd h.1.1.1.1
sparse_sizes (a ∷ b ∷ c ∷ d ∷ e ∷ []) r q s u h k = absurd h.1.1.1.1.1
sparse_sizes (a ∷ b ∷ c ∷ d ∷ e ∷ f ∷ ts) r q s u h k =
    (u.plan, u.states, (sym h.1.1.1.0.1 ∙ k.1.1.1.0.1, sym h.1.1.1.1.1.0.1 ∙ k.1.1.1.1.1.0.1), (refl, refl))

-- and they tell the version
one_or_two : (bytes : List ℕ) → bytes ≡ codes "1" → bytes ≡ codes "2" → ⊥
one_or_two bytes one two =
    let clash : codes "1" ≡ codes "2" = sym one ∙ two in
    let heads : ◌≡◌ {A = ℕ} 49 50 = cc in
    omega (arith, heads)

versions_differ : (ts r q : List Piece) (s : FullSection) (u : SparseSection) → AreMeant (spelled_full s) ts r
    → AreMeant (spelled_sparse u) ts q → ⊥
unfolding AreMeant spelled_full spelled_sparse
versions_differ [] r q s u h k = absurd h
versions_differ (a ∷ []) r q s u h k = absurd h.1
versions_differ (a ∷ b ∷ ts) r q s u h k = one_or_two b.bytes h.1.0 k.1.0

same_sizes : (ts r q : List Piece) (s u : Section) → AreMeant (spelled s) ts r
    → AreMeant (spelled u) ts q → AreOfOne s u
same_sizes ts r q (Full s) (Full u) h k = full_sizes ts r q s u h k
same_sizes ts r q (Full s) (Sparse u) h k = absurd (versions_differ ts r q s u h k)
same_sizes ts r q (Sparse s) (Full u) h k = absurd (versions_differ ts q r u s k h)
same_sizes ts r q (Sparse s) (Sparse u) h k = sparse_sizes ts r q s u h k

module _ (numbers : NumbersAreTheirDigits) (reading : Reading) where
  pub each_is_either : (plan states : ℕ) (left : Left) → plan < 2 ^ 32 → states < 2 ^ 32
      → AreTokens plan states left.tokens ⊎ HasSomeFault plan states left
  each_is_either plan states left p q = elim (reading.either told (section_format plan states) left) [
    | inl s ↦ (let w = section_out numbers plan states s.0 left.tokens s.1 p q s.2 in inl (s.0, s.1, w.0, w.1))
    | inr f ↦ inr (f.0, no_memory_is_no_fault plan states left.end left.tokens f.0 f.1, f.1)
  ]

  pub never_both : (plan states : ℕ) (left : Left) (f : LabelFault) → AreTokens plan states left.tokens
      → HasFault plan states left f → ⊥
  never_both plan states left f w h =
      reading.not_both told (section_format plan states) left f
      (w.0, w.1, section_in numbers plan states w.0 left.tokens w.1 w.2 w.3) h

  pub one_fault : (plan states : ℕ) (left : Left) (f g : LabelFault) → HasFault plan states left f
      → HasFault plan states left g → f ≡ g
  one_fault plan states left f g h k = reading.one_fault told (section_format plan states) left f g h k

  pub one_value : (ts r q : List Piece) (s u : Section) → AreTokensOf ts s r → AreTokensOf ts u q → (s ≡ u) × (r ≡ q)
  one_value ts r q s u h k =
      let same = same_sizes ts r q s u h.tokens k.tokens in
      reading.one_value (section_format same.0 same.1) ts s u r q (section_in numbers same.0 same.1 s ts r same.2 h)
      (section_in numbers same.0 same.1 u ts q same.3 k)

  pub format_is : (plan states : ℕ) (s : Section) (ts rest : List Piece) → plan < 2 ^ 32 → states < 2 ^ 32
      → Says (section_format plan states) ts s rest ↔ (IsOf plan states s × AreTokensOf ts s rest)
  format_is plan states s ts rest p q =
      (λ h. section_out numbers plan states s ts rest p q h, λ w. section_in numbers plan states s ts rest w.0 w.1)
