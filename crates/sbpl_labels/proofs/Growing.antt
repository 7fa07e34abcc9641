-- Counts that grow while a plan goes on.
use Rattle.std.proofs.Common.{◌≡◌, ℕ, ◌+◌, arith, inl, inr, refl, sym, ◌∙◌}
use Rattle.sbpl_labels.specs.declared.time.Time.{Time}
use Rattle.sbpl_labels.specs.declared.time.Time.TheVariants.{Unlimited}
use Rattle.sbpl_labels.specs.Counts.{Counts, GoesOn, GrowBy}

-- no expansion changes nothing
pub grow_none : (c : Counts) → GrowBy 0 c c
grow_none c = record { budget = refl; plan = omega arith; run = omega arith; time = inl refl }

pub goes_on_twice : (a b c : Time) → GoesOn a b → GoesOn b c → GoesOn a c
goes_on_twice a b c (inl same) (inl same') = inl (same' ∙ same)
goes_on_twice a b c (inl same) (inr (was, late)) = inr (sym same ∙ was, late)
goes_on_twice a b c (inr (was, late)) (inl same') = inr (was, same' ∙ late)
goes_on_twice a b c (inr (was, late)) (inr (was', late')) = inr (was, late')

pub grow_twice : {a b : ℕ} {old mid new : Counts} (count : ℕ) → count ≡ a + b → GrowBy a old mid → GrowBy b mid new
    → GrowBy count old new
grow_twice {a} {b} {old} {mid} {new} count sum first second = record {
  budget = second.budget ∙ first.budget;
  plan = omega (arith, first.plan, second.plan);
  run = omega (arith, first.run, second.run);
  time = goes_on_twice old.time mid.time new.time first.time second.time;
}

-- a plan without a limit stays without one
pub stays_unlimited : (old new : Time) → GoesOn old new → old ≡ Unlimited → new ≡ Unlimited
stays_unlimited old new (inl same) was = same ∙ was
stays_unlimited old new (inr (limited, late)) was = cc
