-- The first fault of a series of requirements.
use Rattle.std.proofs.Common.{◌≡◌, ℕ, Bool, true, false, cond, List, [], ◌∷◌, ◌++◌, Some, None, Option, refl, ap, ◌∙◌, arith}
use Rattle.std.specs.List.{AllByRecursion}
use Rattle.format.specs.Requirements.{Requirement, Found, found, first_fault}

abbrev pub Holds : Requirement → Type 0
Holds d = d.holds ≡ true

by_test : (b : Bool) (o : Option Found) (f : Found) → cond b o (Some f) ≡ None → (b ≡ true) × (o ≡ None)
by_test true o f e = (refl, e)
by_test false o f e = let z : ◌≡◌ {A = ℕ} 0 1 = cc in absurd (omega arith)

pub all_hold : (ds : List Requirement) → first_fault ds ≡ None → AllByRecursion Holds ds
all_hold [] e = tt
all_hold (d ∷ ds) e = let p = by_test d.holds (first_fault ds) _ e in (p.0, all_hold ds p.1)

pub none_found : (ds : List Requirement) → AllByRecursion Holds ds → first_fault ds ≡ None
none_found [] a = refl
none_found (d ∷ ds) a = ap (λ (b : Bool). cond b (first_fault ds) (Some (found d.number d.place))) a.0 ∙ none_found ds a.1

-- past a requirement that holds, and at one that does not
pub fault_on : (d : Requirement) (ds : List Requirement) → d.holds ≡ true → first_fault (d ∷ ds) ≡ first_fault ds
fault_on d ds h = ap (λ (b : Bool). cond b (first_fault ds) (Some (found d.number d.place))) h

pub fault_at : (d : Requirement) (ds : List Requirement) → d.holds ≡ false → first_fault (d ∷ ds) ≡ Some (found d.number d.place)
fault_at d ds h = ap (λ (b : Bool). cond b (first_fault ds) (Some (found d.number d.place))) h

-- of two series of requirements, the second counts where the first holds
pub fault_then : (ds es : List Requirement) → first_fault ds ≡ None → first_fault (ds ++ es) ≡ first_fault es
fault_then [] es e = refl
fault_then (d ∷ ds) es e = by_test d.holds (fault_then ds es) e
  where
    by_test : (b : Bool) → (first_fault ds ≡ None → first_fault (ds ++ es) ≡ first_fault es) → cond b (first_fault ds) (Some (found d.number d.place)) ≡ None → cond b (first_fault (ds ++ es)) (Some (found d.number d.place)) ≡ first_fault es
    by_test true f k = f k
    by_test false f k = let z : ◌≡◌ {A = ℕ} 0 1 = cc in absurd (omega arith)

pub fault_first : (ds es : List Requirement) (f : Found) → first_fault ds ≡ Some f → first_fault (ds ++ es) ≡ Some f
fault_first [] es f e = let z : ◌≡◌ {A = ℕ} 0 1 = cc in absurd (omega arith)
fault_first (d ∷ ds) es f e = by_test d.holds (fault_first ds es f) e
  where
    by_test : (b : Bool) → (first_fault ds ≡ Some f → first_fault (ds ++ es) ≡ Some f) → cond b (first_fault ds) (Some (found d.number d.place)) ≡ Some f → cond b (first_fault (ds ++ es)) (Some (found d.number d.place)) ≡ Some f
    by_test true g k = g k
    by_test false g k = k
