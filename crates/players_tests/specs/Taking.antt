-- A pile of counters keeps the laws.
use Rattle.std.specs.Prelude.{◌≡◌, ℕ, zero, suc, ◌-◌, ◌<◌, ◌≤◌, Bool, true, false, if◌then◌else◌, ◌==◌, ◌≢◌, refl}
use Rattle.std.proofs.Common.{arith, lit≤}
use Rattle.std.proofs.lemmas.Bool.{and_parts, and_from, ltb-true, leb-true, le-leb, ne_eqb, cond-false}
use Rattle.side.specs.declared.Side.{Side}
use Rattle.rules.specs.declared.Status.TheVariants.{Open, Won, Drawn}
use Rattle.rules.specs.Plans.{Lawful}
use Rattle.rules.specs.Machine.{plan_of}
use Rattle.rules.proofs.Sound.{Sound, lawful}
use Rattle.players_tests.specs.Piles.{pile}

abbrev Few : ℕ → ℕ → Type 0
Few left n = (left ≤ n) × (left ≤ 9)

sides : (left code : ℕ) → pile.legal left code ≡ true → (0 < code) × (code ≤ left)
sides left code h = let q = and_parts _ _ h in (ltb-true 0 code q.0, leb-true code left q.1)

goes_on : (left : ℕ) → pile.status left ≡ Open → (c : ℕ) × (pile.legal left c ≡ true)
goes_on zero o = absurd (let z : ◌≡◌ {A = ℕ} 0 1 = cc in omega arith)
goes_on (suc left) o = (1, and_from _ _ refl (le-leb 1 (suc left) (omega arith)))

never_won : (b : Bool) (t : Side) → (if b then Drawn else Open) ≢ Won t
never_won true t e = let z : ◌≡◌ {A = ℕ} 0 1 = cc in omega arith
never_won false t e = let z : ◌≡◌ {A = ℕ} 0 1 = cc in omega arith

sound : Sound pile Few 10
sound =
    record {
      opens = λ s n c p h. let q = sides s c h in let a = q.0 in let b = q.1 in cond-false (s == 0) Drawn Open (ne_eqb s 0 (λ e. omega arith));
      step = λ s n c p h. let q = sides s c h in let a = q.0 in let b = q.1 in let d = p.0 in let e = p.1 in (s - c, omega arith, (omega arith, omega arith));
      goes_on = λ s n p o. goes_on s o;
      below = λ s n c p h. let q = sides s c h in let b = q.1 in let e = p.1 in omega arith;
      fades = λ s n c t p h f. refl;
      winner = λ s n t p e. absurd (never_won (s == 0) t e);
    }

pub laws : (full : ℕ) → 1 ≤ full → full ≤ 9 → Lawful 10 9 (plan_of pile full)
laws full some most = lawful pile Few 10 sound full 9 (lit≤ tt) (most, most) (cond-false (full == 0) Drawn Open (ne_eqb full 0 (λ e. omega arith)))
