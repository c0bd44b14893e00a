-- What a game's rules say of each list of codes, and the laws of it.
--   is_open      whether a status is open
--   status_word  what is printed of a status: of a game that is won, the side's word
--   RulesPlan    which lists of codes are legal; the status and who has a chance after a legal one
--   after_codes  the rest of a plan once some codes are made
--   made         the same for one code, but that an illegal one changes nothing
--   Lawful       the five laws of a plan
--   PointOf      law: a line is the rest of its plan after some legal list
--   Winnable     some series of legal codes wins for a side
--   NoWin        none does
--   Exact        after each legal list, a side has a chance exactly where some series from there wins for it
use Rattle.std.specs.Prelude.{◌≡◌, ℕ, ◌<◌, ◌≤◌, Bool, true, false, cond, List, [], ◌∷◌, ◌++◌, length, codes, Decides}
use Rattle.std.specs.List.{AllByRecursion}
use Rattle.side.specs.declared.Side.{Side}
use Rattle.side.specs.TwoSides.{side_word}
use Rattle.rules.specs.declared.Status.{Status}
use Rattle.rules.specs.declared.Status.TheVariants.{Open, Won, Drawn}

abbrev pub is_open : Status → Bool
is_open Open = true
is_open (Won s) = false
is_open Drawn = false

abbrev pub status_word : Status → List ℕ
status_word Open = codes "open"
status_word (Won s) = side_word s
status_word Drawn = codes "drawn"

pub record RulesPlan : Type 0 where
  pub legal : List ℕ → Bool
  pub status : List ℕ → Status
  pub chance : List ℕ → Side → Bool

abbrev pub after_codes : RulesPlan → List ℕ → RulesPlan
after_codes p w = record { legal = λ v. p.legal (w ++ v); status = λ v. p.status (w ++ v); chance = λ v. p.chance (w ++ v) }

abbrev pub made : RulesPlan → ℕ → RulesPlan
made p c = cond (p.legal (c ∷ [])) (after_codes p (c ∷ [])) p

-- 1: opens, starts, earlier; 2: goes_on; 3: few, below, short; 4: fades; 5: winner
pub record Lawful (codes longest : ℕ) (p : RulesPlan) : Type 0 where
  pub starts : p.legal [] ≡ true
  pub opens : p.status [] ≡ Open
  pub earlier : (w : List ℕ) (c : ℕ) (v : List ℕ) → p.legal (w ++ (c ∷ v)) ≡ true → (p.legal w ≡ true) × (p.status w ≡ Open)
  pub goes_on : (w : List ℕ) → p.legal w ≡ true → p.status w ≡ Open → (c : ℕ) × (p.legal (w ++ (c ∷ [])) ≡ true)
  pub few : codes ≤ 65534
  pub below : (w : List ℕ) → p.legal w ≡ true → AllByRecursion (λ c. c < codes) w
  pub short : (w : List ℕ) → p.legal w ≡ true → length w ≤ longest
  pub fades : (w v : List ℕ) (s : Side) → p.legal (w ++ v) ≡ true → p.chance w s ≡ false → p.chance (w ++ v) s ≡ false
  pub winner : (w : List ℕ) (s : Side) → p.legal w ≡ true → p.status w ≡ Won s → p.chance w s ≡ true

abbrev pub PointOf : RulesPlan → RulesPlan → Type 0
PointOf plan line = ∥ ((w : List ℕ) × (plan.legal w ≡ true) × (line ≡ after_codes plan w)) ∥₁

abbrev pub Winnable : RulesPlan → Side → Type 0
Winnable p s = (w : List ℕ) × (p.legal w ≡ true) × (p.status w ≡ Won s)

abbrev pub NoWin : RulesPlan → Side → Type 0
NoWin p s = Winnable p s → ⊥

abbrev pub Exact : RulesPlan → Type 0
Exact p = (w : List ℕ) (s : Side) → p.legal w ≡ true → Decides (p.chance w s) (Winnable (after_codes p w) s)
