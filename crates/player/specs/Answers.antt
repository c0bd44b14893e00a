-- What a player's plan and line are.
--   Answers    the answer, a code, after each list of codes shown
--   shown      the rest of the answers once a code is shown
--   AreCodes   law: answers are codes, numbers of 16 bits
--   resigning  the answers of one who always resigns
--   Absent     law: a number that a bank does not hold has such answers, at either seat and at every point
use Rattle.std.specs.Prelude.{◌≡◌, List, ◌∷◌, ℕ, ◌≤◌}
use Rattle.side.specs.declared.Side.{Side}

abbrev pub Answers : Type 0
Answers = List ℕ → ℕ

abbrev pub shown : Answers → ℕ → Answers
shown line code w = line (code ∷ w)

abbrev pub AreCodes : Answers → Type 0
AreCodes answers = (w : List ℕ) → answers w ≤ 65535

abbrev pub resigning : Answers
resigning w = 65534

pub record Absent (plan : Side → Answers) (line : Answers) : Type 0 where
  pub at_seat : (seat : Side) → plan seat ≡ resigning
  pub at_point : line ≡ resigning
