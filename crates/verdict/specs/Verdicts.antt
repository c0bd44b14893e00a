-- The numbers of verdicts.
--   result_number    1 first won, 2 second won, 3 drawn
--   reason_number    1 the game's rules, 2 flag, 3 illegal move, 4 resignation, 5 turn limit, 6 ruling
--   outcome_of       for whom a verdict ended the game
--   verdict_number   10 × reason + result
--   standing_number  that of an ended game, and 0 of an open one
--   listed           the numbers that a record may have
--   standing_of      how a game with a listed number stands
--   is_numbered      whether a number is listed and is not 0: whether it is a verdict's
--   Numbered         what a number names: its verdict, or nothing where no verdict has it
--   NumbersRight     the listed numbers are those of the verdicts and 0, and each is of one standing
use Rattle.std.specs.Prelude.{◌≡◌, ℕ, ◌+◌, ◌*◌, Bool, true, false, cond, not, ◌&&◌, ◌||◌, List, [], ◌∷◌, Some, None, Option, Ok, Err, Result, ◌==◌}
use Rattle.side.specs.declared.Side.TheVariants.{First, Second}
use Rattle.verdict.specs.declared.Outcome.{Outcome}
use Rattle.verdict.specs.declared.Outcome.TheVariants.{WonBy, Drawn}
use Rattle.verdict.specs.declared.Unlisted.{Unlisted}
use Rattle.verdict.specs.declared.Verdict.{Verdict}
use Rattle.verdict.specs.declared.Verdict.TheVariants.{Rules, Flag, Illegal, Resignation, TurnLimit, Ruling}

abbrev pub result_number : Outcome → ℕ
result_number (WonBy First) = 1
result_number (WonBy Second) = 2
result_number Drawn = 3

abbrev pub reason_number : Verdict → ℕ
reason_number (Rules o) = 1
reason_number (Flag o) = 2
reason_number (Illegal s) = 3
reason_number (Resignation s) = 4
reason_number TurnLimit = 5
reason_number (Ruling s) = 6

abbrev pub outcome_of : Verdict → Outcome
outcome_of (Rules o) = o
outcome_of (Flag o) = o
outcome_of (Illegal s) = WonBy s
outcome_of (Resignation s) = WonBy s
outcome_of TurnLimit = Drawn
outcome_of (Ruling s) = WonBy s

abbrev pub verdict_number : Verdict → ℕ
verdict_number v = 10 * reason_number v + result_number (outcome_of v)

abbrev pub standing_number : Option Verdict → ℕ
standing_number None = 0
standing_number (Some v) = verdict_number v

abbrev pub listed : List ℕ
listed = 0 ∷ 11 ∷ 12 ∷ 13 ∷ 21 ∷ 22 ∷ 23 ∷ 31 ∷ 32 ∷ 41 ∷ 42 ∷ 53 ∷ 61 ∷ 62 ∷ []

abbrev pub among : ℕ → List ℕ → Bool
among n [] = false
among n (m ∷ ms) = n == m || among n ms

abbrev pub is_listed : ℕ → Bool
is_listed n = among n listed

abbrev pub standing_of : ℕ → Option Verdict
standing_of n =
    cond (n == 11) (Some (Rules (WonBy First)))
    (cond (n == 12) (Some (Rules (WonBy Second)))
    (cond (n == 13) (Some (Rules Drawn))
    (cond (n == 21) (Some (Flag (WonBy First)))
    (cond (n == 22) (Some (Flag (WonBy Second)))
    (cond (n == 23) (Some (Flag Drawn))
    (cond (n == 31) (Some (Illegal First))
    (cond (n == 32) (Some (Illegal Second))
    (cond (n == 41) (Some (Resignation First))
    (cond (n == 42) (Some (Resignation Second))
    (cond (n == 53) (Some TurnLimit)
    (cond (n == 61) (Some (Ruling First))
    (cond (n == 62) (Some (Ruling Second))
    None))))))))))))

abbrev pub is_numbered : ℕ → Bool
is_numbered n = not (n == 0) && is_listed n

abbrev pub Numbered : ℕ → Result Verdict Unlisted → Type 0
Numbered n (Ok v) = (is_numbered n ≡ true) × (standing_of n ≡ Some v)
Numbered n (Err e) = is_numbered n ≡ false

pub record NumbersRight : Type 0 where
  pub of_listed : (n : ℕ) → is_listed n ≡ true → standing_number (standing_of n) ≡ n
  pub of_standing : (s : Option Verdict) → (is_listed (standing_number s) ≡ true) × (standing_of (standing_number s) ≡ s)
