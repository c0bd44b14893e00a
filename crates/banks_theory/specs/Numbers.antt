-- Which player has which number. A bank's plans, and its lines, are a function from numbers.
--   nobody     the plan at a number not held
--   only       one player at number 0, none elsewhere
--   together   how many numbers two banks have, up to 65,535
--   place      whose a number of two banks is, as that bank counts
--   at_place   what the bank whose number it is has there
--   joined     the first bank's numbers, then the second's, and none from there or from 65,535 on
--   listed     what each of some players has, by their order, and none past the last
--   Seats      a player takes a number: that is the player's, and every other is as it was
--   Joins      the first bank answers below its count, the second from there on, and nobody past both or from 65,535 on
use Rattle.std.specs.Prelude.{◌≡◌, ℕ, ◌+◌, ◌-◌, ◌<◌, ◌≤◌, min, if◌then◌else◌, ◌≢◌, List, map, ◌==◌, nat_lt, slice_index_or}
use Rattle.side.specs.declared.Side.{Side}
use Rattle.player.specs.Answers.{Answers, resigning}
use Rattle.banks_theory.specs.declared.Place.{Place}
use Rattle.banks_theory.specs.declared.Place.TheVariants.{Low, High, Nowhere}

abbrev pub nobody : Side → Answers
nobody seat = resigning

abbrev pub only : {A : Type 0} → A → A → ℕ → A
only it none k = if k == 0 then it else none

abbrev pub together : ℕ → ℕ → ℕ
together n m = min (n + m) 65535

abbrev pub place : ℕ → ℕ → ℕ → Place
place n m k = if nat_lt k n then Low k else if nat_lt k (together n m) then High (k - n) else Nowhere

abbrev pub at_place : {A : Type 0} → (ℕ → A) → (ℕ → A) → A → Place → A
at_place low high none (Low k) = low k
at_place low high none (High k) = high k
at_place low high none Nowhere = none

abbrev pub joined : {A : Type 0} → ℕ → ℕ → (ℕ → A) → (ℕ → A) → A → ℕ → A
joined n m low high none k = at_place low high none (place n m k)

abbrev pub listed : {P A : Type 0} → (P → A) → A → List P → ℕ → A
listed of none players k = slice_index_or (map of players) k none

pub record Seats {A : Type 0} (n : ℕ) (it : A) (before after : ℕ → A) : Type 0 where
  pub own : after n ≡ it
  pub others : (k : ℕ) → k ≢ n → after k ≡ before k

pub record Joins {A : Type 0} (n m : ℕ) (low high : ℕ → A) (none : A) (all : ℕ → A) : Type 0 where
  pub first : (k : ℕ) → k < n → all k ≡ low k
  pub second : (k : ℕ) → k < m → n + k < 65535 → all (n + k) ≡ high k
  pub past : (k : ℕ) → n + m ≤ k → all k ≡ none
  pub capped : (k : ℕ) → 65535 ≤ k → all k ≡ none
