-- Which entrants meet in which game. Every two of n entrants, numbered from 0, meet once.
--   row_start     the first game of entrant a with those of higher number
--   number_of     the game of entrants a < b: a × (2n − a − 1) ÷ 2 + (b − a − 1)
--   games_of      how many games there are
--   low_of        the lower entrant of a game: how many entrants after the first begin their games at or before it
--   high_of       the higher entrant
--   seated        who is first: the lower entrant where the sum of both is odd, else the higher
--   seats_of      both seats of a game
--   seats_if, number_if   the same, none where there is no such game or pair
--   SeatingRight  each number below the count of games is of just one pair a < b
use Rattle.std.specs.Prelude.{◌≡◌, ℕ, ◌+◌, ◌-◌, ◌*◌, ◌/◌, ◌%◌, ◌<◌, ◌≤◌, cond, ◌&&◌, count_by, Some, None, Option, ◌==◌, nat_le, nat_lt}
use Rattle.std.specs.List.{range_with_len}
use Rattle.side.specs.declared.PerSide.{PerSide}

abbrev pub row_start : ℕ → ℕ → ℕ
row_start n a = a * (2 * n - a - 1) / 2

abbrev pub number_of : ℕ → ℕ → ℕ → ℕ
number_of n a b = row_start n a + (b - a - 1)

abbrev pub games_of : ℕ → ℕ
games_of n = n * (n - 1) / 2

abbrev pub low_of : ℕ → ℕ → ℕ
low_of n g = count_by (λ k. nat_le (row_start n k) g) (range_with_len 1 (n - 2))

abbrev pub high_of : ℕ → ℕ → ℕ
high_of n g = low_of n g + 1 + (g - row_start n (low_of n g))

abbrev pub seated : ℕ → ℕ → PerSide ℕ
seated a b = cond ((a + b) % 2 == 1) (record { first = a; second = b }) (record { first = b; second = a })

abbrev pub seats_of : ℕ → ℕ → PerSide ℕ
seats_of n g = seated (low_of n g) (high_of n g)

-- none where there is no such game, or not two such entrants, of at most sixteen
abbrev pub seats_if : ℕ → ℕ → Option (PerSide ℕ)
seats_if n g = cond (nat_le n 16 && nat_lt g (games_of n)) (Some (seats_of n g)) None

abbrev pub number_if : ℕ → ℕ → ℕ → Option ℕ
number_if n a b = cond (nat_le n 16 && (nat_lt a b && nat_lt b n)) (Some (number_of n a b)) None

pub record SeatingRight : Type 0 where
  pub pair : (n g : ℕ) → n ≤ 16 → g < games_of n → (low_of n g < high_of n g) × (high_of n g < n) × (number_of n (low_of n g) (high_of n g) ≡ g)
  pub number : (n a b : ℕ) → n ≤ 16 → a < b → b < n → (number_of n a b < games_of n) × (low_of n (number_of n a b) ≡ a) × (high_of n (number_of n a b) ≡ b)
