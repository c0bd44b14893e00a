-- What the banks that are made of others hold.
--   both_held  how many players two banks hold as one
--   both_at    what two banks have as one at each number
--   Added      what adding a player leaves: one more at the end, or the player handed back and why
use Rattle.std.specs.Prelude.{◌≡◌, ℕ, ◌<◌, ◌≤◌, List, [], ◌∷◌, ◌++◌, length, Ok, Err, Result}
use Rattle.banks_theory.specs.Numbers.{together, joined}
use Rattle.banks.specs.declared.two.TwoBanks.{TwoBanks}
use Rattle.banks.specs.declared.many.Unseated.{Unseated}
use Rattle.banks.specs.declared.many.Unseated.TheVariants.{Full, NoMemory}

abbrev pub both_held : {X Y : Type 0} → (X → ℕ) → (Y → ℕ) → TwoBanks X Y → ℕ
both_held held_low held_high b = together (held_low b.low) (held_high b.high)

abbrev pub both_at : {X Y A : Type 0} → (X → ℕ) → (Y → ℕ) → (X → ℕ → A) → (Y → ℕ → A) → A → TwoBanks X Y → ℕ → A
both_at held_low held_high of_low of_high none b = joined (held_low b.low) (held_high b.high) (of_low b.low) (of_high b.high) none

-- room: for how many players the bench has memory already
abbrev pub Added : {P U : Type 0} → ℕ → List P → P → Result U (Unseated P) → List P → Type 0
Added room before it (Ok u) after = (length before < 65535) × (after ≡ before ++ (it ∷ []))
Added room before it (Err (Full back)) after = (65535 ≤ length before) × (back ≡ it) × (after ≡ before)
Added room before it (Err (NoMemory back)) after = (length before < 65535) × (room ≤ length before) × (back ≡ it) × (after ≡ before)
