-- Readings and what they leave, for sample settings.
use Rattle.std.specs.Prelude.{◌≡◌, [], ◌∷◌}
use Rattle.clocks_theory.specs.Kinds.{plain_left, fischer_left, bronstein_left, japanese_left, delay_left}

-- a reading that falls is passed over: left stays
pub record Samples : Type 0 where
  pub fischer_in_time : fischer_left 1000 500 (999 ∷ []) ≡ 501
  pub fischer_falls : fischer_left 1000 500 (1000 ∷ []) ≡ 1000
  pub bronstein_starts : bronstein_left 1000 300 [] ≡ 1300
  pub bronstein_short : bronstein_left 1000 300 (200 ∷ []) ≡ 1300
  pub bronstein_long : bronstein_left 1000 300 (200 ∷ 500 ∷ []) ≡ 1100
  pub delay_starts : delay_left 300 (plain_left 1000) [] ≡ 1300
  pub delay_short : delay_left 300 (plain_left 1000) (200 ∷ []) ≡ 1300
  pub delay_long : delay_left 300 (plain_left 1000) (200 ∷ 500 ∷ []) ≡ 1100
  pub japanese_no_period : japanese_left 1000 3 500 (1499 ∷ []) ≡ 1500
  pub japanese_one_period : japanese_left 1000 3 500 (1500 ∷ []) ≡ 1000
  pub japanese_two_periods : japanese_left 1000 3 500 (2499 ∷ []) ≡ 500
  pub japanese_falls : japanese_left 1000 3 500 (2500 ∷ []) ≡ 2500
