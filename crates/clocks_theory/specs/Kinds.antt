-- The clocks and the delay layer, one side at a time: which settings each takes, and what is left after a list of readings.
--   capped               a sum, stopped at 1,000,000,000
--   plain                a time that each in-time reading lowers
--   plain_left           what is left of main
--   fischer              a time that each in-time reading lowers and an increment raises
--   fischer_left         what is left of main
--   bronstein            a time to which each in-time reading is given back, up to the delay
--   bronstein_left       what is left of main and delay
--   Byoyomi              the main time left and the periods left
--   japanese             main time, then periods of one length: only whole periods are lost
--   japanese_left        what is left of main and some periods
--   delay                over any lefts: some time of each turn is free
--   delay_left           what is left with the delay
--   delay_times          the same for each side, over any times
--   in_range             whether a setting lies between two numbers, both included
--   is_main, is_extra    the ranges of a main time, and of an increment or delay
--   setting_refusal      refusal 10 unless the settings are in range
--   plain_refusal ..     the refusal of each clock's settings
use Rattle.std.specs.Prelude.{ℕ, ◌+◌, ◌-◌, ◌*◌, ◌/◌, min, Bool, if◌then◌else◌, ◌&&◌, [], Some, None, Option, nat_le, nat_lt}
use Rattle.side.specs.declared.PerSide.{PerSide}
use Rattle.side.specs.TwoSides.{of_side}
use Rattle.clock.specs.Times.{Times}
use Rattle.clocks_theory.specs.Movements.{Lefts, onward, Movement, left_after}

abbrev pub capped : ℕ → ℕ
capped n = min n 1000000000

abbrev pub plain : Movement ℕ
plain = record { left = λ t. t; next = λ t u. t - u }

abbrev pub plain_left : ℕ → Lefts
plain_left main = left_after plain main

abbrev pub fischer : ℕ → Movement ℕ
fischer increment = record { left = λ t. t; next = λ t u. capped (t - u + increment) }

abbrev pub fischer_left : ℕ → ℕ → Lefts
fischer_left main increment = left_after (fischer increment) main

abbrev pub bronstein : ℕ → Movement ℕ
bronstein delay = record { left = λ t. t; next = λ t u. capped (t - u + min u delay) }

abbrev pub bronstein_left : ℕ → ℕ → Lefts
bronstein_left main delay = left_after (bronstein delay) (capped (main + delay))

pub record Byoyomi : Type 0 where
  pub main : ℕ
  pub periods : ℕ

abbrev pub japanese : ℕ → Movement Byoyomi
japanese length = record {
  left = λ t. t.main + t.periods * length;
  next = λ t u. if nat_lt u t.main then record { main = t.main - u; periods = t.periods } else record { main = 0; periods = t.periods - (u - t.main) / length };
}

abbrev pub japanese_left : ℕ → ℕ → ℕ → Lefts
japanese_left main periods length = left_after (japanese length) (record { main = main; periods = periods })

-- a state is what lies below, from its present point on: an in-time reading, less the delay, is spent there
abbrev pub delay : ℕ → Movement Lefts
delay d = record { left = λ below. capped (below [] + d); next = λ below u. onward below (u - d) }

abbrev pub delay_left : ℕ → Lefts → Lefts
delay_left d below = left_after (delay d) below

abbrev pub delay_times : PerSide ℕ → Times → Times
delay_times delays below s = delay_left (of_side s delays) (below s)

abbrev pub in_range : ℕ → ℕ → ℕ → Bool
in_range low high n = nat_le low n && nat_le n high

abbrev pub is_main : ℕ → Bool
is_main n = in_range 1 86400000 n

abbrev pub is_extra : ℕ → Bool
is_extra n = in_range 0 600000 n

abbrev pub setting_refusal : Bool → Option ℕ
setting_refusal fits = if fits then None else Some 10

abbrev pub plain_refusal : ℕ → Option ℕ
plain_refusal main = setting_refusal (is_main main)

abbrev pub fischer_refusal : ℕ → ℕ → Option ℕ
fischer_refusal main increment = setting_refusal (is_main main && is_extra increment)

abbrev pub bronstein_refusal : ℕ → ℕ → Option ℕ
bronstein_refusal main delay = setting_refusal (is_main main && is_extra delay)

abbrev pub japanese_refusal : ℕ → ℕ → ℕ → Option ℕ
japanese_refusal main periods length = setting_refusal (in_range 0 86400000 main && in_range 1 100 periods && in_range 1 600000 length)

abbrev pub delay_refusal : PerSide ℕ → Option ℕ
delay_refusal delays = setting_refusal (is_extra delays.first && is_extra delays.second)
