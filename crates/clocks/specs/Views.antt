-- The plan and the line of each timer and of the layer, from what they hold.
--   plain_plan ..   what is left after each list of readings, from the start
--   plain_line ..   the same from the present point on
--   delayed         plan or line of the layer, from plan or line of the clock below
--   Starts          a newly made timer's plan and line are both these lefts
use Rattle.std.specs.Prelude.{◌≡◌}
use Rattle.clock.specs.Times.{Times}
use Rattle.clocks_theory.specs.Movements.{Lefts, left_after}
use Rattle.clocks_theory.specs.Kinds.{plain_left, fischer_left, bronstein, bronstein_left, japanese_left, delay_times}
use Rattle.clocks.specs.declared.held.Plain.{Plain}
use Rattle.clocks.specs.declared.held.Fischer.{Fischer}
use Rattle.clocks.specs.declared.held.Bronstein.{Bronstein}
use Rattle.clocks.specs.declared.held.Japanese.{Japanese}
use Rattle.clocks.specs.declared.held.Delay.{Delay}

abbrev pub plain_plan : Plain → Lefts
plain_plan t = plain_left t.main

abbrev pub plain_line : Plain → Lefts
plain_line t = plain_left t.left

abbrev pub fischer_plan : Fischer → Lefts
fischer_plan t = fischer_left t.main t.increment

abbrev pub fischer_line : Fischer → Lefts
fischer_line t = fischer_left t.left t.increment

abbrev pub bronstein_plan : Bronstein → Lefts
bronstein_plan t = bronstein_left t.main t.delay

abbrev pub bronstein_line : Bronstein → Lefts
bronstein_line t = left_after (bronstein t.delay) t.left

abbrev pub japanese_plan : Japanese → Lefts
japanese_plan t = japanese_left t.main t.periods t.length

abbrev pub japanese_line : Japanese → Lefts
japanese_line t = japanese_left t.rest t.held t.length

abbrev pub delayed : {C : Type 0} → (C → Times) → Delay C → Times
delayed times c = delay_times c.delays (times c.below)

abbrev pub Starts : Lefts → Lefts → Lefts → Type 0
Starts plan line lefts = (plan ≡ lefts) × (line ≡ lefts)
