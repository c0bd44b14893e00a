-- What every part says about the two sides.
--   opponent   the other side
--   side_word  what is printed of a side
--   pick       of two things, the side's
--   of_side    the side's part of a pair
--   with_side  the pair with another thing for the side
--   same_side  whether two sides are the same
use Rattle.std.specs.Prelude.{ℕ, Bool, true, false, List, codes}
use Rattle.side.specs.declared.Side.{Side}
use Rattle.side.specs.declared.Side.TheVariants.{First, Second}
use Rattle.side.specs.declared.PerSide.{PerSide}

abbrev pub opponent : Side → Side
opponent First = Second
opponent Second = First

abbrev pub side_word : Side → List ℕ
side_word First = codes "first"
side_word Second = codes "second"

abbrev pub pick : {A : Type 0} → Side → A → A → A
pick First a b = a
pick Second a b = b

abbrev pub of_side : {A : Type 0} → Side → PerSide A → A
of_side First p = p.first
of_side Second p = p.second

abbrev pub with_side : {A : Type 0} → Side → A → PerSide A → PerSide A
with_side First x p = record { first = x; second = p.second }
with_side Second x p = record { first = p.first; second = x }

abbrev pub same_side : Side → Side → Bool
same_side First First = true
same_side First Second = false
same_side Second First = false
same_side Second Second = true
