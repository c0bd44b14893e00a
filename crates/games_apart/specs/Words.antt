-- The words that are printed of a game.
--   step_word     of what a line tells of
--   chances_word  of who has a chance: first, second
use Rattle.std.specs.Prelude.{ℕ, Bool, true, false, List, codes}
use Rattle.games_apart.specs.declared.Step.{Step}
use Rattle.games_apart.specs.declared.Step.TheVariants.{Start, Legal, Illegal}
use Rattle.games_apart.specs.declared.Chances.{Chances}

abbrev pub step_word : Step → List ℕ
step_word Start = codes "start"
step_word Legal = codes "legal"
step_word Illegal = codes "illegal"

abbrev pub chance_word : Bool → Bool → List ℕ
chance_word true true = codes "both"
chance_word true false = codes "first"
chance_word false true = codes "second"
chance_word false false = codes "none"

abbrev pub chances_word : Chances → List ℕ
chances_word c = chance_word c.0.first c.0.second
