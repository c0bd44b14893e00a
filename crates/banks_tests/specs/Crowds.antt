-- A crowd of players that always answer alike.
--   alike   the answers at a number: one code for all who are held
use Rattle.std.specs.Prelude.{ℕ, if◌then◌else◌, nat_lt}
use Rattle.player.specs.Answers.{Answers, resigning}

abbrev pub alike : ℕ → ℕ → Answers
alike code k = if nat_lt k 65535 then (λ w. code) else resigning
