-- What a script answers.
--   entry_after    the answer after t shown codes: entry t ÷ 2, rounded down and counted from 0, or 65,534 past the last
--   scripted       the answers of a script, after each list of codes shown
--   scripted_from  the rest of them once t codes are shown
use Rattle.std.specs.Prelude.{ℕ, ◌+◌, ◌/◌, List, length, slice_index_or}
use Rattle.player.specs.Answers.{Answers}

abbrev pub entry_after : List ℕ → ℕ → ℕ
entry_after codes t = slice_index_or codes (t / 2) 65534

abbrev pub scripted : List ℕ → Answers
scripted codes w = entry_after codes (length w)

abbrev pub scripted_from : List ℕ → ℕ → Answers
scripted_from codes t w = entry_after codes (t + length w)
