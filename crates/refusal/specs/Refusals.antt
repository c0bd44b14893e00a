-- The numbers of the refusals that name no place.
--   refusal_number   a refusal's number
--   refusal_text     what is printed of it: `refused`, a blank and the number
--   Answers          a call refuses by the number that its checks give, or answers with what they promise
use Rattle.std.specs.Prelude.{◌≡◌, ℕ, List, ◌++◌, codes, decimal, Some, None, Ok, Err, Option, Result}
use Rattle.refusal.specs.declared.Refusal.{Refusal}
use Rattle.refusal.specs.declared.Refusal.TheVariants.{Entrants, Limit, Space, Text, NoGame, Readings, Reading, Ended, Buffer, Setting}

abbrev pub refusal_number : Refusal → ℕ
refusal_number Entrants = 1
refusal_number Limit = 2
refusal_number Space = 3
refusal_number Text = 4
refusal_number NoGame = 5
refusal_number Readings = 6
refusal_number Reading = 7
refusal_number Ended = 8
refusal_number Buffer = 9
refusal_number Setting = 10

abbrev pub refusal_text : Refusal → List ℕ
refusal_text r = codes "refused " ++ decimal (refusal_number r)

-- refusal is the number of the first check that fails, where one does; P is what holds of the answer
abbrev pub Answers : {A : Type 0} → Option ℕ → (A → Type 0) → Result A Refusal → Type 0
Answers refusal P (Ok x) = (refusal ≡ None) × P x
Answers refusal P (Err e) = refusal ≡ Some (refusal_number e)
