-- A pile of counters, by how many are left.
--   pile          what may be taken, and what is left then
--   pile_refusal  the refusal's number where a pile is out of range
use Rattle.std.specs.Prelude.{ℕ, ◌-◌, false, if◌then◌else◌, ◌&&◌, ◌||◌, ◌==◌, nat_le, nat_lt, Some, None, Option}
use Rattle.rules.specs.declared.Status.TheVariants.{Open, Drawn}
use Rattle.rules.specs.Machine.{Machine}

abbrev pub pile : Machine ℕ
pile = record { legal = λ left code. nat_lt 0 code && nat_le code left; next = λ left code. left - code; status = λ left. if left == 0 then Drawn else Open; chance = λ left side. false }

abbrev pub pile_refusal : ℕ → Option ℕ
pile_refusal counters = if nat_lt counters 1 || nat_lt 9 counters then Some 10 else None
