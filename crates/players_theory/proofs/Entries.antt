-- A script's answers as codes are shown.
use Rattle.std.proofs.Common.{◌≡◌, ℕ, suc, ◌+◌, ◌/◌, ◌≤◌, List, length, sym, ◌∙◌, arith}
use Rattle.std.proofs.Math.Path.{fun_ext}
use Rattle.std.proofs.lemmas.List.{get_or_past}
use Rattle.player.specs.Answers.{shown}
use Rattle.players_theory.specs.Scripts.{entry_after, scripted_from}

-- past the last entry, showing a code changes no answer
pub shown_past : (codes : List ℕ) (t code : ℕ) → length codes ≤ t / 2 → scripted_from codes t ≡ shown (scripted_from codes t) code
shown_past codes t code h =
    let end : (n : ℕ) → t ≤ n → entry_after codes n ≡ 65534 = λ n l. get_or_past codes (n / 2) 65534 (omega arith) in
    fun_ext (λ w. end (t + length w) (omega arith) ∙ sym (end (t + suc (length w)) (omega arith)))
