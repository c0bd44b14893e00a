-- What a record says, and its bytes.
--   Content      what a record says: seats, how the game stands, turn limit, text, turns, lefts
--   half, word   a number in two or four bytes, the lowest first
--   version      the version that is written
--   longest_text the most bytes of a text
--   head, pair, pairs, turn_bytes, encode   the bytes, part by part
--   WellFormed   what holds of a content that a record may have
use Rattle.std.specs.Prelude.{ℕ, ◌+◌, ◌*◌, ◌/◌, ◌%◌, ◌<◌, ◌≤◌, ◌≢◌, List, [], ◌∷◌, ◌++◌, length, Option}
use Rattle.std.specs.List.{AllByRecursion}
use Rattle.verdict.specs.declared.Turn.{Turn}
use Rattle.verdict.specs.declared.Verdict.{Verdict}
use Rattle.verdict.specs.Verdicts.{standing_number}

pub record Content : Type 0 where
  pub first : ℕ
  pub second : ℕ
  pub standing : Option Verdict
  pub limit : ℕ
  pub text : List ℕ
  pub turns : List Turn
  pub first_left : ℕ
  pub second_left : ℕ

abbrev pub half : ℕ → List ℕ
half n = (n % 256) ∷ (n / 256 % 256) ∷ []

abbrev pub word : ℕ → List ℕ
word n = (n % 256) ∷ (n / 256 % 256) ∷ (n / 65536 % 256) ∷ (n / 16777216 % 256) ∷ []

abbrev pub version : ℕ
version = 1

abbrev pub longest_text : ℕ
longest_text = 64

-- 47 52 hex, version, 0, seats, verdict, 0, turn limit, number of pairs
abbrev pub head : Content → List ℕ
head c = 71 ∷ 82 ∷ version ∷ 0 ∷ c.first ∷ c.second ∷ standing_number c.standing ∷ 0 ∷ (half c.limit ++ half 3)

abbrev pub pair : ℕ → ℕ → List ℕ
pair offset size = word offset ++ word size

-- the text begins at 36, and each part where the one before ends
abbrev pub pairs : Content → List ℕ
pairs c =
    pair 36 (length c.text)
    ++ (pair (36 + length c.text) (6 * length c.turns)
    ++ pair (36 + length c.text + 6 * length c.turns) 8)

abbrev pub turn_bytes : List Turn → List ℕ
turn_bytes [] = []
turn_bytes (t ∷ ts) = (half t.code ++ word t.reading) ++ turn_bytes ts

unfoldable pub encode : Content → List ℕ
encode c = head c ++ (pairs c ++ (c.text ++ (turn_bytes c.turns ++ (word c.first_left ++ word c.second_left))))

pub record InLaw (left : ℕ) : Type 0 where
  pub least : 1 ≤ left
  pub most : left ≤ 1000000000

pub record TurnFits (t : Turn) : Type 0 where
  pub code_fits : t.code ≤ 65535
  pub reading_fits : t.reading ≤ 86400000

pub record WellFormed (c : Content) : Type 0 where
  pub first_entrant : c.first ≤ 15
  pub second_entrant : c.second ≤ 15
  pub two_entrants : c.second ≢ c.first
  pub limit_least : 1 ≤ c.limit
  pub limit_most : c.limit ≤ 256
  pub text_least : 1 ≤ length c.text
  pub text_most : length c.text ≤ longest_text
  pub text_bytes : AllByRecursion (λ b. b < 256) c.text
  pub within_limit : length c.turns ≤ c.limit
  pub turns_fit : AllByRecursion TurnFits c.turns
  pub first_in_law : InLaw c.first_left
  pub second_in_law : InLaw c.second_left
