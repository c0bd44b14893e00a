-- What bytes must hold to be a record, in order of rising place.
--   half_at, word_at   the number in two or four bytes at a place
--   text_length, turns_length, turns_part, lefts_part   a record's parts, by its pairs
--   turn_at, turns_of, turns_in   turns in bytes, six to a turn
--   content_of   what the bytes say
--   Requirement  what must hold, with the number and place of the fault if it does not
--   requirements all of them, the length first, then by rising place
--   Found        a fault's number and place
--   first_fault  the first requirement that does not hold
--   PartedInto   the text of t bytes, the turns of n bytes and the lefts that stand in some bytes
--   PartedAt     head and pairs hold, the text ends at one place and the turns at another
use Rattle.std.specs.Prelude.{◌≡◌, ℕ, zero, suc, ◌+◌, ◌*◌, ◌/◌, ◌%◌, Bool, true, not, ◌&&◌, List, [], ◌∷◌, ◌++◌, length, take, drop, Some, None, Option, ◌==◌, nat_le, slice_index, if◌then◌else◌}
use Rattle.verdict.specs.declared.Turn.{Turn}
use Rattle.verdict.specs.Verdicts.{standing_of, is_listed}
use Rattle.format.specs.Layout.{Content, version, longest_text}

abbrev pub half_at : List ℕ → ℕ → ℕ
half_at b k = slice_index b k + slice_index b (k + 1) * 256

abbrev pub word_at : List ℕ → ℕ → ℕ
word_at b k = slice_index b k + slice_index b (k + 1) * 256 + slice_index b (k + 2) * 65536 + slice_index b (k + 3) * 16777216

abbrev pub text_length : List ℕ → ℕ
text_length b = word_at b 16

abbrev pub turns_length : List ℕ → ℕ
turns_length b = word_at b 24

abbrev pub turns_part : List ℕ → List ℕ
turns_part b = drop (text_length b) (drop 36 b)

abbrev pub lefts_part : List ℕ → List ℕ
lefts_part b = drop (turns_length b) (turns_part b)

abbrev pub turn_at : List ℕ → Turn
turn_at b = record { code = half_at b 0; reading = word_at b 2 }

-- n turns of six bytes each
abbrev pub turns_of : ℕ → List ℕ → List Turn
turns_of zero b = []
turns_of (suc n) b = turn_at b ∷ turns_of n (drop 6 b)

-- as many as there are
abbrev pub turns_in : List ℕ → List Turn
turns_in b = turns_of (length b / 6) b

abbrev pub content_of : List ℕ → Content
content_of b = record {
  first = slice_index b 4;
  second = slice_index b 5;
  standing = standing_of (slice_index b 6);
  limit = half_at b 8;
  text = take (text_length b) (drop 36 b);
  turns = turns_of (turns_length b / 6) (turns_part b);
  first_left = word_at (lefts_part b) 0;
  second_left = word_at (lefts_part b) 4;
}

pub record Requirement : Type 0 where
  pub number : ℕ
  pub place : ℕ
  pub holds : Bool

abbrev pub must : ℕ → ℕ → Bool → Requirement
must n p h = record { number = n; place = p; holds = h }

abbrev pub long_enough : List ℕ → Requirement
long_enough b = must 11 (length b) (nat_le 44 (length b))

abbrev pub head_requirements : List ℕ → List Requirement
head_requirements b =
    must 11 0 (slice_index b 0 == 71)
    ∷ must 11 1 (slice_index b 1 == 82)
    ∷ must 11 2 (slice_index b 2 == version)
    ∷ must 11 3 (slice_index b 3 == 0)
    ∷ must 11 4 (nat_le (slice_index b 4) 15)
    ∷ must 11 5 (nat_le (slice_index b 5) 15 && not (slice_index b 5 == slice_index b 4))
    ∷ must 11 6 (is_listed (slice_index b 6))
    ∷ must 11 7 (slice_index b 7 == 0)
    ∷ must 11 8 (nat_le 1 (half_at b 8) && nat_le (half_at b 8) 256)
    ∷ must 11 10 (half_at b 10 == 3)
    ∷ []

-- of a record of so many bytes that begins as b; t and n are the text's and the turns' lengths, in bytes
abbrev pub sized_pair_requirements : List ℕ → ℕ → ℕ → ℕ → List Requirement
sized_pair_requirements b size t n =
    must 12 12 (word_at b 12 == 36 && (nat_le 1 t && nat_le t longest_text))
    ∷ must 12 20 (word_at b 20 == 36 + t && (n % 6 == 0 && nat_le (n / 6) (half_at b 8)))
    ∷ must 12 28 (word_at b 28 == 36 + t + n && (word_at b 32 == 8 && 36 + t + n + 8 == size))
    ∷ []

abbrev pub pair_requirements : List ℕ → ℕ → ℕ → List Requirement
pair_requirements b t n = sized_pair_requirements b (length b) t n

abbrev pub reading_requirements : ℕ → List Turn → List Requirement
reading_requirements place [] = []
reading_requirements place (t ∷ ts) = must 13 place (nat_le t.reading 86400000) ∷ reading_requirements (place + 6) ts

abbrev pub in_law : ℕ → Bool
in_law left = nat_le 1 left && nat_le left 1000000000

abbrev pub left_requirements : ℕ → ℕ → ℕ → List Requirement
left_requirements place first second = must 13 place (in_law first) ∷ must 13 (place + 4) (in_law second) ∷ []

abbrev pub part_requirements : List ℕ → List Requirement
part_requirements b =
    reading_requirements (36 + text_length b) (content_of b).turns
    ++ left_requirements (36 + text_length b + turns_length b) (content_of b).first_left (content_of b).second_left

unfoldable pub requirements : List ℕ → List Requirement
requirements b = long_enough b ∷ (head_requirements b ++ (pair_requirements b (text_length b) (turns_length b) ++ part_requirements b))

pub record Found : Type 0 where
  pub number : ℕ
  pub place : ℕ

abbrev pub found : ℕ → ℕ → Found
found n p = record { number = n; place = p }

abbrev pub first_fault : List Requirement → Option Found
first_fault [] = None
first_fault (d ∷ ds) = if d.holds then first_fault ds else Some (found d.number d.place)

pub record PartedAt (b : List ℕ) (text_end turns_end : ℕ) : Type 0 where
  pub rest : first_fault (requirements b) ≡ first_fault (part_requirements b)
  pub listed : is_listed (slice_index b 6) ≡ true
  pub after_text : text_end ≡ 36 + text_length b
  pub after_turns : turns_end ≡ text_end + turns_length b
  pub whole : turns_length b % 6 ≡ 0
  pub ends : turns_end + 8 ≡ length b

pub record PartedInto (b : List ℕ) (t n : ℕ) (text turns : List ℕ) (first second : ℕ) : Type 0 where
  pub text_is : text ≡ take t (drop 36 b)
  pub turns_are : turns ≡ take n (drop t (drop 36 b))
  pub first_is : first ≡ word_at (drop n (drop t (drop 36 b))) 0
  pub second_is : second ≡ word_at (drop n (drop t (drop 36 b))) 4
