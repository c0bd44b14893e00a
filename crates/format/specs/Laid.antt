-- Bytes laid into a buffer.
--   laid          a list once others are laid over it from a place on
--   Lays          a buffer became another, with others laid over it from a place on; and where they end
--   written       the buffer once a content is written at its front
--   most_bytes    what a record's own offsets can count
--   write_refusal 9 where the buffer is too short, or the offsets could not count the bytes
--   word_size     a number where it fits four bytes
use Rattle.std.specs.Prelude.{◌≡◌, ℕ, ◌+◌, ◌&&◌, List, ◌++◌, length, take, drop, Some, None, Option, nat_le, if◌then◌else◌}
use Rattle.format.specs.Layout.{Content, encode}

abbrev pub laid : {A : Type 0} → List A → ℕ → List A → List A
laid buffer place xs = take place buffer ++ (xs ++ drop (place + length xs) buffer)

pub record Lays (old : List ℕ) (place : ℕ) (xs new : List ℕ) (end : ℕ) : Type 0 where
  pub buffer : new ≡ laid old place xs
  pub ends : end ≡ place + length xs

abbrev pub written : List ℕ → Content → List ℕ
written buffer c = encode c ++ drop (length (encode c)) buffer

abbrev pub most_bytes : ℕ
most_bytes = 4294967295

abbrev pub write_refusal : ℕ → Content → Option ℕ
write_refusal size c = if nat_le (length (encode c)) most_bytes && nat_le (length (encode c)) size then None else Some 9

abbrev pub word_size : ℕ → Option ℕ
word_size n = if nat_le n most_bytes then Some n else None
