-- What is promised of records.
--   Bytes         each number is a byte
--   Reads         the bytes hold all that is required, and say the content
--   AcceptsOnly   bytes that hold all that is required encode a well-formed content
--   ReadsBack     what a well-formed content encodes to is read as that content
--   Decided       what follows the first 1,645 bytes does not change the first fault
use Rattle.std.specs.Prelude.{◌≡◌, ℕ, ◌<◌, ◌≤◌, List, ◌++◌, length, None, slice_index}
use Rattle.format.specs.Layout.{Content, WellFormed, encode}
use Rattle.format.specs.Requirements.{requirements, first_fault, content_of}

abbrev pub Bytes : List ℕ → Type 0
Bytes b = (k : ℕ) → slice_index b k < 256

pub record Reads (b : List ℕ) (c : Content) : Type 0 where
  pub faultless : first_fault (requirements b) ≡ None
  pub says : content_of b ≡ c

pub record Encodes (c : Content) (b : List ℕ) : Type 0 where
  pub well : WellFormed c
  pub same : encode c ≡ b

abbrev pub AcceptsOnly : Type 0
AcceptsOnly = (b : List ℕ) → Bytes b → first_fault (requirements b) ≡ None → Encodes (content_of b) b

abbrev pub ReadsBack : Type 0
ReadsBack = (c : Content) → WellFormed c → Reads (encode c) c

abbrev pub Decided : Type 0
Decided = (b more : List ℕ) → 1645 ≤ length b → first_fault (requirements (b ++ more)) ≡ first_fault (requirements b)
