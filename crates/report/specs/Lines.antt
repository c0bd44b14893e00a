-- The line that is printed of some bytes.
--   accepted_line   seats, verdict, number of turns, lefts, one blank between
--   line_of         that, or the line of the first fault where the bytes are no record
--   Texts           a text was made, or memory failed
--   sample_content  the content of the sample record, and sample_end its last bytes
use Rattle.std.specs.Prelude.{◌≡◌, ℕ, List, [], ◌∷◌, ◌++◌, length, IfOk, Some, None, string_bytes, codes, decimal, Option, Result, String}
use Rattle.std.specs.declared.alloc.AllocError.{AllocError}
use Rattle.std.specs.declared.alloc.Global.{Global}
use Rattle.side.specs.declared.Side.TheVariants.{Second}
use Rattle.verdict.specs.declared.Outcome.TheVariants.{WonBy}
use Rattle.verdict.specs.declared.Verdict.TheVariants.{Rules}
use Rattle.verdict.specs.Verdicts.{standing_number}
use Rattle.format.specs.Layout.{Content}
use Rattle.format.specs.Requirements.{Found, first_fault, requirements, content_of}
use Rattle.record.specs.Faults.{refused_line}

abbrev pub accepted_line : Content → List ℕ
accepted_line c =
    decimal c.first ++ (codes " " ++ (decimal c.second ++ (codes " " ++ (decimal (standing_number c.standing) ++ (codes " "
    ++ (decimal (length c.turns) ++ (codes " " ++ (decimal c.first_left ++ (codes " " ++ decimal c.second_left)))))))))

abbrev pub line_at : Option Found → Content → List ℕ
line_at None c = accepted_line c
line_at (Some f) c = refused_line f

abbrev pub line_of : List ℕ → List ℕ
line_of b = line_at (first_fault (requirements b)) (content_of b)

abbrev pub Texts : Result (String Global) AllocError → List ℕ → Type 0
Texts r text = IfOk r (λ s. string_bytes s ≡ text)

abbrev pub sample_content : Content
sample_content = record {
  first = 0;
  second = 1;
  standing = Some (Rules (WonBy Second));
  limit = 10;
  text = codes "N";
  turns = record { code = 1; reading = 5 } ∷ record { code = 33; reading = 7 } ∷ [];
  first_left = 995;
  second_left = 993;
}

abbrev pub sample_end : List ℕ
sample_end = 0xe3 ∷ 0x03 ∷ 0x00 ∷ 0x00 ∷ 0xe1 ∷ 0x03 ∷ 0x00 ∷ 0x00 ∷ []
