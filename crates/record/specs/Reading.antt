-- What reading answers.
--   lent_turns   the turns that lie in a record's bytes
--   Checked      the first of some requirements that does not hold is answered as the fault
--   Looked       a content as the bytes say it, and each is a byte; or the first fault
--   Answered     the content that the bytes say, or the first fault by rising place
--   Exactly      the bytes encode that content, which is well-formed; on a fault they encode none
use Rattle.std.specs.Prelude.{◌≡◌, ℕ, List, Some, None, Ok, Err, Result}
use Rattle.verdict.specs.declared.Turn.{Turn}
use Rattle.format.specs.Layout.{Content}
use Rattle.format.specs.Requirements.{Requirement, requirements, first_fault, turns_in}
use Rattle.format.specs.Promises.{Bytes, Reads, Encodes}
use Rattle.record.specs.declared.content.Record.{Record}
use Rattle.record.specs.declared.content.TurnBytes.{TurnBytes}
use Rattle.record.specs.declared.fault.Fault.{Fault}
use Rattle.record.specs.Contents.{content}
use Rattle.record.specs.Faults.{found_of}

abbrev pub lent_turns : TurnBytes → List Turn
lent_turns t = turns_in t.0.now

abbrev pub Checked : {A : Type 0} → List Requirement → Result A Fault → Type 0
Checked ds (Ok x) = first_fault ds ≡ None
Checked ds (Err f) = first_fault ds ≡ Some (found_of f)

abbrev pub Looked : List ℕ → Result (Record TurnBytes) Fault → Type 0
Looked b (Ok r) = Reads b (content lent_turns r) × Bytes b
Looked b (Err f) = first_fault (requirements b) ≡ Some (found_of f)

abbrev pub Answered : List ℕ → Result (Record TurnBytes) Fault → Type 0
Answered b (Ok r) = Reads b (content lent_turns r)
Answered b (Err f) = first_fault (requirements b) ≡ Some (found_of f)

abbrev pub Exactly : List ℕ → Result (Record TurnBytes) Fault → Type 0
Exactly b (Ok r) = Encodes (content lent_turns r) b
Exactly b (Err f) = (c : Content) → Encodes c b → ⊥
