use Rattle.std.proofs.Common.{◌≡◌, ℕ, ◌≤◌, List, ◌++◌, length, Option, sym, ap, ◌∙◌, subst}
use Rattle.format.specs.Requirements.{Found, content_of}
use Rattle.format.proofs.Enough.{decided, long_faulty}
use Rattle.record.specs.Contents.{content}
use Rattle.record.specs.Faults.{found_of, refused_line}
use Rattle.record.specs.Reading.{lent_turns}
use Rattle.report.specs.Lines.{accepted_line, line_at, line_of, Texts}
use Rattle.report.proofs.line.Goals as goal

same_line : (b more : List ℕ) → 1645 ≤ length b → line_of (b ++ more) ≡ line_of b
same_line b more long =
    let f = long_faulty b long in
    ap (λ (o : Option Found). line_at o (content_of (b ++ more))) (decided b more long ∙ f.1)
    ∙ sym (ap (λ (o : Option Found). line_at o (content_of b)) f.1)

pub returns-in-Ok : goal.returns-in-Ok
returns-in-Ok c =
    let b = c.args.bytes.now in
    let r = c.in-Ok.ensures.answer in
    let e : accepted_line (content lent_turns c.in-Ok.record) ≡ line_of b = ap accepted_line (sym r.says) ∙ sym (ap (λ (o : Option Found). line_at o (content_of b)) r.faultless) in
    record { text = subst (Texts c.accepted.result) e c.accepted.ensures; decided = same_line }

pub returns-in-Err : goal.returns-in-Err
returns-in-Err c =
    let b = c.args.bytes.now in
    let e : refused_line (found_of c.in-Err.fault) ≡ line_of b = sym (ap (λ (o : Option Found). line_at o (content_of b)) c.in-Err.ensures.answer) in
    record { text = subst (Texts c.to_string.result) e c.to_string.ensures.ok; decided = same_line }
