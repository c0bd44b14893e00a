-- What a test of a status says.
use Rattle.std.proofs.Common.{◌≡◌, true, sym, refl}
use Rattle.std.proofs.lemmas.Bool.{true≢false}
use Rattle.rules.specs.declared.Status.{Status}
use Rattle.rules.specs.declared.Status.TheVariants.{Open, Won, Drawn}
use Rattle.rules.specs.Plans.{is_open}

pub status_open : (x : Status) → is_open x ≡ true → x ≡ Open
status_open Open h = refl
status_open (Won t) h = absurd (true≢false (sym h))
status_open Drawn h = absurd (true≢false (sym h))
