use Rattle.std.proofs.Common.{refl, arith, lit<, lit≤}
use Rattle.format.specs.Layout.{encode}
use Rattle.report.proofs.sample.Goals as goal

pub returns : goal.returns
unfolding encode
returns c = record {
  bytes = refl;
  size = refl;
  end = refl;
  well = record {
    first_entrant = lit≤ tt;
    second_entrant = lit≤ tt;
    two_entrants = λ e. omega arith;
    limit_least = lit≤ tt;
    limit_most = lit≤ tt;
    text_least = lit≤ tt;
    text_most = lit≤ tt;
    text_bytes = (lit< tt, tt);
    within_limit = lit≤ tt;
    turns_fit = (record { code_fits = lit≤ tt; reading_fits = lit≤ tt }, (record { code_fits = lit≤ tt; reading_fits = lit≤ tt }, tt));
    first_in_law = record { least = lit≤ tt; most = lit≤ tt };
    second_in_law = record { least = lit≤ tt; most = lit≤ tt };
  };
}
