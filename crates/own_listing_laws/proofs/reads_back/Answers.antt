use Rattle.own_listing_laws.proofs.Spelled.{in_128_bits}
use Rattle.own_listing_laws.proofs.Claims.{verdict_read}
use Rattle.own_listing_laws.proofs.Sections.{reported_read, interval_read, close_read}
use Rattle.own_listing_laws.proofs.reads_back.Goals as goal

pub returns : goal.returns
returns c = record {
  verdict = λ sheet solver verdict check after is printed fit check_fits other.
      verdict_read _ in_128_bits sheet check check_fits after solver verdict is printed fit other;
  solution = λ sheet s t mark after rows columns. reported_read _ in_128_bits sheet s t mark after rows columns;
  interval = λ sheet number part after fit lines. interval_read _ in_128_bits sheet number part after fit lines;
  close = λ sheet solver end after is fit other. close_read _ in_128_bits sheet solver end after is fit other;
}
