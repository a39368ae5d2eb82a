-- Worked words and lines, computed.
use Rattle.std.specs.Prelude.{◌≡◌, refl, pos, true, false, [], codes, Some, None, is_some, is_none}
use Rattle.exact_values.specs.Gcd.{gcd}
use Rattle.exact_values.specs.Rational.{fraction, whole, neg_ℚ}
use Rattle.listing_definitions.specs.Numbers.{digits}
use Rattle.walk_definitions.specs.Checkers.{Checker, checker_of_128_bits, checker_of_any_length}
use Rattle.walk_definitions.specs.Words.{fraction_in, form_in, count_in, max_count}
use Rattle.walk_definitions.specs.Forms.{is_open_stop, is_ranges, is_punched, is_inserted}
use Rattle.walk_definitions.specs.Tables.{begins_table_line}

-- ---- numbers: each is written in one way alone

half : is_some (fraction_in checker_of_128_bits (codes "5/2")) ≡ true
unfolding fraction_in fraction gcd digits whole
half = refl

negative : is_some (fraction_in checker_of_128_bits (codes "-17")) ≡ true
unfolding fraction_in fraction gcd digits whole neg_ℚ
negative = refl

zero_alone : is_some (fraction_in checker_of_128_bits (codes "0")) ≡ true
unfolding fraction_in fraction gcd digits whole
zero_alone = refl

not_lowest : is_none (fraction_in checker_of_128_bits (codes "10/4")) ≡ true
unfolding fraction_in fraction gcd digits whole
not_lowest = refl

minus_zero : is_none (fraction_in checker_of_128_bits (codes "-0")) ≡ true
unfolding fraction_in fraction gcd digits whole neg_ℚ
minus_zero = refl

with_plus : is_none (fraction_in checker_of_128_bits (codes "+1")) ≡ true
unfolding fraction_in fraction gcd digits whole
with_plus = refl

over_one : is_none (fraction_in checker_of_128_bits (codes "3/1")) ≡ true
unfolding fraction_in fraction gcd digits whole
over_one = refl

over_zero : is_none (fraction_in checker_of_128_bits (codes "3/0")) ≡ true
unfolding fraction_in fraction gcd digits whole
over_zero = refl

two_slashes : is_none (fraction_in checker_of_128_bits (codes "1/2/3")) ≡ true
unfolding fraction_in fraction gcd digits whole
two_slashes = refl

letters : is_none (fraction_in checker_of_128_bits (codes "1x2")) ≡ true
unfolding fraction_in fraction gcd digits whole
letters = refl

nothing : is_none (fraction_in checker_of_128_bits []) ≡ true
unfolding fraction_in fraction gcd digits whole
nothing = refl

-- 2 ^ 127, and of any length
too_long : is_none (fraction_in checker_of_128_bits (codes "170141183460469231731687303715884105728")) ≡ true
unfolding fraction_in fraction gcd digits whole
too_long = refl

of_any_length : is_some (fraction_in checker_of_any_length (codes "170141183460469231731687303715884105728")) ≡ true
unfolding fraction_in fraction gcd digits whole
of_any_length = refl

-- where a number may have five digits above and below the line, one with six stands for a number of that form
short : Checker
short = record checker_of_any_length { most_digits = Some 5 }

five_digits : fraction_in short (codes "77777") ≡ fraction_in checker_of_any_length (codes "77777")
unfolding short fraction_in
five_digits = refl

six_digits : (fraction_in short (codes "-777777") ≡ None) × (form_in short (codes "-777777") ≡ Some (whole (pos 1)))
unfolding short fraction_in whole
six_digits = (refl, refl)

below_the_line : form_in short (codes "2/777777") ≡ Some (whole (pos 1))
unfolding short whole
below_the_line = refl

no_form : (form_in short (codes "0777777") ≡ None) × (form_in short (codes "2/2/777777") ≡ None)
unfolding short fraction_in fraction gcd digits whole
no_form = (refl, refl)

not_lowest_either : is_none (fraction_in checker_of_any_length (codes "10/4")) ≡ true
unfolding fraction_in fraction gcd digits whole
not_lowest_either = refl

greatest : count_in max_count (codes "4294967295") ≡ Some 4294967295
unfolding count_in digits
greatest = refl

too_great : count_in max_count (codes "4294967296") ≡ None
unfolding count_in digits
too_great = refl

leading_zero : count_in max_count (codes "00") ≡ None
unfolding count_in digits
leading_zero = refl

-- ---- stop texts that can't be attested, and some that can

limit : is_open_stop (codes "STOP 16 ITERATION LIMIT 10000 CARD 8\n") ≡ true
unfolding is_open_stop count_in digits
limit = refl

read_fault : is_open_stop (codes "STOP 24 READ FAULT\n") ≡ true
unfolding is_open_stop
read_fault = refl

punch_fault : is_open_stop (codes "STOP 26 PUNCH FAULT\n") ≡ true
unfolding is_open_stop
punch_fault = refl

memory : is_open_stop (codes "STOP 28 MEMORY\nEND 0\n") ≡ true
unfolding is_open_stop
memory = refl

singular : is_open_stop (codes "STOP 10 VERB FAULT 15 CARD 7\n    1 COST     1\n") ≡ true
unfolding is_open_stop count_in digits
singular = refl

wrong_prices : is_open_stop (codes "STOP 10 VERB FAULT 16 CARD 7 VARIABLE 3\n") ≡ true
unfolding is_open_stop count_in digits
wrong_prices = refl

overflow : is_open_stop (codes "STOP 20 OVERFLOW F13 SUB 7/2 1 P 0 Q 0 I 2 J 0 TERM 0 THETA 0 CARD 3\nBASIS NONE\nWAY NONE\n") ≡ true
unfolding is_open_stop count_in digits fraction_in fraction gcd whole
overflow = refl

more_words : is_open_stop (codes "STOP 28 MEMORY NOW\n") ≡ false
unfolding is_open_stop
more_words = refl

no_line_feed : is_open_stop (codes "STOP 28 MEMORY") ≡ false
unfolding is_open_stop
no_line_feed = refl

other_zeros : is_open_stop (codes "STOP 16 ITERATION LIMIT 010 CARD 8\n") ≡ false
unfolding is_open_stop count_in digits
other_zeros = refl

statements : is_open_stop (codes "STOP 17 STATEMENT LIMIT\n") ≡ false
unfolding is_open_stop
statements = refl

-- ---- reports that show a basis

ranges : is_ranges (codes "RANGE\nSECTION 1 - ROWS AT LIMIT LEVEL\n") ≡ true
unfolding is_ranges
ranges = refl

punched : is_punched (codes "MIX") (codes "PUNCH   MIX      CARDS 5\n") ≡ true
unfolding is_punched count_in digits
punched = refl

other_name : is_inserted (codes "MIX") (codes "INSERT  MAX      BASIC 2\n") ≡ false
unfolding is_inserted
other_name = refl

-- ---- table lines

line : begins_table_line (codes "    9 NOSUCH   1\n") ≡ true
line = refl

junk : begins_table_line (codes " junk\n") ≡ false
junk = refl
