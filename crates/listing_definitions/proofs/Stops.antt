-- The ends of a listing as they are printed, computed, and their statuses.
use Rattle.std.specs.Prelude.{◌≡◌, refl, true, false, List, [], ◌∷◌, codes, None, Some, map, pos, negsuc}
use Rattle.std.specs.List.{flat_map}
use Rattle.exact_values.specs.Gcd.{gcd}
use Rattle.exact_values.specs.Rational.{ℚ, fraction, whole}
use Rattle.frac128.specs.declared.Op.TheVariants.{Sub, Mul, Div}
use Rattle.lp_definitions.specs.declared.Status.TheVariants.{Bs, Ll, Ul, Fr}
use Rattle.card_definitions.specs.declared.CardFault.TheVariants.{TooLong, NotPrintable, CardTooLong}
use Rattle.listing_definitions.specs.Numbers.{digits}
use Rattle.listing_definitions.specs.declared.VerbFault.TheVariants.{DeckNotFound, WrongPrices}
use Rattle.listing_definitions.specs.Ending.{Ending, Ended, WordsRefused, ControlStop, VerbStop, DeckStop, CardStop, LimitStop, StatementLimit, OverflowStop}
use Rattle.listing_definitions.specs.Ending.{ReadFault, PrintFault, PunchFault, Memory, status_of}
use Rattle.listing_definitions.specs.Listing.{ending_text}

-- every end but an overflow
stops : List Ending
stops =
    Ended 0 ∷ Ended 1 ∷ Ended 2 ∷ WordsRefused ∷
    ControlStop (record { number = 11; card = 5002 }) ∷
    VerbStop (record { fault = DeckNotFound; card = 3 }) ∷ VerbStop (record { fault = WrongPrices; card = 3 }) ∷
    DeckStop (record { fault = 24; card = 19; number = None; column = None }) ∷
    DeckStop (record { fault = 8; card = 12; number = Some 4; column = None }) ∷
    DeckStop (record { fault = 8; card = 12; number = Some 2; column = Some 28 }) ∷
    CardStop TooLong ∷ CardStop (CardTooLong 3) ∷ CardStop (NotPrintable 3) ∷
    LimitStop (record { limit = 2; card = 5 }) ∷ StatementLimit ∷ ReadFault ∷ PrintFault ∷ PunchFault ∷ Memory ∷ []

stop_texts : flat_map ending_text stops
    ≡ codes "END 0\nEND 1\nEND 2\nSTOP 4 WORDS\nSTOP 8 CONTROL FAULT 11 CARD 5002\nSTOP 10 VERB FAULT 1 CARD 3\nSTOP 10 VERB FAULT 16 CARD 3\nSTOP 12 DECK FAULT 24 CARD 19\nSTOP 12 DECK FAULT 8 CARD 12 NUMBER 4\nSTOP 12 DECK FAULT 8 CARD 12 NUMBER 2 COLUMN 28\nSTOP 13 CARD FAULT 2\nSTOP 13 CARD FAULT 3 CARD 3\nSTOP 13 CARD FAULT 4 CARD 3\nSTOP 16 ITERATION LIMIT 2 CARD 5\nSTOP 17 STATEMENT LIMIT\nSTOP 24 READ FAULT\nSTOP 26 PUNCH FAULT\nSTOP 28 MEMORY\n"
unfolding stops digits
stop_texts = refl

statuses : map status_of stops ≡ 0 ∷ 1 ∷ 2 ∷ 4 ∷ 8 ∷ 10 ∷ 10 ∷ 12 ∷ 12 ∷ 12 ∷ 13 ∷ 13 ∷ 13 ∷ 16 ∷ 17 ∷ 24 ∷ 25 ∷ 26 ∷ 28 ∷ []
unfolding stops
statuses = refl

large : ℚ
large = whole (pos 999999999000000000000000000)

-- the opening point of a column whose entry and lower limit are too large
point_overflow : ending_text (OverflowStop (record {
  evidence =
      record { formula = 10; way = 0; p = 0; q = 0; i = 2; j = 3; term = 0; theta = whole (pos 0); refused = record { op = Mul; left = large; right = large } };
  place = Some (record { basis = Bs ∷ Bs ∷ Ll ∷ []; way = true ∷ true ∷ false ∷ [] });
  card = 4;
}))
    ≡ codes "STOP 20 OVERFLOW F10 MUL 999999999000000000000000000 999999999000000000000000000 P 0 Q 0 I 2 J 3 TERM 0 THETA 0 CARD 4\nBASIS BBL\nWAY BBN\n"
unfolding digits large whole
point_overflow = refl

-- the sum of a range, for which there is no basis
range_overflow : ending_text (OverflowStop (record {
  evidence =
      record {
        formula = 13;
        way = 0;
        p = 0;
        q = 0;
        i = 2;
        j = 0;
        term = 0;
        theta = whole
            (pos 0);
        refused = record { op = Sub; left = large; right = fraction (pos 1) 10000000000000000000 };
      };
  place = None;
  card = 3;
}))
    ≡ codes "STOP 20 OVERFLOW F13 SUB 999999999000000000000000000 1/10000000000000000000 P 0 Q 0 I 2 J 0 TERM 0 THETA 0 CARD 3\nBASIS NONE\nWAY NONE\n"
unfolding digits large whole fraction gcd
range_overflow = refl

-- each letter, a waypoint and a parameter
parametric_overflow : ending_text (OverflowStop (record {
  evidence =
      record {
        formula = 12;
        way = 7;
        p = 1;
        q = 5;
        i = 0;
        j = 2;
        term = 0;
        theta = fraction
            (negsuc 0) 2;
        refused = record { op = Div; left = large; right = fraction (pos 1) 3 };
      };
  place = Some (record { basis = Bs ∷ Bs ∷ Ll ∷ Ul ∷ Fr ∷ []; way = true ∷ false ∷ false ∷ true ∷ false ∷ [] });
  card = 6;
}))
    ≡ codes "STOP 20 OVERFLOW F12 DIV 999999999000000000000000000 1/3 P 1 Q 5 I 0 J 2 TERM 0 THETA -1/2 CARD 6\nBASIS BBLUF\nWAY BNNBN\n"
unfolding digits large whole fraction gcd
parametric_overflow = refl
