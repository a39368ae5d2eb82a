-- How the command with the single option reads words: what it refuses, and the value that it finds.
use Rattle.std.proofs.Common.{◌≡◌, ◌⊎◌, inl, inr, ℕ, ◌==◌, Bool, true, false, List, [], ◌∷◌, ◌++◌, codes, Option, None, Some, if◌then◌else◌, slice_get}
use Rattle.std.proofs.Common.{option_map, Result, Ok, Err, IfOk, IsErrOf, refl, ap, subst, sym, ◌∙◌}
use Rattle.std.specs.List.{fold}
use Rattle.std.specs.Result.{result_ok}
use Rattle.std.specs.Str.{bytes_eq, chars}
use Rattle.clap.specs.Kinds.{Kinds, or_else, IsAmong}
use Rattle.clap.specs.Lexer.{name_and_value, short_of}
use Rattle.clap.specs.Walk.{Text, Held, Walk, Waiting, Row, idle, option, walked, walk_from, nothing_held, finished, first_of, has_row, bundle_met}
use Rattle.clap.specs.Simple.{Shape, built, matches_of, is_simple}
use Rattle.clap.specs.Faults.{turn_fault, walk_fault, settle_fault, defaults_fault, fault_of, flags_fault, is_simple_and_free}
use Rattle.clap.proofs.FaultLemmas.{leaf_fault}
use Rattle.clap.proofs.OnLiterals.{clap_on_literals}
use Rattle.clap.specs.declared.error.kind.ErrorKind.TheVariants as kind
use Rattle.command_line.proofs.Sizes.{no_dash}
use Rattle.command_line.proofs.WordForms.{Word, mark, named, with_value, unknown, short, empty, dash, plain, word_kind, ends_not, IsNoOption, unknown_is_none}
use Rattle.command_line.proofs.WordForms.{short_is_none, empty_is_none, dash_is_none, plain_is_none}
use Rattle.command_line.specs.Options.{command}
use Rattle.command_line.specs.Requests.{asked, asked_with, asked_first, rest_after, ends, valued, valued_by_next}
use Rattle.command_line.specs.declared.request.Request.{Request}
use Rattle.command_line.specs.declared.request.Request.TheVariants.{Read, Make}

-- ---- the command

pub command_is_simple : is_simple_and_free command ≡ true
unfolding clap_on_literals
command_is_simple = refl

pub command_is_walked : is_simple command ≡ true
unfolding clap_on_literals
command_is_walked = refl

-- as it is built
abbrev top : Shape
top = (built command).top

-- ---- kinds of faults

or_else-assoc : (a b c : Kinds) → or_else (or_else a b) c ≡ or_else a (or_else b c)
or_else-assoc [] b c = refl
or_else-assoc (k ∷ ks) b c = refl

or_else-none : (a : Kinds) → or_else a [] ≡ a
or_else-none [] = refl
or_else-none (k ∷ ks) = refl

first_none : (a b : Kinds) → or_else a b ≡ [] → a ≡ []
first_none [] b e = refl
first_none (k ∷ ks) b e = e

second_none : (a b : Kinds) → or_else a b ≡ [] → b ≡ []
second_none [] b e = e
second_none (k ∷ ks) b e = cc

-- ---- the walk from a state on

-- the kinds of the first step that fails
unfoldable faults : Walk → List Text → Kinds
faults w words = or_else (walk_fault top [] w words) (settle_fault top.rules false (fold (walked top.rules []) w words).held)

unfoldable turn : Walk → Text → Kinds
turn w word = turn_fault top [] w word

-- the value that is found
unfoldable value : Walk → List Text → Option Text
value w words = first_of (codes "make") (finished top.rules (fold (walked top.rules []) w words).held)

step : (w : Walk) (word : Text) (rest : List Text) → faults w (word ∷ rest) ≡ or_else (turn w word) (faults (walked top.rules [] w word) rest)
unfolding walk_fault turn faults
step w word rest = or_else-assoc (turn w word) _ _

-- what is asked for, against the faults and the value
pub data Verdict (kinds : Kinds) (given : Option Text) (expected : Option Request) : Type 0 where
  taken : kinds ≡ [] → expected ≡ asked_with given → Verdict kinds given expected
  refused : (kinds ≡ [] → ⊥) → expected ≡ None → Verdict kinds given expected

abbrev Reads : Walk → List Text → Option Request → Type 0
Reads w words expected = Verdict (faults w words) (value w words) expected

stops : (w : Walk) (word : Text) (rest : List Text) (expected : Option Request) → (turn w word ≡ [] → ⊥) → expected ≡ None → Reads w (word ∷ rest) expected
stops w word rest expected fails none = refused (λ e. fails (first_none (turn w word) _ (sym (step w word rest) ∙ e))) none

moves : (w after : Walk) (word : Text) (rest : List Text) (expected : Option Request) → turn w word ≡ [] → walked top.rules [] w word ≡ after →
    Reads after rest expected → Reads w (word ∷ rest) expected
unfolding value
moves w after word rest expected passes goes reads =
    let same = step w word rest ∙ (λ i. or_else (passes i) (faults (goes i) rest)) in
    subst (λ k. Verdict k (value w (word ∷ rest)) expected) (sym same)
    (subst (λ g. Verdict (faults after rest) g expected) (λ i. value (sym goes i) rest) reads)

-- ---- the states of the walk

abbrev held : List Row → Option (Text × List Text) → Held
held rows pending = record { rows = rows; pending = pending; skip = 0 }

abbrev at : Held → Waiting → Bool → Walk
at h waiting is_trailing = record { held = h; waiting = waiting; position = 1; is_trailing = is_trailing; stopped = None }

abbrev option_with : List Text → Option (Text × List Text)
option_with values = Some (codes "make", values)

-- ---- a word after the mark

abbrev stray : Kinds
stray = kind.UnknownArgument ∷ []

trailing_stray : (h : Held) (waiting : Waiting) (word : Text) → turn (at h waiting true) word ≡ stray
unfolding clap_on_literals turn faults value
trailing_stray h waiting word = refl

-- ---- a word where nothing is waited for

module _ (rows : List Row) (pending : Option (Text × List Text)) where
  idle_unknown : (x : ℕ) (xs : Text) → bytes_eq (codes "make") (name_and_value (x ∷ xs)).0 ≡ false →
      turn (at (held rows pending) idle false) (45 ∷ 45 ∷ x ∷ xs) ≡ stray
  unfolding clap_on_literals turn faults value
  idle_unknown x xs no_name = rw no_name refl

  idle_plain : (x : ℕ) (xs : Text) → (x == 45) ≡ false → turn (at (held rows pending) idle false) (x ∷ xs) ≡ stray
  unfolding clap_on_literals turn faults value
  idle_plain x xs no_dash = rw (no_dash, short_of, no_dash) refl

  idle_empty : turn (at (held rows pending) idle false) [] ≡ stray
  unfolding clap_on_literals turn faults value
  idle_empty = refl

  idle_dash : turn (at (held rows pending) idle false) (45 ∷ []) ≡ stray
  unfolding clap_on_literals turn faults value
  idle_dash = refl

  idle_short : (x : ℕ) (xs : Text) → (x == 45) ≡ false → turn (at (held rows pending) idle false) (45 ∷ x ∷ xs) ≡ stray
  unfolding walked bundle_met flags_fault turn
  idle_short x xs no_dash = go (slice_get (chars (x ∷ xs)) 0) refl
    where
      go : (first : Option ℕ) → slice_get (chars (x ∷ xs)) 0 ≡ first → turn (at (held rows pending) idle false) (45 ∷ x ∷ xs) ≡ stray
      go None e = rw (no_dash, short_of, no_dash, e) refl
      go (Some c) e = rw (no_dash, short_of, no_dash, e) refl

-- ---- a word where the option waits for its value

abbrev waits : List Row → Walk
waits rows = at (held rows (option_with [])) (option (codes "make")) false

-- the value is there, and the option is used at the next word that is one
abbrev has : List Row → Text → Walk
has rows v = at (held rows (option_with (v ∷ []))) idle false

abbrev missing : Kinds
missing = kind.InvalidValue ∷ []

module _ (rows : List Row) where
  waits_end : faults (waits rows) [] ≡ missing
  unfolding clap_on_literals turn faults value
  waits_end = refl

  waits_mark : (turn (waits rows) (codes "--") ≡ []) ×
      (walked top.rules [] (waits rows) (codes "--") ≡ at (held rows (option_with [])) (option (codes "make")) true)
  unfolding clap_on_literals turn faults value
  waits_mark = (refl, refl)

  waits_marked_end : (waiting : Waiting) → faults (at (held rows (option_with [])) waiting true) [] ≡ missing
  unfolding clap_on_literals turn faults value
  waits_marked_end waiting = refl

  waits_named : turn (waits rows) (codes "--make") ≡ missing
  unfolding clap_on_literals turn faults value
  waits_named = refl

  waits_with_value : (v : Text) → turn (waits rows) (codes "--make=" ++ v) ≡ missing
  unfolding clap_on_literals turn faults value
  waits_with_value v = refl

  waits_unknown : (x : ℕ) (xs : Text) → bytes_eq (codes "make") (name_and_value (x ∷ xs)).0 ≡ false → turn (waits rows) (45 ∷ 45 ∷ x ∷ xs) ≡ stray
  unfolding clap_on_literals turn faults value
  waits_unknown x xs no_name = rw no_name refl

  waits_plain : (x : ℕ) (xs : Text) → (x == 45) ≡ false → (turn (waits rows) (x ∷ xs) ≡ []) × (walked top.rules [] (waits rows) (x ∷ xs) ≡ has rows (x ∷ xs))
  unfolding clap_on_literals turn faults value
  waits_plain x xs no_dash = (rw (no_dash, short_of, no_dash) refl, rw (no_dash, short_of, no_dash) refl)

  waits_empty : (turn (waits rows) [] ≡ []) × (walked top.rules [] (waits rows) [] ≡ has rows [])
  unfolding clap_on_literals turn faults value
  waits_empty = (refl, refl)

  waits_dash : (turn (waits rows) (45 ∷ []) ≡ []) × (walked top.rules [] (waits rows) (45 ∷ []) ≡ has rows (45 ∷ []))
  unfolding clap_on_literals turn faults value
  waits_dash = (refl, refl)

  waits_short : (x : ℕ) (xs : Text) → (x == 45) ≡ false →
      (turn (waits rows) (45 ∷ x ∷ xs) ≡ stray) ⊎
      ((turn (waits rows) (45 ∷ x ∷ xs) ≡ []) × (walked top.rules [] (waits rows) (45 ∷ x ∷ xs) ≡ has rows (45 ∷ x ∷ xs)))
  unfolding walked bundle_met flags_fault turn
  waits_short x xs no_dash = go (slice_get (chars (x ∷ xs)) 0) refl
    where
      go : (first : Option ℕ) → slice_get (chars (x ∷ xs)) 0 ≡ first →
          (turn (waits rows) (45 ∷ x ∷ xs) ≡ stray) ⊎
          ((turn (waits rows) (45 ∷ x ∷ xs) ≡ []) × (walked top.rules [] (waits rows) (45 ∷ x ∷ xs) ≡ has rows (45 ∷ x ∷ xs)))
      go None e = inr (rw (no_dash, short_of, no_dash, e) refl, rw (no_dash, short_of, no_dash, e) refl)
      go (Some c) e = inl (rw (no_dash, short_of, no_dash, e) refl)

-- ---- the option has its value

-- the rows once the option is used with a value
abbrev used_with : Text → List Row
used_with v = (fold (walked top.rules []) (walk_from nothing_held) ((codes "--make=" ++ v) ∷ [])).held.rows

module _ (v : Text) where
  has_end : (faults (has [] v) [] ≡ []) × (value (has [] v) [] ≡ Some v)
  unfolding clap_on_literals turn faults value
  has_end = (refl, refl)

  has_mark : (turn (has [] v) (codes "--") ≡ []) × (walked top.rules [] (has [] v) (codes "--") ≡ at (held [] (option_with (v ∷ []))) idle true)
  unfolding clap_on_literals turn faults value
  has_mark = (refl, refl)

  has_marked_end : (faults (at (held [] (option_with (v ∷ []))) idle true) [] ≡ []) × (value (at (held [] (option_with (v ∷ []))) idle true) [] ≡ Some v)
  unfolding clap_on_literals turn faults value
  has_marked_end = (refl, refl)

  has_named : (turn (has [] v) (codes "--make") ≡ []) × (walked top.rules [] (has [] v) (codes "--make") ≡ waits (used_with v))
  unfolding clap_on_literals turn faults value
  has_named = (refl, refl)

  has_with_value : (u : Text) → turn (has [] v) (codes "--make=" ++ u) ≡ kind.ArgumentConflict ∷ []
  unfolding clap_on_literals turn faults value
  has_with_value u = refl

  abbrev used_up : Walk
  used_up = at (held (used_with v) None) idle false

  used_end : (faults used_up [] ≡ []) × (value used_up [] ≡ Some v)
  unfolding clap_on_literals turn faults value
  used_end = (refl, refl)

  used_mark : (turn used_up (codes "--") ≡ []) × (walked top.rules [] used_up (codes "--") ≡ at (held (used_with v) None) idle true)
  unfolding clap_on_literals turn faults value
  used_mark = (refl, refl)

  used_marked_end : (faults (at (held (used_with v) None) idle true) [] ≡ []) × (value (at (held (used_with v) None) idle true) [] ≡ Some v)
  unfolding clap_on_literals turn faults value
  used_marked_end = (refl, refl)

  used_named : (turn used_up (codes "--make") ≡ []) × (walked top.rules [] used_up (codes "--make") ≡ waits (used_with v))
  unfolding clap_on_literals turn faults value
  used_named = (refl, refl)

  used_with_value : (u : Text) → turn used_up (codes "--make=" ++ u) ≡ kind.ArgumentConflict ∷ []
  unfolding clap_on_literals turn faults value
  used_with_value u = refl

  -- the option a second time
  module _ (u : Text) where
    twice_end : faults (has (used_with v) u) [] ≡ kind.ArgumentConflict ∷ []
    unfolding clap_on_literals turn faults value
    twice_end = refl

    twice_mark : (turn (has (used_with v) u) (codes "--") ≡ []) ×
        (walked top.rules [] (has (used_with v) u) (codes "--") ≡ at (held (used_with v) (option_with (u ∷ []))) idle true)
    unfolding clap_on_literals turn faults value
    twice_mark = (refl, refl)

    twice_marked_end : faults (at (held (used_with v) (option_with (u ∷ []))) idle true) [] ≡ kind.ArgumentConflict ∷ []
    unfolding clap_on_literals turn faults value
    twice_marked_end = refl

    twice_named : turn (has (used_with v) u) (codes "--make") ≡ kind.ArgumentConflict ∷ []
    unfolding clap_on_literals turn faults value
    twice_named = refl

    twice_with_value : (t : Text) → turn (has (used_with v) u) (codes "--make=" ++ t) ≡ kind.ArgumentConflict ∷ []
    unfolding clap_on_literals turn faults value
    twice_with_value t = refl

-- ---- the first word

abbrev begins : Walk
begins = walk_from nothing_held

begins_end : (faults begins [] ≡ []) × (value begins [] ≡ None)
unfolding clap_on_literals turn faults value
begins_end = (refl, refl)

begins_mark : (turn begins (codes "--") ≡ []) × (walked top.rules [] begins (codes "--") ≡ at nothing_held idle true)
unfolding clap_on_literals turn faults value
begins_mark = (refl, refl)

begins_marked_end : (faults (at nothing_held idle true) [] ≡ []) × (value (at nothing_held idle true) [] ≡ None)
unfolding clap_on_literals turn faults value
begins_marked_end = (refl, refl)

begins_named : (turn begins (codes "--make") ≡ []) × (walked top.rules [] begins (codes "--make") ≡ waits [])
unfolding clap_on_literals turn faults value
begins_named = (refl, refl)

begins_with_value : (v : Text) → (turn begins (codes "--make=" ++ v) ≡ []) × (walked top.rules [] begins (codes "--make=" ++ v) ≡ used_up v)
unfolding clap_on_literals turn faults value
begins_with_value v = (refl, refl)

-- ---- what is asked for, from each state on

fails : (w : Walk) (word : Text) {k : kind.the_data} {ks : Kinds} → turn w word ≡ k ∷ ks → turn w word ≡ [] → ⊥
fails w word is none = cc

ends_failing : (w : Walk) (expected : Option Request) {k : kind.the_data} {ks : Kinds} → faults w [] ≡ k ∷ ks → expected ≡ None → Reads w [] expected
ends_failing w expected is none = refused (λ e. cc) none

as_none : (w : Walk) (words : List Text) {expected : Option Request} → expected ≡ None → Reads w words None → Reads w words expected
as_none w words none reads = subst (λ o. Reads w words o) (sym none) reads

-- after the mark there is no further word
after_mark : (h : Held) (waiting : Waiting) (expected : List Text → Option Request) → Reads (at h waiting true) [] (expected []) →
    ((word : Text) (rest : List Text) → expected (word ∷ rest) ≡ None) →
    (rest : List Text) → Reads (at h waiting true) rest (expected rest)
after_mark h waiting expected alone none [] = alone
after_mark h waiting expected alone none (word ∷ rest) =
    stops (at h waiting true) word rest (expected (word ∷ rest)) (fails _ word (trailing_stray h waiting word)) (none word rest)

refuses_after_mark : (h : Held) (waiting : Waiting) {k : kind.the_data} {ks : Kinds} → faults (at h waiting true) [] ≡ k ∷ ks → (rest : List Text) →
    Reads (at h waiting true) rest None
refuses_after_mark h waiting is = after_mark h waiting (λ rest. None) (ends_failing (at h waiting true) None is refl) (λ word rest. refl)

-- a word that is no option, where nothing is waited for
module _ (rows : List Row) (pending : Option (Text × List Text)) (rest : List Text) (expected : Option Request) (none : expected ≡ None) where
  abbrev here : Walk
  here = at (held rows pending) idle false

  stops_unknown : (x : ℕ) (xs : Text) → bytes_eq (codes "make") (name_and_value (x ∷ xs)).0 ≡ false → Reads here ((45 ∷ 45 ∷ x ∷ xs) ∷ rest) expected
  stops_unknown x xs e = stops here _ rest expected (fails here _ (idle_unknown rows pending x xs e)) none

  stops_short : (x : ℕ) (xs : Text) → (x == 45) ≡ false → Reads here ((45 ∷ x ∷ xs) ∷ rest) expected
  stops_short x xs e = stops here _ rest expected (fails here _ (idle_short rows pending x xs e)) none

  stops_empty : Reads here ([] ∷ rest) expected
  stops_empty = stops here _ rest expected (fails here _ (idle_empty rows pending)) none

  stops_dash : Reads here ((45 ∷ []) ∷ rest) expected
  stops_dash = stops here _ rest expected (fails here _ (idle_dash rows pending)) none

  stops_plain : (x : ℕ) (xs : Text) → (x == 45) ≡ false → Reads here ((x ∷ xs) ∷ rest) expected
  stops_plain x xs e = stops here _ rest expected (fails here _ (idle_plain rows pending x xs e)) none

-- the option a second time, with a value
twice : (v u : Text) (words : List Text) → Reads (has (used_with v) u) words None
twice v u [] = ends_failing (has (used_with v) u) None (twice_end v u) refl
twice v u (word ∷ rest) = by word (word_kind word)
  where
    by : (word : Text) → Word word → Reads (has (used_with v) u) (word ∷ rest) None
    by _ mark = moves _ _ (codes "--") rest None (twice_mark v u).0 (twice_mark v u).1 (refuses_after_mark _ idle (twice_marked_end v u) rest)
    by _ named = stops _ (codes "--make") rest None (fails _ _ (twice_named v u)) refl
    by _ (with_value t) = stops _ (codes "--make=" ++ t) rest None (fails _ _ (twice_with_value v u t)) refl
    by _ (unknown x xs e) = stops_unknown (used_with v) (option_with (u ∷ [])) rest None refl x xs e
    by _ (short x xs e) = stops_short (used_with v) (option_with (u ∷ [])) rest None refl x xs e
    by _ empty = stops_empty (used_with v) (option_with (u ∷ [])) rest None refl
    by _ dash = stops_dash (used_with v) (option_with (u ∷ [])) rest None refl
    by _ (plain x xs e) = stops_plain (used_with v) (option_with (u ∷ [])) rest None refl x xs e

-- the option waits for its value
module _ (rows : List Row) (expected : List Text → Option Request) (none_at_end : expected [] ≡ None)
    (none_dashed : (xs : Text) (rest : List Text) → expected ((45 ∷ xs) ∷ rest) ≡ None)
    (after : (u : Text) (rest : List Text) → Reads (has rows u) rest (expected (u ∷ rest))) where
  waits_reads : (words : List Text) → Reads (waits rows) words (expected words)
  waits_reads [] = ends_failing (waits rows) (expected []) (waits_end rows) none_at_end
  waits_reads (word ∷ rest) = by word (word_kind word)
    where
      short_word : (word : Text) → expected (word ∷ rest) ≡ None →
          (turn (waits rows) word ≡ stray) ⊎ ((turn (waits rows) word ≡ []) × (walked top.rules [] (waits rows) word ≡ has rows word)) →
          Reads (waits rows) (word ∷ rest) (expected (word ∷ rest))
      short_word word none (inl is) = stops (waits rows) word rest (expected (word ∷ rest)) (fails (waits rows) word is) none
      short_word word none (inr p) = moves (waits rows) (has rows word) word rest (expected (word ∷ rest)) p.0 p.1 (after word rest)

      by : (word : Text) → Word word → Reads (waits rows) (word ∷ rest) (expected (word ∷ rest))
      by _ mark =
          moves _ _ (codes "--") rest _ (waits_mark rows).0 (waits_mark rows).1
          (as_none _ rest (none_dashed (codes "-") rest) (refuses_after_mark _ _ (waits_marked_end rows _) rest))
      by _ named = stops _ (codes "--make") rest _ (fails _ _ (waits_named rows)) (none_dashed (codes "-make") rest)
      by _ (with_value t) = stops _ (codes "--make=" ++ t) rest _ (fails _ _ (waits_with_value rows t)) (none_dashed (codes "-make=" ++ t) rest)
      by _ (unknown x xs e) = stops _ (45 ∷ 45 ∷ x ∷ xs) rest _ (fails _ _ (waits_unknown rows x xs e)) (none_dashed (45 ∷ x ∷ xs) rest)
      by _ (short x xs e) = short_word (45 ∷ x ∷ xs) (none_dashed (x ∷ xs) rest) (waits_short rows x xs e)
      by _ empty = moves _ _ [] rest _ (waits_empty rows).0 (waits_empty rows).1 (after [] rest)
      by _ dash = moves _ _ (45 ∷ []) rest _ (waits_dash rows).0 (waits_dash rows).1 (after (45 ∷ []) rest)
      by _ (plain x xs e) = moves _ _ (x ∷ xs) rest _ (waits_plain rows x xs e).0 (waits_plain rows x xs e).1 (after (x ∷ xs) rest)

again : (v : Text) (words : List Text) → Reads (waits (used_with v)) words None
again v words = waits_reads (used_with v) (λ words. None) refl (λ xs rest. refl) (λ u rest. twice v u rest) words

no_more : (v word : Text) (rest : List Text) → bytes_eq word (codes "--") ≡ false → valued (Some v) (word ∷ rest) ≡ None
no_more v word rest e = ap (λ b. if b then asked_with (Some v) else None) (ends_not word rest e)

-- the option has its value
module _ (v : Text) (rows : List Row) (pending : Option (Text × List Text))
    (end : (faults (at (held rows pending) idle false) [] ≡ []) × (value (at (held rows pending) idle false) [] ≡ Some v))
    (marked : (turn (at (held rows pending) idle false) (codes "--") ≡ []) ×
    (walked top.rules [] (at (held rows pending) idle false) (codes "--") ≡ at (held rows pending) idle true))
    (marked_end : (faults (at (held rows pending) idle true) [] ≡ []) × (value (at (held rows pending) idle true) [] ≡ Some v))
    (renamed : (turn (at (held rows pending) idle false) (codes "--make") ≡ []) ×
    (walked top.rules [] (at (held rows pending) idle false) (codes "--make") ≡ waits (used_with v)))
    (revalued : (u : Text) → turn (at (held rows pending) idle false) (codes "--make=" ++ u) ≡ kind.ArgumentConflict ∷ []) where
  valued_reads : (words : List Text) → Reads (at (held rows pending) idle false) words (valued (Some v) words)
  valued_reads [] = taken end.0 (ap asked_with (sym end.1))
  valued_reads (word ∷ rest) = by word (word_kind word)
    where
      by : (word : Text) → Word word → Reads (at (held rows pending) idle false) (word ∷ rest) (valued (Some v) (word ∷ rest))
      by _ mark =
          moves _ _ (codes "--") rest _ marked.0 marked.1
          (after_mark _ idle (λ rest. valued (Some v) (codes "--" ∷ rest)) (taken marked_end.0 (ap asked_with (sym marked_end.1))) (λ word rest. refl) rest)
      by _ named = moves _ _ (codes "--make") rest _ renamed.0 renamed.1 (as_none _ rest (no_more v (codes "--make") rest refl) (again v rest))
      by _ (with_value u) = stops _ (codes "--make=" ++ u) rest _ (fails _ _ (revalued u)) (no_more v (codes "--make=" ++ u) rest refl)
      by _ (unknown x xs e) = stops_unknown rows pending rest _ (no_more v (45 ∷ 45 ∷ x ∷ xs) rest refl) x xs e
      by _ (short x xs e) = stops_short rows pending rest _ (no_more v (45 ∷ x ∷ xs) rest (rw e refl)) x xs e
      by _ empty = stops_empty rows pending rest _ (no_more v [] rest refl)
      by _ dash = stops_dash rows pending rest _ (no_more v (45 ∷ []) rest refl)
      by _ (plain x xs e) = stops_plain rows pending rest _ (no_more v (x ∷ xs) rest (rw e refl)) x xs e

has_reads : (v : Text) (words : List Text) → Reads (has [] v) words (valued (Some v) words)
has_reads v = valued_reads v [] (option_with (v ∷ [])) (has_end v) (has_mark v) (has_marked_end v) (has_named v) (has_with_value v)

used_reads : (v : Text) (words : List Text) → Reads (used_up v) words (valued (Some v) words)
used_reads v = valued_reads v (used_with v) None (used_end v) (used_mark v) (used_marked_end v) (used_named v) (used_with_value v)

-- ---- what is asked for by all the words

by_first : (word : Text) (rest : List Text) → bytes_eq word (codes "--") ≡ false → asked (word ∷ rest) ≡ asked_first word rest
by_first word rest e = ap (λ b. if b then Some Read else asked_first word rest) (ends_not word rest e)

no_option : (word : Text) (rest : List Text) → IsNoOption word → bytes_eq word (codes "--") ≡ false → asked (word ∷ rest) ≡ None
no_option word rest h e =
    by_first word rest e ∙ ap (λ b. if b then valued_by_next rest else valued (rest_after (codes "--make=") word) rest) h.alone
    ∙ ap (λ o. valued o rest) h.joined

abbrev nothing : Option Request
nothing = None

not_valued : (xs : Text) (rest : List Text) → valued_by_next ((45 ∷ xs) ∷ rest) ≡ None
not_valued xs rest = ap (λ o. if ends rest then option_map (λ size. Make size) o else None) (no_dash xs) ∙ either (ends rest)
  where
    either : (b : Bool) → (if b then nothing else nothing) ≡ nothing
    either true = refl
    either false = refl

reads_all : (words : List Text) → Reads begins words (asked words)
reads_all [] = taken begins_end.0 (ap asked_with (sym begins_end.1))
reads_all (word ∷ rest) = by word (word_kind word)
  where
    by : (word : Text) → Word word → Reads begins (word ∷ rest) (asked (word ∷ rest))
    by _ mark =
        moves _ _ (codes "--") rest _ begins_mark.0 begins_mark.1
        (after_mark nothing_held idle (λ rest. asked (codes "--" ∷ rest)) (taken begins_marked_end.0 (ap asked_with (sym begins_marked_end.1)))
        (λ word rest. refl) rest)
    by _ named =
        moves _ _ (codes "--make") rest _ begins_named.0 begins_named.1
        (subst (λ o. Reads (waits []) rest o) (sym (by_first (codes "--make") rest refl)) (waits_reads [] valued_by_next refl not_valued has_reads rest))
    by _ (with_value v) =
        moves _ _ (codes "--make=" ++ v) rest _ (begins_with_value v).0 (begins_with_value v).1
        (subst (λ o. Reads (used_up v) rest o) (sym (by_first (codes "--make=" ++ v) rest refl)) (used_reads v rest))
    by _ (unknown x xs e) = stops_unknown [] None rest _ (no_option _ rest (unknown_is_none x xs e) refl) x xs e
    by _ (short x xs e) = stops_short [] None rest _ (no_option _ rest (short_is_none x xs e) (rw e refl)) x xs e
    by _ empty = stops_empty [] None rest _ (no_option _ rest empty_is_none refl)
    by _ dash = stops_dash [] None rest _ (no_option _ rest dash_is_none refl)
    by _ (plain x xs e) = stops_plain [] None rest _ (no_option _ rest (plain_is_none x xs e) (rw e refl)) x xs e

-- ---- what the crate says of a parse

no_defaults : (rows : List Row) → defaults_fault rows top.rules ≡ []
unfolding defaults_fault
no_defaults rows = at (has_row (codes "make") rows) refl
  where
    at : (b : Bool) → has_row (codes "make") rows ≡ b → defaults_fault rows top.rules ≡ []
    at true e = rw e refl
    at false e = rw e refl

abbrev alone : Kinds → Kinds → Kinds → Kinds
alone walk_kinds end_kinds default_kinds = or_else walk_kinds (or_else [] (or_else end_kinds (or_else default_kinds [])))

without_defaults : (a b : Kinds) → alone a b [] ≡ or_else a b
without_defaults a b = ap (λ k. or_else a k) (or_else-none b)

parse_faults : (words : List Text) → fault_of command words ≡ faults begins words
unfolding faults
parse_faults words =
    let w = fold (walked top.rules []) begins words in
    leaf_fault (built command) nothing_held words refl
    ∙ ap (alone (walk_fault top [] begins words) (settle_fault top.rules false w.held)) (no_defaults _)
    ∙ without_defaults (walk_fault top [] begins words) (settle_fault top.rules false w.held)

pub reads_words : (words : List Text) → Verdict (fault_of command words) (first_of (codes "make") (matches_of command words)) (asked words)
unfolding value
reads_words words = subst (λ k. Verdict k (value begins words) (asked words)) (sym (parse_faults words)) (reads_all words)

-- ---- a parse that succeeds, and one that fails

pub taken_by : (words : List Text) (given : Option Text) → fault_of command words ≡ [] → first_of (codes "make") (matches_of command words) ≡ given →
    asked words ≡ asked_with given
taken_by words given none is = by (reads_words words)
  where
    by : Verdict (fault_of command words) (first_of (codes "make") (matches_of command words)) (asked words) → asked words ≡ asked_with given
    by (taken passes same) = same ∙ ap asked_with is
    by (refused fails same) = absurd (fails none)

refused_by : (words : List Text) → (fault_of command words ≡ [] → ⊥) → asked words ≡ None
refused_by words some = by (reads_words words)
  where
    by : Verdict (fault_of command words) (first_of (codes "make") (matches_of command words)) (asked words) → asked words ≡ None
    by (taken passes same) = absurd (some passes)
    by (refused fails same) = same

-- ---- the answer

pub accepts : {E : Type 0} (words : List Text) (o : Option Request) (r : Result Request E) → asked words ≡ o → o ≡ result_ok r →
    IfOk r (λ request. asked words ≡ Some request)
accepts words o (Ok request) is same = is ∙ same
accepts words o (Err stop) is same = tt

pub refuses : {E : Type 0} (words : List Text) (o : Option Request) (r : Result Request E) (e : E) → asked words ≡ o → o ≡ result_ok r → IsErrOf r e →
    asked words ≡ None
refuses words o (Ok request) e is same err = absurd (cc)
refuses words o (Err stop) e is same err = is ∙ same

among_some : (k : kind.the_data) (kinds : Kinds) → IsAmong k kinds → kinds ≡ [] → ⊥
among_some k [] is none = is
among_some k (x ∷ xs) is none = cc

pub refuses_error : (words : List Text) (k : kind.the_data) → (k ≡ kind.OutOfMemory → ⊥) → (k ≡ kind.OutOfMemory) ⊎ IsAmong k (fault_of command words) →
    asked words ≡ None
refuses_error words k other (inl memory) = absurd (other memory)
refuses_error words k other (inr among) = refused_by words (among_some k (fault_of command words) among)
