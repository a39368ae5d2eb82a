-- What is left of a basis's deck after one more card.
use Rattle.std.proofs.Common.{◌≡◌, ℕ, suc, ◌+◌, ◌-◌, ◌<◌, ◌≤◌, Bool, true, false, cond, not, List, [], ◌∷◌, ◌++◌, length, map, refl, sym, ap, ap₂, ◌∙◌, arith}
use Rattle.std.proofs.Common.{Ok, Err}
use Rattle.std.specs.Prelude.{filter, zip, codes, IsErrOf}
use Rattle.std.proofs.lemmas.List.{append_assoc, append-nil, length-append}
use Rattle.std.proofs.lemmas.List.Concat.{flat_map-append}
use Rattle.lp_definitions.specs.LinearProgram.{LinearProgram, numbers_from}
use Rattle.lp_definitions.specs.Basis.{is_basic, status_of}
use Rattle.lp_definitions.specs.declared.Status.{Status}
use Rattle.problem_definitions.specs.Problem.{Problem}
use Rattle.deck_definitions.specs.Written.{card_text, name_card}
use Rattle.problem_definitions.specs.Names.{Name}
use Rattle.job_devices.specs.States.{SinkState}
use Rattle.job_devices.specs.declared.device.WriteStop.{WriteStop}
use Rattle.job_devices.specs.declared.device.WriteStop.TheVariants.{Failed, NoMemory}
use Rattle.job_devices.specs.Text.{Writes}
use Rattle.job_devices.proofs.TextLemmas.{writes_then, writes_same, writes_nothing}
use Rattle.bcd_out.specs.Lines.{line}
use Rattle.basis_deck_definitions.specs.Writing.{is_raised, exchange_card, limit_card, basis_deck, basic_columns, nonbasic_rows, raised}
use Rattle.basis_deck.specs.Punching.{passing, columns_from, rows_from, raised_from, exchanges_from, limits_from}

-- ---- numbers that pass

module _ (p : ℕ → Bool) (m n i : ℕ) (below : i < n) where
  one_more : passing p m n i ≡ cond (p (m + i)) ((m + i) ∷ passing p m n (i + 1)) (passing p m n (i + 1))
  one_more =
      let left : n - i ≡ suc (n - (i + 1)) = omega (arith, below) in
      let next : suc (m + i) ≡ m + (i + 1) = omega arith in
      ap (λ k. filter p (numbers_from (m + i) k)) left
      ∙ ap (λ k. cond (p (m + i)) ((m + i) ∷ filter p (numbers_from k (n - (i + 1)))) (filter p (numbers_from k (n - (i + 1))))) next

  pub next_passes : p (m + i) ≡ true → passing p m n i ≡ (m + i) ∷ passing p m n (i + 1)
  next_passes e = one_more ∙ ap (λ b. cond b ((m + i) ∷ passing p m n (i + 1)) (passing p m n (i + 1))) e

  pub next_fails : p (m + i) ≡ false → passing p m n i ≡ passing p m n (i + 1)
  next_fails e = one_more ∙ ap (λ b. cond b ((m + i) ∷ passing p m n (i + 1)) (passing p m n (i + 1))) e

pub none_passes : (p : ℕ → Bool) (m n i : ℕ) → n ≤ i → passing p m n i ≡ []
none_passes p m n i all = let none : n - i ≡ 0 = omega (arith, all) in ap (λ k. filter p (numbers_from (m + i) k)) none

-- ---- rows

module _ (lp : LinearProgram) (s : List Status) (i : ℕ) (below : i < lp.rows) where
  pub basic_row : is_basic (status_of s (i + 1)) ≡ true → rows_from lp s i ≡ rows_from lp s (i + 1)
  basic_row e =
      let place : 1 + i ≡ i + 1 = omega arith in
      next_fails (λ k. not (is_basic (status_of s k))) 1 lp.rows i below (ap not (ap (λ k. is_basic (status_of s k)) place ∙ e))

  pub nonbasic_row : is_basic (status_of s (i + 1)) ≡ false → rows_from lp s i ≡ (i + 1) ∷ rows_from lp s (i + 1)
  nonbasic_row e =
      let place : 1 + i ≡ i + 1 = omega arith in
      next_passes (λ k. not (is_basic (status_of s k))) 1 lp.rows i below (ap not (ap (λ k. is_basic (status_of s k)) place ∙ e))
      ∙ ap (λ k. k ∷ rows_from lp s (i + 1)) place

-- ---- cards

zip_none : {X Y : Type 0} (xs : List X) (ys : List Y) → ys ≡ [] → zip xs ys ≡ []
zip_none [] ys e = refl
zip_none (x ∷ xs) [] e = refl
zip_none (x ∷ xs) (y ∷ ys) e = absurd (cc e)

pub text_more : (written : List ℕ) (card : List ℕ) (rest : List (List ℕ)) (left : List (List ℕ)) (whole : List ℕ) → left ≡ card ∷ rest →
    written ++ card_text left ≡ whole → (written ++ line card) ++ card_text rest ≡ whole
text_more written card rest left whole is split = append_assoc written (line card) (card_text rest) ∙ ap (λ cards. written ++ card_text cards) (sym is) ∙ split

module _ (problem : Problem ℕ) (lp : LinearProgram) (s : List Status) (c i : ℕ) (below : c < lp.cols) where
  pub exchange_none : rows_from lp s i ≡ [] → exchanges_from problem lp s c i ≡ []
  exchange_none e = ap (map (exchange_card problem lp s)) (zip_none (columns_from lp s c) (rows_from lp s i) e)

  module _ (column : ℕ) (is_column : column ≡ lp.rows + c + 1) where
    place : lp.rows + 1 + c ≡ column
    place = omega (arith, is_column)

    pub exchange_skipped : is_basic (status_of s column) ≡ false → exchanges_from problem lp s c i ≡ exchanges_from problem lp s (c + 1) i
    exchange_skipped e =
        ap (λ cs. map (exchange_card problem lp s) (zip cs (rows_from lp s i)))
        (next_fails (λ k. is_basic (status_of s k)) (lp.rows + 1) lp.cols c below (ap (λ k. is_basic (status_of s k)) place ∙ e))

    pub exchange_next : is_basic (status_of s column) ≡ true → (r : ℕ) → rows_from lp s i ≡ r ∷ rows_from lp s r →
        exchanges_from problem lp s c i ≡ exchange_card problem lp s (column, r) ∷ exchanges_from problem lp s (c + 1) r
    exchange_next e r rows =
        ap₂ (λ cs rs. map (exchange_card problem lp s) (zip cs rs))
        (next_passes (λ k. is_basic (status_of s k)) (lp.rows + 1) lp.cols c below (ap (λ k. is_basic (status_of s k)) place ∙ e)
        ∙ ap (λ k. k ∷ columns_from lp s (c + 1)) place) rows

    pub limit_skipped : is_raised lp s column ≡ false → limits_from problem lp s c ≡ limits_from problem lp s (c + 1)
    limit_skipped e = ap (map (limit_card problem lp)) (next_fails (is_raised lp s) (lp.rows + 1) lp.cols c below (ap (is_raised lp s) place ∙ e))

    pub limit_next : is_raised lp s column ≡ true → limits_from problem lp s c ≡ limit_card problem lp column ∷ limits_from problem lp s (c + 1)
    limit_next e =
        ap (map (limit_card problem lp))
        (next_passes (is_raised lp s) (lp.rows + 1) lp.cols c below (ap (is_raised lp s) place ∙ e) ∙ ap (λ k. k ∷ raised_from lp s (c + 1)) place)

pub exchanges_done : (problem : Problem ℕ) (lp : LinearProgram) (s : List Status) (c i : ℕ) → lp.cols ≤ c → exchanges_from problem lp s c i ≡ []
exchanges_done problem lp s c i all =
    ap (λ cs. map (exchange_card problem lp s) (zip cs (rows_from lp s i))) (none_passes (λ k. is_basic (status_of s k)) (lp.rows + 1) lp.cols c all)

pub limits_done : (problem : Problem ℕ) (lp : LinearProgram) (s : List Status) (c : ℕ) → lp.cols ≤ c → limits_from problem lp s c ≡ []
limits_done problem lp s c all = ap (map (limit_card problem lp)) (none_passes (is_raised lp s) (lp.rows + 1) lp.cols c all)

-- ---- the whole deck

passing_all : (p : ℕ → Bool) (m n : ℕ) → passing p m n 0 ≡ filter p (numbers_from m n)
passing_all p m n = ap₂ (λ first count. filter p (numbers_from first count)) (let e : m + 0 ≡ m = omega arith in e) (let e : n - 0 ≡ n = omega arith in e)

module _ (problem : Problem ℕ) (lp : LinearProgram) (s : List Status) where
  all_exchanges : exchanges_from problem lp s 0 0 ≡ map (exchange_card problem lp s) (zip (basic_columns lp s) (nonbasic_rows lp s))
  all_exchanges =
      ap₂ (λ cs rs. map (exchange_card problem lp s) (zip cs rs)) (passing_all (λ k. is_basic (status_of s k)) (lp.rows + 1) lp.cols)
      (passing_all (λ k. not (is_basic (status_of s k))) 1 lp.rows)

  all_limits : limits_from problem lp s 0 ≡ map (limit_card problem lp) (raised lp s)
  all_limits = ap (map (limit_card problem lp)) (passing_all (is_raised lp s) (lp.rows + 1) lp.cols)

  deck_is : basis_deck problem lp s ≡ name_card problem.name ∷ (exchanges_from problem lp s 0 0 ++ limits_from problem lp s 0 ++ codes "ENDATA" ∷ [])
  unfolding basis_deck
  deck_is = ap₂ (λ exchanges limits. name_card problem.name ∷ (exchanges ++ limits ++ codes "ENDATA" ∷ [])) (sym all_exchanges) (sym all_limits)

  abbrev pub after_limits : List ℕ
  after_limits = line (codes "ENDATA")

  abbrev pub after_exchanges : List ℕ
  after_exchanges = card_text (limits_from problem lp s 0) ++ after_limits

  abbrev pub after_name : List ℕ
  after_name = card_text (exchanges_from problem lp s 0 0) ++ after_exchanges

  pub deck_text : (name : Name) → name ≡ problem.name → line (name_card name) ++ after_name ≡ card_text (basis_deck problem lp s)
  deck_text name is =
      let exchanges = exchanges_from problem lp s 0 0 in
      let limits = limits_from problem lp s 0 in
      let last : List (List ℕ) = codes "ENDATA" ∷ [] in
      let two =
      flat_map-append (λ (card : List ℕ). card ++ 10 ∷ []) exchanges (limits ++ last)
      ∙ ap (λ w. card_text exchanges ++ w) (flat_map-append (λ (card : List ℕ). card ++ 10 ∷ []) limits last) in
      ap (λ name. line (name_card name) ++ after_name) is
      ∙ sym (ap card_text deck_is ∙ ap (λ w. line (name_card problem.name) ++ w) (ap card_text (append_assoc exchanges limits last) ∙ two))

  pub deck_length : length (basis_deck problem lp s) ≡ 2 + length (exchanges_from problem lp s 0 0) + length (limits_from problem lp s 0)
  deck_length =
      let exchanges = exchanges_from problem lp s 0 0 in
      let limits = limits_from problem lp s 0 in
      let last : List (List ℕ) = codes "ENDATA" ∷ [] in
      ap length deck_is ∙ omega (arith, length-append (exchanges ++ limits) last, length-append exchanges limits)

-- what was written doesn't depend on the type of the answer
pub writes_done : {T U : Type 0} {a b : SinkState} {x : List ℕ} {before : T} (done : U) → Writes a b (Ok before) x → Writes a b (Ok done) x
writes_done {b = b} {x = x} done h = writes_same (append-nil x) (writes_then h (writes_nothing b done))

pub stops_so : {T U : Type 0} {a b : SinkState} {x : List ℕ} {stop : WriteStop} → Writes {T = T} a b (Err stop) x → Writes {T = U} a b (Err stop) x
stops_so {T = T} {U = U} {stop = stop} h = record {
  bytes = h.bytes;
  cause = record {
    later = h.cause.later;
    later_refusals = h.cause.later_refusals;
    failed = λ e. h.cause.failed (same_stop Failed e);
    no_memory = λ e. h.cause.no_memory (same_stop NoMemory e);
    no_fault = h.cause.no_fault;
    no_refusal = h.cause.no_refusal;
    failed_alone = λ e. h.cause.failed_alone (same_stop Failed e);
    wanted_alone = λ e. h.cause.wanted_alone (same_stop NoMemory e);
  };
  stopped = h.stopped;
}
  where
    same_stop : (why : WriteStop) → IsErrOf {T = U} (Err stop) why → IsErrOf {T = T} (Err stop) why
    same_stop why e = let same : stop ≡ why = cc in ap Err same
