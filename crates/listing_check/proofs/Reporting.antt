-- What a check comes to, by what its reads have come to.
use Rattle.std.proofs.Common.{◌≡◌, ℕ, ◌<◌, inl, inr, List, [], Option, None, Some, Err, refl, sym, ap, subst, arith}
use Rattle.std.specs.Prelude.{◌==◌, true, false}
use Rattle.std.proofs.lemmas.Bool.Decides.{eqb_tells}
use Rattle.std.specs.Io.KnownBytes.{Appends}
use Rattle.job_devices.proofs.TextLemmas.{Appends-nothing}
use Rattle.job_devices.specs.States.{SinkState}
use Rattle.job_devices.specs.Causes.{Rose}
use Rattle.job_devices.specs.declared.device.WriteStop.{WriteStop}
use Rattle.job_devices.specs.declared.device.WriteStop.TheVariants.{Failed, NoMemory}
use Rattle.walk_definitions.specs.Checkers.{Checker}
use Rattle.walk_definitions.specs.Found.{Answers, is_found, answer_text, answer_status}
use Rattle.walk_definitions.specs.Walker.{Found}
use Rattle.walk_definitions.specs.Walker as walks
use Rattle.walk_laws.specs.Laws.{AttestedLaw}
use Rattle.walk_laws.specs.Proved.{IsTrueListing}
use Rattle.listing_check.specs.declared.status.CheckStatus.{CheckStatus}
use Rattle.listing_check.specs.declared.status.CheckStatus.TheVariants as status
use Rattle.listing_check.specs.Statuses.{code_of, cut_status, status_of}
use Rattle.listing_check.specs.Devices.{EndsWith, printed, cut_off}
use Rattle.listing_check.specs.Answer.{CheckFailures, MayPrint, job_fails, listing_fails, answers, IsPrintCut, IsCheckAnswer, whole, memory, print_fails}
use Rattle.listing_check.specs.Answer.{print_wants_memory}
use Rattle.listing_check.specs.Reads.{Reads, IsDue, job_fault, listing_fault, found, Tells, no_memory, says}
use Rattle.listing_check.specs.Causes.{Circumstances, IsWhy, HasCheckCause}

-- ---- what some reads have come to, others have come to too

pub record Leads (some others : Reads) : Type 0 where
  pub job_fails : some.job_fails → others.job_fails
  pub job_quiet : some.job_quiet → others.job_quiet
  pub job_read : some.job_read → others.job_read
  pub listing_fails : some.listing_fails → others.listing_fails
  pub listing_quiet : some.listing_quiet → others.listing_quiet
  pub listing_read : some.listing_read → others.listing_read
  pub listing_same : some.listing_same → others.listing_same
  pub is_job : (bytes : List ℕ) → others.is_job bytes → some.is_job bytes
  pub is_listing : (lines : List ℕ) → others.is_listing lines → some.is_listing lines

module _ (C : Checker) {some others : Reads} (l : Leads some others) where
  due : (text : List ℕ) (own : CheckStatus) → IsDue C some text own → IsDue C others text own
  due _ _ (job_fault fails same) = job_fault (l.job_fails fails) (l.listing_same same)
  due _ _ (listing_fault quiet read fails) = listing_fault (l.job_quiet quiet) (l.job_read read) (l.listing_fails fails)
  due _ _ (found answer text quiet read listing_quiet listing_read so) =
      found answer text (l.job_quiet quiet) (l.job_read read) (l.listing_quiet listing_quiet) (l.listing_read listing_read)
      (λ bytes lines is_job is_listing. so bytes lines (l.is_job bytes is_job) (l.is_listing lines is_listing))

  pub tells_too : {old new : SinkState} (ended : CheckStatus) →
      Tells C some old new ended → Tells C others old new ended
  tells_too ended (no_memory is same quiet listing_quiet) = no_memory is same (l.job_quiet quiet) (l.listing_quiet listing_quiet)
  tells_too ended (says text own is ends) = says text own (due text own is) ends

-- ---- the answer

code_is : (answer : Option Found) → answer_status answer ≡ code_of (status_of answer)
code_is None = refl
code_is (Some (walks.Attested reports)) = refl
code_is (Some (walks.Wrong rest)) = refl
code_is (Some (walks.Open rest)) = refl
code_is (Some (walks.Unchecked rest)) = refl

keeps : (known : Option (List ℕ)) → Appends known known []
keeps None = tt
keeps (Some xs) = Appends-nothing (Some xs) (Some xs) refl

module _ (C : Checker) (reads : Reads) (bytes lines : List ℕ) (is_job : reads.is_job bytes) (is_listing : reads.is_listing lines) (failures : CheckFailures)
    (job : reads.job_fails → failures.job) (listing : reads.listing_fails → failures.listing) where
  may_print : (text : List ℕ) (own : CheckStatus) → IsDue C reads text own → MayPrint C bytes lines failures (code_of own) text
  may_print _ _ (job_fault fails same) = job_fails (job fails)
  may_print _ _ (listing_fault quiet read fails) = listing_fails (listing fails)
  may_print _ _ (found answer text quiet read listing_quiet listing_read found_so) =
      let so = found_so bytes lines is_job is_listing in
      subst (λ (t : List ℕ). MayPrint C bytes lines failures (code_of (status_of answer)) t) (sym so.1)
      (subst (λ (n : ℕ). MayPrint C bytes lines failures n (answer_text lines answer)) (code_is answer) (answers answer so.0))

  cut : (Prints : List ℕ → Type 0) (stop : WriteStop) → (stop ≡ Failed → failures.print) → (stop ≡ NoMemory → failures.memory) →
      IsPrintCut C bytes lines failures Prints →
      IsCheckAnswer C bytes lines failures (code_of (cut_status stop)) Prints
  cut Prints Failed fails wants cuts = print_fails (fails refl) refl cuts
  cut Prints NoMemory fails wants cuts = print_wants_memory (wants refl) refl cuts

  module _ {old new : SinkState} (print : Rose old.faults new.faults → failures.print) (wanted : Rose old.refusals new.refusals → failures.memory) where
    pub answer_of : (ended : CheckStatus) → Tells C reads old new ended → IsCheckAnswer C bytes lines failures (code_of ended) (Appends old.written new.written)
    answer_of ended (no_memory is same quiet listing_quiet) =
        memory (ap code_of is) (subst (λ (p : SinkState). Appends old.written p.written []) (sym same) (keeps old.written))
    answer_of ended (says text own is (printed same w)) =
        subst (λ (s : CheckStatus). IsCheckAnswer C bytes lines failures (code_of s) (Appends old.written new.written)) (sym same)
        (whole text (may_print text own is) w.bytes)
    answer_of ended (says text own is (cut_off stop same w)) =
        subst (λ (s : CheckStatus). IsCheckAnswer C bytes lines failures (code_of s) (Appends old.written new.written)) (sym same)
        (cut (Appends old.written new.written) stop (λ e. print (w.cause.failed (ap (λ s. Err s) e))) (λ e. wanted (w.cause.no_memory (ap (λ s. Err s) e)))
        (record { own = code_of own; text = text; may_print = may_print text own is; part = w.bytes.0; is_prefix = w.bytes.1; prints = w.bytes.2 }))

-- ---- why

module _ (c : Circumstances) where
  as_due : (own : CheckStatus) → IsWhy c own → HasCheckCause c own
  as_due status.Attested why = why
  as_due status.Words why = why
  as_due status.ReadFault why = why
  as_due status.PrintFault why = absurd why
  as_due status.ListingFault why = why
  as_due status.Memory why = tt
  as_due status.Wrong why = why
  as_due status.Open why = why
  as_due status.Unchecked why = why
  as_due status.Long why = why

  as_cut : (own : CheckStatus) → IsWhy c own → (stop : WriteStop) → (stop ≡ Failed → c.print_fails) → HasCheckCause c (cut_status stop)
  as_cut own why Failed fails = (fails refl, own, why)
  as_cut own why NoMemory fails = tt

  pub why_ends : {old new : SinkState} → (Rose old.faults new.faults → c.print_fails) → (text : List ℕ) (own ended : CheckStatus) → IsWhy c own →
      EndsWith old new text own ended → HasCheckCause c ended
  why_ends print text own ended why (printed same w) = subst (HasCheckCause c) (sym same) (as_due own why)
  why_ends print text own ended why (cut_off stop same w) =
      subst (HasCheckCause c) (sym same) (as_cut own why stop (λ e. print (w.cause.failed (ap (λ s. Err s) e))))

  -- of a check without words
  module _ (C : Checker) (reads : Reads) (none : c.words ≡ 0) (job : reads.job_fails → c.job_fails) (read : reads.job_read → c.job_read)
      (listing : reads.listing_fails → c.listing_fails) (listing_read : reads.listing_read → c.listing_read) where
    why_found : (answer : Option Found) → reads.job_read → reads.listing_read → IsWhy c (status_of answer)
    why_found None is is_too = (none, read is, listing_read is_too)
    why_found (Some (walks.Attested reports)) is is_too = (none, read is, listing_read is_too)
    why_found (Some (walks.Wrong rest)) is is_too = (none, read is, listing_read is_too)
    why_found (Some (walks.Open rest)) is is_too = (none, read is, listing_read is_too)
    why_found (Some (walks.Unchecked rest)) is is_too = (none, read is, listing_read is_too)

    why_due : (text : List ℕ) (own : CheckStatus) → IsDue C reads text own → IsWhy c own
    why_due _ _ (job_fault fails same) = (none, job fails)
    why_due _ _ (listing_fault quiet is fails) = (none, read is, listing fails)
    why_due _ _ (found answer text quiet is listing_quiet is_too so) = why_found answer is is_too

    pub why_tells : {old new : SinkState} → (Rose old.faults new.faults → c.print_fails) → (ended : CheckStatus) →
        Tells C reads old new ended → HasCheckCause c ended
    why_tells print ended (no_memory is same quiet listing_quiet) = subst (HasCheckCause c) (sym is) tt
    why_tells print ended (says text own is ends) = why_ends print text own ended (why_due text own is) ends

-- ---- an attested listing

module _ (C : Checker) (law : AttestedLaw C) (bytes lines : List ℕ) (failures : CheckFailures) where
  true_found : (answer : Option Found) → Answers C bytes lines answer → answer_status answer ≡ 0 → IsTrueListing C bytes lines
  true_found None is e = absurd (omega (arith, e))
  true_found (Some (walks.Attested reports)) (is_found within comes) e = (law bytes lines reports comes).0
  true_found (Some (walks.Wrong rest)) is e = absurd (omega (arith, e))
  true_found (Some (walks.Open rest)) is e = absurd (omega (arith, e))
  true_found (Some (walks.Unchecked rest)) is e = absurd (omega (arith, e))

  true_print : (own : ℕ) (text : List ℕ) → MayPrint C bytes lines failures own text → own ≡ 0 → IsTrueListing C bytes lines
  true_print _ _ (job_fails fails) e = absurd (omega (arith, e))
  true_print _ _ (listing_fails fails) e = absurd (omega (arith, e))
  true_print _ _ (answers answer is) e = true_found answer is e

  pub true_listing : (ended : ℕ) (Prints : List ℕ → Type 0) → IsCheckAnswer C bytes lines failures ended Prints → ended ≡ 0 → IsTrueListing C bytes lines
  true_listing ended Prints (whole text may prints) e = true_print ended text may e
  true_listing ended Prints (memory is nothing) e = absurd (omega (arith, is, e))
  true_listing ended Prints (print_fails failed is cut) e = absurd (omega (arith, is, e))
  true_listing ended Prints (print_wants_memory wanted is cut) e = absurd (omega (arith, is, e))

-- ---- whether there are words

pub without : (words : ℕ) → true ≡ (words == 0) → words ≡ 0
without words e = elim (eqb_tells words 0) [ inl same ↦ same.1 | inr other ↦ absurd (cc (e, other.0)) ]

pub there_are : (words : ℕ) → false ≡ (words == 0) → 0 < words
there_are words e = elim (eqb_tells words 0) [ inl same ↦ absurd (cc (e, same.0)) | inr other ↦ omega (arith, other.1) ]
