-- What is made of each of some values, one more.
use Rattle.std.proofs.Common.{◌≡◌, ◌<◌, ◌≤◌, ◌+◌, ◌++◌, ◌∙◌, ℕ, List, length, drop, get_or, ap, sym, All, ◌∷◌, [], Result, Ok, subst, ℤ, Bool, true, false, Option, Some, None, refl, arith, length-append, nat_lt, Err, codes, slice_index_or, bytes_eq}
use Rattle.std.specs.List.{enumerate_from, flat_map, position_or_len}
use Rattle.std.proofs.lemmas.List.{append_assoc, append-nil, drop_all, drop_more}
use Rattle.std.proofs.lemmas.List.Elements.{All-push, All-nil, All-tail}
use Rattle.link_base.specs.Words.{and_then, IsDay, position_of_id, Record}
use Rattle.link_base.specs.declared.fault.Fault.{Fault}
use Rattle.std.proofs.lemmas.Bool.Decides.{nat_tests}
use Rattle.std.proofs.lemmas.Option.{cond_some}
use Rattle.file_reader.specs.Words.{header_has, TableRow, known_in, or_fault, pair_in, records_in, HasTexts, IsFieldText, IsTextRow, table_of, table_sound, text_at, each_read}
use Rattle.link_base.specs.declared.fault.Fault.TheVariants as fault
use Rattle.link_base.specs.declared.fault.FileRole.{FileRole}
use Rattle.link_base.specs.declared.fault.FileRole.TheVariants as role
use Rattle.link_base.specs.declared.rule.PairAt.{PairAt}
use Rattle.link_limits.specs.declared.TheConstants.{MOST_ENTRIES}
use Rattle.value_forms.specs.Days.{iso_day}
use Rattle.review_journal.specs.Batch.{is_not_before, NamesRecords, verdict_in, verdicts_of, verdicts_read, verdicts_wanted}
use Rattle.review_journal.specs.Verdict.{IsJournal, IsReviewer, IsWithinFiles, fits_after}
use Rattle.review_journal.specs.Reading.{CanFollow, dated, entries_read, entry_in, journal_in, journal_under, journal_wanted, numbered, signed, unless}
use Rattle.review_journal.specs.Rows.{step_named, verdict_named, Written, written_in}
use Rattle.review_journal.specs.declared.batch.NewVerdict.{NewVerdict}
use Rattle.review_journal.specs.declared.entry.Entry.{Entry}
use Rattle.review_journal.specs.DayLaws.{iso_is_day}
use Rattle.review_journal.proofs.PlaceLemmas.{journal_push}
use Rattle.link_base.specs.declared.rule.Step.TheVariants.{Single}

-- a text, and the lines of what is left
pub line_more : {A : Type 0} (f : ℕ × A → List ℕ) (xs : List A) (i : ℕ) (none : A) (text new whole : List ℕ) → i < length xs
    → text ++ flat_map f (enumerate_from i (drop i xs)) ≡ whole → new ≡ text ++ f (i, get_or xs i none)
    → new ++ flat_map f (enumerate_from (i + 1) (drop (i + 1) xs)) ≡ whole
line_more f xs i none text new whole within told more =
    let line = f (i, get_or xs i none) in
    let rest = flat_map f (enumerate_from (i + 1) (drop (i + 1) xs)) in
    ap (λ t. t ++ rest) more ∙ append_assoc text line rest ∙ ap (λ ys. text ++ flat_map f (enumerate_from i ys)) (sym (drop_more xs i none within)) ∙ told

pub lines_all : {A : Type 0} (f : ℕ × A → List ℕ) (xs : List A) (i : ℕ) (text whole : List ℕ) → length xs ≤ i
    → text ++ flat_map f (enumerate_from i (drop i xs)) ≡ whole → text ≡ whole
lines_all f xs i text whole past told =
    sym (append-nil text) ∙ ap (λ ys. text ++ flat_map f (enumerate_from i ys)) (sym (drop_all i xs past)) ∙ told

-- what held of those before holds with one more
pub all_more : {E : Type 0} (P : E → Type 0) (done new : List E) (e : E) → All P done → P e → new ≡ done ++ e ∷ [] → All P new
all_more P done new e all here is_new = subst (All P) (sym is_new) (All-push P done e all here)

-- What is read of a journal file is a journal over its two files.

-- a step that went on, and what it went on with
pub record WentOn {A B : Type 0} (x : Result A Fault) (next : A → Result B Fault) (y : B) : Type 0 where
  pub first : A
  pub is : x ≡ Ok first
  pub rest : next first ≡ Ok y

pub went_on : {A B : Type 0} (x : Result A Fault) (next : A → Result B Fault) (y : B) → and_then x next ≡ Ok y → WentOn x next y
went_on (Ok z) next y e = record { first = z; is = refl; rest = e }
went_on (Err f) next y e = cc e

-- what holds of each that is read holds of all
pub all_hold : {R E : Type 0} (one : List E → ℕ → R → Result E Fault) (P : E → Type 0) → ((done : List E) (number : ℕ) (row : R) (e : E) → one done number row ≡ Ok e → P e)
    → (done : List E) (rows : List R) (es : List E) → All P done → each_read one done rows ≡ Ok es → All P es
all_hold one P holds done [] es all told = let same : done ≡ es = cc told in subst (All P) same all
all_hold one P holds done (row ∷ rows) es all told =
    let w = went_on (one done (length done + 1) row) (λ e. each_read one (done ++ e ∷ []) rows) es told in
    all_hold one P holds (done ++ w.first ∷ []) rows es (All-push P done w.first all (holds done (length done + 1) row w.first w.is)) w.rest

same_value : {T : Type 0} (x y : T) → ◌≡◌ {A = Result T Fault} (Ok x) (Ok y) → x ≡ y
same_value x y e = cc e

-- what passed a test
passed_test : {T : Type 0} (test : Bool) (f : Fault) (x y : T) → unless test f x ≡ Ok y → (test ≡ true) × (x ≡ y)
passed_test true f x y e = (refl, same_value x y e)
passed_test false f x y e = absurd (cc e)

-- what was found
found_is : {A : Type 0} (f : Fault) (o : Option A) (x : A) → or_fault f o ≡ Ok x → o ≡ Some x
found_is f None x e = absurd (cc e)
found_is f (Some y) x e = cc e

-- an id that is found stands in the file
found_within : (f : Fault) (id : List ℕ) (file : List Record) (at : ℕ) → or_fault f (position_of_id id file) ≡ Ok at → at < length file
found_within f id file at e =
    let place : ℕ = position_or_len (λ (r : Record). bytes_eq id r.id) file in
    let found = cond_some (nat_lt place (length file)) place at (found_is f (position_of_id id file) at e) in
    let test = found.0 in
    let within : place < length file = grind (arith, nat_tests) in
    subst (λ n. n < length file) found.1 within

module _ (a b : List Record) where
  pair_within : (role : FileRole) (number : ℕ) (id_a id_b : List ℕ) (at : PairAt) → pair_in role number id_a id_b a b ≡ Ok at → (at.a < length a) × (at.b < length b)
  pair_within role number id_a id_b at e =
      let of_a = went_on (known_in role number (codes "id_a") id_a a) _ at e in
      let of_b = went_on (known_in role number (codes "id_b") id_b b) _ at of_a.rest in
      let pair : PairAt = record { a = of_a.first; b = of_b.first } in
      let same : pair ≡ at = same_value pair at of_b.rest in
      subst (λ (p : PairAt). (p.a < length a) × (p.b < length b)) same (found_within _ id_a a of_a.first of_a.is, found_within _ id_b b of_b.first of_b.is)

  -- a new verdict that is read names records
  verdict_names : (number : ℕ) (fields : List (List ℕ)) (v : NewVerdict) → verdict_in a b number fields ≡ Ok v → NamesRecords (length a) (length b) v
  unfolding verdict_in
  verdict_names number fields v e =
      let pair = went_on (pair_in role.Verdicts number (slice_index_or fields 0 []) (slice_index_or fields 1 []) a b) _ v e in
      let word = went_on (or_fault (fault.BadVerdict role.Verdicts number) (verdict_named (slice_index_or fields 2 []))) _ v pair.rest in
      let made : NewVerdict = record { a = pair.first.a; b = pair.first.b; verdict = word.first } in
      let at = pair_within role.Verdicts number (slice_index_or fields 0 []) (slice_index_or fields 1 []) pair.first pair.is in
      subst (NamesRecords (length a) (length b)) (same_value made v word.rest) (record { in_a = at.0; in_b = at.1 })

  pub batch_names : (bytes : List ℕ) (batch : List NewVerdict) → verdicts_of a b bytes ≡ Ok batch → All (NamesRecords (length a) (length b)) batch
  batch_names bytes batch told =
      let table = went_on (table_of role.Verdicts verdicts_wanted (records_in 44 bytes)) (verdicts_read a b []) batch told in
      all_hold (λ done number (row : TableRow). verdict_in a b number row.fields) (NamesRecords (length a) (length b))
      (λ done number row v is. verdict_names number row.fields v is) [] table.first batch (All-nil (NamesRecords (length a) (length b))) table.rest

-- the day of a row, and its reviewer
dated_day : (done : List Entry) (number : ℕ) (text : List ℕ) (date : ℤ) → dated done number text ≡ Ok date → IsDay date × (is_not_before done date ≡ true)
dated_day done number text date e =
    let iso = went_on (or_fault (fault.BadDate number) (iso_day text)) _ date e in
    let kept = passed_test (is_not_before done iso.first) (fault.DateBack role.Journal number) iso.first date iso.rest in
    let day = iso_is_day text iso.first (found_is (fault.BadDate number) (iso_day text) iso.first iso.is) in
    subst (λ z. IsDay z × (is_not_before done z ≡ true)) kept.1 (day, kept.0)

named_is : (number : ℕ) (text name : List ℕ) → IsFieldText text → signed number text ≡ Ok name → IsReviewer name
named_is number [] name is e = absurd (cc e)
named_is number (byte ∷ bytes) name is e =
    subst IsReviewer (same_value (byte ∷ bytes) name e) (record { some = omega arith; few = is.short; text = is.utf8 })

-- a journal over two files, and an entry that may come next
pub record IsJournalOver (a b : List Record) (entries : List Entry) : Type 0 where
  pub journal : IsJournal entries
  pub within : All (IsWithinFiles (length a) (length b)) entries

pub record IsNextOver (a b : List Record) (done : List Entry) (e : Entry) : Type 0 where
  pub follows : CanFollow done e
  pub within : IsWithinFiles (length a) (length b) e

module _ (a b : List Record) where
  read_entry : (done : List Entry) (number : ℕ) (w : Written) (e : Entry) → IsFieldText w.reviewer → entry_in a b done number w ≡ Ok e → IsNextOver a b done e
  unfolding entry_in
  read_entry done number w e text told =
      let numbered_is = went_on (numbered number w.number) _ e told in
      let dated_is = went_on (dated done number w.date) _ e numbered_is.rest in
      let signed_is = went_on (signed number w.reviewer) _ e dated_is.rest in
      let placed_is = went_on (pair_in role.Journal number w.id_a w.id_b a b) _ e signed_is.rest in
      let verdict_is = went_on (or_fault (fault.BadVerdict role.Journal number) (verdict_named w.verdict)) _ e placed_is.rest in
      let step_is = went_on (or_fault (fault.BadStep number) (step_named w.step)) _ e verdict_is.rest in
      let entry : Entry = record { date = dated_is.first; reviewer = signed_is.first; step = step_is.first; a = placed_is.first.a; b = placed_is.first.b; verdict = verdict_is.first } in
      let fits = passed_test (fits_after done entry) (fault.BadStep number) entry e step_is.rest in
      let day = dated_day done number w.date dated_is.first dated_is.is in
      let at = pair_within a b role.Journal number w.id_a w.id_b placed_is.first placed_is.is in
      let next : IsNextOver a b done entry = record {
        follows = record { day = day.0; not_back = day.1; reviewer = named_is number w.reviewer signed_is.first text signed_is.is; fits = fits.0 };
        within = record { of_a = at.0; of_b = at.1 };
      } in
      subst (IsNextOver a b done) {x = entry} {y = e} fits.1 next

  pub one_over : (done : List Entry) (e : Entry) → length done < MOST_ENTRIES → IsJournalOver a b done → IsNextOver a b done e → IsJournalOver a b (done ++ e ∷ [])
  one_over done e room is next = record {
    journal = journal_push done e is.journal room next.follows.day next.follows.not_back next.follows.reviewer next.follows.fits;
    within = All-push (IsWithinFiles (length a) (length b)) done e is.within next.within;
  }

  none_over : IsJournalOver a b []
  none_over = record {
    journal = record {
      few = omega arith;
      days = All-nil (λ (e : Entry). IsDay e.date);
      dates = λ i j d lt le. absurd (omega arith);
      reviewers = All-nil (λ (e : Entry). IsReviewer e.reviewer);
      steps = refl;
    };
    within = All-nil (IsWithinFiles (length a) (length b));
  }

  reviewer_text : (second : Bool) (fields : List (List ℕ)) → All IsFieldText fields → IsFieldText (written_in second fields).reviewer
  reviewer_text true fields texts = text_at fields 2 texts
  reviewer_text false fields texts = text_at fields 2 texts

  all_over : (second : Bool) (done : List Entry) (rows : List TableRow) (es : List Entry) → length done + length rows ≤ MOST_ENTRIES → HasTexts rows → IsJournalOver a b done
      → entries_read second a b done rows ≡ Ok es → IsJournalOver a b es
  all_over second done [] es few texts is told = subst (IsJournalOver a b) (same_value done es told) is
  all_over second done (row ∷ rows) es few texts is told =
      let w = went_on (entry_in a b done (length done + 1) (written_in second row.fields)) (λ e. entries_read second a b (done ++ e ∷ []) rows) es told in
      let first : IsTextRow row = texts 0 row (omega arith) in
      let next = read_entry done (length done + 1) (written_in second row.fields) w.first (reviewer_text second row.fields first.fields) w.is in
      all_over second (done ++ w.first ∷ []) rows es (omega (arith, length-append done (w.first ∷ []))) (All-tail IsTextRow row rows texts) (one_over done w.first (omega arith) is next) w.rest

  under_over : (second : Bool) (records : List (List (List ℕ))) (entries : List Entry) → journal_under second a b records ≡ Ok entries → IsJournalOver a b entries
  under_over second records entries told =
      let table = went_on (table_of role.Journal (journal_wanted second) records) (entries_read second a b []) entries told in
      let sound = table_sound role.Journal (journal_wanted second) records table.first table.is in
      all_over second [] table.first entries (omega (arith, sound.few)) sound.texts none_over table.rest

  pub journal_over : (bytes : List ℕ) (entries : List Entry) → journal_in a b bytes ≡ Ok entries → IsJournalOver a b entries
  journal_over [] entries told = subst (IsJournalOver a b) (same_value [] entries told) none_over
  journal_over (byte ∷ bytes) entries told = under_over (header_has (codes "step") (records_in 44 (byte ∷ bytes))) (records_in 44 (byte ∷ bytes)) entries told

-- a row that names no step gives a verdict that stands alone
entry_single : (a b : List Record) (done : List Entry) (number : ℕ) (fields : List (List ℕ)) (e : Entry)
    → entry_in a b done number (written_in false fields) ≡ Ok e → e.step ≡ Single
unfolding entry_in
entry_single a b done number fields e told =
    let w : Written = written_in false fields in
    let numbered_is = went_on (numbered number w.number) _ e told in
    let dated_is = went_on (dated done number w.date) _ e numbered_is.rest in
    let signed_is = went_on (signed number w.reviewer) _ e dated_is.rest in
    let placed_is = went_on (pair_in role.Journal number w.id_a w.id_b a b) _ e signed_is.rest in
    let verdict_is = went_on (or_fault (fault.BadVerdict role.Journal number) (verdict_named w.verdict)) _ e placed_is.rest in
    let entry : Entry = record { date = dated_is.first; reviewer = signed_is.first; step = Single; a = placed_is.first.a; b = placed_is.first.b; verdict = verdict_is.first } in
    let same : entry ≡ e = (passed_test (fits_after done entry) (fault.BadStep number) entry e verdict_is.rest).1 in
    ap (λ (x : Entry). x.step) (sym same)

abbrev StandsAlone : Entry → Type 0
StandsAlone e = e.step ≡ Single

under_first : (a b : List Record) (records : List (List (List ℕ))) (entries : List Entry) → journal_under false a b records ≡ Ok entries → All StandsAlone entries
under_first a b records entries told =
    let table = went_on (table_of role.Journal (journal_wanted false) records) (entries_read false a b []) entries told in
    all_hold (λ done number (row : TableRow). entry_in a b done number (written_in false row.fields)) StandsAlone
    (λ done number row e is. entry_single a b done number row.fields e is) [] table.first entries (All-nil StandsAlone) table.rest

pub all_single : (a b : List Record) (bytes : List ℕ) (entries : List Entry) → header_has (codes "step") (records_in 44 bytes) ≡ false → journal_in a b bytes ≡ Ok entries → All StandsAlone entries
all_single a b [] entries first told = let same : [] ≡ entries = cc told in subst (All StandsAlone) same (All-nil StandsAlone)
all_single a b (byte ∷ bytes) entries first told =
    under_first a b (records_in 44 (byte ∷ bytes)) entries (subst (λ (t : Bool). journal_under t a b (records_in 44 (byte ∷ bytes)) ≡ Ok entries) first told)
