-- What the pairs of a word table are: words, in the order of the keys.
use Rattle.std.proofs.Common.{String, Global, ◌≡◌, ℕ, List, [], ◌∷◌, ◌+◌, ◌++◌, length, length-append, true, Some, Ok, refl, codes, ◌≤◌, ◌∙◌, arith, inl, inr, All, nat_le, Bool, false, cond, is_some, IfSome, None, Option}
use Rattle.std.proofs.lemmas.Bool.{and_parts, leb-true, false≢true, le-leb}
use Rattle.std.proofs.lemmas.List.Elements.{All-nil, All-push, All-weaker}
use Rattle.std.proofs.lemmas.List.Quantifiers.{all_pairs_push}
use Rattle.toml.specs.Data.{Data, Members, no_members, member, as_table, is_before}
use Rattle.toml.specs.View.{members_view}
use Rattle.toml.specs.declared.value.Value.{Value}
use Rattle.link_base.specs.declared.tables.WordPair.{WordPair}
use Rattle.link_base.specs.Words.{AreWordPairs, is_word, StandsBefore}
use Rattle.settings_readers.specs.Values.{typed, in_range, ◌>>=◌, needed, optional, without, choice, whole}
use Rattle.settings_readers.specs.KeptLaws.{in_range_keeps, Keeps, keeps_so, keeps_value, kept, next_keeps, Reads, then_keeps, choice_keeps, IsWithin, named_passes, needed_keeps, optional_keeps, whole_keeps, without_both_keeps, without_keeps}
use Rattle.settings_readers.specs.KeyFaults.{above, IsKeyOf, keys_ascend}
use Rattle.link_plan.specs.declared.limits.TheConstants.{MOST_WORD_PAIRS, LEAST_RARE, MOST_DAYS, MOST_LETTERS, MOST_RARE, MOST_YEARS}
use Rattle.settings.specs.declared.texts.TextRule.TheVariants as rule
use Rattle.settings.specs.Words.{text, members_len, word_pair, pairs, small_table, word_table, numbered, compare_named, comparisons, key_named, key_words}
use Rattle.settings.proofs.TextRanges.{text_keeps}
use Rattle.std.specs.List.{list_all}
use Rattle.value_forms.specs.Canons.{letters_of, with_letters}
use Rattle.value_forms.specs.declared.canons.Canon.{Canon}
use Rattle.value_forms.specs.declared.canons.Canon.TheVariants as canon
use Rattle.value_forms.specs.declared.canons.End.{End}
use Rattle.value_forms.specs.declared.canons.CompareKind.{CompareKind}
use Rattle.value_forms.specs.declared.canons.CompareKind.TheVariants as by
use Rattle.link_base.specs.declared.plan.FieldSort.{FieldSort}
use Rattle.link_base.specs.declared.plan.FieldSort.TheVariants as sort
use Rattle.link_plan.specs.Ranges.{has_comparison, is_keyed, is_of_words, IsRareNumber, may_be_rare}
use Rattle.settings.specs.Field.{compare_by, span}

-- an entry of a table's map
abbrev pub Entry : Type 0
Entry = String Global × Value

members_len-view : (es : List Entry) → members_len (members_view es) ≡ length es
members_len-view [] = refl
members_len-view (e ∷ es) = omega (arith, members_len-view es)

pub small_table_is : (n : ℕ) (at : List ℕ) (d : Data) (es : List Entry) → Some (members_view es) ≡ as_table d → n ≡ length es
    → small_table at d ≡ in_range at (nat_le n MOST_WORD_PAIRS) (members_view es)
small_table_is n at d es is len = rw (← is, members_len-view, ← len)

abbrev IsPairOf : List ℕ → WordPair → Type 0
IsPairOf key x = (x.from ≡ key) × (is_word x.from ≡ true) × (is_word x.to ≡ true)

word_pair_is : (at key : List ℕ) (d : Data) → Keeps (word_pair at key d) (IsPairOf key)
word_pair_is at key d =
    then_keeps (λ (from : List ℕ). (from ≡ key) × (is_word from ≡ true)) _ (in_range at (is_word key) key) _ (in_range_keeps _ at (is_word key) key (λ is. (refl, is))) (λ from is.
    then_keeps _ _ (text rule.Word at d) _ (text_keeps rule.Word at d) (λ to also. keeps_value _ _ (is.0, is.1, also)))

-- a pair that stands before all keys
abbrev IsBefore : Members → WordPair → Type 0
IsBefore ms p = (q : List ℕ) → IsKeyOf ms q → StandsBefore p.from q

abbrev Rises : WordPair → WordPair → Type 0
Rises p q = StandsBefore p.from q.from

one_more : (before : List WordPair) (p : WordPair) → AreWordPairs before → is_word p.from ≡ true → is_word p.to ≡ true → All (λ (q : WordPair). Rises q p) before → AreWordPairs (before ++ p ∷ [])
one_more before p so_far from to rises = record {
  from_words = All-push (λ (q : WordPair). is_word q.from ≡ true) before p so_far.from_words from;
  to_words = All-push (λ (q : WordPair). is_word q.to ≡ true) before p so_far.to_words to;
  rising = all_pairs_push Rises before p so_far.rising rises;
}

pairs_keep : (path : List ℕ) (ms : Members) (before : List WordPair) → keys_ascend ms ≡ true → AreWordPairs before → All (IsBefore ms) before → Keeps (pairs path ms before) AreWordPairs
pairs_keep path no_members before sorted so_far later = keeps_value _ before so_far
pairs_keep path (member k d ms) before sorted so_far later =
    let (front, more) = and_parts (is_before k ms) (keys_ascend ms) sorted in
    then_keeps _ _ (word_pair (path ++ k) k d) _ (word_pair_is (path ++ k) k d) (λ p is.
    let rises : All (λ (q : WordPair). Rises q p) before = All-weaker (IsBefore (member k d ms)) (λ (q : WordPair). Rises q p) (λ q first. rw is.0 (first k (inl refl))) before later in
    let behind : All (IsBefore ms) before = All-weaker (IsBefore (member k d ms)) (IsBefore ms) (λ q first r there. first r (inr there)) before later in
    let next : IsBefore ms p = λ q there. rw is.0 (above k ms front more q there) in
    pairs_keep path ms (before ++ p ∷ []) more (one_more before p so_far is.1 is.2 rises) (All-push (IsBefore ms) before p behind next))

no_pairs : AreWordPairs []
no_pairs = record { from_words = All-nil (λ (q : WordPair). is_word q.from ≡ true); to_words = All-nil (λ (q : WordPair). is_word q.to ≡ true); rising = λ i j d lt within. absurd (omega arith) }

-- the pairs of a table whose keys ascend
pub pairs_are_word_pairs : (path : List ℕ) (ms : Members) (all : List WordPair) → keys_ascend ms ≡ true → pairs path ms [] ≡ Ok all → AreWordPairs all
pairs_are_word_pairs path ms all sorted h = kept _ (pairs path ms []) all (pairs_keep path ms [] sorted no_pairs (All-nil (IsBefore ms))) h

-- as many pairs as members
pairs_count : (path : List ℕ) (ms : Members) (before : List WordPair) → Keeps (pairs path ms before) (λ (all : List WordPair). length all ≡ length before + members_len ms)
pairs_count path no_members before = keeps_value _ before (omega arith)
pairs_count path (member k d ms) before =
    next_keeps _ (word_pair (path ++ k) k d) _ (λ p. keeps_so _ _ (pairs path ms (before ++ p ∷ [])) (pairs_count path ms (before ++ p ∷ [])) (λ all is. is ∙ omega (arith, length-append before (p ∷ []))))

small_table_keeps : Reads small_table (λ ms. members_len ms ≤ MOST_WORD_PAIRS)
small_table_keeps at d = next_keeps _ (typed at (as_table d)) _ (λ ms. in_range_keeps _ at (nat_le (members_len ms) MOST_WORD_PAIRS) ms (leb-true (members_len ms) MOST_WORD_PAIRS))

-- a table that was read is small
pub word_table_keeps : Reads word_table (λ (ps : List WordPair). length ps ≤ MOST_WORD_PAIRS)
word_table_keeps at d =
    then_keeps _ _ (small_table at d) _ (small_table_keeps at d) (λ ms few.
    keeps_so _ _ (pairs (at ++ codes ".") ms []) (pairs_count (at ++ codes ".") ms []) (λ ps many. omega (arith, few, many)))

-- A comparison and a key are of those that the sort of their field has, with each number in its range.

-- a canon with each number of letters is of those that it is of
abbrev Numbered : (Canon → Bool) → Canon → Type 0
Numbered has c = (n : ℕ) → IsWithin 1 MOST_LETTERS n → has (with_letters n c) ≡ true

letters_fit : (end : End) (n : ℕ) → IsWithin 1 MOST_LETTERS n → is_of_words (canon.Letters end n) ≡ true
letters_fit end n r = rw (le-leb 1 n r.0, le-leb n MOST_LETTERS r.1)

words_numbered : (c : Canon) → is_of_words c ≡ true → Numbered is_of_words c
words_numbered (canon.Letters end m) h n r = letters_fit end n r
words_numbered c h n r = h

pub keys_numbered : (s : FieldSort) (c : Canon) → is_keyed s c ≡ true → Numbered (is_keyed s) c
keys_numbered (sort.Date a b) (canon.Letters end m) h n r = absurd (false≢true h)
keys_numbered (sort.Date a b) c h n r = h
keys_numbered s c h n r = words_numbered c h n r

compares_numbered : (s : FieldSort) (c : Canon) → has_comparison s (by.Same c) ≡ true → Numbered (λ d. has_comparison s (by.Same d)) c
compares_numbered (sort.Date a b) (canon.Letters end m) h n r = absurd (false≢true h)
compares_numbered (sort.Date a b) c h n r = h
compares_numbered s c h n r = words_numbered c h n r

-- how far apart dates may be
spans : (s : FieldSort) (least t : ℕ) → has_comparison s (by.DaysWithin least) ≡ true → t ≤ MOST_DAYS → has_comparison s (by.DaysWithin t) ≡ true
spans (sort.Date a b) least t h few = le-leb t MOST_DAYS few
spans s least t h few = absurd (false≢true h)

year_spans : (s : FieldSort) (least t : ℕ) → has_comparison s (by.YearsWithin least) ≡ true → t ≤ MOST_YEARS → has_comparison s (by.YearsWithin t) ≡ true
year_spans (sort.Date a b) least t h few = le-leb t MOST_YEARS few
year_spans s least t h few = absurd (false≢true h)

-- the words
comparisons_fit : (s : FieldSort) → list_all (λ (row : List ℕ × CompareKind). has_comparison s row.1) (comparisons s) ≡ true
comparisons_fit (sort.Date a b) = refl
comparisons_fit s = refl

keys_fit : (s : FieldSort) → list_all (λ (row : List ℕ × Canon). is_keyed s row.1) (key_words s) ≡ true
keys_fit (sort.Date a b) = refl
keys_fit s = refl

module _ (t : Members) (above : List ℕ) where
  number_keeps : (has : Canon → Bool) (c : Canon) → has c ≡ true → Numbered has c → (has_letters : Bool)
      → Keeps (cond has_letters (needed (whole 1 MOST_LETTERS) t above (codes "n") >>= λ n. Ok (with_letters n c)) (without c t above (codes "n"))) (λ x. has x ≡ true)
  number_keeps has c h each true =
      then_keeps _ _ (needed (whole 1 MOST_LETTERS) t above (codes "n")) _ (needed_keeps _ (whole 1 MOST_LETTERS) t above (codes "n") (whole_keeps 1 MOST_LETTERS)) (λ n r. keeps_value _ _ (each n r))
  number_keeps has c h each false = without_keeps _ c t above (codes "n") h

  pub numbered_keeps : (has : Canon → Bool) (c : Canon) → has c ≡ true → Numbered has c → Keeps (numbered c t above) (λ x. has x ≡ true)
  unfolding numbered
  numbered_keeps has c h each = number_keeps has c h each (is_some (letters_of c))

  span_keeps : (most : ℕ) → Keeps (span most t above) (IsWithin 0 most)
  span_keeps most = next_keeps _ (without {A = Unit {0}} tt t above (codes "n")) _ (λ no_n. needed_keeps _ (whole 0 most) t above (codes "t") (whole_keeps 0 most))

  pub compare_keeps : (s : FieldSort) (named : CompareKind) → has_comparison s named ≡ true → Keeps (compare_by named t above) (λ x. has_comparison s x ≡ true)
  compare_keeps s (by.Same c) h =
      then_keeps _ _ (numbered c t above) _ (numbered_keeps (λ d. has_comparison s (by.Same d)) c h (compares_numbered s c h)) (λ d is. without_keeps _ (by.Same d) t above (codes "t") is)
  compare_keeps s by.Initials h = without_both_keeps _ by.Initials t above (codes "n") (codes "t") h
  compare_keeps s (by.DaysWithin least) h = then_keeps _ _ (span MOST_DAYS t above) _ (span_keeps MOST_DAYS) (λ days r. keeps_value _ _ (spans s least days h r.1))
  compare_keeps s (by.YearsWithin least) h = then_keeps _ _ (span MOST_YEARS t above) _ (span_keeps MOST_YEARS) (λ years r. keeps_value _ _ (year_spans s least years h r.1))

  pub rare_where : (c : CompareKind) (may : Bool) → may_be_rare c ≡ may → Keeps (cond may (optional (whole LEAST_RARE MOST_RARE) t above (codes "rare")) (without None t above (codes "rare"))) (λ (x : Option ℕ). IfSome x (IsRareNumber c))
  rare_where c true is =
      optional_keeps _ (whole LEAST_RARE MOST_RARE) t above (codes "rare") (λ at d. keeps_so _ _ (whole LEAST_RARE MOST_RARE at d) (whole_keeps LEAST_RARE MOST_RARE at d) (λ n r. record { least = r.0; most = r.1; by_canon = is }))
  rare_where c false is = without_keeps _ None t above (codes "rare") tt

-- the words of a sort
pub comparison_named : (s : FieldSort) → Reads (choice (compare_named s)) (λ (c : CompareKind). has_comparison s c ≡ true)
comparison_named s = choice_keeps (λ (c : CompareKind). has_comparison s c ≡ true) (compare_named s) (named_passes (has_comparison s) (comparisons s) (comparisons_fit s))

pub key_named_keeps : (s : FieldSort) → Reads (choice (key_named s)) (λ (c : Canon). is_keyed s c ≡ true)
key_named_keeps s = choice_keeps (λ (c : Canon). is_keyed s c ≡ true) (key_named s) (named_passes (is_keyed s) (key_words s) (keys_fit s))
