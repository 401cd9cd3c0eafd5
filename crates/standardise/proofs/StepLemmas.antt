-- A binary search in texts that rise finds what stands there.
use Rattle.std.proofs.Common.{◌≡◌, ℕ, zero, suc, ◌+◌, ◌<◌, ◌≤◌, inl, inr, List, [], ◌∷◌, take, Bool, true, false, ◌||◌, cond, Some, None, Err, Ordering, length, get_or, IsTrue, bytes_eq, refl, ap, sym, ◌∙◌, subst, arith, ◌≢◌, ◌++◌, ◌==◌, not, Option, length-append, MatchOption, is_some, ◌-◌, ◌&&◌, encode_utf8_all, Less, Equal, Greater, All}
use Rattle.std.specs.Ordering.{is_eq, is_lt, ordering_index, ordering_reverse}
use Rattle.std.specs.List.Sorted.{IsBinarySearchResult, IsNonDecreasingBy, IsSortedBy}
use Rattle.std.proofs.lemmas.Bool.{cases_lt}
use Rattle.std.proofs.lemmas.Cmp.{nat_list_cmp_total}
use Rattle.std.proofs.lemmas.List.Elements.{All-more}
use Rattle.std.proofs.lemmas.List.Folds.{list_any_at}
use Rattle.std.proofs.lemmas.List.Sorted.{IsNonDecreasingBy-from_all_adjacent}
use Rattle.std.proofs.lemmas.Map.Lookups.{exact_bytes}
use Rattle.std.proofs.lemmas.Map.Text.{is_eq-slice_cmp}
use Rattle.std.proofs.lemmas.Slice.Eq.{bytes_eq-Decides}
use Rattle.standardise.specs.Kept.{AreWithin, may_be}
use Rattle.standardise.specs.declared.outline.Outline.{Outline}
use Rattle.link_base.specs.declared.tables.WordPair.{WordPair}
use Rattle.link_base.specs.Words.{AreWordPairs}
use Rattle.link_texts.specs.Texts.{stands_among}
use Rattle.standardise.specs.Names.{text_cmp, word_for, run_words, words}
use Rattle.std.proofs.lemmas.Bool.Decides.{nat_tests}
use Rattle.std.proofs.lemmas.List.{append-nil, take_more}
use Rattle.standardise.proofs.WordLemmas.{run_none}
use Rattle.std.specs.Char.{IsAsciiGraphic, is_whitespace}
use Rattle.std.specs.Str.{IsUtf8, chars, drop_trailing_whitespace, skip_leading_whitespace, trim, trim_end, trim_start}
use Rattle.std.proofs.lemmas.Grind.{common_steps}
use Rattle.std.proofs.lemmas.Str.{chars-append, chars-nil, chars_past_char, encode_ascii, encodes-chars, IsCharBoundary-before_ascii, IsUtf8-from_ascii, IsUtf8-take}
use Rattle.std.proofs.lemmas.Str.Ascii.{IsAscii-cons, IsAscii-nil}

-- the order to a third text
index_bound : (o : Ordering) → ordering_index o ≤ 2
index_bound Less = omega arith
index_bound Equal = omega arith
index_bound Greater = omega arith

rise : (x y w : List ℕ) (o : Ordering) → text_cmp x y ≡ Less → text_cmp y w ≡ o → ordering_index (text_cmp x w) ≤ ordering_index o
rise x y w Less lt is = let e : text_cmp x w ≡ Less = nat_list_cmp_total.trans x y w lt is in rw e (omega arith)
rise x y w Equal lt is = let e : text_cmp x w ≡ Less = subst (λ z. text_cmp x z ≡ Less) (exact_bytes _ _ is) lt in rw e (omega arith)
rise x y w Greater lt is = index_bound (text_cmp x w)

-- where the second text is not below the first
no_fall : (x y w : List ℕ) (o : Ordering) → text_cmp y x ≡ o → is_lt o ≡ false → ordering_index (text_cmp x w) ≤ ordering_index (text_cmp y w)
no_fall x y w Less is not = absurd (let e : true ≡ false = not in cc)
no_fall x y w Equal is not = let same : y ≡ x = exact_bytes _ _ is in rw same (omega arith)
no_fall x y w Greater is not = rise x y w (text_cmp y w) (nat_list_cmp_total.antisymm x y ∙ ap ordering_reverse is) refl

pub sorted_rises : (ts : List (List ℕ)) (w : List ℕ) → IsSortedBy (λ x y. is_lt (text_cmp x y)) ts → IsNonDecreasingBy (λ t. ordering_index (text_cmp t w)) ts
sorted_rises ts w sorted =
    IsNonDecreasingBy-from_all_adjacent (λ t. ordering_index (text_cmp t w)) ts (λ k d lt. no_fall (get_or ts k d) (get_or ts (k + 1) d) w (text_cmp (get_or ts (k + 1) d) (get_or ts k d)) refl (sorted k d (omega arith) lt))

-- a text that is found, and one that is not
pub found_text : (ts : List (List ℕ)) (w : List ℕ) (i : ℕ) (d : List ℕ) → i < length ts → text_cmp (get_or ts i d) w ≡ Equal → stands_among ts w ≡ true
found_text ts w i d lt is = list_any_at (λ t. bytes_eq t w) ts i d lt (sym (is_eq-slice_cmp (get_or ts i d) w) ∙ ap is_eq is)

none_equal : (ts : List (List ℕ)) (w : List ℕ) → ((k : ℕ) (d : List ℕ) → k < length ts → is_eq (text_cmp (get_or ts k d) w) ≡ false) → stands_among ts w ≡ false
none_equal [] w h = refl
none_equal (t ∷ ts) w h =
    ap (λ b. b || stands_among ts w) (sym (is_eq-slice_cmp t w) ∙ h 0 t (omega arith))
    ∙ none_equal ts w (λ k d lt. h (suc k) d (omega arith))

pub missed_text : (ts : List (List ℕ)) (w : List ℕ) (i : ℕ) → IsNonDecreasingBy (λ t. ordering_index (text_cmp t w)) ts → IsBinarySearchResult (λ t. text_cmp t w) ts (Err i) → stands_among ts w ≡ false
missed_text ts w i rising place = none_equal ts w (λ k d lt.
    let parts = place rising in
    elim (cases_lt k i) [
      | inl below ↦ ap is_eq (parts.0 k d (omega arith) below)
      | inr above ↦ ap is_eq (parts.1 k d above lt)
    ])

-- one step of a look-up in pairs
look_at : (p : WordPair) (ps : List WordPair) (w : List ℕ) (o : Ordering) → text_cmp p.from w ≡ o → word_for (p ∷ ps) w ≡ cond (is_eq o) (Some p.to) (word_for ps w)
look_at p ps w o is = ap (λ b. cond b (Some p.to) (word_for ps w)) (sym (is_eq-slice_cmp p.from w) ∙ ap is_eq is)

abbrev Rising : List WordPair → Type 0
Rising ps = (i j : ℕ) (d : WordPair) → i < j → j < length ps → text_cmp (get_or ps i d).from (get_or ps j d).from ≡ Less

tail_rises : (p : WordPair) (ps : List WordPair) → Rising (p ∷ ps) → Rising ps
tail_rises p ps r i j d lt inside = r (suc i) (suc j) d (omega arith) (omega arith)

found_in : (ps : List WordPair) (w : List ℕ) (i : ℕ) (d : WordPair) → Rising ps → i < length ps → text_cmp (get_or ps i d).from w ≡ Equal → word_for ps w ≡ Some (get_or ps i d).to
found_in [] w i d r lt is = absurd (omega arith)
found_in (p ∷ ps) w zero d r lt is = look_at p ps w Equal is
found_in (p ∷ ps) w (suc i) d r lt is =
    let same : (get_or ps i d).from ≡ w = exact_bytes _ _ is in
    let less : text_cmp p.from w ≡ Less = subst (λ x. text_cmp p.from x ≡ Less) same (r 0 (suc i) d (omega arith) lt) in
    look_at p ps w Less less ∙ found_in ps w i d (tail_rises p ps r) (omega arith) is

pub found_pair : (ps : List WordPair) (w : List ℕ) (i : ℕ) (d : WordPair) → AreWordPairs ps → i < length ps → text_cmp (get_or ps i d).from w ≡ Equal → word_for ps w ≡ Some (get_or ps i d).to
found_pair ps w i d are lt is = found_in ps w i d are.rising lt is

found_nowhere : (ps : List WordPair) (w : List ℕ) → ((k : ℕ) (d : WordPair) → k < length ps → is_eq (text_cmp (get_or ps k d).from w) ≡ false) → word_for ps w ≡ None
found_nowhere [] w h = refl
found_nowhere (p ∷ ps) w h =
    look_at p ps w (text_cmp p.from w) refl
    ∙ ap (λ b. cond b (Some p.to) (word_for ps w)) (h 0 p (omega arith))
    ∙ found_nowhere ps w (λ k d lt. h (suc k) d (omega arith))

pairs_rise : (ps : List WordPair) (w : List ℕ) → AreWordPairs ps → IsNonDecreasingBy (λ p. ordering_index (text_cmp p.from w)) ps
pairs_rise ps w are = λ i j d le inside.
    elim (cases_lt i j) [
      | inl lt ↦ rise (get_or ps i d).from (get_or ps j d).from w (text_cmp (get_or ps j d).from w) (are.rising i j d lt inside) refl
      | inr ge ↦ let same : i ≡ j = omega arith in rw same (omega arith)
    ]

pub missed_pair : (ps : List WordPair) (w : List ℕ) (i : ℕ) → AreWordPairs ps → IsBinarySearchResult (λ p. text_cmp p.from w) ps (Err i) → word_for ps w ≡ None
missed_pair ps w i are place = found_nowhere ps w (λ k d lt.
    let parts = place (pairs_rise ps w are) in
    elim (cases_lt k i) [
      | inl below ↦ ap is_eq (parts.0 k d (omega arith) below)
      | inr above ↦ ap is_eq (parts.1 k d above lt)
    ])

-- what passes a test that each of some texts passes, and the text does not, is another text
other_text : (p : List ℕ → Bool) (t w : List ℕ) → IsTrue (p t) → p w ≡ false → (b : Bool) → bytes_eq t w ≡ b → b ≡ false
other_text p t w here not true is = absurd (let same : t ≡ w = (bytes_eq-Decides t w).0 is in let e : true ≡ false = sym here ∙ ap p same ∙ not in cc)
other_text p t w here not false is = refl

pub unlike_text : (p : List ℕ → Bool) (ts : List (List ℕ)) (w : List ℕ) → All (λ t. IsTrue (p t)) ts → p w ≡ false → stands_among ts w ≡ false
unlike_text p [] w all not = refl
unlike_text p (t ∷ ts) w all not =
    ap (λ b. b || stands_among ts w) (other_text p t w (all 0 t (omega arith)) not (bytes_eq t w) refl)
    ∙ unlike_text p ts w (λ k d lt. all (suc k) d (omega arith)) not

pub unlike_word : (p : List ℕ → Bool) (ps : List WordPair) (w : List ℕ) → All (λ (q : WordPair). IsTrue (p q.from)) ps → p w ≡ false → word_for ps w ≡ None
unlike_word p [] w all not = refl
unlike_word p (q ∷ ps) w all not =
    ap (λ b. cond b (Some q.to) (word_for ps w)) (other_text p q.from w (all 0 q (omega arith)) not (bytes_eq q.from w) refl)
    ∙ unlike_word p ps w (λ k d lt. all (suc k) d (omega arith)) not

-- an outline of one more
pub within_more : {A : Type 0} (old new : Outline) (text : A → List ℕ) (xs : List A) (i : ℕ) (d : A) → i < length xs → AreWithin old text (take i xs)
    → ((other : List ℕ) → IsTrue (may_be old other) → IsTrue (may_be new other)) → IsTrue (may_be new (text (get_or xs i d))) → AreWithin new text (take (i + 1) xs)
within_more old new text xs i d lt all kept here =
    All-more (λ x. IsTrue (may_be new (text x))) xs i d lt (λ k e inside. kept (text (get_or (take i xs) k e)) (all k e inside)) here

-- One step of a loop over items, bytes or words.

-- an item that is copied
pub taken_more : {A : Type 0} (now new xs : List A) (i : ℕ) (none : A) → i < length xs → now ≡ take i xs → new ≡ now ++ get_or xs i none ∷ [] → new ≡ take (i + 1) xs
taken_more {A = A} now new xs i none lt told grown =
    grown ∙ ap (λ (l : List A). l ++ get_or xs i none ∷ []) told ∙ sym (take_more xs i none lt)

-- a byte that is no space
pub no_space_here : (b : ℕ) → b ≢ 32 → (b == 32) ≡ false
no_space_here b ne = grind (arith, nat_tests)

pub none_left : (word : List ℕ) (empty : Bool) → empty ≡ (length word == 0) → empty ≡ true → run_words word ≡ []
none_left word empty is so =
    let none : length word ≤ 0 = grind (arith, nat_tests) in
    run_none word none

-- a space with no word before it, and with none behind it
pub past_space : (left rest word text : List ℕ) (empty : Bool) → words left ≡ run_words word ++ words rest → empty ≡ (length word == 0) → empty ≡ true → words left ≡ words text → words rest ≡ words text
past_space left rest word text empty split is so told =
    sym (split ∙ ap (λ ws. ws ++ words rest) (none_left word empty is so)) ∙ told

pub before_space : (left rest word text : List ℕ) (empty : Bool) → words left ≡ words rest ++ run_words word → empty ≡ (length word == 0) → empty ≡ true → words left ≡ words text → words rest ≡ words text
before_space left rest word text empty split is so told =
    sym (split ∙ ap (λ ws. words rest ++ ws) (none_left word empty is so) ∙ append-nil (words rest)) ∙ told

-- a text with a first word, or with a last one, has words
pub some_first : {A : Type 0} (found : Option A) (ws : List (List ℕ)) (word : A → List ℕ) (rest : A → List (List ℕ)) (none : Bool) → MatchOption found (ws ≡ []) (λ f. ws ≡ word f ∷ rest f)
    → is_some found ≡ not none → none ≡ false → 0 < length ws
some_first None ws word rest none h is so = cc (is ∙ ap not so)
some_first (Some f) ws word rest none h is so = omega (arith, ap length h)

pub some_last : {A : Type 0} (found : Option A) (ws : List (List ℕ)) (word : A → List ℕ) (rest : A → List (List ℕ)) (none : Bool) → MatchOption found (ws ≡ []) (λ f. ws ≡ rest f ++ word f ∷ [])
    → is_some found ≡ not none → none ≡ false → 0 < length ws
some_last None ws word rest none h is so = cc (is ∙ ap not so)
some_last (Some f) ws word rest none h is so = omega (arith, ap length h ∙ length-append (rest f) (word f ∷ []))

-- A text that begins and ends with visible ASCII has no white space at its ends.

visible : (c : ℕ) → IsAsciiGraphic c → is_whitespace c ≡ false
visible c h = grind (arith, nat_tests)

-- the characters stay
none_skipped : (c : ℕ) (cs : List ℕ) → is_whitespace c ≡ false → skip_leading_whitespace (c ∷ cs) ≡ c ∷ cs
none_skipped c cs h = ap (λ b. cond b (skip_leading_whitespace cs) (c ∷ cs)) h

some : (cs : List ℕ) (c : ℕ) → (length (cs ++ c ∷ []) == 0) ≡ false
some cs c = let long = length-append cs (c ∷ []) in grind (arith, nat_tests)

neither : (a b : Bool) → b ≡ false → (a && b) ≡ false
neither true b h = h
neither false b h = refl

none_dropped : (cs : List ℕ) (c : ℕ) → is_whitespace c ≡ false → drop_trailing_whitespace (cs ++ c ∷ []) ≡ cs ++ c ∷ []
none_dropped [] c h = ap (λ b. cond (b && true) [] (c ∷ [])) h
none_dropped (x ∷ xs) c h =
    let rest = xs ++ c ∷ [] in
    let same = none_dropped xs c h in
    ap (λ l. cond (is_whitespace x && length l == 0) [] (x ∷ l)) same
    ∙ ap (λ b. cond b [] (x ∷ rest)) (neither (is_whitespace x) (length rest == 0) (some xs c))

-- and so does the text
start_kept : (b : ℕ) (bs : List ℕ) → IsUtf8 (b ∷ bs) → IsAsciiGraphic b → trim_start (b ∷ bs) ≡ b ∷ bs
unfolding trim_start
start_kept b bs utf8 h =
    let low : b < 128 = omega arith in
    let first : chars (b ∷ bs) ≡ b ∷ chars bs = chars_past_char (b ∷ bs) bs b utf8 (ap (λ x. x ++ bs) (sym (encode_ascii b low))) in
    ap encode_utf8_all (ap skip_leading_whitespace first ∙ none_skipped b (chars bs) (visible b h) ∙ sym first)
    ∙ encodes-chars (b ∷ bs) utf8

one_char : (b : ℕ) → b < 128 → chars (b ∷ []) ≡ b ∷ []
one_char b low =
    chars_past_char (b ∷ []) [] b (IsUtf8-from_ascii (b ∷ []) (IsAscii-cons b [] low IsAscii-nil)) (ap (λ x. x ++ []) (sym (encode_ascii b low)))
    ∙ ap (λ cs. b ∷ cs) chars-nil

end_kept : (bs : List ℕ) (b : ℕ) → IsUtf8 bs → IsUtf8 (bs ++ b ∷ []) → IsAsciiGraphic b → trim_end (bs ++ b ∷ []) ≡ bs ++ b ∷ []
unfolding trim_end
end_kept bs b front utf8 h =
    let last : chars (bs ++ b ∷ []) ≡ chars bs ++ b ∷ [] = chars-append bs (b ∷ []) front ∙ ap (λ cs. chars bs ++ cs) (one_char b (omega arith)) in
    ap encode_utf8_all (ap drop_trailing_whitespace last ∙ none_dropped (chars bs) b (visible b h) ∙ sym last)
    ∙ encodes-chars (bs ++ b ∷ []) utf8

pub trim_visible : (bs : List ℕ) → IsUtf8 bs → IsAsciiGraphic (get_or bs 0 0) → IsAsciiGraphic (get_or bs (length bs - 1) 0) → trim bs ≡ bs
trim_visible [] utf8 first last = absurd (omega arith)
trim_visible (b ∷ bs) utf8 first last =
    let all = b ∷ bs in
    let n = length all - 1 in
    let x = get_or all n 0 in
    let split : all ≡ take n all ++ x ∷ [] = grind (arith, common_steps) in
    let front : IsUtf8 (take n all) = IsUtf8-take all n utf8 (IsCharBoundary-before_ascii all n (omega arith) (omega arith)) in
    ap trim_end (start_kept b bs utf8 first)
    ∙ ap trim_end split
    ∙ end_kept (take n all) x front (subst IsUtf8 split utf8) last
    ∙ sym split
