-- The first lines of a text of lines: those of a report are its head.
use Rattle.std.proofs.Common.{◌≡◌, ◌<◌, ◌*◌, ◌%◌, ◌/◌, ◌==◌, ◌++◌, ◌∷◌, ◌∙◌, ◌&&◌, ℕ, zero, suc, ℤ, pos, negsuc, Bool, true, false, not, List, [], length, codes, decimal, map, if◌then◌else◌, sym, ap, arith, refl, ◌≤◌, ◌+◌, ◌-◌, drop, get_or, take, add-one, ◌≢◌, All, Some, None, Ok, bytes_eq, filter, zip, drop-cons, take-suc}
use Rattle.std.specs.Fmt.{digit_glyph, digits, digits_onto, signed_decimal}
use Rattle.std.specs.Prelude.{⊤}
use Rattle.std.specs.List.{concat, flat_map, list_all}
use Rattle.std.proofs.lemmas.List.{append_assoc, append-nil, drop_all, take_all, take_more}
use Rattle.std.proofs.lemmas.List.Folds.{list_all-append, concat-append, flat_map-map}
use Rattle.std.proofs.lemmas.Bool.{and_parts, not-true, false_from_ne_true, true≢false}
use Rattle.link_limits.specs.declared.TheConstants.{PER_MILLION}
use Rattle.link_base.specs.Words.{Record}
use Rattle.link_report.specs.ReportText.{first_lines_of, dropped_row, file_lines, level_lines, line, link_lines, pair_lines, report_head, text_of_report}
use Rattle.link_report.specs.declared.report.Report.{Report}
use Rattle.csv.specs.Writing.{default_writer, fields_text, is_blank, row_text}
use Rattle.link_report.specs.LinksText.{frontier_header, links_header, link_fields, text_of_links, open_header, prices_header, is_priced, price_fields, price_rows, text_of_prices, rule_header, cell_fields, text_of_rule}
use Rattle.link_report.specs.PairsText.{pairs_header}
use Rattle.std.proofs.lemmas.List.Elements.{All-append, All-cons, All-map, filter-append}
use Rattle.std.proofs.lemmas.Grind.{flat_map-append}
use Rattle.std.proofs.lemmas.Option.{cond_some}
use Rattle.std.proofs.lemmas.Slice.Eq.{bytes_eq-Decides}
use Rattle.file_reader.specs.Words.{records_in}
use Rattle.csv_rows.specs.Numbers.{HasNoMark, no_mark}
use Rattle.link_base.specs.declared.rule.Candidate.{Candidate}
use Rattle.link_base.specs.declared.rule.RuleCell.{RuleCell}
use Rattle.link_report.specs.Reading.{fits, row_same, same_itself, rows_begun, rows_of_prices, rows_under, same_row, side_rows}
use Rattle.std.proofs.lemmas.Slice.Zip.{get_or-zip, length-zip}

-- no byte ends a line
abbrev IsOneLine : List ℕ → Type 0
IsOneLine xs = list_all (λ c. not (c == 10)) xs ≡ true

abbrev IsLine : List ℕ → Type 0
IsLine l = (xs : List ℕ) × (IsOneLine xs × (l ≡ xs ++ 10 ∷ []))

-- of each
abbrev Each : (List ℕ → Type 0) → List (List ℕ) → Type 0
Each P [] = ⊤
Each P (x ∷ xs) = P x × Each P xs

within : (n c : ℕ) (text : List ℕ) → (c == 10) ≡ false → first_lines_of (suc n) (c ∷ text) ≡ c ∷ first_lines_of (suc n) text
within n c text other = rw other refl

first_of_line : (n : ℕ) (xs rest : List ℕ) → IsOneLine xs → first_lines_of (suc n) (xs ++ 10 ∷ rest) ≡ (xs ++ 10 ∷ []) ++ first_lines_of n rest
first_of_line n [] rest one = refl
first_of_line n (c ∷ xs) rest one =
    let parts = and_parts (not (c == 10)) (list_all (λ c. not (c == 10)) xs) one in
    within n c (xs ++ 10 ∷ rest) (not-true (c == 10) parts.0)
    ∙ ap (λ ys. c ∷ ys) (first_of_line n xs rest parts.1)

first_of_lines : (ls : List (List ℕ)) (rest : List ℕ) → Each IsLine ls → first_lines_of (length ls) (concat ls ++ rest) ≡ concat ls
first_of_lines [] rest all = refl
first_of_lines (l ∷ ls) rest all =
    let xs : List ℕ = all.0.0 in
    let e : l ≡ xs ++ 10 ∷ [] = all.0.1.1 in
    let tail : List ℕ = concat ls ++ rest in
    ap (λ ys. first_lines_of (suc (length ls)) ys) (append_assoc l (concat ls) rest ∙ ap (λ ys. ys ++ tail) e ∙ append_assoc xs (10 ∷ []) tail)
    ∙ first_of_line (length ls) xs tail all.0.1.0
    ∙ ap (λ ys. (xs ++ 10 ∷ []) ++ ys) (first_of_lines ls rest all.1)
    ∙ ap (λ ys. ys ++ concat ls) (sym e)

both_one : (xs ys : List ℕ) → IsOneLine xs → IsOneLine ys → IsOneLine (xs ++ ys)
both_one xs ys one more = list_all-append (λ c. not (c == 10)) xs ys ∙ ap (λ t. t && list_all (λ c. not (c == 10)) ys) one ∙ more

numbers_one : (numbers : List (List ℕ)) → Each IsOneLine numbers → IsOneLine (flat_map (λ number. 32 ∷ number) numbers)
numbers_one [] all = refl
numbers_one (number ∷ numbers) all = both_one (32 ∷ number) (flat_map (λ number. 32 ∷ number) numbers) all.0 (numbers_one numbers all.1)

is_line : (name : List ℕ) (numbers : List (List ℕ)) → IsOneLine name → Each IsOneLine numbers → IsLine (line name numbers)
is_line name numbers one all =
    let told : List ℕ = flat_map (λ number. 32 ∷ number) numbers in
    (name ++ told, (both_one name told one (numbers_one numbers all), sym (append_assoc name told (10 ∷ []))))

-- digits end no line
glyph_other : (d : ℕ) → d < 10 → not (digit_glyph false d == 10) ≡ true
glyph_other d small = grind arith

either_one : (b : Bool) (xs ys : List ℕ) → IsOneLine xs → IsOneLine ys → IsOneLine (if b then xs else ys)
either_one true xs ys one more = one
either_one false xs ys one more = more

glyph_one : (d : ℕ) (acc : List ℕ) → d < 10 → IsOneLine acc → IsOneLine (digit_glyph false d ∷ acc)
glyph_one d acc small one = ap (λ t. t && list_all (λ c. not (c == 10)) acc) (glyph_other d small) ∙ one

digits_one : (k n : ℕ) (acc : List ℕ) → IsOneLine acc → IsOneLine (digits_onto k 10 false n acc)
digits_one zero n acc one = one
digits_one (suc k) n acc one =
    let more = glyph_one (n % 10) acc (omega arith) one in
    either_one (n / 10 == 0) _ _ more (digits_one k (n / 10) (digit_glyph false (n % 10) ∷ acc) more)

decimal_one : (n : ℕ) → IsOneLine (decimal n)
unfolding digits
decimal_one n = digits_one 64 n [] refl

signed_one : (z : ℤ) → IsOneLine (signed_decimal z)
signed_one (pos n) = decimal_one n
signed_one (negsuc n) = decimal_one (suc n)

-- lines of a name and counts
decimals_one : (numbers : List ℕ) → Each IsOneLine (map decimal numbers)
decimals_one [] = tt
decimals_one (n ∷ numbers) = (decimal_one n, decimals_one numbers)

abbrev Counted : Type 0
Counted = List (List ℕ × List ℕ)

abbrev lines_of : Counted → List (List ℕ)
lines_of counted = map (λ (c : List ℕ × List ℕ). line c.0 (map decimal c.1)) counted

are_lines : (counted : Counted) (more : List (List ℕ)) → list_all (λ (c : List ℕ × List ℕ). list_all (λ byte. not (byte == 10)) c.0) counted ≡ true → Each IsLine more
    → Each IsLine (lines_of counted ++ more)
are_lines [] more names rest = rest
are_lines (c ∷ counted) more names rest =
    let parts = and_parts (list_all (λ byte. not (byte == 10)) c.0) (list_all (λ (c : List ℕ × List ℕ). list_all (λ byte. not (byte == 10)) c.0) counted) names in
    (is_line c.0 (map decimal c.1) parts.0 (decimals_one c.1), are_lines counted more parts.1 rest)

abbrev level : List ℕ → ℕ → ℕ → List ℕ × List ℕ
level name sum denominator = (name, sum ∷ denominator ∷ sum * PER_MILLION / denominator ∷ [])

abbrev counts_in : List Record → List Record → Report → Counted
counts_in a b r =
    (codes "rows", length a ∷ length b ∷ []) ∷ (codes "unreadable", r.unreadable_a ∷ r.unreadable_b ∷ []) ∷ (codes "pairs", r.pairs ∷ [])
    ∷ (codes "link", r.link ∷ []) ∷ (codes "possible", r.possible ∷ []) ∷ (codes "nonlink", r.nonlink ∷ []) ∷ (codes "open", r.undecided ∷ [])
    ∷ (codes "entries", r.entries ∷ []) ∷ (codes "idle", r.idle ∷ [])
    ∷ level (codes "mu") r.levels.mu r.levels.denominator ∷ level (codes "lambda") r.levels.lambda r.levels.denominator
    ∷ level (codes "possible_m") r.levels.possible_m r.levels.denominator ∷ level (codes "possible_u") r.levels.possible_u r.levels.denominator
    ∷ (codes "links", r.links ∷ []) ∷ []

head_is_lines : (a b : List Record) (r : Report) → Each IsLine (file_lines a b r ++ pair_lines r ++ level_lines r.levels ++ link_lines r)
head_is_lines a b r =
    are_lines (counts_in a b r) (line (codes "total") (signed_decimal r.total ∷ []) ∷ line (codes "dropped") (decimal (length r.dropped.items) ∷ []) ∷ []) refl
    (is_line (codes "total") (signed_decimal r.total ∷ []) refl (signed_one r.total, tt), (is_line (codes "dropped") (decimal (length r.dropped.items) ∷ []) refl (decimal_one (length r.dropped.items), tt), tt))

pub head_first : (a b : List Record) (report : Report) → first_lines_of 16 (text_of_report a b report) ≡ report_head a b report
head_first a b report =
    first_of_lines (file_lines a b report ++ pair_lines report ++ level_lines report.levels ++ link_lines report) (flat_map (dropped_row a b) report.dropped.items) (head_is_lines a b report)

-- The headers of texts, byte by byte.

pub header_texts : (row_text default_writer rule_header ≡ codes "pattern,outcomes,m,u,weight,link,possible,nonlink\n")
    × (row_text default_writer frontier_header ≡ codes "mu_ppm,mu,lambda,possible_m,possible_u,denominator,slack_m,slack_u\n")
    × (row_text default_writer open_header ≡ codes "id_a,id_b,pattern,weight\n")
    × (row_text default_writer links_header ≡ codes "id_a,id_b,weight,value,by\n")
    × (row_text default_writer prices_header ≡ codes "side,id,price\n")
    × (row_text default_writer pairs_header ≡ codes "id_a,id_b,pattern,outcomes,weight,decision,verdict\n")
    × (row_text default_writer (codes "id_a" ∷ codes "id_b" ∷ []) ≡ codes "id_a,id_b\n")
unfolding fields_text is_blank
header_texts = (refl, refl, refl, refl, refl, refl, refl)

-- Texts that are appended one after the other.

-- the lines of one list, and those of the next
pub lists_then : (start text new : List ℕ) (ks ls : List (List ℕ)) → text ≡ start ++ concat ks → new ≡ text ++ concat ls → new ≡ start ++ concat (ks ++ ls)
lists_then start text new ks ls first rest = rw (rest, first, concat-append ks ls) (append_assoc start (concat ks) (concat ls))

-- two, four and seven lines
pub two_lines : (start k l text new : List ℕ) → text ≡ start ++ k → new ≡ text ++ l → new ≡ start ++ concat (k ∷ l ∷ [])
two_lines start k l text new first second = rw (second, first) (simp (append_assoc, append-nil))

pub four_lines : (start k l m n t u v new : List ℕ) → t ≡ start ++ k → u ≡ t ++ l → v ≡ u ++ m → new ≡ v ++ n → new ≡ start ++ concat (k ∷ l ∷ m ∷ n ∷ [])
four_lines start k l m n t u v new first second third fourth = rw (fourth, third, second, first) (simp (append_assoc, append-nil))

pub seven_lines : (start k l m n o p q t u v w x y new : List ℕ) → t ≡ start ++ k → u ≡ t ++ l → v ≡ u ++ m → w ≡ v ++ n → x ≡ w ++ o → y ≡ x ++ p → new ≡ y ++ q
    → new ≡ start ++ concat (k ∷ l ∷ m ∷ n ∷ o ∷ p ∷ q ∷ [])
seven_lines start k l m n o p q t u v w x y new first second third fourth fifth sixth seventh =
    rw (seventh, sixth, fifth, fourth, third, second, first) (simp (append_assoc, append-nil))

-- a name, its numbers and the line feed
pub line_written : (start name mid after new : List ℕ) (numbers : List ℕ)
    → mid ≡ start ++ name → after ≡ mid ++ flat_map (λ number. 32 ∷ decimal number) numbers → new ≡ after ++ 10 ∷ []
    → new ≡ start ++ line name (map decimal numbers)
line_written start name mid after new numbers first rest last =
    rw (last, rest, first, flat_map-map (λ number. 32 ∷ number) decimal numbers) (simp append_assoc)

-- The first lines of a text that is read byte by byte.

no_bytes : (n : ℕ) → first_lines_of n [] ≡ []
no_bytes zero = refl
no_bytes (suc n) = refl

first_byte : (n c : ℕ) (text : List ℕ) → 1 ≤ n → first_lines_of n (c ∷ text) ≡ c ∷ first_lines_of (if c == 10 then n - 1 else n) text
first_byte zero c text some = absurd (omega arith)
first_byte (suc n) c text some = by_test (c == 10)
  where
    by_test : (t : Bool) → c ∷ (if t then first_lines_of n text else first_lines_of (suc n) text) ≡ c ∷ first_lines_of (if t then suc n - 1 else suc n) text
    by_test true = ap (λ m. c ∷ first_lines_of m text) (omega arith)
    by_test false = refl

-- what is left after a byte
pub after_feed : (c n new : ℕ) → c ≡ 10 → new ≡ n - 1 → new ≡ (if c == 10 then n - 1 else n)
after_feed c n new feed is = grind arith

pub after_other : (c n new : ℕ) → (c ≡ 10 → ⊥) → new ≡ n → new ≡ (if c == 10 then n - 1 else n)
after_other c n new other is = grind arith

-- a byte more
pub byte_more : (text : List ℕ) (i d n new : ℕ) (whole : List ℕ) → i < length text → 1 ≤ n → new ≡ (if get_or text i d == 10 then n - 1 else n)
    → take i text ++ first_lines_of n (drop i text) ≡ whole → take (i + 1) text ++ first_lines_of new (drop (i + 1) text) ≡ whole
byte_more text i d n new whole within some is told =
    let c : ℕ = get_or text i d in
    rw add-one (
    ap (λ xs. xs ++ first_lines_of new (drop (suc i) text)) (take-suc text i d within)
    ∙ append_assoc (take i text) (c ∷ []) (first_lines_of new (drop (suc i) text))
    ∙ ap (λ m. take i text ++ c ∷ first_lines_of m (drop (suc i) text)) is
    ∙ ap (λ xs. take i text ++ xs) (sym (first_byte n c (drop (suc i) text) some))
    ∙ ap (λ xs. take i text ++ first_lines_of n xs) (sym (drop-cons text i d within))
    ∙ told)

-- no byte is left to be read
pub text_read : (text : List ℕ) (i n : ℕ) (whole : List ℕ) → length text ≤ i → take i text ++ first_lines_of n (drop i text) ≡ whole → take (length text) text ≡ whole
text_read text i n whole past told =
    take_all (length text) text (omega arith) ∙ sym (take_all i text past) ∙ sym (append-nil (take i text))
    ∙ ap (λ xs. take i text ++ xs) (sym (no_bytes n)) ∙ ap (λ xs. take i text ++ first_lines_of n xs) (sym (drop_all i text past)) ∙ told

-- The rows of a text under its header.

abbrev Row : Type 0
Row = List (List ℕ)

-- the rows after a header are one fewer than the records
pub begun_few : (header : List (List ℕ)) (records rows : List Row) → rows_begun header records ≡ Some rows → length rows < length records
begun_few header [] rows e = absurd (let none : None ≡ Some rows = e in cc)
begun_few header (first ∷ rest) rows e = omega (arith, ap (λ (r : List Row). length r) (cond_some (same_row first header) rest rows e).1)

-- a field more is compared
both : (s t : Bool) → s ≡ true → (s && t) ≡ t
both s t e = rw e refl

pub same_more : (xs ys : Row) (i : ℕ) (d : List ℕ) → i < length xs → i < length ys → bytes_eq (get_or xs i d) (get_or ys i d) ≡ true
    → same_row (drop (i + 1) xs) (drop (i + 1) ys) ≡ same_row (drop i xs) (drop i ys)
same_more xs ys i d in_x in_y e =
    let x = get_or xs i d in
    let y = get_or ys i d in
    rw add-one (
    sym (both (bytes_eq x y) (same_row (drop (suc i) xs) (drop (suc i) ys)) e)
    ∙ ap (λ (t : Row). same_row t (y ∷ drop (suc i) ys)) (sym (drop-cons xs i d in_x))
    ∙ ap (λ (t : Row). same_row (drop i xs) t) (sym (drop-cons ys i d in_y)))

-- rows that differ in a field are not the same
pub differ_at : (xs ys : Row) (i : ℕ) (d : List ℕ) → bytes_eq (get_or xs i d) (get_or ys i d) ≡ false → same_row xs ys ≡ false
differ_at xs ys i d ne =
    false_from_ne_true (same_row xs ys) (λ e. true≢false (sym ((bytes_eq-Decides (get_or xs i d) (get_or ys i d)).1 (ap (λ (r : Row). get_or r i d) (row_same xs ys e))) ∙ ne))

pub differ_length : (xs ys : Row) → length xs ≢ length ys → same_row xs ys ≡ false
differ_length xs ys ne = false_from_ne_true (same_row xs ys) (λ e. ne (ap (λ (r : Row). length r) (row_same xs ys e)))

pub whole : (header : Row) (rows : List Row) → All (λ (r : Row). length r ≡ length header) rows → rows_under header (header ∷ rows) ≡ Ok rows
whole header rows all = rw (same_itself header) (rw (fits (length header) 1 rows all) refl)

-- the rows of a text are read
abbrev RowsRead : Type 0
RowsRead = (rows : List Row) → All (λ row. 1 ≤ length row) rows → HasNoMark (flat_map (row_text default_writer) rows) → records_in 44 (flat_map (row_text default_writer) rows) ≡ rows

abbrev text_under : Row → List Row → List ℕ
text_under header rows = row_text default_writer header ++ flat_map (row_text default_writer) rows

module _ (read : RowsRead) (header : Row) (width : 1 ≤ length header) (plain : (rows : List Row) → HasNoMark (text_under header rows)) where
  pub under_again : (rows : List Row) → All (λ (r : Row). length r ≡ length header) rows → rows_under header (records_in 44 (text_under header rows)) ≡ Ok rows
  under_again rows all =
      ap (rows_under header) (read (header ∷ rows) (All-cons (λ row. 1 ≤ length row) header rows width (λ k d lt. omega (arith, all k d lt, width))) (plain rows))
      ∙ whole header rows all

pub rule_again : RowsRead → (rares : List Bool) (cells : List RuleCell) → rows_under rule_header (records_in 44 (text_of_rule rares cells)) ≡ Ok (map (cell_fields rares) cells)
rule_again read rares cells =
    ap (λ (t : List ℕ). rows_under rule_header (records_in 44 (row_text default_writer rule_header ++ t))) (sym (flat_map-map (row_text default_writer) (cell_fields rares) cells))
    ∙ under_again read rule_header (omega arith) (λ rows. no_mark 112 _ (omega arith)) (map (cell_fields rares) cells) (All-map (λ (r : Row). length r ≡ 8) (cell_fields rares) cells (λ k d lt. refl))

pub links_again : RowsRead → (a b : List Record) (links : List Candidate) → rows_under links_header (records_in 44 (text_of_links a b links)) ≡ Ok (map (link_fields a b) links)
links_again read a b links =
    ap (λ (t : List ℕ). rows_under links_header (records_in 44 (row_text default_writer links_header ++ t))) (sym (flat_map-map (row_text default_writer) (link_fields a b) links))
    ∙ under_again read links_header (omega arith) (λ rows. no_mark 105 _ (omega arith)) (map (link_fields a b) links) (All-map (λ (r : Row). length r ≡ 5) (link_fields a b) links (λ k d lt. refl))

side_text : (side : List ℕ) (prices : List ℤ) (file : List Record) → flat_map (row_text default_writer) (side_rows side prices file) ≡ price_rows side prices file
side_text side prices file = flat_map-map (row_text default_writer) (price_fields side) (filter is_priced (zip prices file))

side_width : (side : List ℕ) (prices : List ℤ) (file : List Record) → All (λ (r : Row). length r ≡ 3) (side_rows side prices file)
side_width side prices file = All-map (λ (r : Row). length r ≡ 3) (price_fields side) (filter is_priced (zip prices file)) (λ k d lt. refl)

pub prices_again : RowsRead → (prices_a prices_b : List ℤ) (a b : List Record) → rows_under prices_header (records_in 44 (text_of_prices prices_a prices_b a b)) ≡ Ok (rows_of_prices prices_a prices_b a b)
prices_again read prices_a prices_b a b =
    let of_a = side_rows (codes "A") prices_a a in
    let of_b = side_rows (codes "B") prices_b b in
    let text : flat_map (row_text default_writer) (of_a ++ of_b) ≡ price_rows (codes "A") prices_a a ++ price_rows (codes "B") prices_b b =
    flat_map-append (row_text default_writer) of_a of_b
    ∙ ap (λ (t : List ℕ). t ++ flat_map (row_text default_writer) of_b) (side_text (codes "A") prices_a a)
    ∙ ap (λ (t : List ℕ). price_rows (codes "A") prices_a a ++ t) (side_text (codes "B") prices_b b) in
    ap (λ (t : List ℕ). rows_under prices_header (records_in 44 (row_text default_writer prices_header ++ t))) (sym text)
    ∙ under_again read prices_header (omega arith) (λ rows. no_mark 115 _ (omega arith)) (of_a ++ of_b)
    (All-append (λ (r : Row). length r ≡ 3) of_a of_b (side_width (codes "A") prices_a a) (side_width (codes "B") prices_b b))

-- The rows of a text, one more.

pub rows_more : {T : Type 0} (f : T → List ℕ) (header text new : List ℕ) (rows : List T) (i : ℕ) (none : T) → i < length rows
    → text ≡ header ++ flat_map f (take i rows) → new ≡ text ++ f (get_or rows i none) → new ≡ header ++ flat_map f (take (i + 1) rows)
rows_more f header text new rows i none lt told more =
    rw (more, told, take_more rows i none lt, flat_map-append f (take i rows) (get_or rows i none ∷ []), append-nil (f (get_or rows i none)))
    (append_assoc header (flat_map f (take i rows)) (f (get_or rows i none)))

-- rows of the items of two lists
pub zip_more : {K X : Type 0} (f : K × X → List ℕ) (header text new : List ℕ) (ks : List K) (xs : List X) (i : ℕ) (d : K) (e : X) → i < length ks → length ks ≡ length xs
    → text ≡ header ++ flat_map f (take i (zip ks xs)) → new ≡ text ++ f (get_or ks i d, get_or xs i e) → new ≡ header ++ flat_map f (take (i + 1) (zip ks xs))
zip_more f header text new ks xs i d e lt same told more =
    rows_more f header text new (zip ks xs) i (d, e) (rw (length-zip ks xs) (omega arith)) told (more ∙ ap (λ x. text ++ f x) (sym (get_or-zip ks xs i (d, e) lt (omega arith))))

pub zip_all : {K X : Type 0} (ks : List K) (xs : List X) (i : ℕ) → length ks ≤ i → take i (zip ks xs) ≡ zip ks xs
zip_all ks xs i past = take_all i (zip ks xs) (rw (length-zip ks xs) (omega arith))

-- the rows of those that pass a test
pub rows_of_passed : {X : Type 0} (p : X → Bool) (f : X → List ℕ) (xs : List X) → flat_map (λ x. flat_map f (filter p (x ∷ []))) xs ≡ flat_map f (filter p xs)
rows_of_passed p f [] = refl
rows_of_passed p f (x ∷ xs) =
    ap (λ rest. flat_map f (filter p (x ∷ [])) ++ rest) (rows_of_passed p f xs) ∙ sym (flat_map-append f (filter p (x ∷ [])) (filter p xs))
    ∙ ap (flat_map f) (sym (filter-append p (x ∷ []) xs))
