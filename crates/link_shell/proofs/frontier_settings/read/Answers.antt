use Rattle.std.proofs.Common.{◌≡◌, ◌+◌, ◌-◌, ◌∙◌, ◌∷◌, [], Bool, List, ap, arith, drop, false, length, map, nat_le, refl, suc, sym, take, true, ◌&&◌, string_bytes, le-leb}
use Rattle.std.proofs.lemmas.List.{length-map, take_all}
use Rattle.csv_rows.specs.Numbers.{number_in}
use Rattle.link_shell.specs.SettingsCommands.{are_levels_from}
use Rattle.link_shell.specs.Words.{is_settings_word, word}
use Rattle.link_shell.specs.declared.words.TheConstants.{MOST_LISTED}
use Rattle.link_shell.proofs.Laws.{rising_are_levels}
use Rattle.link_shell.proofs.frontier_settings.read.Goals.{else-is_settings-via-then-is_settings+else-are_levels, else-is_settings-via-else-is_settings}
use Rattle.link_shell.proofs.frontier_settings.read.Goals as goal

-- the words from the third on, of which a part is taken
after_second : {X Y : Type 0} (f : X → Y) (xs : List X) → map f (take (length xs - 2) (drop 2 xs)) ≡ drop 2 (map f xs)
after_second f [] = refl
after_second f (x ∷ []) = refl
after_second f (x ∷ y ∷ xs) =
    let count : suc (suc (length xs)) - 2 ≡ length xs = omega arith in
    ap (λ n. map f (take n xs)) count ∙ ap (map f) (take_all (length xs) xs (omega arith))

-- four tests hold
all_four : (a b c d : Bool) → a ≡ true → b ≡ true → c ≡ true → d ≡ true → true ≡ (a && b && c && d)
all_four a b c d ha hb hc hd = λ i. sym ha i && sym hb i && sym hc i && sym hd i

pub returns-then-are_levels-clause-some : goal.returns-then-are_levels-clause-some
returns-then-are_levels-clause-some c =
    let words = c.args.words.now in
    let all = map string_bytes words in
    let same : length all ≡ length words = length-map words string_bytes in
    let many : nat_le 3 (length all) ≡ true = le-leb 3 (length all) (omega (arith, same, c.if-words-lt3.false)) in
    let few : nat_le (length all) (MOST_LISTED + 2) ≡ true = le-leb (length all) (MOST_LISTED + 2) (omega (arith, same, c.if-words.false)) in
    let name : is_settings_word (word all 1) ≡ true = ap is_settings_word (sym c.word_at-name.ensures) ∙ sym c.is_settings.ensures ∙ c.if-is_settings.true in
    let rising : are_levels_from 0 (drop 2 all) ≡ true = ap (are_levels_from 0) (sym (after_second string_bytes words)) ∙ sym c.are_levels.ensures ∙ c.if-are_levels.true in
    all_four _ _ _ _ many few name rising

pub returns-then-are_levels-clause-asked : goal.returns-then-are_levels-clause-asked
returns-then-are_levels-clause-asked c =
    let rest = after_second string_bytes c.args.words.now in
    λ i. record { name = c.word_at-name.ensures i; levels = map number_in (rest i) }

pub returns-then-are_levels-clause-levels : goal.returns-then-are_levels-clause-levels
returns-then-are_levels-clause-levels c =
    let words = c.args.words.now in
    rising_are_levels 0 (map string_bytes (take (length words - 2) (drop 2 words))) (sym c.are_levels.ensures ∙ c.if-are_levels.true)

-- a test that fails after another
later : (a b : Bool) → b ≡ false → (a && b) ≡ false
later true b e = e
later false b e = refl

pub returns-else-is_settings-clause-some : goal.returns-else-is_settings-clause-some
returns-else-is_settings-clause-some c =
    let words = c.args.words.now in
    let all = map string_bytes words in
    let front : Bool = nat_le 3 (length all) && nat_le (length all) (MOST_LISTED + 2) in
    let rising : Bool = are_levels_from 0 (drop 2 all) in
    let fails : (front && is_settings_word (word all 1) && rising) ≡ false = elim c.else-is_settings.branch [
      | else-is_settings-via-then-is_settings+else-are_levels w ↦
          later (front && is_settings_word (word all 1)) rising (ap (are_levels_from 0) (sym (after_second string_bytes words)) ∙ sym w.are_levels.ensures ∙ w.if-are_levels.false)
      | else-is_settings-via-else-is_settings w ↦
          ap (λ t. t && rising) (later front (is_settings_word (word all 1)) (ap is_settings_word (sym c.word_at-name.ensures) ∙ sym c.is_settings.ensures ∙ w.if-is_settings.false))
    ] in
    sym fails
