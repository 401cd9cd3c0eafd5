-- The initials of a text: the first character of each of its words, joined. `initials_text` carries them (clause `text`).
use Rattle.std.specs.Prelude.{ℕ, List, [], ◌∷◌, ◌++◌, ◌==◌, if◌then◌else◌, take, chars, encode_utf8_all, drop, flat_map}

-- The words of a text: the longest runs of its characters without a space. Initials are defined by them (`initials_text`), and
-- standard names and places.

-- a run of characters as a list of words: none where it is empty
abbrev pub run_words : List ℕ → List (List ℕ)
run_words [] = []
run_words (c ∷ cs) = (c ∷ cs) ∷ []

-- the words of a run and the characters that follow it
abbrev pub words_after : List ℕ → List ℕ → List (List ℕ)
words_after run [] = run_words run
words_after run (c ∷ cs) = if c == 32 then run_words run ++ words_after [] cs else words_after (run ++ c ∷ []) cs

-- the words of these characters: the longest runs without a space
abbrev pub words : List ℕ → List (List ℕ)
words cs = words_after [] cs

-- the first character of each word, joined
abbrev pub initials_of : List ℕ → List ℕ
initials_of text = encode_utf8_all (flat_map (take 1) (words (chars text)))

-- The first characters of a text: what `first_chars` gives.

-- the first characters of a text, or all where there are fewer
abbrev pub first_characters : ℕ → List ℕ → List ℕ
first_characters n text = encode_utf8_all (take n (chars text))

-- what follows them
abbrev pub later_characters : ℕ → List ℕ → List ℕ
later_characters n text = encode_utf8_all (drop n (chars text))
