-- The words and marks that standard values go by: what `Tables::standard` gives, and what `WordPairs` keeps (`pairs`,
-- clause `rising`).
use Rattle.std.specs.Prelude.{◌≡◌, ℕ, List, [], ◌∷◌, Bool, ◌&&◌, ◌||◌, nat_le, length, AllPairs, All, IsTrue, codes}
use Rattle.std.specs.List.{list_all}
use Rattle.std.specs.Ordering.{nat_cmp}
use Rattle.std.specs.declared.cmp.Ordering.TheVariants.{Less}
use Rattle.std.specs.Cmp.Lexicographic.{slice_cmp}
use Rattle.link_limits.specs.declared.TheConstants.{MOST_WORD_BYTES}
use Rattle.link_base.specs.declared.tables.WordPair.{WordPair}

-- A to Z and 0 to 9
abbrev pub is_word_byte : ℕ → Bool
is_word_byte byte = (nat_le 65 byte && nat_le byte 90) || (nat_le 48 byte && nat_le byte 57)

-- a word: one of them or more, and not too many
abbrev pub is_word : List ℕ → Bool
is_word text = nat_le 1 (length text) && nat_le (length text) MOST_WORD_BYTES && list_all is_word_byte text

-- the first of two texts stands before the second by its bytes
abbrev pub StandsBefore : List ℕ → List ℕ → Type 0
StandsBefore x y = slice_cmp nat_cmp x y ≡ Less

-- pairs of words that rise strictly by the word that is replaced, so that each is replaced by one word
pub record AreWordPairs (pairs : List WordPair) : Type 0 where
  pub from_words : All (λ (p : WordPair). IsTrue (is_word p.from)) pairs
  pub to_words : All (λ (p : WordPair). IsTrue (is_word p.to)) pairs
  pub rising : AllPairs (λ (p q : WordPair). StandsBefore p.from q.from) pairs

-- what stands for a missing value where a settings file names no marks
abbrev pub missing_marks : List (List ℕ)
missing_marks = [] ∷ codes "-" ∷ codes "?" ∷ codes "N/A" ∷ []

-- the titles and suffixes of names where a settings file names none
abbrev pub name_titles : List (List ℕ)
name_titles =
    codes "MR" ∷ codes "MRS" ∷ codes "MS" ∷ codes "MISS" ∷ codes "DR" ∷ codes "PROF" ∷ codes "REV" ∷ codes "SIR" ∷ []

abbrev pub name_suffixes : List (List ℕ)
name_suffixes = codes "JR" ∷ codes "SR" ∷ codes "II" ∷ codes "III" ∷ codes "IV" ∷ []
