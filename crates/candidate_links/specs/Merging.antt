-- Machinery of `candidates_among`: the candidates of two lists of pairs, taken together by position. No public clause names it.
use Rattle.std.specs.Prelude.{◌==◌, ◌&&◌, ◌||◌, Bool, List, [], ◌∷◌, Option, filter_map, if◌then◌else◌, nat_lt, false, drop}
use Rattle.std.specs.List.{cons_option}
use Rattle.link_base.specs.declared.rule.Candidate.{Candidate}
use Rattle.link_base.specs.declared.rule.PairAt.{PairAt}
use Rattle.candidate_links.specs.declared.merging.Next.{Next}
use Rattle.candidate_links.specs.Candidates.{is_same_pair}
use Rattle.candidate_links.specs.declared.merging.Next.TheVariants as next

-- one pair stands before another by its positions
abbrev pub comes_first : PairAt → PairAt → Bool
comes_first x y = nat_lt x.a y.a || ((x.a == y.a) && nat_lt x.b y.b)

-- the next pair of two lists
abbrev pub next_of : List PairAt → List PairAt → Next
next_of [] [] = next.End
next_of [] (y ∷ ys) = next.Possible y
next_of (x ∷ xs) [] = next.Link x
next_of (x ∷ xs) (y ∷ ys) = if comes_first x y then next.Link x else next.Possible y

-- what a pair and the rest of its list give, put among what the pairs of another list give
abbrev pub merged_from : (PairAt → Option Candidate) → PairAt → Option Candidate → (List PairAt → List Candidate) → List PairAt → List Candidate
merged_from of_possible x own rest [] = cons_option own (rest [])
merged_from of_possible x own rest (y ∷ ys) =
    if comes_first x y then cons_option own (rest (y ∷ ys)) else cons_option (of_possible y) (merged_from of_possible x own rest ys)

-- what the pairs of two rising lists give, in the order of all of them
unfoldable pub merged : (PairAt → Option Candidate) → (PairAt → Option Candidate) → List PairAt → List PairAt → List Candidate
merged of_link of_possible [] ys = filter_map of_possible ys
merged of_link of_possible (x ∷ xs) ys = merged_from of_possible x (of_link x) (merged of_link of_possible xs) ys

-- Machinery of `choose_links`: rising candidates and links passed together, which leaves the candidates that are no links. No
-- public clause names it.

-- a candidate is the first of the links that are left
abbrev pub is_next : List Candidate → Candidate → Bool
is_next [] c = false
is_next (link ∷ links) c = is_same_pair link c

-- the candidates that are not the next link, which a link is passed with
unfoldable pub unlinked : List Candidate → List Candidate → List Candidate
unlinked [] links = []
unlinked (c ∷ cs) links = if is_next links c then unlinked cs (drop 1 links) else c ∷ unlinked cs links
