use Rattle.std.proofs.Common.{◌≡◌, ◌<◌, ◌∷◌, ◌++◌, ◌∙◌, ℕ, List, [], ap, get_or, length, map, arith, rules}
use Rattle.std.proofs.lemmas.List.{get_or-map, length-map}
use Rattle.block_passes.specs.CodedRows.{rows_of_code}
use Rattle.block_passes.specs.Numbering.{number_among}
use Rattle.block_passes.specs.NumberingLaws.{told_more}
use Rattle.block_passes.proofs.index.PassRows.by_code.Goals as goal

pub loop-at-preserved : goal.loop-at-preserved
loop-at-preserved g c =
    let grown : c.push.new.self.items ≡ c.loop-at.numbers.items ++ c.find.result ∷ [] = search (rules, c.in_ok-push.ensures.items) in
    let told = c.loop-at.invariant in
    told_more (λ j. number_among c.in_ok-index.index.numbering (g.K.CodedRows.code_of c.args.a.now j)) c.loop-at.at c.loop-at.numbers.items c.push.new.self.items c.find.result told.0 told.1 grown (rw (c.deref.ensures.value, c.in_ok-has_code.ensures) at c.find.ensures)

-- a row of a list is that of its number
row-is : (groups : List (List ℕ)) (numbers : List ℕ) (at n : ℕ) (rows : List ℕ) → at < length numbers → get_or numbers at 0 ≡ n → get_or groups n [] ≡ rows → get_or (map (λ n. get_or groups n []) numbers) at [] ≡ rows
row-is groups numbers at n rows lt is told = get_or-map _ numbers at 0 [] lt ∙ ap (λ n. get_or groups n []) is ∙ told

pub returns : goal.returns
returns g c =
    let all : c.loop-at.at ≡ g.K.CodedRows.count c.args.a.now = omega (arith, c.loop-at.auto.at-end) in
    let numbers = rw all at c.loop-at.invariant in
    let code_of = g.K.CodedRows.code_of c.args.a.now in
    let index = c.in_ok-index.index in
    let items = c.loop-at.numbers.items in
    rw c.of-2.ensures (
      length-map items _ ∙ numbers.0,
      λ at lt. row-is index.groups items at (number_among index.numbering (code_of at)) (rows_of_code (g.K.CodedRows.code_of c.args.b.now) (g.K.CodedRows.count c.args.b.now) (code_of at)) (rw numbers.0 lt) (numbers.1 at lt) (c.in_ok-index.ensures (code_of at)),
    )
