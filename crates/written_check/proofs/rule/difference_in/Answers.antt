use Rattle.std.proofs.Common.{◌≡◌, ◌+◌, ◌<◌, ◌∙◌, ◌∷◌, [], ℕ, List, Bool, true, ap, arith, drop, get_or, length, map, refl, rules, sym}
use Rattle.std.proofs.lemmas.List.{drop_all, drop_more}
use Rattle.link_base.specs.declared.rule.RuleCell.{RuleCell}
use Rattle.link_report.specs.LinksText.{cell_fields}
use Rattle.patterns.specs.Patterns.{rare_of}
use Rattle.written_check.specs.LinkRows.{TakesCellRow, first_difference}
use Rattle.written_check.proofs.rule.difference_in.Goals as goal

-- one row less, which is the one that is wanted
one_row_less : (rows new : List (List (List ℕ))) (w : List (List ℕ)) (wanted : List (List (List ℕ))) (number : ℕ) → TakesCellRow w rows new true
    → (first_difference number rows (w ∷ wanted) ≡ first_difference (number + 1) new wanted) × (length rows ≡ length new + 1)
one_row_less [] new w wanted number h = absurd (cc)
one_row_less (row ∷ rows) new w wanted number h = (rw (sym h.0, h.1) refl, rw h.1 (omega arith))

-- the row of one cell less
cell_taken : (rares : List Bool) (cells listed : List RuleCell) (i : ℕ) (d : RuleCell) (number : ℕ) (rows new : List (List (List ℕ))) → i < length cells → listed ≡ cells
    → TakesCellRow (cell_fields rares (get_or listed i d)) rows new true
    → (first_difference number rows (map (cell_fields rares) (drop i cells)) ≡ first_difference (number + 1) new (map (cell_fields rares) (drop (i + 1) cells))) × (length rows ≡ length new + 1)
cell_taken rares cells listed i d number rows new lt same took =
    let wanted = map (cell_fields rares) (drop (i + 1) cells) in
    let less = one_row_less rows new (cell_fields rares (get_or listed i d)) wanted number took in (
      ap (λ cs. first_difference number rows (map (cell_fields rares) cs)) (drop_more cells i d lt)
          ∙ ap (λ xs. first_difference number rows (cell_fields rares (get_or xs i d) ∷ wanted)) (sym same) ∙ less.0,
      less.1,
    )

pub loop-cell-preserved : goal.loop-cell-preserved
loop-cell-preserved c =
    let cells = c.args.table.now.cells.items in
    let within : c.loop-cell.cell-index < length cells = omega (arith, c.loop-cell-test.true, ap length c.cells-cell-items.ensures.all) in
    let less = cell_taken (rare_of c.args.shape.now) cells c.cells-cell-items.result.now c.loop-cell.cell-index _ c.loop-cell.number c.loop-cell.rows c.takes_row_of.new.rows within c.cells-cell-items.ensures.all (rw c.if-not-branch.false at c.in_ok-takes_row_of.ensures) in
    record {
      short = omega (arith, less.1, c.loop-cell.invariant.short);
      told = c.loop-cell.invariant.told ∙ less.0;
    }

pub returns : goal.returns
returns c =
    let cells = c.args.table.now.cells.items in
    let wanted = λ (cs : List RuleCell). map (cell_fields (rare_of c.args.shape.now)) cs in
    let ended : c.loop-cell.rows ≡ [] = search rules in
    let none : drop c.loop-cell.cell-index cells ≡ [] = drop_all c.loop-cell.cell-index cells (omega (arith, c.loop-cell-test.false, ap length c.cells-cell-items.ensures.all)) in
    sym (c.loop-cell.invariant.told ∙ (λ i. first_difference c.loop-cell.number (ended i) (wanted (none i))))
