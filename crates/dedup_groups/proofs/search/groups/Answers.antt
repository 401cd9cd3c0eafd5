use Rattle.std.proofs.Common.{arith}
use Rattle.dedup_groups.specs.Forest.{lists_of}
use Rattle.dedup_groups.proofs.ForestLemmas.{are_neighbours, leaders_of_forest, rows_kept}
use Rattle.dedup_groups.proofs.SearchLemmas.{forest_found}
use Rattle.dedup_groups.proofs.search.groups.Goals as goal

pub trees_of-requires : goal.trees_of-requires
trees_of-requires c = record {
  neighbours = are_neighbours c.args.rows c.args.links.now c.in_ok-near.near c.requires.within c.in_ok-near.ensures;
  rows = c.in_ok-near.ensures.many;
  few = c.requires.few_rows;
}

pub invariant_of-result : goal.invariant_of-result
invariant_of-result c =
    let forest = forest_found c.args.rows c.args.links.now c.in_ok-near.near (lists_of c.in_ok-trees.trees) c.requires.within c.in_ok-near.ensures c.in_ok-trees.ensures in
    rows_kept c.args.rows c.args.links.now (lists_of c.in_ok-trees.trees) c.requires.within forest (omega arith)

pub returns : goal.returns
returns c =
    let forest = forest_found c.args.rows c.args.links.now c.in_ok-near.near (lists_of c.in_ok-trees.trees) c.requires.within c.in_ok-near.ensures c.in_ok-trees.ensures in
    record {
      forest = forest;
      leaders = leaders_of_forest c.args.rows c.args.links.now (lists_of c.in_ok-trees.trees) c.requires.within forest;
    }
