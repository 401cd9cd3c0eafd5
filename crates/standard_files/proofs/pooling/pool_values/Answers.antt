use Rattle.std.proofs.Common.{◌++◌, sym}
use Rattle.standard_files.specs.Sides.{both_texts, canons_of_row, file_texts, parts_of_row, texts_of_row}
use Rattle.standard_files.proofs.TakingLemmas.{extends-self, held-left, held-right, held-taken, holds-parts}
use Rattle.standard_files.proofs.SideLemmas.{file-sides}
use Rattle.standard_files.proofs.pooling.pool_values.Goals as goal

pub returns-clause-pooled : goal.returns-clause-pooled
returns-clause-pooled c =
    let texts = c.take_values.new.pool.texts in
    let kinds = c.args.kinds.now in
    let passes = c.args.passes.now in
    let a = c.args.a.now in
    let b = c.args.b.now in
    let taken = c.in_ok-taken.ensures in
    let later = extends-self texts c.are_distinct.ensures.distinct in
    let first = both_texts texts_of_row a b in
    let second = both_texts (canons_of_row kinds) a b in
    let third = both_texts (parts_of_row passes) a b in
    let canons = held-right first second texts (held-left (first ++ second) third texts (held-taken taken)) in
    let parts = held-right (first ++ second) third texts (held-taken taken) in
    record {
      a = record {
        sides = file-sides texts kinds a c.in_ok-taken.taken.a.rows c.requires.rows_a (taken.holds.0.compared.sides texts later) (held-left (file_texts (canons_of_row kinds) a) (file_texts (canons_of_row kinds) b) texts canons);
        held = holds-parts texts passes a (held-left (file_texts (parts_of_row passes) a) (file_texts (parts_of_row passes) b) texts parts);
        keys = sym (taken.holds.0.keys texts later);
      };
      b = record {
        sides = file-sides texts kinds b c.in_ok-taken.taken.b.rows c.requires.rows_b (taken.holds.1.compared.sides texts later) (held-right (file_texts (canons_of_row kinds) a) (file_texts (canons_of_row kinds) b) texts canons);
        held = holds-parts texts passes b (held-right (file_texts (parts_of_row passes) a) (file_texts (parts_of_row passes) b) texts parts);
        keys = sym (taken.holds.1.keys texts later);
      };
    }
