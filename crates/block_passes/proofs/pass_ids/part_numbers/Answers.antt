use Rattle.std.proofs.Common.{◌≡◌, ◌∷◌, ◌++◌, [], get_or, rules}
use Rattle.block_passes.specs.PassIds.{first_number}
use Rattle.block_passes.specs.NumberingLaws.{told_more}
use Rattle.block_passes.proofs.pass_ids.part_numbers.Goals as goal

pub loop-at-preserved : goal.loop-at-preserved
loop-at-preserved c =
    let inv = c.loop-at.invariant in
    let told = rw c.row.ensures at c.first_number.ensures in
    let grown : c.push.new.self.items ≡ c.loop-at.numbers.items ++ c.first_number.result ∷ [] = search (rules, c.in_ok-push.ensures.items) in
    told_more (λ j. first_number (get_or c.args.keys.now j [])) c.loop-at.at c.loop-at.numbers.items c.push.new.self.items c.first_number.result inv.0 inv.1 grown told
