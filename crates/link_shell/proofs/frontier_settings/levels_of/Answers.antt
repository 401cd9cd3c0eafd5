use Rattle.std.proofs.Common.{◌≡◌, ◌≤◌, ◌++◌, ◌∷◌, [], List, ℕ, arith, map, rules, subst, sym, All, string_bytes}
use Rattle.link_limits.specs.declared.TheConstants.{PER_MILLION}
use Rattle.csv_rows.specs.Numbers.{number_in}
use Rattle.link_shell.proofs.Laws.{levels_done, levels_left, levels_more, levels_within}
use Rattle.link_shell.proofs.frontier_settings.levels_of.Goals as goal

pub loop-word-preserved : goal.loop-word-preserved
loop-word-preserved c =
    let words = c.args.words.now in
    let at = c.loop-word.word-index in
    let w = c.word-item.result in
    let level = c.in-Some.level in
    let value : level ≡ number_in (string_bytes w) = search rules in
    let grown : c.push.new.self.items ≡ c.loop-word.levels.items ++ level ∷ [] = search (rules, c.in_ok-push-in-Some.ensures.items) in
    record {
      levels = levels_more string_bytes words at w (omega arith) c.loop-word.levels.items c.push.new.self.items level c.word-item.is value grown c.loop-word.invariant.levels;
      left = levels_left string_bytes words at w (omega arith) c.loop-word.invariant.left;
    }

pub returns-clause-levels : goal.returns-clause-levels
returns-clause-levels c = levels_done string_bytes c.args.words.now c.loop-word.word-index c.loop-word.levels.items c.loop-word-test.false c.loop-word.invariant.levels

pub returns-clause-most : goal.returns-clause-most
returns-clause-most c =
    let P : List ℕ → Type 0 = λ levels. All (λ mu. mu ≤ PER_MILLION) levels in
    let words = c.args.words.now in
    let all = levels_done string_bytes words c.loop-word.word-index c.loop-word.levels.items c.loop-word-test.false c.loop-word.invariant.levels in
    subst P (sym all) (levels_within (map string_bytes words) c.requires)
